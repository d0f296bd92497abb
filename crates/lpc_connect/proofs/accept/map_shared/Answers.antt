use Rattle.lpc_rows.specs.Clauses.{birth_at}
use Rattle.lpc_connect.proofs.Mapped.{lies_second, lies_third}
use Rattle.lpc_connect.proofs.accept.map_shared.Goals as goal

pub map_view-requires-2-clause-lies : goal.map_view-requires-2-clause-lies
map_view-requires-2-clause-lies c =
    lies_second c.args.world.now c.map_view.new.world c.args.by.now.process (birth_at c.args.world.now c.args.server) c.args.views.own c.args.views.theirs
    c.requires.spaces c.requires.table c.map_view.ensures.births c.map_view.ensures.rows c.requires.lie.theirs

pub map_view-requires-3-clause-lies : goal.map_view-requires-3-clause-lies
map_view-requires-3-clause-lies c =
    lies_third c.args.world.now c.map_view.new.world c.map_view-2.new.world c.args.by.now.process c.args.thread c.waiting-wait.result.process
    (birth_at c.args.world.now c.args.server) (birth_at c.map_view.new.world c.args.server) c.args.views
    c.requires.spaces c.requires.table c.waiting-wait.ensures.wait.process c.map_view.ensures.births c.map_view-2.ensures.births c.map_view.ensures.rows c.map_view-2.ensures.rows c.requires.lie
