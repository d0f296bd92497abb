use Rattle.std.proofs.Common.{sym, ◌∙◌}
use Rattle.lpc_imperson.proofs.Allowed.{by_port, none_lives}
use Rattle.lpc_rows.specs.Clauses.{birth_at, port_at}
use Rattle.lpc_rows.specs.Ready.{waiter}
use Rattle.lpc_imperson.proofs.clients.allowed_by.Goals as goal

pub returns-in-None : goal.returns-in-None
returns-in-None c = none_lives c.args.world.now.rows (waiter c.args.world.now.rows c.args.thread) c.args.thread c.waiting-wait.ensures.wait.thread (sym c.in-None.is ∙ c.live_thread.ensures.row)

pub returns : goal.returns
returns c =
    c.allowed.ensures
    ∙ by_port c.args.world.now.rows (waiter c.args.world.now.rows c.args.thread) c.args.thread c.waiting-wait.ensures.wait.thread c.in_default.field-0 (sym c.in_default.is ∙ c.live_thread.ensures.row) (birth_at c.args.world.now c.waiting-wait.result.port) c.waiting-wait.ensures.wait.port (port_at c.args.world.now c.waiting-wait.result.port) c.port-port.ensures.found c.port-port.result.now.security c.port-port.ensures.security
