use Rattle.std.proofs.Common.{rules, ◌≡◌, true, ap, sym, ◌∙◌}
use Rattle.lpc_base.specs.Rows.{has}
use Rattle.lpc_model.specs.Found.{same_birth, waits_as}
use Rattle.lpc_rows.specs.Names.{name_of}
use Rattle.lpc_rows.proofs.ReceivesAt.{at_queue, none_at}
use Rattle.lpc_world.proofs.world.World.waits_on.Goals as goal

pub returns-then-not-is_waiting : goal.returns-then-not-is_waiting
returns-then-not-is_waiting c =
    sym (none_at c.args.tid (name_of c.args.self.now.births.ports c.args.queue) c.args.self.now.rows.waits (sym c.is_waiting.ensures.waits ∙ search (rules, c.if-not-is_waiting.true)))

pub returns : goal.returns
returns c =
    let b = name_of c.args.self.now.births.ports c.args.queue in
    let there : has (waits_as c.args.tid) c.args.self.now.rows.waits ≡ true = sym c.is_waiting.ensures.waits ∙ search (rules, c.if-not-is_waiting.false) in
    c.is_same.ensures ∙ sym (at_queue c.args.self.now.rows c.args.tid b c.is_waiting.ensures.single there ∙ ap (λ q. same_birth q b) c.waiting.ensures.wait.queue)
