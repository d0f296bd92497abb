use Rattle.std.proofs.Common.{Some, ap, sym, ◌∙◌}
use Rattle.lpc_death.proofs.Dead.{its-offered, not-offered}
use Rattle.lpc_death.proofs.dying.offered_port.Goals as goal

pub returns-then-not-is_offered-clause-port : goal.returns-then-not-is_offered-clause-port
returns-then-not-is_offered-clause-port c =
    not-offered c.args.world.now.rows c.args.tid (sym c.is_waiting.ensures.waits ∙ c.if-not-is_waiting.false) (sym c.is_offered.ensures ∙ c.if-not-is_offered.true)

pub returns-clause-port : goal.returns-clause-port
returns-clause-port c =
    its-offered c.args.world.now.rows c.args.tid (sym c.is_waiting.ensures.waits ∙ c.if-not-is_waiting.false) (sym c.is_offered.ensures ∙ c.if-not-is_offered.false) ∙ ap Some c.waiting.ensures.wait.port
