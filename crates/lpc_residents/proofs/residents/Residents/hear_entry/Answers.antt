use Rattle.lpc_residents.proofs.Heard.{heard-answer, heard-wake}
use Rattle.lpc_residents.proofs.residents.Residents.hear_entry.Goals as goal

pub returns-then-in_turn-clause-heard : goal.returns-then-in_turn-clause-heard
returns-then-in_turn-clause-heard c = λ groups.
    rw (heard-answer c.args.self.now c.args.read.now groups _ _ _ _ c.args.entry.now c.args.in_turn c.if-in_turn.true c.in-Answer.is) at (c.resolve.ensures.heard groups)

pub returns-in-Wakes-clause-heard : goal.returns-in-Wakes-clause-heard
returns-in-Wakes-clause-heard c = λ groups.
    rw (heard-wake c.args.self.now c.args.read.now groups _ _ _ _ c.args.entry.now c.args.in_turn c.in-Wakes.is) at (c.resolve-in-Wakes.ensures.heard groups)
