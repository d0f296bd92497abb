use Rattle.std.proofs.Common.{Some, true≢false, sym, ◌∙◌}
use Rattle.lpc_numbers.proofs.Tallies.{from_ok, updated}
use Rattle.lpc_numbers.proofs.tally.Tally.put.Goals.{then-fits, else-fits}
use Rattle.lpc_numbers.proofs.tally.Tally.put.Goals as goal

pub returns-clause-counts : goal.returns-clause-counts
returns-clause-counts c = λ whole o. elim c.if-fits.branch [
  | then-fits w ↦
      let updates = from_ok w.insert.result (sym w.is_ok-self-inside.ensures.value ∙ (sym w.self-is ∙ whole)) w.insert.ensures.updates in
      rw (w.self-inside-is, ← c.self.view_is) (updated c.self.inside.counts.entries w.insert.new.self.entries c.args.number (Some c.args.count) updates.0 o)
  | else-fits w ↦ absurd (true≢false (sym whole ∙ (w.self-is ∙ w.if-fits.false)))
]
