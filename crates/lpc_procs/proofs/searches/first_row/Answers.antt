use Rattle.std.proofs.Common.{sym, ◌∙◌}
use Rattle.lpc_slots.proofs.Walk.{first_here, first_passed}
use Rattle.lpc_procs.specs.Kept.{rows_in}
use Rattle.lpc_procs.proofs.searches.first_row.Goals as goal

pub returns-then-passes : goal.returns-then-passes
returns-then-passes g c = sym (first_here (g.Q.Test.test c.args.asked.now) (rows_in c.args.rows.now) c.loop-place.place c.row_at-row.result.now c.row_at-row.ensures (sym c.passes.ensures ∙ c.if-passes.true)) ∙ c.loop-place.invariant

pub loop-place-preserved : goal.loop-place-preserved
loop-place-preserved g c = sym (first_passed (g.Q.Test.test c.args.asked.now) (rows_in c.args.rows.now) c.loop-place.place c.row_at-row.result.now c.row_at-row.ensures (sym c.passes.ensures ∙ c.if-passes.false)) ∙ c.loop-place.invariant
