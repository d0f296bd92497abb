use Rattle.std.proofs.Common.{◌+◌, sym, ap, ◌∙◌, arith, cond}
use Rattle.lpc_slots.proofs.Walk.{count_fits, count_on}
use Rattle.lpc_procs.specs.Kept.{rows_in}
use Rattle.lpc_procs.proofs.Keyed.{rows-length}
use Rattle.lpc_procs.proofs.searches.count_rows.Goals as goal
use Rattle.lpc_procs.proofs.searches.count_rows.Goals.{then-passes, else-passes}

pub overflow_add-counted : goal.overflow_add-counted
overflow_add-counted g c =
    let fits = count_fits (g.Q.Test.test c.args.asked.now) (rows_in c.args.rows.now) c.loop-place.place c.row_at.result.now c.loop-place.counted c.row_at.ensures c.loop-place.invariant (sym c.passes.ensures ∙ c.if-passes.true) in
    omega (arith, fits, rows-length c.args.rows.now, c.count-place-end.ensures.number)

pub loop-place-preserved : goal.loop-place-preserved
loop-place-preserved g c =
    let further = count_on (g.Q.Test.test c.args.asked.now) (rows_in c.args.rows.now) c.loop-place.place c.row_at.result.now c.loop-place.counted c.row_at.ensures c.loop-place.invariant in
    elim c.if-passes.branch [
      | then-passes w ↦ omega (arith, further, w.counted-is, ap (λ b. cond b (c.loop-place.counted + 1) c.loop-place.counted) (sym c.passes.ensures ∙ w.if-passes.true))
      | else-passes w ↦ omega (arith, further, w.counted-is, ap (λ b. cond b (c.loop-place.counted + 1) c.loop-place.counted) (sym c.passes.ensures ∙ w.if-passes.false))
    ]
