use Rattle.std.proofs.Common.{◌+◌, ap, drop, sym, ◌∙◌}
use Rattle.lpc_slots.proofs.Walk.{drop_row}
use Rattle.lpc_procs.specs.Kept.{doomed_in, lesser_doomed, rows_in}
use Rattle.lpc_procs.proofs.Events.{doomed_first, doomed_last, next_doomed}
use Rattle.lpc_procs.proofs.exceptions.least_doomed.Goals as goal

pub loop-place-preserved : goal.loop-place-preserved
loop-place-preserved c =
    let rows = rows_in c.args.rows.now in
    let rest = drop (c.loop-place.place + 1) rows in
    let p = c.row_at.result.now in
    rw (c.lesser-least.ensures, c.doomed_in.ensures)
    (doomed_last c.loop-place.least (doomed_in p) (next_doomed rest)
    ∙ ap (lesser_doomed c.loop-place.least) (doomed_first p rest ∙ ap next_doomed (sym (drop_row rows c.loop-place.place p c.row_at.ensures)))
    ∙ c.loop-place.invariant)
