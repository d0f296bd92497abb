use Rattle.std.proofs.Common.{◌+◌, ap, drop, arith}
use Rattle.lpc_base.proofs.RowWords.{count-append}
use Rattle.lpc_base.specs.Rows.{count}
use Rattle.lpc_slots.proofs.Walk.{drop_row}
use Rattle.lpc_procs.specs.Kept.{rows_in}
use Rattle.lpc_procs.specs.Procs.{is_of_birth, live_registrations, registered_live}
use Rattle.lpc_procs.proofs.registrations.of_birth.Goals as goal

pub loop-place-preserved : goal.loop-place-preserved
loop-place-preserved c =
    let rows = rows_in c.args.threads.now in
    let rest = drop (c.loop-place.place + 1) rows in
    let t = c.row_at.result.now in
    let shown = ap (λ ts. count (is_of_birth c.args.birth) (live_registrations ts)) (drop_row rows c.loop-place.place t c.row_at.ensures) in
    record {
      sum = omega (arith, c.loop-place.invariant.sum, shown, count-append (is_of_birth c.args.birth) (registered_live t) (live_registrations rest), c.count_live-named.ensures.count);
      most = omega (arith, c.loop-place.invariant.most, c.count_live-named.ensures.most);
    }
