use Rattle.std.proofs.Common.{◌+◌, ap, drop, arith}
use Rattle.lpc_base.proofs.RowWords.{count-append}
use Rattle.lpc_base.specs.Rows.{count}
use Rattle.lpc_slots.proofs.Walk.{drop_row}
use Rattle.lpc_procs.specs.Kept.{process_rows, rows_in}
use Rattle.lpc_procs.specs.Procs.{event_ports, event_ports_of, is_of_birth}
use Rattle.lpc_procs.proofs.exceptions.event_ports_to.Goals as goal

pub loop-place-preserved : goal.loop-place-preserved
loop-place-preserved c =
    let rows = rows_in c.args.rows.now in
    let rest = drop (c.loop-place.place + 1) rows in
    let p = c.row_at.result.now in
    let shown = ap (λ qs. count (is_of_birth c.args.birth) (event_ports (process_rows qs))) (drop_row rows c.loop-place.place p c.row_at.ensures) in
    record {
      sum = omega (arith, c.loop-place.invariant.sum, shown, count-append (is_of_birth c.args.birth) (event_ports_of p.row) (event_ports (process_rows rest)), c.count_of-named.ensures.count);
      most = omega (arith, c.loop-place.invariant.most, c.count_of-named.ensures.most);
    }
