use Rattle.std.proofs.Common.{◌≡◌, ◌+◌, ◌*◌, ◌≤◌, drop}
use Rattle.lpc_base.specs.Rows.{count}
use Rattle.lpc_procs.specs.Kept.{process_rows, rows_in}
use Rattle.lpc_procs.specs.Procs.{event_ports, is_of_birth}
use Rattle.lpc_procs.proofs.exceptions.event_ports_to.Given as goal

abbrev pub invariant-loop-place : goal.invariant-loop-place
invariant-loop-place l = record {
  sum : l.named + count (is_of_birth l.birth) (event_ports (process_rows (drop l.place (rows_in l.rows)))) ≡ count (is_of_birth l.birth) (event_ports (process_rows (rows_in l.rows)));
  most : l.named ≤ 2 * l.place;
}
