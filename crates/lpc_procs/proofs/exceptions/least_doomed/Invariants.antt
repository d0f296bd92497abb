use Rattle.std.proofs.Common.{◌≡◌, drop}
use Rattle.lpc_procs.specs.Kept.{lesser_doomed, rows_in}
use Rattle.lpc_procs.proofs.Events.{next_doomed}
use Rattle.lpc_procs.proofs.exceptions.least_doomed.Given as goal

abbrev pub invariant-loop-place : goal.invariant-loop-place
invariant-loop-place l = lesser_doomed l.least (next_doomed (drop l.place (rows_in l.rows))) ≡ next_doomed (rows_in l.rows)
