use Rattle.std.proofs.Common.{◌≡◌, drop}
use Rattle.lpc_base.specs.Rows.{has}
use Rattle.lpc_procs.specs.Procs.{is_of_birth}
use Rattle.lpc_procs.proofs.registrations.has_birth.Given as goal

abbrev pub invariant-loop-r : goal.invariant-loop-r
invariant-loop-r l = has (is_of_birth l.birth) (drop l.r-index l.registered) ≡ has (is_of_birth l.birth) l.registered
