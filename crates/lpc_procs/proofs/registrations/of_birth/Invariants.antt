use Rattle.std.proofs.Common.{◌≡◌, ◌+◌, ◌*◌, ◌≤◌, drop}
use Rattle.lpc_base.specs.Rows.{count}
use Rattle.lpc_base.specs.declared.limits.TheConstants.{REGISTRATION_LIMIT}
use Rattle.lpc_procs.specs.Kept.{rows_in}
use Rattle.lpc_procs.specs.Procs.{is_of_birth, live_registrations}
use Rattle.lpc_procs.proofs.registrations.of_birth.Given as goal

abbrev pub invariant-loop-place : goal.invariant-loop-place
invariant-loop-place l = record {
  sum : l.named + count (is_of_birth l.birth) (live_registrations (drop l.place (rows_in l.threads))) ≡ count (is_of_birth l.birth) (live_registrations (rows_in l.threads));
  most : l.named ≤ REGISTRATION_LIMIT * l.place;
}
