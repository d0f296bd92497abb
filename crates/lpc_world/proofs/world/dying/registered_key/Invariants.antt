use Rattle.std.proofs.Common.{◌≡◌, drop}
use Rattle.lpc_base.specs.Rows.{first}
use Rattle.lpc_procs.specs.Procs.{is_of_birth}
use Rattle.lpc_world.proofs.world.dying.registered_key.Given as goal

abbrev pub invariant-loop-r : goal.invariant-loop-r
invariant-loop-r l = first (is_of_birth l.birth) (drop l.r-index l.registered) ≡ first (is_of_birth l.birth) l.registered
