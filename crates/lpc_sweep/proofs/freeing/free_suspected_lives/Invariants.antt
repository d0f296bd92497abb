use Rattle.lpc_sweep.specs.Sweeping.{SweepsAhead}
use Rattle.lpc_sweep.proofs.freeing.free_suspected_lives.Given as goal

-- the sweep still leaves the same
abbrev pub invariant-loop-looked : goal.invariant-loop-looked
invariant-loop-looked l = record { ahead : SweepsAhead l.fn.world l.world }
