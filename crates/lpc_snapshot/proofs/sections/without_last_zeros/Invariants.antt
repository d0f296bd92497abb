use Rattle.std.proofs.Common.{◌≡◌, ◌≤◌, length, take}
use Rattle.lpc_states.specs.Rows.{without_last_zeros}
use Rattle.lpc_snapshot.proofs.sections.without_last_zeros.Given as goal

-- the bytes from here on are zeros
abbrev pub invariant-loop-end : goal.invariant-loop-end
invariant-loop-end l = record {
  within : l.end ≤ length l.bytes;
  same : without_last_zeros (take l.end l.bytes) ≡ without_last_zeros l.bytes;
}

abbrev pub decreases-loop-end : goal.decreases-loop-end
decreases-loop-end l = l.end
