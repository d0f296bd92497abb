use Rattle.std.proofs.Common.{◌+◌, ◌≤◌, length}
use Rattle.lpc_sweep.specs.Sweeping.{SweepsAhead}
use Rattle.lpc_sweep.proofs.freeing.free_tokens.Given as goal

-- the sweep still leaves the same, and there is a row less for each that went
abbrev pub invariant-loop-freed : goal.invariant-loop-freed
invariant-loop-freed l = record {
  ahead : SweepsAhead l.fn.world l.world;
  fewer : length l.world.rows.tokens + l.freed ≤ length l.fn.world.rows.tokens;
}
