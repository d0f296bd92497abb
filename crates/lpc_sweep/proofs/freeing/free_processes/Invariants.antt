use Rattle.std.proofs.Common.{◌+◌, ◌≤◌, length}
use Rattle.lpc_sweep.specs.Sweeping.{HasHeldThreads, SweepsAhead}
use Rattle.lpc_sweep.proofs.freeing.free_processes.Given as goal

-- the sweep still leaves the same, threads are held, and there is a row less for each that went
abbrev pub invariant-loop-freed : goal.invariant-loop-freed
invariant-loop-freed l = record {
  ahead : SweepsAhead l.fn.world l.world;
  threads : HasHeldThreads l.world.rows;
  fewer : length l.world.rows.processes + l.freed ≤ length l.fn.world.rows.processes;
}
