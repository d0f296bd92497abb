use Rattle.std.proofs.Common.{◌+◌, ◌≤◌, length}
use Rattle.lpc_model.specs.Linked.{AreLivesHeld}
use Rattle.lpc_sweep.specs.Sweeping.{SweepsAhead}
use Rattle.lpc_sweep.proofs.freeing.free_ports.Given as goal

-- the sweep still leaves the same, and there is a port less for each that went
abbrev pub invariant-loop-freed : goal.invariant-loop-freed
invariant-loop-freed l = record {
  ahead : SweepsAhead l.fn.world l.world;
  lives : AreLivesHeld l.world.rows;
  fewer : length l.world.rows.ports + l.freed ≤ length l.fn.world.rows.ports;
}
