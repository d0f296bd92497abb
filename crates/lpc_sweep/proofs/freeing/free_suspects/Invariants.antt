use Rattle.lpc_model.specs.Linked.{AreLivesHeld}
use Rattle.lpc_sweep.specs.Sweeping.{SweepsAhead}
use Rattle.lpc_sweep.proofs.freeing.free_suspects.Given as goal

-- the sweep still leaves the same, and some row counts for each thread and each process
abbrev pub invariant-loop-looked : goal.invariant-loop-looked
invariant-loop-looked l = record {
  ahead : SweepsAhead l.fn.world l.world;
  lives : AreLivesHeld l.world.rows;
}
