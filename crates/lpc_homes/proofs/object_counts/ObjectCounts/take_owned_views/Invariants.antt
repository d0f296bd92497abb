use Rattle.std.proofs.Common.{◌≡◌, true}
use Rattle.lpc_homes.specs.Parts.{goes_with}
use Rattle.lpc_homes.proofs.Taken.{AreTaken}
use Rattle.lpc_homes.proofs.object_counts.ObjectCounts.take_owned_views.Given as goal

abbrev pub invariant-loop-view : goal.invariant-loop-view
invariant-loop-view l = record {
  taken : l.self.views.whole ≡ true → AreTaken (goes_with l.owner) l.views l.view-index l.initial.self.views l.self.views;
  handles : l.self.handles ≡ l.initial.self.handles;
}
