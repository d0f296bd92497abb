use Rattle.std.proofs.Common.{◌≡◌, true}
use Rattle.lpc_homes.proofs.Taken.{AreTaken}
use Rattle.lpc_homes.proofs.object_counts.ObjectCounts.take_all_views.Given as goal

abbrev pub invariant-loop-view : goal.invariant-loop-view
invariant-loop-view l = record {
  taken : l.self.views.whole ≡ true → AreTaken (λ view. true) l.views l.view-index l.initial.self.views l.self.views;
  handles : l.self.handles ≡ l.initial.self.handles;
}
