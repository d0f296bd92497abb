use Rattle.std.proofs.Common.{◌≡◌, drop}
use Rattle.lpc_views.specs.Views.{lower_of, lowest_owned}
use Rattle.lpc_views.proofs.space.lowest_owned.Given as goal

abbrev pub invariant-loop-view : goal.invariant-loop-view
invariant-loop-view g l = lower_of l.lowest (lowest_owned g.P.PartialEq.eq l.owner (drop l.view-index l.views)) ≡ lowest_owned g.P.PartialEq.eq l.owner l.views
