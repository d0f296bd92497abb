use Rattle.std.proofs.Common.{◌≤◌, ◌-◌, ◌++◌}
use Rattle.lpc_views.specs.Views.{ranges}
use Rattle.lpc_views.proofs.Search.{Searched}
use Rattle.lpc_views.proofs.bases.free_base_beside.Given as goal

abbrev pub invariant-loop-base : goal.invariant-loop-base
invariant-loop-base g l = record {
  within : l.base ≤ 2147418112;
  searched : Searched (ranges (l.views ++ l.others)) l.size l.base;
}

abbrev pub decreases-loop-base : goal.decreases-loop-base
decreases-loop-base g l = 2147418112 - l.base
