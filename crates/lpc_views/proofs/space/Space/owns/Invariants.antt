use Rattle.std.proofs.Common.{◌≡◌, drop}
use Rattle.lpc_base.specs.Rows.{has}
use Rattle.lpc_views.specs.Views.{is_owned_by}
use Rattle.lpc_views.proofs.space.Space.owns.Given as goal

abbrev pub invariant-loop-view : goal.invariant-loop-view
invariant-loop-view g l = has (is_owned_by g.P.PartialEq.eq l.owner) (drop l.view-index l.view-items) ≡ has (is_owned_by g.P.PartialEq.eq l.owner) l.self.views
