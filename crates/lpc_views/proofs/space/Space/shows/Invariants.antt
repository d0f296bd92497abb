use Rattle.std.proofs.Common.{◌≡◌, drop}
use Rattle.lpc_base.specs.Rows.{has}
use Rattle.lpc_views.specs.Views.{shows}
use Rattle.lpc_views.proofs.space.Space.shows.Given as goal

abbrev pub invariant-loop-view : goal.invariant-loop-view
invariant-loop-view g l = has (shows l.section) (drop l.view-index l.view-items) ≡ has (shows l.section) l.self.views
