use Rattle.std.proofs.Common.{arith}
use Rattle.lpc_views.proofs.Search.{placed-part}
use Rattle.lpc_views.proofs.space.Space.place.Goals as goal

pub overflow_sub-result : goal.overflow_sub-result
overflow_sub-result g c = c.in_ok-view.ensures.low

pub overflow_add-result : goal.overflow_add-result
overflow_add-result g c = record { fits = omega (arith, c.in_ok-view.ensures.low, c.in_ok-view.ensures.within, placed-part c.in_ok-view.view c.in_ok-view.ensures.placed) }
