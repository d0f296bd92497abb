use Rattle.lpc_views.proofs.Removal.{space-push}
use Rattle.lpc_views.proofs.space.Space.map.Goals as goal

pub invariant_of-self : goal.invariant_of-self
invariant_of-self g c =
    let view = rw (← c.self.view_is) at c.in_ok-view.ensures in
    rw c.push_reserved.ensures.items (space-push c.self.inside.views.items _ c.self.invariant view.few view.sized view.most view.free)
