use Rattle.lpc_views.proofs.Removal.{space-added}
use Rattle.lpc_views.proofs.space.Space.add.Goals as goal

pub invariant_of-self : goal.invariant_of-self
invariant_of-self g c =
    let based = rw (← c.self.view_is) at c.requires.base in
    rw c.push_reserved.ensures.items (space-added c.self.inside.views.items c.args.view c.self.invariant c.requires.placed based)
