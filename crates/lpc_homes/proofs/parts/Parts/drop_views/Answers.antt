use Rattle.lpc_numbers.specs.Numbered.{numbers}
use Rattle.lpc_homes.proofs.OnePart.{emptied_part, part_is}
use Rattle.lpc_homes.proofs.Viewed.{all_lost, none_left, views_kept}
use Rattle.lpc_homes.proofs.parts.Parts.drop_views.Goals as goal

pub returns-clause-parts : goal.returns-clause-parts
returns-clause-parts c =
    let at = part_is c.self.inside.parts.items c.args.pid c.place_of-place.result c.index_mut.result.now (rw (← c.self.view_is) at c.place_of-place.ensures) c.index_mut.ensures.value in
    rw (← c.self.view_is) (emptied_part c.self.inside.parts.items c.args.pid c.place_of-place.result c.index_mut.result.now c.clear.new.self (rw (← c.self.view_is) at c.requires.one) at c.clear.ensures.views c.clear.ensures.spare)

pub invariant_of-self : goal.invariant_of-self
invariant_of-self c =
    let at = part_is c.self.inside.parts.items c.args.pid c.place_of-place.result c.index_mut.result.now (rw (← c.self.view_is) at c.place_of-place.ensures) c.index_mut.ensures.value in
    rw c.take_all_views.ensures.handles (views_kept c.self.inside.parts.items (numbers c.self.inside.places.entries) c.self.inside.counts.handles c.self.inside.counts.views c.take_all_views.new.self.views c.place_of-place.result c.index_mut.result.now c.clear.new.self at.here c.self.invariant
    (none_left c.index_mut.result.now.views c.clear.new.self c.self.inside.counts.views c.take_all_views.new.self.views c.clear.ensures.views)
    (all_lost c.index_mut.result.now.views c.clear.new.self c.self.inside.counts.views c.take_all_views.new.self.views c.clear.ensures.views (rw c.views.ensures.views at c.take_all_views.ensures.loses)))
