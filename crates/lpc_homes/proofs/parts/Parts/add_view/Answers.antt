use Rattle.std.specs.Prelude.{Ok}
use Rattle.lpc_numbers.specs.Numbered.{numbers}
use Rattle.lpc_homes.proofs.OnePart.{mapped_part, part_is}
use Rattle.lpc_homes.proofs.Viewed.{few_based, gained, one_more, views_kept}
use Rattle.lpc_homes.proofs.parts.Parts.add_view.Goals as goal

pub add-requires-clause-room : goal.add-requires-clause-room
add-requires-clause-room c =
    let at = part_is c.self.inside.parts.items c.args.pid c.place_of-place.result c.index_mut.result.now (rw (← c.self.view_is) at c.place_of-place.ensures) c.index_mut.ensures.value in
    rw (← c.self.view_is, at.is_first) at c.requires.room

pub add-requires-clause-base : goal.add-requires-clause-base
add-requires-clause-base c =
    let at = part_is c.self.inside.parts.items c.args.pid c.place_of-place.result c.index_mut.result.now (rw (← c.self.view_is) at c.place_of-place.ensures) c.index_mut.ensures.value in
    rw (← c.self.view_is, at.is_first) at c.requires.base

pub returns-clause-parts : goal.returns-clause-parts
returns-clause-parts c =
    let at = part_is c.self.inside.parts.items c.args.pid c.place_of-place.result c.index_mut.result.now (rw (← c.self.view_is) at c.place_of-place.ensures) c.index_mut.ensures.value in
    rw (← c.self.view_is) (mapped_part c.self.inside.parts.items c.args.pid c.place_of-place.result c.index_mut.result.now (Ok c.args.view) c.add.new.self (rw (← c.self.view_is) at c.requires.one) at c.add.ensures.views c.add.ensures.spare)

pub invariant_of-self : goal.invariant_of-self
invariant_of-self c =
    let at = part_is c.self.inside.parts.items c.args.pid c.place_of-place.result c.index_mut.result.now (rw (← c.self.view_is) at c.place_of-place.ensures) c.index_mut.ensures.value in
    rw c.add_view.ensures.handles (views_kept c.self.inside.parts.items (numbers c.self.inside.places.entries) c.self.inside.counts.handles c.self.inside.counts.views c.add_view.new.self.views c.place_of-place.result c.index_mut.result.now c.add.new.self at.here c.self.invariant
    (one_more c.index_mut.result.now.views c.add.new.self c.self.inside.counts.views c.add_view.new.self.views c.args.view c.add.ensures.views (few_based c.index_mut.result.now.views.views c.args.view.size c.args.view.base (rw (← c.self.view_is, at.is_first) at c.requires.base)))
    (gained c.index_mut.result.now.views c.add.new.self c.self.inside.counts.views c.add_view.new.self.views c.args.view c.add.ensures.views c.add_view.ensures.gains))
