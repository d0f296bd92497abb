use Rattle.std.proofs.Common.{refl}
use Rattle.lpc_numbers.specs.Numbered.{numbers}
use Rattle.lpc_homes.proofs.OnePart.{part_is, view_roomed_part}
use Rattle.lpc_homes.proofs.Viewed.{as_many, same_views, views_kept}
use Rattle.lpc_homes.proofs.parts.Parts.reserve_views.Goals as goal

pub returns-clause-parts : goal.returns-clause-parts
returns-clause-parts c =
    let at = part_is c.self.inside.parts.items c.args.pid c.place_of-place.result c.index_mut.result.now (rw (← c.self.view_is) at c.place_of-place.ensures) c.index_mut.ensures.value in
    let roomed = view_roomed_part c.self.inside.parts.items c.args.pid c.place_of-place.result c.index_mut.result.now c.reserve-made.new.self (rw (← c.self.view_is) at c.requires.one) at c.reserve-made.ensures.views in
    rw (← c.self.view_is, roomed.spare_is) roomed.parts_are

pub returns-clause-room : goal.returns-clause-room
returns-clause-room c =
    let at = part_is c.self.inside.parts.items c.args.pid c.place_of-place.result c.index_mut.result.now (rw (← c.self.view_is) at c.place_of-place.ensures) c.index_mut.ensures.value in
    let roomed = view_roomed_part c.self.inside.parts.items c.args.pid c.place_of-place.result c.index_mut.result.now c.reserve-made.new.self (rw (← c.self.view_is) at c.requires.one) at c.reserve-made.ensures.views in
    rw roomed.spare_is c.reserve-made.ensures.room

pub returns-clause-wanting : goal.returns-clause-wanting
returns-clause-wanting c =
    let at = part_is c.self.inside.parts.items c.args.pid c.place_of-place.result c.index_mut.result.now (rw (← c.self.view_is) at c.place_of-place.ensures) c.index_mut.ensures.value in
    rw (← c.self.view_is, at.is_first) c.reserve-made.ensures.wanting

pub returns-clause-err : goal.returns-clause-err
returns-clause-err c =
    let at = part_is c.self.inside.parts.items c.args.pid c.place_of-place.result c.index_mut.result.now (rw (← c.self.view_is) at c.place_of-place.ensures) c.index_mut.ensures.value in
    let roomed = view_roomed_part c.self.inside.parts.items c.args.pid c.place_of-place.result c.index_mut.result.now c.reserve-made.new.self (rw (← c.self.view_is) at c.requires.one) at c.reserve-made.ensures.views in
    rw (← c.self.view_is, roomed.spare_is, at.is_first) c.reserve-made.ensures.err

pub returns-clause-spare : goal.returns-clause-spare
returns-clause-spare c =
    let at = part_is c.self.inside.parts.items c.args.pid c.place_of-place.result c.index_mut.result.now (rw (← c.self.view_is) at c.place_of-place.ensures) c.index_mut.ensures.value in
    let roomed = view_roomed_part c.self.inside.parts.items c.args.pid c.place_of-place.result c.index_mut.result.now c.reserve-made.new.self (rw (← c.self.view_is) at c.requires.one) at c.reserve-made.ensures.views in
    rw (← c.self.view_is, roomed.spare_is, at.is_first) c.reserve-made.ensures.spare

pub returns-clause-most : goal.returns-clause-most
returns-clause-most c =
    let at = part_is c.self.inside.parts.items c.args.pid c.place_of-place.result c.index_mut.result.now (rw (← c.self.view_is) at c.place_of-place.ensures) c.index_mut.ensures.value in
    let roomed = view_roomed_part c.self.inside.parts.items c.args.pid c.place_of-place.result c.index_mut.result.now c.reserve-made.new.self (rw (← c.self.view_is) at c.requires.one) at c.reserve-made.ensures.views in
    rw (← c.self.view_is, roomed.spare_is, at.is_first) c.reserve-made.ensures.most

pub returns-clause-grown : goal.returns-clause-grown
returns-clause-grown c =
    let at = part_is c.self.inside.parts.items c.args.pid c.place_of-place.result c.index_mut.result.now (rw (← c.self.view_is) at c.place_of-place.ensures) c.index_mut.ensures.value in
    let roomed = view_roomed_part c.self.inside.parts.items c.args.pid c.place_of-place.result c.index_mut.result.now c.reserve-made.new.self (rw (← c.self.view_is) at c.requires.one) at c.reserve-made.ensures.views in
    rw (← c.self.view_is, roomed.spare_is, at.is_first) c.reserve-made.ensures.grown

pub returns-clause-enough : goal.returns-clause-enough
returns-clause-enough c =
    let at = part_is c.self.inside.parts.items c.args.pid c.place_of-place.result c.index_mut.result.now (rw (← c.self.view_is) at c.place_of-place.ensures) c.index_mut.ensures.value in
    let roomed = view_roomed_part c.self.inside.parts.items c.args.pid c.place_of-place.result c.index_mut.result.now c.reserve-made.new.self (rw (← c.self.view_is) at c.requires.one) at c.reserve-made.ensures.views in
    rw (← c.self.view_is, roomed.spare_is, at.is_first) c.reserve-made.ensures.enough

pub invariant_of-self : goal.invariant_of-self
invariant_of-self c =
    let at = part_is c.self.inside.parts.items c.args.pid c.place_of-place.result c.index_mut.result.now (rw (← c.self.view_is) at c.place_of-place.ensures) c.index_mut.ensures.value in
    rw c.promise_views.ensures (views_kept c.self.inside.parts.items (numbers c.self.inside.places.entries) c.self.inside.counts.handles c.self.inside.counts.views c.self.inside.counts.views c.place_of-place.result c.index_mut.result.now c.reserve-made.new.self at.here c.self.invariant
    (as_many c.index_mut.result.now.views c.reserve-made.new.self c.self.inside.counts.views c.self.inside.counts.views c.reserve-made.ensures.views)
    (same_views c.index_mut.result.now.views c.reserve-made.new.self c.self.inside.counts.views c.self.inside.counts.views c.reserve-made.ensures.views refl))
