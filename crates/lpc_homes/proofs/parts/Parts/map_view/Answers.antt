use Rattle.std.proofs.Common.{Ok, arith, rules}
use Rattle.lpc_numbers.specs.Numbered.{numbers}
use Rattle.lpc_homes.proofs.OnePart.{mapped_part, part_is}
use Rattle.lpc_homes.proofs.Viewed.{few_mapped, gained, one_more, views_kept}
use Rattle.lpc_slots.specs.Table.{at as row_at}
use Rattle.lpc_homes.proofs.parts.Parts.map_view.Goals as goal

pub map-requires-clause-room : goal.map-requires-clause-room
map-requires-clause-room c =
    let at = part_is c.self.inside.parts.items c.args.pid c.place_of-place.result c.index_mut.result.now (rw (← c.self.view_is) at c.place_of-place.ensures) c.index_mut.ensures.value in
    rw (← c.self.view_is, at.is_first) at c.requires.room

pub returns-in_err-view-clause-answer : goal.returns-in_err-view-clause-answer
returns-in_err-view-clause-answer c =
    let at = part_is c.self.inside.parts.items c.args.pid c.place_of-place.result c.index_mut.result.now (rw (← c.self.view_is) at c.place_of-place.ensures) c.index_mut.ensures.value in
    rw (← c.self.view_is, at.is_first) (search rules)

pub returns-clause-answer : goal.returns-clause-answer
returns-clause-answer c =
    let at = part_is c.self.inside.parts.items c.args.pid c.place_of-place.result c.index_mut.result.now (rw (← c.self.view_is) at c.place_of-place.ensures) c.index_mut.ensures.value in
    rw (← c.self.view_is, at.is_first) c.in_ok-view.ensures.answer

pub returns-clause-parts : goal.returns-clause-parts
returns-clause-parts c =
    let at = part_is c.self.inside.parts.items c.args.pid c.place_of-place.result c.index_mut.result.now (rw (← c.self.view_is) at c.place_of-place.ensures) c.index_mut.ensures.value in
    rw (← c.self.view_is) (mapped_part c.self.inside.parts.items c.args.pid c.place_of-place.result c.index_mut.result.now (Ok c.in_ok-view.view) c.map.new.self (rw (← c.self.view_is) at c.requires.one) at c.in_ok-view.ensures.views c.in_ok-view.ensures.spare)

pub returns-clause-place : goal.returns-clause-place
returns-clause-place c =
    let at = part_is c.self.inside.parts.items c.args.pid c.place_of-place.result c.index_mut.result.now (rw (← c.self.view_is) at c.place_of-place.ensures) c.index_mut.ensures.value in
    rw (← c.self.view_is, at.is_first) (omega (arith, c.in_ok-view.ensures.spare))

pub invariant_of-self-2 : goal.invariant_of-self-2
invariant_of-self-2 c =
    let at = part_is c.self.inside.parts.items c.args.pid c.place_of-place.result c.index_mut.result.now (rw (← c.self.view_is) at c.place_of-place.ensures) c.index_mut.ensures.value in
    rw c.add_view.ensures.handles (views_kept c.self.inside.parts.items (numbers c.self.inside.places.entries) c.self.inside.counts.handles c.self.inside.counts.views c.add_view.new.self.views c.place_of-place.result c.index_mut.result.now c.map.new.self at.here c.self.invariant
    (one_more c.index_mut.result.now.views c.map.new.self c.self.inside.counts.views c.add_view.new.self.views c.in_ok-view.view c.in_ok-view.ensures.views (few_mapped c.index_mut.result.now.views.views c.args.section c.args.offset c.args.size c.args.writable c.args.owner (row_at c.args.sections.now c.args.section) c.in_ok-view.view c.in_ok-view.ensures.answer))
    (gained c.index_mut.result.now.views c.map.new.self c.self.inside.counts.views c.add_view.new.self.views c.in_ok-view.view c.in_ok-view.ensures.views c.add_view.ensures.gains))
