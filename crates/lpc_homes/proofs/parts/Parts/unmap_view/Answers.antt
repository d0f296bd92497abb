use Rattle.std.proofs.Common.{Some, ◌∙◌}
use Rattle.lpc_numbers.specs.Numbered.{numbers}
use Rattle.lpc_homes.proofs.OnePart.{fewer_views, part_is, unmapped_part}
use Rattle.lpc_homes.proofs.Viewed.{one_less, one_lost, views_kept}
use Rattle.lpc_views.specs.Views.{holds}
use Rattle.lpc_homes.proofs.parts.Parts.unmap_view.Goals as goal

pub returns-clause-view : goal.returns-clause-view
returns-clause-view c =
    let at = part_is c.self.inside.parts.items c.args.pid c.place_of-place.result c.index_mut.result.now (rw (← c.self.view_is) at c.place_of-place.ensures) c.index_mut.ensures.value in
    rw (← c.self.view_is, at.is_first) c.in_ok-view.ensures.view

pub returns-clause-parts : goal.returns-clause-parts
returns-clause-parts c =
    let at = part_is c.self.inside.parts.items c.args.pid c.place_of-place.result c.index_mut.result.now (rw (← c.self.view_is) at c.place_of-place.ensures) c.index_mut.ensures.value in
    rw (← c.self.view_is) (unmapped_part c.self.inside.parts.items c.args.pid c.place_of-place.result c.index_mut.result.now (Some c.in_ok-view.view) c.unmap.new.self (rw (← c.self.view_is) at c.requires.one) at c.in_ok-view.ensures.views c.in_ok-view.ensures.spare)

pub returns-clause-fewer : goal.returns-clause-fewer
returns-clause-fewer c =
    let at = part_is c.self.inside.parts.items c.args.pid c.place_of-place.result c.index_mut.result.now (rw (← c.self.view_is) at c.place_of-place.ensures) c.index_mut.ensures.value in
    rw (← c.self.view_is, at.is_first) (fewer_views c.args.address c.index_mut.result.now (Some c.in_ok-view.view) c.unmap.new.self c.in_ok-view.ensures.view c.in_ok-view.ensures.views c.in_ok-view.ensures.one)

pub returns-in_err-view-clause-view : goal.returns-in_err-view-clause-view
returns-in_err-view-clause-view c =
    let at = part_is c.self.inside.parts.items c.args.pid c.place_of-place.result c.index_mut.result.now (rw (← c.self.view_is) at c.place_of-place.ensures) c.index_mut.ensures.value in
    rw (← c.self.view_is, at.is_first) (c.from_residual.ensures ∙ c.in_err-view.ensures.view)

pub invariant_of-self-2 : goal.invariant_of-self-2
invariant_of-self-2 c =
    let at = part_is c.self.inside.parts.items c.args.pid c.place_of-place.result c.index_mut.result.now (rw (← c.self.view_is) at c.place_of-place.ensures) c.index_mut.ensures.value in
    rw c.take_view.ensures.handles (views_kept c.self.inside.parts.items (numbers c.self.inside.places.entries) c.self.inside.counts.handles c.self.inside.counts.views c.take_view.new.self.views c.place_of-place.result c.index_mut.result.now c.unmap.new.self at.here c.self.invariant
    (one_less c.index_mut.result.now.views c.unmap.new.self c.self.inside.counts.views c.take_view.new.self.views (holds c.args.address 1) c.in_ok-view.ensures.one)
    (one_lost c.index_mut.result.now.views c.unmap.new.self c.self.inside.counts.views c.take_view.new.self.views (holds c.args.address 1) c.in_ok-view.view c.in_ok-view.ensures.view c.in_ok-view.ensures.one c.take_view.ensures.loses))
