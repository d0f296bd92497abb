use Rattle.std.proofs.Common.{Some, refl}
use Rattle.lpc_numbers.specs.Numbered.{numbers}
use Rattle.lpc_homes.specs.Parts.{closed}
use Rattle.lpc_homes.proofs.Counted.{closed_kept}
use Rattle.lpc_homes.proofs.OnePart.{closed_part, part_is}
use Rattle.lpc_homes.proofs.Viewed.{unseen_kept}
use Rattle.lpc_homes.proofs.parts.Parts.close_handle.Goals as goal

pub returns-in-Some-clause-parts : goal.returns-in-Some-clause-parts
returns-in-Some-clause-parts c =
    let at = part_is c.self.inside.parts.items c.args.pid c.place_of-place.result c.index_mut.result.now (rw (← c.self.view_is) at c.place_of-place.ensures) c.index_mut.ensures.value in
    rw (← c.self.view_is) (closed_part c.self.inside.parts.items c.args.pid c.place_of-place.result c.args.value c.index_mut.result.now (Some c.in-Some.row) c.close.new.self (rw (← c.self.view_is) at c.requires.one) at c.in-Some.ensures.row c.in-Some.ensures.one c.in-Some.ensures.spare c.in-Some.ensures.same)

pub returns-in_default-clause-parts : goal.returns-in_default-clause-parts
returns-in_default-clause-parts c =
    let at = part_is c.self.inside.parts.items c.args.pid c.place_of-place.result c.index_mut.result.now (rw (← c.self.view_is) at c.place_of-place.ensures) c.index_mut.ensures.value in
    rw (← c.self.view_is) (closed_part c.self.inside.parts.items c.args.pid c.place_of-place.result c.args.value c.index_mut.result.now c.close.result c.close.new.self (rw (← c.self.view_is) at c.requires.one) at c.close.ensures.row c.close.ensures.one c.close.ensures.spare c.close.ensures.same)

pub invariant_of-self : goal.invariant_of-self
invariant_of-self c =
    let at = part_is c.self.inside.parts.items c.args.pid c.place_of-place.result c.index_mut.result.now (rw (← c.self.view_is) at c.place_of-place.ensures) c.index_mut.ensures.value in
    let one = rw (← c.self.view_is) at c.requires.one in
    rw (closed_part c.self.inside.parts.items c.args.pid c.place_of-place.result c.args.value c.index_mut.result.now (Some c.in-Some.row) c.close.new.self one at c.in-Some.ensures.row c.in-Some.ensures.one c.in-Some.ensures.spare c.in-Some.ensures.same)
    (record {
      of_handles = closed_kept c.self.inside.parts.items (numbers c.self.inside.places.entries) c.self.inside.counts.handles c.take_handle.new.self.handles c.args.pid c.args.value c.index_mut.result.now c.in-Some.row one at.is_first c.self.invariant.of_handles c.in-Some.ensures.row c.take_handle.ensures.loses;
      of_views = rw c.take_handle.ensures.views (unseen_kept (closed c.args.value) (λ p. refl) c.args.pid c.self.inside.parts.items c.self.inside.counts.views c.self.invariant.of_views);
    })
