use Rattle.std.proofs.Common.{Ok, refl, true≢false, sym}
use Rattle.lpc_numbers.specs.Numbered.{numbers}
use Rattle.lpc_homes.specs.Parts.{handed}
use Rattle.lpc_homes.proofs.Counted.{handed_kept}
use Rattle.lpc_homes.proofs.OnePart.{handed_part, part_is}
use Rattle.lpc_homes.proofs.Viewed.{unseen_kept}
use Rattle.lpc_homes.proofs.parts.Parts.add_handle.Goals as goal

pub add-requires : goal.add-requires
add-requires c =
    let at = part_is c.self.inside.parts.items c.args.pid c.place_of-place.result c.index_mut.result.now (rw (← c.self.view_is) at c.place_of-place.ensures) c.index_mut.ensures.value in
    rw (← c.self.view_is, at.is_first) at c.requires.room

pub returns-in_err-value-clause-quota : goal.returns-in_err-value-clause-quota
returns-in_err-value-clause-quota c =
    let at = part_is c.self.inside.parts.items c.args.pid c.place_of-place.result c.index_mut.result.now (rw (← c.self.view_is) at c.place_of-place.ensures) c.index_mut.ensures.value in
    rw (← c.self.view_is, at.is_first) (λ _. c.in_err-value.ensures.quota.0 refl, λ _. c.from_residual.ensures.0)

pub returns-clause-quota : goal.returns-clause-quota
returns-clause-quota c =
    let at = part_is c.self.inside.parts.items c.args.pid c.place_of-place.result c.index_mut.result.now (rw (← c.self.view_is) at c.place_of-place.ensures) c.index_mut.ensures.value in
    rw (← c.self.view_is, at.is_first) c.in_ok-value.ensures.quota

pub returns-clause-value : goal.returns-clause-value
returns-clause-value c =
    let at = part_is c.self.inside.parts.items c.args.pid c.place_of-place.result c.index_mut.result.now (rw (← c.self.view_is) at c.place_of-place.ensures) c.index_mut.ensures.value in
    rw (← c.self.view_is, at.is_first) c.in_ok-value.ensures.value

pub returns-clause-parts : goal.returns-clause-parts
returns-clause-parts c =
    let at = part_is c.self.inside.parts.items c.args.pid c.place_of-place.result c.index_mut.result.now (rw (← c.self.view_is) at c.place_of-place.ensures) c.index_mut.ensures.value in
    rw (← c.self.view_is) (handed_part c.self.inside.parts.items c.args.pid c.place_of-place.result c.index_mut.result.now (record { object = c.args.object; access = c.args.access }) (Ok c.in_ok-value.value) c.add.new.self (rw (← c.self.view_is) at c.requires.one) at c.in_ok-value.ensures.rows c.in_ok-value.ensures.spare)

pub invariant_of-self-2 : goal.invariant_of-self-2
invariant_of-self-2 c =
    let at = part_is c.self.inside.parts.items c.args.pid c.place_of-place.result c.index_mut.result.now (rw (← c.self.view_is) at c.place_of-place.ensures) c.index_mut.ensures.value in
    let one = rw (← c.self.view_is) at c.requires.one in
    rw (handed_part c.self.inside.parts.items c.args.pid c.place_of-place.result c.index_mut.result.now (record { object = c.args.object; access = c.args.access }) (Ok c.in_ok-value.value) c.add.new.self one at c.in_ok-value.ensures.rows c.in_ok-value.ensures.spare)
    (record {
      of_handles = handed_kept c.self.inside.parts.items (numbers c.self.inside.places.entries) c.self.inside.counts.handles c.add_handle.new.self.handles c.args.pid c.in_ok-value.value c.index_mut.result.now (record { object = c.args.object; access = c.args.access }) one at.is_first c.self.invariant.of_handles c.in_ok-value.ensures.value (λ full. true≢false (sym (c.in_ok-value.ensures.quota.1 full))) c.add_handle.ensures.gains;
      of_views = rw c.add_handle.ensures.views (unseen_kept (handed c.in_ok-value.value (record { object = c.args.object; access = c.args.access })) (λ p. refl) c.args.pid c.self.inside.parts.items c.self.inside.counts.views c.self.invariant.of_views);
    })
