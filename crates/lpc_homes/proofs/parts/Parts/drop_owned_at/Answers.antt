use Rattle.lpc_numbers.specs.Numbered.{numbers}
use Rattle.std.proofs.lemmas.Option.{slice_get_read}
use Rattle.std.proofs.Common.{refl}
use Rattle.lpc_homes.specs.Parts.{goes_with}
use Rattle.lpc_homes.proofs.Viewed.{dropped_at, lost, some_less, views_kept}
use Rattle.lpc_homes.proofs.parts.Parts.drop_owned_at.Goals as goal

pub returns-clause-parts : goal.returns-clause-parts
returns-clause-parts c =
    let here = slice_get_read c.self.inside.parts.items _ c.args.place c.index_mut.result.now refl (rw (← c.self.view_is) at c.requires) c.index_mut.ensures.value in
    rw (← c.self.view_is) (dropped_at c.self.inside.parts.items c.args.place c.args.owner c.index_mut.result.now c.drop_owned.new.self here c.drop_owned.ensures.views c.drop_owned.ensures.spare)

pub invariant_of-self : goal.invariant_of-self
invariant_of-self c =
    let here = slice_get_read c.self.inside.parts.items _ c.args.place c.index_mut.result.now refl (rw (← c.self.view_is) at c.requires) c.index_mut.ensures.value in
    rw c.take_owned_views.ensures.handles (views_kept c.self.inside.parts.items (numbers c.self.inside.places.entries) c.self.inside.counts.handles c.self.inside.counts.views c.take_owned_views.new.self.views c.args.place c.index_mut.result.now c.drop_owned.new.self here c.self.invariant
    (some_less c.index_mut.result.now.views c.drop_owned.new.self c.self.inside.counts.views c.take_owned_views.new.self.views (goes_with c.args.owner) c.drop_owned.ensures.views)
    (lost c.index_mut.result.now.views c.drop_owned.new.self c.self.inside.counts.views c.take_owned_views.new.self.views (goes_with c.args.owner) c.drop_owned.ensures.views (rw c.views.ensures.views at c.take_owned_views.ensures.loses)))
