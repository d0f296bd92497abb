use Rattle.lpc_homes.proofs.Counted.{no_entry, pushed_kept}
use Rattle.lpc_base.proofs.RowMaps.{push-map}
use Rattle.lpc_numbers.specs.Numbered.{numbers}
use Rattle.lpc_homes.proofs.Viewed.{pushed_unseen}
use Rattle.lpc_homes.proofs.parts.Parts.add.Goals as goal

pub add-requires-clause-new : goal.add-requires-clause-new
add-requires-clause-new c = no_entry c.args.pid c.self.inside.parts.items c.self.inside.places.entries c.self.invariant.of_handles.placed (rw (← c.self.view_is) at c.requires.new)

pub invariant_of-self : goal.invariant_of-self
invariant_of-self c =
    rw (c.push_reserved.ensures.items, c.add.ensures.entries, push-map, c.new.ensures, c.new-2.ensures)
    (record {
      of_handles = pushed_kept c.self.inside.parts.items (numbers c.self.inside.places.entries) c.self.inside.counts.handles c.args.pid c.self.invariant.of_handles;
      of_views = pushed_unseen c.self.inside.parts.items c.self.inside.counts.views c.args.pid c.self.invariant.of_views;
    })
