use Rattle.std.proofs.Common.{◌+◌, refl, ap, sym, ◌∙◌}
use Rattle.lpc_rows.specs.Shown.{tables_of}
use Rattle.lpc_rows.proofs.Capacities as capacities
use Rattle.lpc_rows.proofs.Readings as readings
use Rattle.lpc_rows.proofs.Tables as tables
use Rattle.lpc_rows.proofs.Views as views
use Rattle.lpc_rows.proofs.UnmappedViews as unmapped
use Rattle.lpc_rows.proofs.Lived as lived
use Rattle.lpc_rows.specs.Clauses.{view_at}
use Rattle.lpc_rows.specs.Kept.{rows_by}
use Rattle.lpc_world.proofs.Owners as owners
use Rattle.lpc_world.proofs.world.World.views_unmap.Goals as goal

pub unmap_view-gone-requires-clause-one : goal.unmap_view-gone-requires-clause-one
unmap_view-gone-requires-clause-one c = tables.single (tables_of c.self.inside.procs c.self.inside.parts.items c.self.inside.ports c.self.inside.waits c.self.inside.names c.self.inside.sections c.self.inside.tokens c.self.inside.token_names c.self.inside.marks) c.self.inside.calls c.self.inside.made c.self.invariant.kept

pub unmap_view-gone-requires-clause-part : goal.unmap_view-gone-requires-clause-part
unmap_view-gone-requires-clause-part c = sym (tables.has_table (tables_of c.self.inside.procs c.self.inside.parts.items c.self.inside.ports c.self.inside.waits c.self.inside.names c.self.inside.sections c.self.inside.tokens c.self.inside.token_names c.self.inside.marks) c.self.inside.calls c.self.inside.made c.self.invariant.kept c.args.pid) ∙ (rw (← c.self.view_is) at c.requires.table)

pub invariant_of-self : goal.invariant_of-self
invariant_of-self c = record {
  kept =
      (views.is_unmapped (tables_of c.self.inside.procs c.self.inside.parts.items c.self.inside.ports c.self.inside.waits c.self.inside.names c.self.inside.sections c.self.inside.tokens c.self.inside.token_names c.self.inside.marks) c.self.inside.calls c.self.inside.made c.args.pid c.args.address c.self.inside.parts.room c.self.invariant.kept c.unmap_view-gone.new.self.items c.unmap_view-gone.result c.unmap_view-gone.ensures.view c.unmap_view-gone.ensures.parts c.unmap_view-gone.ensures.same).lawful;
  watched = rw (c.add_some.ensures, c.owner_of.ensures) (owners.unmapped-to (tables_of c.self.inside.procs c.self.inside.parts.items c.self.inside.ports c.self.inside.waits c.self.inside.names c.self.inside.sections c.self.inside.tokens c.self.inside.token_names c.self.inside.marks) c.self.inside.calls c.self.inside.made c.self.invariant.kept c.self.inside.suspects c.self.invariant.watched c.args.pid c.args.address c.unmap_view-gone.result c.unmap_view-gone.new.self.items (tables.single (tables_of c.self.inside.procs c.self.inside.parts.items c.self.inside.ports c.self.inside.waits c.self.inside.names c.self.inside.sections c.self.inside.tokens c.self.inside.token_names c.self.inside.marks) c.self.inside.calls c.self.inside.made c.self.invariant.kept) c.unmap_view-gone.ensures.view c.unmap_view-gone.ensures.parts c.unmap_view-gone.ensures.fewer c.unmap_view-gone.ensures.same);
  lived = λ calm. lived.unmapped-to (rows_by (tables_of c.self.inside.procs c.self.inside.parts.items c.self.inside.ports c.self.inside.waits c.self.inside.names c.self.inside.sections c.self.inside.tokens c.self.inside.token_names c.self.inside.marks)) (c.self.invariant.lived calm) _ c.args.pid (view_at (rows_by (tables_of c.self.inside.procs c.self.inside.parts.items c.self.inside.ports c.self.inside.waits c.self.inside.names c.self.inside.sections c.self.inside.tokens c.self.inside.token_names c.self.inside.marks)) c.args.pid c.args.address) (views.is_unmapped (tables_of c.self.inside.procs c.self.inside.parts.items c.self.inside.ports c.self.inside.waits c.self.inside.names c.self.inside.sections c.self.inside.tokens c.self.inside.token_names c.self.inside.marks) c.self.inside.calls c.self.inside.made c.args.pid c.args.address c.self.inside.parts.room c.self.invariant.kept c.unmap_view-gone.new.self.items c.unmap_view-gone.result c.unmap_view-gone.ensures.view c.unmap_view-gone.ensures.parts c.unmap_view-gone.ensures.same).rows;
}

pub returns-clause-view : goal.returns-clause-view
returns-clause-view c = rw (← c.self.view_is) (readings.found_view (tables_of c.self.inside.procs c.self.inside.parts.items c.self.inside.ports c.self.inside.waits c.self.inside.names c.self.inside.sections c.self.inside.tokens c.self.inside.token_names c.self.inside.marks) c.self.invariant.kept.named c.args.pid c.args.address 1 c.unmap_view-gone.result c.unmap_view-gone.ensures.view)

pub returns-clause-step : goal.returns-clause-step
returns-clause-step c =
    let left = views.is_unmapped (tables_of c.self.inside.procs c.self.inside.parts.items c.self.inside.ports c.self.inside.waits c.self.inside.names c.self.inside.sections c.self.inside.tokens c.self.inside.token_names c.self.inside.marks) c.self.inside.calls c.self.inside.made c.args.pid c.args.address c.self.inside.parts.room c.self.invariant.kept c.unmap_view-gone.new.self.items c.unmap_view-gone.result c.unmap_view-gone.ensures.view c.unmap_view-gone.ensures.parts c.unmap_view-gone.ensures.same in
    record {
      rows = rw (← c.self.view_is) left.rows;
      births = rw (← c.self.view_is) refl;
      calls = rw (← c.self.view_is) refl;
      made = rw (← c.self.view_is) (ap (λ k. c.self.inside.made + k) left.owed);
      room = rw (← c.self.view_is, c.unmap_view-gone.ensures.kept) left.room;
    }

pub returns-clause-capacity : goal.returns-clause-capacity
returns-clause-capacity c =
    let one = tables.single (tables_of c.self.inside.procs c.self.inside.parts.items c.self.inside.ports c.self.inside.waits c.self.inside.names c.self.inside.sections c.self.inside.tokens c.self.inside.token_names c.self.inside.marks) c.self.inside.calls c.self.inside.made c.self.invariant.kept in
    rw (← c.self.view_is, c.unmap_view-gone.ensures.kept)
    (capacities.of_handles (tables_of c.self.inside.procs c.self.inside.parts.items c.self.inside.ports c.self.inside.waits c.self.inside.names c.self.inside.sections c.self.inside.tokens c.self.inside.token_names c.self.inside.marks) c.self.inside.parts.room c.unmap_view-gone.new.self.items (unmapped.handle_places c.args.pid c.self.inside.parts.items c.unmap_view-gone.new.self.items c.unmap_view-gone.result c.unmap_view-gone.ensures.parts c.unmap_view-gone.ensures.same) (unmapped.view_places c.args.pid c.self.inside.parts.items c.unmap_view-gone.new.self.items c.unmap_view-gone.result one c.unmap_view-gone.ensures.parts c.unmap_view-gone.ensures.fewer c.unmap_view-gone.ensures.same))
