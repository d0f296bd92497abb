use Rattle.std.proofs.Common.{◌+◌, refl, ap, sym, ◌∙◌}
use Rattle.lpc_homes.specs.Parts.{emptying}
use Rattle.lpc_rows.specs.Kept.{owed_rows, rows_by}
use Rattle.lpc_rows.specs.Shown.{tables_of}
use Rattle.lpc_rows.proofs.Capacities as capacities
use Rattle.lpc_rows.proofs.Tables as tables
use Rattle.lpc_rows.proofs.ViewRooms as rooms
use Rattle.lpc_rows.proofs.Views as views
use Rattle.lpc_rows.proofs.Lived as lived
use Rattle.lpc_model.specs.Basics.{DropsViewsOf}
use Rattle.lpc_world.proofs.Owners as owners
use Rattle.lpc_world.proofs.world.World.views_drop.Goals as goal

pub drop_views-requires-clause-one : goal.drop_views-requires-clause-one
drop_views-requires-clause-one c = tables.single (tables_of c.self.inside.procs c.self.inside.parts.items c.self.inside.ports c.self.inside.waits c.self.inside.names c.self.inside.sections c.self.inside.tokens c.self.inside.token_names c.self.inside.marks) c.self.inside.calls c.self.inside.made c.self.invariant.kept

pub drop_views-requires-clause-part : goal.drop_views-requires-clause-part
drop_views-requires-clause-part c = sym (tables.has_table (tables_of c.self.inside.procs c.self.inside.parts.items c.self.inside.ports c.self.inside.waits c.self.inside.names c.self.inside.sections c.self.inside.tokens c.self.inside.token_names c.self.inside.marks) c.self.inside.calls c.self.inside.made c.self.invariant.kept c.args.pid) ∙ (rw (← c.self.view_is) at c.requires.table)

pub views_of-requires : goal.views_of-requires
views_of-requires c = sym (tables.has_table (tables_of c.self.inside.procs c.self.inside.parts.items c.self.inside.ports c.self.inside.waits c.self.inside.names c.self.inside.sections c.self.inside.tokens c.self.inside.token_names c.self.inside.marks) c.self.inside.calls c.self.inside.made c.self.invariant.kept c.args.pid) ∙ (rw (← c.self.view_is) at c.requires.table)

pub invariant_of-self : goal.invariant_of-self
invariant_of-self c = record {
  kept =
      rw c.drop_views.ensures.parts (views.dropped_lawful (tables_of c.self.inside.procs c.self.inside.parts.items c.self.inside.ports c.self.inside.waits c.self.inside.names c.self.inside.sections c.self.inside.tokens c.self.inside.token_names c.self.inside.marks) c.self.inside.calls c.self.inside.made c.self.invariant.kept c.args.pid);
  watched = rw (c.drop_views.ensures.parts, c.add_owners.ensures, c.views.ensures.views, c.views_of.ensures.views) (owners.dropped-to (tables_of c.self.inside.procs c.self.inside.parts.items c.self.inside.ports c.self.inside.waits c.self.inside.names c.self.inside.sections c.self.inside.tokens c.self.inside.token_names c.self.inside.marks) c.self.inside.calls c.self.inside.made c.self.invariant.kept c.self.inside.suspects c.self.invariant.watched _ c.args.pid (tables.single (tables_of c.self.inside.procs c.self.inside.parts.items c.self.inside.ports c.self.inside.waits c.self.inside.names c.self.inside.sections c.self.inside.tokens c.self.inside.token_names c.self.inside.marks) c.self.inside.calls c.self.inside.made c.self.invariant.kept) (views.drops (tables_of c.self.inside.procs c.self.inside.parts.items c.self.inside.ports c.self.inside.waits c.self.inside.names c.self.inside.sections c.self.inside.tokens c.self.inside.token_names c.self.inside.marks) c.self.inside.calls c.self.inside.made c.self.invariant.kept c.args.pid));
  lived = rw (c.drop_views.ensures.parts) (λ calm. lived.step-to (rows_by (tables_of c.self.inside.procs c.self.inside.parts.items c.self.inside.ports c.self.inside.waits c.self.inside.names c.self.inside.sections c.self.inside.tokens c.self.inside.token_names c.self.inside.marks)) (c.self.invariant.lived calm) _ (DropsViewsOf c.args.pid) (views.drops (tables_of c.self.inside.procs c.self.inside.parts.items c.self.inside.ports c.self.inside.waits c.self.inside.names c.self.inside.sections c.self.inside.tokens c.self.inside.token_names c.self.inside.marks) c.self.inside.calls c.self.inside.made c.self.invariant.kept c.args.pid) refl);
}

pub returns-clause-step : goal.returns-clause-step
returns-clause-step c = record {
  rows = rw (← c.self.view_is, c.drop_views.ensures.parts) (views.drops (tables_of c.self.inside.procs c.self.inside.parts.items c.self.inside.ports c.self.inside.waits c.self.inside.names c.self.inside.sections c.self.inside.tokens c.self.inside.token_names c.self.inside.marks) c.self.inside.calls c.self.inside.made c.self.invariant.kept c.args.pid);
  births = rw (← c.self.view_is) refl;
  calls = rw (← c.self.view_is) refl;
  made = rw (← c.self.view_is, c.drop_views.ensures.parts) (ap (λ w. c.self.inside.made + owed_rows w) (views.drops (tables_of c.self.inside.procs c.self.inside.parts.items c.self.inside.ports c.self.inside.waits c.self.inside.names c.self.inside.sections c.self.inside.tokens c.self.inside.token_names c.self.inside.marks) c.self.inside.calls c.self.inside.made c.self.invariant.kept c.args.pid));
  room = rw (← c.self.view_is, c.drop_views.ensures.kept, c.drop_views.ensures.parts) (rooms.dropped_room (tables_of c.self.inside.procs c.self.inside.parts.items c.self.inside.ports c.self.inside.waits c.self.inside.names c.self.inside.sections c.self.inside.tokens c.self.inside.token_names c.self.inside.marks) c.self.inside.parts.room c.args.pid);
}

pub returns-clause-capacity : goal.returns-clause-capacity
returns-clause-capacity c =
    rw (← c.self.view_is, c.drop_views.ensures.kept, c.drop_views.ensures.parts)
    (capacities.of_handles (tables_of c.self.inside.procs c.self.inside.parts.items c.self.inside.ports c.self.inside.waits c.self.inside.names c.self.inside.sections c.self.inside.tokens c.self.inside.token_names c.self.inside.marks) c.self.inside.parts.room (emptying c.args.pid c.self.inside.parts.items) (capacities.emptied_handles c.args.pid c.self.inside.parts.items) (capacities.emptied_views c.args.pid c.self.inside.parts.items))
