use Rattle.std.proofs.Common.{◌+◌, map, refl, ap}
use Rattle.lpc_homes.specs.Parts.{dropped}
use Rattle.lpc_rows.specs.Kept.{owed_rows}
use Rattle.lpc_rows.specs.Shown.{tables_of}
use Rattle.lpc_rows.proofs.Capacities as capacities
use Rattle.lpc_rows.proofs.ViewRooms as rooms
use Rattle.lpc_rows.proofs.Views as views
use Rattle.lpc_rows.proofs.Suspected as suspected
use Rattle.lpc_rows.specs.Kept.{rows_by}
use Rattle.lpc_rows.specs.Shown.{births_of}
use Rattle.lpc_rows.proofs.Lived as lived
use Rattle.lpc_rows.specs.Names.{name_of}
use Rattle.lpc_model.specs.Basics.{DropsOwned}
use Rattle.lpc_world.proofs.world.World.views_drop_owned.Goals as goal

pub invariant_of-self : goal.invariant_of-self
invariant_of-self c = record {
  kept =
      let there = rw (← c.self.view_is) at c.requires.port in
      rw c.drop_owned_views.ensures.parts (views.owned_lawful (tables_of c.self.inside.procs c.self.inside.parts.items c.self.inside.ports c.self.inside.waits c.self.inside.names c.self.inside.sections c.self.inside.tokens c.self.inside.token_names c.self.inside.marks) c.self.inside.calls c.self.inside.made c.self.invariant.kept c.args.port there);
  watched = let there = rw (← c.self.view_is) at c.requires.port in rw (c.drop_owned_views.ensures.parts, c.add.ensures) (suspected.owned-to (rows_by (tables_of c.self.inside.procs c.self.inside.parts.items c.self.inside.ports c.self.inside.waits c.self.inside.names c.self.inside.sections c.self.inside.tokens c.self.inside.token_names c.self.inside.marks)) (births_of (tables_of c.self.inside.procs c.self.inside.parts.items c.self.inside.ports c.self.inside.waits c.self.inside.names c.self.inside.sections c.self.inside.tokens c.self.inside.token_names c.self.inside.marks)).ports c.self.inside.suspects c.self.invariant.watched _ c.args.port there (views.drops_owned (tables_of c.self.inside.procs c.self.inside.parts.items c.self.inside.ports c.self.inside.waits c.self.inside.names c.self.inside.sections c.self.inside.tokens c.self.inside.token_names c.self.inside.marks) c.self.inside.calls c.self.inside.made c.self.invariant.kept c.args.port there));
  lived = let there = rw (← c.self.view_is) at c.requires.port in rw c.drop_owned_views.ensures.parts (λ calm. lived.step-to (rows_by (tables_of c.self.inside.procs c.self.inside.parts.items c.self.inside.ports c.self.inside.waits c.self.inside.names c.self.inside.sections c.self.inside.tokens c.self.inside.token_names c.self.inside.marks)) (c.self.invariant.lived calm) _ (DropsOwned (name_of (births_of (tables_of c.self.inside.procs c.self.inside.parts.items c.self.inside.ports c.self.inside.waits c.self.inside.names c.self.inside.sections c.self.inside.tokens c.self.inside.token_names c.self.inside.marks)).ports c.args.port)) (views.drops_owned (tables_of c.self.inside.procs c.self.inside.parts.items c.self.inside.ports c.self.inside.waits c.self.inside.names c.self.inside.sections c.self.inside.tokens c.self.inside.token_names c.self.inside.marks) c.self.inside.calls c.self.inside.made c.self.invariant.kept c.args.port there) refl);
}

pub returns-clause-step : goal.returns-clause-step
returns-clause-step c =
    let there = rw (← c.self.view_is) at c.requires.port in
    record {
      rows = rw (← c.self.view_is, c.drop_owned_views.ensures.parts) (views.drops_owned (tables_of c.self.inside.procs c.self.inside.parts.items c.self.inside.ports c.self.inside.waits c.self.inside.names c.self.inside.sections c.self.inside.tokens c.self.inside.token_names c.self.inside.marks) c.self.inside.calls c.self.inside.made c.self.invariant.kept c.args.port there);
      births = rw (← c.self.view_is) refl;
      calls = rw (← c.self.view_is) refl;
      made = rw (← c.self.view_is, c.drop_owned_views.ensures.parts) (ap (λ w. c.self.inside.made + owed_rows w) (views.drops_owned (tables_of c.self.inside.procs c.self.inside.parts.items c.self.inside.ports c.self.inside.waits c.self.inside.names c.self.inside.sections c.self.inside.tokens c.self.inside.token_names c.self.inside.marks) c.self.inside.calls c.self.inside.made c.self.invariant.kept c.args.port there));
      room = rw (← c.self.view_is, c.drop_owned_views.ensures.kept, c.drop_owned_views.ensures.parts) (rooms.owned_room (tables_of c.self.inside.procs c.self.inside.parts.items c.self.inside.ports c.self.inside.waits c.self.inside.names c.self.inside.sections c.self.inside.tokens c.self.inside.token_names c.self.inside.marks) c.self.inside.parts.room c.args.port);
    }

pub returns-clause-capacity : goal.returns-clause-capacity
returns-clause-capacity c =
    rw (← c.self.view_is, c.drop_owned_views.ensures.kept, c.drop_owned_views.ensures.parts)
    (capacities.of_handles (tables_of c.self.inside.procs c.self.inside.parts.items c.self.inside.ports c.self.inside.waits c.self.inside.names c.self.inside.sections c.self.inside.tokens c.self.inside.token_names c.self.inside.marks) c.self.inside.parts.room (map (dropped c.args.port) c.self.inside.parts.items) (capacities.dropped_handles c.args.port c.self.inside.parts.items) (capacities.dropped_views c.args.port c.self.inside.parts.items))
