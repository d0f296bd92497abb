use Rattle.std.proofs.Common.{sym, ◌∙◌, arith}
use Rattle.std.specs.Prelude.{option_and_then}
use Rattle.lpc_homes.specs.Parts.{closing, port_of}
use Rattle.lpc_rows.specs.Shown.{tables_of}
use Rattle.lpc_rows.proofs.Dropped as dropped
use Rattle.lpc_rows.proofs.Tables as tables
use Rattle.lpc_rows.proofs.Capacities as capacities
use Rattle.lpc_rows.proofs.Suspected as suspected
use Rattle.lpc_rows.specs.Kept.{rows_by}
use Rattle.lpc_rows.specs.Shown.{births_of}
use Rattle.std.proofs.Common.{refl}
use Rattle.lpc_model.specs.Found.{handle_at}
use Rattle.lpc_rows.proofs.Lived as lived
use Rattle.lpc_rows.proofs.NamedObjects as named
use Rattle.lpc_world.proofs.world.World.handles_close.Goals as goal

pub close_handle-requires-clause-one : goal.close_handle-requires-clause-one
close_handle-requires-clause-one c = tables.single (tables_of c.self.inside.procs c.self.inside.parts.items c.self.inside.ports c.self.inside.waits c.self.inside.names c.self.inside.sections c.self.inside.tokens c.self.inside.token_names c.self.inside.marks) c.self.inside.calls c.self.inside.made c.self.invariant.kept

pub close_handle-requires-clause-part : goal.close_handle-requires-clause-part
close_handle-requires-clause-part c = sym (tables.has_table (tables_of c.self.inside.procs c.self.inside.parts.items c.self.inside.ports c.self.inside.waits c.self.inside.names c.self.inside.sections c.self.inside.tokens c.self.inside.token_names c.self.inside.marks) c.self.inside.calls c.self.inside.made c.self.invariant.kept c.args.pid) ∙ (rw (← c.self.view_is) at c.requires.table)

pub invariant_of-self : goal.invariant_of-self
invariant_of-self c = record {
  kept =
      rw c.close_handle.ensures.parts (dropped.dropped_lawful (tables_of c.self.inside.procs c.self.inside.parts.items c.self.inside.ports c.self.inside.waits c.self.inside.names c.self.inside.sections c.self.inside.tokens c.self.inside.token_names c.self.inside.marks) c.self.inside.calls c.self.inside.made c.self.invariant.kept c.args.pid c.args.value);
  watched = let found = rw (← c.self.view_is) at c.handle-handle.ensures.row in let stood = rw (← c.self.view_is) at c.handle-handle.ensures.stands in rw (c.close_handle.ensures.parts, c.add_some.ensures, c.port_of_handle.ensures) (suspected.closed-to (rows_by (tables_of c.self.inside.procs c.self.inside.parts.items c.self.inside.ports c.self.inside.waits c.self.inside.names c.self.inside.sections c.self.inside.tokens c.self.inside.token_names c.self.inside.marks)) (births_of (tables_of c.self.inside.procs c.self.inside.parts.items c.self.inside.ports c.self.inside.waits c.self.inside.names c.self.inside.sections c.self.inside.tokens c.self.inside.token_names c.self.inside.marks)).ports c.self.inside.suspects c.self.invariant.watched _ c.args.pid c.args.value (handle_at (rows_by (tables_of c.self.inside.procs c.self.inside.parts.items c.self.inside.ports c.self.inside.waits c.self.inside.names c.self.inside.sections c.self.inside.tokens c.self.inside.token_names c.self.inside.marks)) c.args.pid c.args.value) (option_and_then (λ row. port_of row.object) c.handle-handle.result) c.self.invariant.kept.lawful.tables_single refl (named.port-named (births_of (tables_of c.self.inside.procs c.self.inside.parts.items c.self.inside.ports c.self.inside.waits c.self.inside.names c.self.inside.sections c.self.inside.tokens c.self.inside.token_names c.self.inside.marks)) c.args.value c.handle-handle.result _ found) (named.port-stands (births_of (tables_of c.self.inside.procs c.self.inside.parts.items c.self.inside.ports c.self.inside.waits c.self.inside.names c.self.inside.sections c.self.inside.tokens c.self.inside.token_names c.self.inside.marks)) c.args.value c.handle-handle.result stood) (dropped.drops (tables_of c.self.inside.procs c.self.inside.parts.items c.self.inside.ports c.self.inside.waits c.self.inside.names c.self.inside.sections c.self.inside.tokens c.self.inside.token_names c.self.inside.marks) c.self.inside.calls c.self.inside.made c.self.invariant.kept c.args.pid c.args.value));
  lived = let found = rw (← c.self.view_is) at c.handle-handle.ensures.row in rw (c.close_handle.ensures.parts, c.suspect_named.ensures) (λ calm. lived.closed-to (rows_by (tables_of c.self.inside.procs c.self.inside.parts.items c.self.inside.ports c.self.inside.waits c.self.inside.names c.self.inside.sections c.self.inside.tokens c.self.inside.token_names c.self.inside.marks)) c.self.inside.lives c.self.invariant.lived _ c.args.pid c.args.value c.handle-handle.result c.self.invariant.kept.lawful.tables_single (named.lives-named (births_of (tables_of c.self.inside.procs c.self.inside.parts.items c.self.inside.ports c.self.inside.waits c.self.inside.names c.self.inside.sections c.self.inside.tokens c.self.inside.token_names c.self.inside.marks)) c.args.value c.handle-handle.result _ found) (dropped.drops (tables_of c.self.inside.procs c.self.inside.parts.items c.self.inside.ports c.self.inside.waits c.self.inside.names c.self.inside.sections c.self.inside.tokens c.self.inside.token_names c.self.inside.marks) c.self.inside.calls c.self.inside.made c.self.invariant.kept c.args.pid c.args.value) calm);
}

pub returns-clause-rows : goal.returns-clause-rows
returns-clause-rows c = rw (← c.self.view_is, c.close_handle.ensures.parts) (dropped.drops (tables_of c.self.inside.procs c.self.inside.parts.items c.self.inside.ports c.self.inside.waits c.self.inside.names c.self.inside.sections c.self.inside.tokens c.self.inside.token_names c.self.inside.marks) c.self.inside.calls c.self.inside.made c.self.invariant.kept c.args.pid c.args.value)

pub returns-clause-room : goal.returns-clause-room
returns-clause-room c =
    rw (← c.self.view_is, c.close_handle.ensures.kept, c.close_handle.ensures.parts, dropped.view_rooms_kept c.args.pid c.args.value c.self.inside.parts.items) (record {
      for_processes = omega arith;
      for_threads = omega arith;
      for_waits = omega arith;
      for_messages = omega arith;
      for_ports = omega arith;
      for_names = omega arith;
      for_sections = omega arith;
      for_tokens = omega arith;
      for_token_names = omega arith;
      for_handles = λ pid. rw (tables.room_at c.self.inside.parts.items pid, tables.room_at (closing c.args.pid c.args.value c.self.inside.parts.items) pid) (dropped.spare_kept c.args.pid c.args.value c.self.inside.parts.items pid);
      for_views = λ pid. omega arith;
    })

pub returns-clause-made : goal.returns-clause-made
returns-clause-made c = rw (← c.self.view_is) (omega arith)

pub returns-clause-capacity : goal.returns-clause-capacity
returns-clause-capacity c =
    rw (← c.self.view_is, c.close_handle.ensures.kept, c.close_handle.ensures.parts)
    (capacities.of_handles (tables_of c.self.inside.procs c.self.inside.parts.items c.self.inside.ports c.self.inside.waits c.self.inside.names c.self.inside.sections c.self.inside.tokens c.self.inside.token_names c.self.inside.marks) c.self.inside.parts.room (closing c.args.pid c.args.value c.self.inside.parts.items) (capacities.closed_all c.args.pid c.args.value c.self.inside.parts.items) (capacities.closed_views c.args.pid c.args.value c.self.inside.parts.items))
