use Rattle.std.proofs.Common.{◌-◌, None, refl, sym, ◌∙◌, arith}
use Rattle.lpc_rows.specs.Shown.{tables_of}
use Rattle.lpc_rows.specs.Kept.{room_of_part, rows_by, view_room_of}
use Rattle.lpc_rows.proofs.Lawful.{unused-table}
use Rattle.lpc_rows.proofs.Rooms as rooms
use Rattle.lpc_rows.proofs.Steps as steps
use Rattle.lpc_rows.proofs.Tables as tables
use Rattle.lpc_base.proofs.RowMaps.{push-map}
use Rattle.lpc_homes.specs.Parts.{new_part}
use Rattle.lpc_rows.proofs.Suspected as suspected
use Rattle.lpc_rows.specs.Shown.{births_of}
use Rattle.lpc_rows.specs.Shown.{shown_process}
use Rattle.lpc_rows.proofs.Changes as changes
use Rattle.lpc_rows.proofs.Lived as lived
use Rattle.lpc_world.proofs.world.World.procs_add_process.Goals as goal

pub add-requires-clause-new : goal.add-requires-clause-new
add-requires-clause-new c =
    let there = rw (← c.self.view_is) at c.requires in
    let rows = rows_by (tables_of c.self.inside.procs c.self.inside.parts.items c.self.inside.ports c.self.inside.waits c.self.inside.names c.self.inside.sections c.self.inside.tokens c.self.inside.token_names c.self.inside.marks) in
    sym (tables.has_table (tables_of c.self.inside.procs c.self.inside.parts.items c.self.inside.ports c.self.inside.waits c.self.inside.names c.self.inside.sections c.self.inside.tokens c.self.inside.token_names c.self.inside.marks) c.self.inside.calls c.self.inside.made c.self.invariant.kept c.args.pid) ∙ unused-table rows.used_processes c.args.pid rows.handles c.self.invariant.kept.lawful.tables_used there.new

pub invariant_of-self : goal.invariant_of-self
invariant_of-self c = record {
  kept =
      let there = rw (← c.self.view_is) at c.requires in
      rw (c.add_process.ensures.table, c.add.ensures.items)
      (steps.added_process (tables_of c.self.inside.procs c.self.inside.parts.items c.self.inside.ports c.self.inside.waits c.self.inside.names c.self.inside.sections c.self.inside.tokens c.self.inside.token_names c.self.inside.marks) c.self.inside.calls c.self.inside.made c.self.invariant.kept (record { number = c.args.pid; maker = c.args.maker; birth = c.args.birth; token = c.args.token.now; debug_port = None; exception_port = None; doom = None }) (new_part c.args.pid) (c.self.inside.procs.process_room - 1) refl refl refl refl refl there.budget there.new there.birth there.fresh);
  watched = rw (c.add_process.ensures.table, c.add.ensures.items) (suspected.process-to (rows_by (tables_of c.self.inside.procs c.self.inside.parts.items c.self.inside.ports c.self.inside.waits c.self.inside.names c.self.inside.sections c.self.inside.tokens c.self.inside.token_names c.self.inside.marks)) (births_of (tables_of c.self.inside.procs c.self.inside.parts.items c.self.inside.ports c.self.inside.waits c.self.inside.names c.self.inside.sections c.self.inside.tokens c.self.inside.token_names c.self.inside.marks)).ports c.self.inside.suspects c.self.invariant.watched _ (shown_process (record { number = c.args.pid; maker = c.args.maker; birth = c.args.birth; token = c.args.token.now; debug_port = None; exception_port = None; doom = None })) (changes.adds_process (tables_of c.self.inside.procs c.self.inside.parts.items c.self.inside.ports c.self.inside.waits c.self.inside.names c.self.inside.sections c.self.inside.tokens c.self.inside.token_names c.self.inside.marks) c.self.invariant.kept.named (record { number = c.args.pid; maker = c.args.maker; birth = c.args.birth; token = c.args.token.now; debug_port = None; exception_port = None; doom = None }) (new_part c.args.pid) (c.self.inside.procs.process_room - 1) refl refl refl));
  lived = rw (c.add_process.ensures.table, c.add.ensures.items, c.suspect_process.ensures) (λ calm. lived.began-to (rows_by (tables_of c.self.inside.procs c.self.inside.parts.items c.self.inside.ports c.self.inside.waits c.self.inside.names c.self.inside.sections c.self.inside.tokens c.self.inside.token_names c.self.inside.marks)) c.self.inside.lives c.self.invariant.lived _ (shown_process (record { number = c.args.pid; maker = c.args.maker; birth = c.args.birth; token = c.args.token.now; debug_port = None; exception_port = None; doom = None })) (changes.adds_process (tables_of c.self.inside.procs c.self.inside.parts.items c.self.inside.ports c.self.inside.waits c.self.inside.names c.self.inside.sections c.self.inside.tokens c.self.inside.token_names c.self.inside.marks) c.self.invariant.kept.named (record { number = c.args.pid; maker = c.args.maker; birth = c.args.birth; token = c.args.token.now; debug_port = None; exception_port = None; doom = None }) (new_part c.args.pid) (c.self.inside.procs.process_room - 1) refl refl refl) calm);
}

pub returns-clause-room : goal.returns-clause-room
returns-clause-room c =
    let there = rw (← c.self.view_is) at c.requires in
    let part = new_part c.args.pid in
    rw (← c.self.view_is, c.add_process.ensures.table, c.add.ensures.items, push-map room_of_part c.self.inside.parts.items part, push-map view_room_of c.self.inside.parts.items part)
    (record {
      for_processes = rooms.min_less _ _ _ _ there.room refl (let left = c.add.ensures.room in let some = there.room in omega (arith, left, some));
      for_threads = omega arith;
      for_waits = omega arith;
      for_messages = omega arith;
      for_ports = omega arith;
      for_names = omega arith;
      for_sections = omega arith;
      for_tokens = omega arith;
      for_token_names = omega arith;
      for_handles = rooms.handles_more _ _;
      for_views = rooms.handles_more _ _;
    })

pub returns-clause-made : goal.returns-clause-made
returns-clause-made c =
    let owed = steps.process_owed (tables_of c.self.inside.procs c.self.inside.parts.items c.self.inside.ports c.self.inside.waits c.self.inside.names c.self.inside.sections c.self.inside.tokens c.self.inside.token_names c.self.inside.marks) c.self.inside.calls c.self.inside.made c.self.invariant.kept (record { number = c.args.pid; maker = c.args.maker; birth = c.args.birth; token = c.args.token.now; debug_port = None; exception_port = None; doom = None }) (new_part c.args.pid) (c.self.inside.procs.process_room - 1) refl refl refl in
    rw (← c.self.view_is, c.add_process.ensures.table, c.add.ensures.items) (omega (arith, owed))
