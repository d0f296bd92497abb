use Rattle.std.proofs.Common.{ℕ, ◌≡◌, ◌≤◌, ◌<◌, ◌↔◌, Result, Ok, Err, OnOk, length, sym, ◌∙◌, arith}
use Rattle.std.specs.Prelude.{IsErr}
use Rattle.lpc_model.specs.Found.{handles_of}
use Rattle.lpc_rows.specs.Kept.{rows_by}
use Rattle.lpc_homes.specs.Parts.{rows_at}
use Rattle.lpc_rows.specs.Shown.{tables_of}
use Rattle.lpc_rows.proofs.Tables as tables
use Rattle.lpc_rows.proofs.Capacities as capacities
use Rattle.lpc_rows.proofs.Suspecting as suspecting
use Rattle.lpc_rows.proofs.Lived as lived
use Rattle.lpc_world.proofs.world.World.handles_add.Goals as goal

on-few : {A B : Type 0} {P : Type 0} (r : Result A B) (n : ℕ) → (IsErr r ↔ (n ≡ 256)) → n ≤ 256 → (n < 256 → P) → OnOk r P
on-few (Ok a) n quota most p = p (grind arith)
on-few (Err e) n quota most p = tt

pub add_handle-requires-clause-one : goal.add_handle-requires-clause-one
add_handle-requires-clause-one c = tables.single (tables_of c.self.inside.procs c.self.inside.parts.items c.self.inside.ports c.self.inside.waits c.self.inside.names c.self.inside.sections c.self.inside.tokens c.self.inside.token_names c.self.inside.marks) c.self.inside.calls c.self.inside.made c.self.invariant.kept

pub add_handle-requires-clause-part : goal.add_handle-requires-clause-part
add_handle-requires-clause-part c = sym (tables.has_table (tables_of c.self.inside.procs c.self.inside.parts.items c.self.inside.ports c.self.inside.waits c.self.inside.names c.self.inside.sections c.self.inside.tokens c.self.inside.token_names c.self.inside.marks) c.self.inside.calls c.self.inside.made c.self.invariant.kept c.args.pid) ∙ (rw (← c.self.view_is) at c.requires.table)

pub add_handle-requires-clause-room : goal.add_handle-requires-clause-room
add_handle-requires-clause-room c =
    let some = rw (← c.self.view_is, tables.room_at c.self.inside.parts.items c.args.pid) at c.requires.room in
    let number = tables.handle_number (tables_of c.self.inside.procs c.self.inside.parts.items c.self.inside.ports c.self.inside.waits c.self.inside.names c.self.inside.sections c.self.inside.tokens c.self.inside.token_names c.self.inside.marks) c.self.inside.calls c.self.inside.made c.self.invariant.kept c.args.pid in
    λ few. omega (arith, some (omega (arith, number, few)))

pub invariant_of-self : goal.invariant_of-self
invariant_of-self c = record {
  kept =
      tables.handed_or_same (tables_of c.self.inside.procs c.self.inside.parts.items c.self.inside.ports c.self.inside.waits c.self.inside.names c.self.inside.sections c.self.inside.tokens c.self.inside.token_names c.self.inside.marks) c.self.inside.calls c.self.inside.made c.self.invariant.kept c.args.pid (record { object = c.args.object; access = c.args.access }) c.add_handle.result c.add_handle.new.self.items (rw (← c.self.view_is) at c.requires.object) c.add_handle.ensures.parts c.add_handle.ensures.same (rw (← c.self.view_is) at c.requires.budget)
      (let there = rw (← c.self.view_is) at c.requires in
      let number = tables.handle_number (tables_of c.self.inside.procs c.self.inside.parts.items c.self.inside.ports c.self.inside.waits c.self.inside.names c.self.inside.sections c.self.inside.tokens c.self.inside.token_names c.self.inside.marks) c.self.inside.calls c.self.inside.made c.self.invariant.kept c.args.pid in
      let bound = tables.load_bound (tables_of c.self.inside.procs c.self.inside.parts.items c.self.inside.ports c.self.inside.waits c.self.inside.names c.self.inside.sections c.self.inside.tokens c.self.inside.token_names c.self.inside.marks) c.self.inside.calls c.self.inside.made c.self.invariant.kept c.args.pid there.table in
      on-few c.add_handle.result (length (rows_at c.self.inside.parts.items c.args.pid)) c.add_handle.ensures.quota (omega (arith, number, bound)) (λ few.
      let fewer : length (handles_of (rows_by (tables_of c.self.inside.procs c.self.inside.parts.items c.self.inside.ports c.self.inside.waits c.self.inside.names c.self.inside.sections c.self.inside.tokens c.self.inside.token_names c.self.inside.marks)) c.args.pid) < 256 = omega (arith, number, few) in
      tables.welcome (tables_of c.self.inside.procs c.self.inside.parts.items c.self.inside.ports c.self.inside.waits c.self.inside.names c.self.inside.sections c.self.inside.tokens c.self.inside.token_names c.self.inside.marks) c.self.inside.calls c.self.inside.made c.self.invariant.kept c.args.pid there.table (there.load fewer) (there.room fewer)));
  watched = suspecting.handed-to (tables_of c.self.inside.procs c.self.inside.parts.items c.self.inside.ports c.self.inside.waits c.self.inside.names c.self.inside.sections c.self.inside.tokens c.self.inside.token_names c.self.inside.marks) c.self.inside.calls c.self.inside.made c.self.invariant.kept c.self.inside.suspects c.self.invariant.watched c.args.pid (record { object = c.args.object; access = c.args.access }) c.add_handle.result c.add_handle.new.self.items c.add_handle.ensures.value c.add_handle.ensures.parts c.add_handle.ensures.same;
  lived = λ calm. lived.handed-to (tables_of c.self.inside.procs c.self.inside.parts.items c.self.inside.ports c.self.inside.waits c.self.inside.names c.self.inside.sections c.self.inside.tokens c.self.inside.token_names c.self.inside.marks) c.self.inside.calls c.self.inside.made c.self.invariant.kept (c.self.invariant.lived calm) c.args.pid (record { object = c.args.object; access = c.args.access }) c.add_handle.result c.add_handle.new.self.items c.add_handle.ensures.value c.add_handle.ensures.parts c.add_handle.ensures.same;
}

pub returns-clause-quota : goal.returns-clause-quota
returns-clause-quota c = rw (← c.self.view_is, tables.handle_number (tables_of c.self.inside.procs c.self.inside.parts.items c.self.inside.ports c.self.inside.waits c.self.inside.names c.self.inside.sections c.self.inside.tokens c.self.inside.token_names c.self.inside.marks) c.self.inside.calls c.self.inside.made c.self.invariant.kept c.args.pid) c.add_handle.ensures.quota

pub returns-clause-value : goal.returns-clause-value
returns-clause-value c = rw (← c.self.view_is, tables.free_value (tables_of c.self.inside.procs c.self.inside.parts.items c.self.inside.ports c.self.inside.waits c.self.inside.names c.self.inside.sections c.self.inside.tokens c.self.inside.token_names c.self.inside.marks) c.self.inside.calls c.self.inside.made c.self.invariant.kept c.args.pid) c.add_handle.ensures.value

pub returns-clause-rows : goal.returns-clause-rows
returns-clause-rows c = rw (← c.self.view_is) (tables.hands_or_not (tables_of c.self.inside.procs c.self.inside.parts.items c.self.inside.ports c.self.inside.waits c.self.inside.names c.self.inside.sections c.self.inside.tokens c.self.inside.token_names c.self.inside.marks) c.self.inside.calls c.self.inside.made c.self.invariant.kept c.args.pid (record { object = c.args.object; access = c.args.access }) c.add_handle.result c.add_handle.new.self.items c.add_handle.ensures.parts)

pub returns-clause-made : goal.returns-clause-made
returns-clause-made c =
    let owed = tables.handed_owed (tables_of c.self.inside.procs c.self.inside.parts.items c.self.inside.ports c.self.inside.waits c.self.inside.names c.self.inside.sections c.self.inside.tokens c.self.inside.token_names c.self.inside.marks) c.self.inside.calls c.self.inside.made c.self.invariant.kept c.args.pid (record { object = c.args.object; access = c.args.access }) c.add_handle.result c.add_handle.new.self.items c.add_handle.ensures.parts c.add_handle.ensures.same in
    rw (← c.self.view_is) (omega (arith, owed))

pub returns-clause-places : goal.returns-clause-places
returns-clause-places c =
    rw (← c.self.view_is, tables.room_at c.self.inside.parts.items c.args.pid, tables.room_at c.add_handle.new.self.items c.args.pid)
    (tables.handed_spare (tables_of c.self.inside.procs c.self.inside.parts.items c.self.inside.ports c.self.inside.waits c.self.inside.names c.self.inside.sections c.self.inside.tokens c.self.inside.token_names c.self.inside.marks) c.self.inside.calls c.self.inside.made c.self.invariant.kept c.args.pid (record { object = c.args.object; access = c.args.access }) c.add_handle.result c.add_handle.new.self.items c.add_handle.ensures.parts c.add_handle.ensures.same)

pub returns-clause-capacity : goal.returns-clause-capacity
returns-clause-capacity c =
    let some = rw (← c.self.view_is, tables.room_at c.self.inside.parts.items c.args.pid) at c.requires.room in
    let number = tables.handle_number (tables_of c.self.inside.procs c.self.inside.parts.items c.self.inside.ports c.self.inside.waits c.self.inside.names c.self.inside.sections c.self.inside.tokens c.self.inside.token_names c.self.inside.marks) c.self.inside.calls c.self.inside.made c.self.invariant.kept c.args.pid in
    let bound = tables.load_bound (tables_of c.self.inside.procs c.self.inside.parts.items c.self.inside.ports c.self.inside.waits c.self.inside.names c.self.inside.sections c.self.inside.tokens c.self.inside.token_names c.self.inside.marks) c.self.inside.calls c.self.inside.made c.self.invariant.kept c.args.pid (rw (← c.self.view_is) at c.requires.table) in
    let place = on-few c.add_handle.result (length (rows_at c.self.inside.parts.items c.args.pid)) c.add_handle.ensures.quota (omega (arith, number, bound)) (λ few. omega (arith, some (omega (arith, number, few)))) in
    rw (← c.self.view_is, c.add_handle.ensures.kept)
    (capacities.of_handles (tables_of c.self.inside.procs c.self.inside.parts.items c.self.inside.ports c.self.inside.waits c.self.inside.names c.self.inside.sections c.self.inside.tokens c.self.inside.token_names c.self.inside.marks) c.self.inside.parts.room c.add_handle.new.self.items (capacities.handed_or_same c.args.pid (record { object = c.args.object; access = c.args.access }) c.add_handle.result c.self.inside.parts.items c.add_handle.new.self.items (tables.single (tables_of c.self.inside.procs c.self.inside.parts.items c.self.inside.ports c.self.inside.waits c.self.inside.names c.self.inside.sections c.self.inside.tokens c.self.inside.token_names c.self.inside.marks) c.self.inside.calls c.self.inside.made c.self.invariant.kept) c.add_handle.ensures.value c.add_handle.ensures.parts c.add_handle.ensures.same place) (capacities.handed_views c.args.pid (record { object = c.args.object; access = c.args.access }) c.add_handle.result c.self.inside.parts.items c.add_handle.new.self.items c.add_handle.ensures.parts c.add_handle.ensures.same))
