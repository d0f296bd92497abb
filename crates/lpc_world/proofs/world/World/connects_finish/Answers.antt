use Rattle.std.proofs.Common.{ℕ, refl, ap, sym, ◌∙◌, arith}
use Rattle.lpc_model.specs.Basics.{AddsHandle, basic, left_by}
use Rattle.lpc_model.specs.Found.{free_handle}
use Rattle.lpc_model.specs.World.{World}
use Rattle.lpc_rows.specs.Kept.{rows_by}
use Rattle.lpc_rows.specs.Shown.{birth_of, births_of, shown_handle, tables_of}
use Rattle.lpc_rows.proofs.Finished as finished
use Rattle.lpc_rows.proofs.Steps as steps
use Rattle.lpc_rows.proofs.Tables as tables
use Rattle.std.specs.Prelude.{Ok}
use Rattle.lpc_rows.proofs.Capacities as capacities
use Rattle.lpc_rows.proofs.Suspecting as suspecting
use Rattle.lpc_rows.proofs.Lived as lived
use Rattle.std.proofs.Common.{subst}
use Rattle.lpc_rows.specs.Suspects.{AreLivesWatched}
use Rattle.lpc_world.proofs.world.World.connects_finish.Goals as goal

pub add_handle-requires-clause-one : goal.add_handle-requires-clause-one
add_handle-requires-clause-one c = tables.single (tables_of c.self.inside.procs c.self.inside.parts.items c.self.inside.ports c.self.inside.waits c.self.inside.names c.self.inside.sections c.self.inside.tokens c.self.inside.token_names c.self.inside.marks) c.self.inside.calls c.self.inside.made c.self.invariant.kept

pub add_handle-requires-clause-part : goal.add_handle-requires-clause-part
add_handle-requires-clause-part c =
    let there = rw (← c.self.view_is) at c.requires in
    let own = rw (← c.self.view_is) at c.waiting-wait.ensures.wait.process in
    finished.has_part (tables_of c.self.inside.procs c.self.inside.parts.items c.self.inside.ports c.self.inside.waits c.self.inside.names c.self.inside.sections c.self.inside.tokens c.self.inside.token_names c.self.inside.marks) c.self.inside.calls c.self.inside.made c.self.invariant.kept c.args.tid c.waiting-wait.result.process there.waits there.connect own

pub add_handle-requires-clause-room : goal.add_handle-requires-clause-room
add_handle-requires-clause-room c =
    let there = rw (← c.self.view_is) at c.requires in
    let own = rw (← c.self.view_is) at c.waiting-wait.ensures.wait.process in
    λ few. finished.some_place (tables_of c.self.inside.procs c.self.inside.parts.items c.self.inside.ports c.self.inside.waits c.self.inside.names c.self.inside.sections c.self.inside.tokens c.self.inside.token_names c.self.inside.marks) c.self.inside.calls c.self.inside.made c.self.invariant.kept c.args.tid c.waiting-wait.result.process there.waits there.connect own

pub invariant_of-self : goal.invariant_of-self
invariant_of-self c = record {
  kept =
      let there = rw (← c.self.view_is) at c.requires in
      let own = rw (← c.self.view_is) at c.waiting-wait.ensures.wait.process in
      rw (c.in-Ok.ensures.parts, c.remove.ensures, steps.end_is (tables_of c.self.inside.procs c.self.inside.parts.items c.self.inside.ports c.self.inside.waits c.self.inside.names c.self.inside.sections c.self.inside.tokens c.self.inside.token_names c.self.inside.marks) c.self.inside.calls c.self.inside.made c.self.invariant.kept c.args.tid c.end-ended.new.self c.end-ended.result c.end-ended.ensures.value c.end-ended.ensures.rows c.end-ended.ensures.spare c.end-ended.ensures.made)
      (finished.finished (tables_of c.self.inside.procs c.self.inside.parts.items c.self.inside.ports c.self.inside.waits c.self.inside.names c.self.inside.sections c.self.inside.tokens c.self.inside.token_names c.self.inside.marks) c.self.inside.calls c.self.inside.made c.self.invariant.kept c.args.tid c.waiting-wait.result.process there.waits there.connect own c.in-Ok.value (record { object = c.args.object; access = c.args.access }) there.object there.left there.budget);
  watched = let own = suspecting.given-to (tables_of c.self.inside.procs c.self.inside.parts.items c.self.inside.ports c.self.inside.waits c.self.inside.names c.self.inside.sections c.self.inside.tokens c.self.inside.token_names c.self.inside.marks) c.self.inside.calls c.self.inside.made c.self.invariant.kept c.self.inside.suspects c.self.invariant.watched c.waiting-wait.result.process c.in-Ok.value (record { object = c.args.object; access = c.args.access }) (basic (rows_by (tables_of c.self.inside.procs c.self.inside.parts.items c.self.inside.ports c.self.inside.waits c.self.inside.names c.self.inside.sections c.self.inside.tokens c.self.inside.token_names c.self.inside.marks)) (AddsHandle c.waiting-wait.result.process (shown_handle (birth_of (births_of (tables_of c.self.inside.procs c.self.inside.parts.items c.self.inside.ports c.self.inside.waits c.self.inside.names c.self.inside.sections c.self.inside.tokens c.self.inside.token_names c.self.inside.marks))) (c.in-Ok.value, (record { object = c.args.object; access = c.args.access }))))) c.in-Ok.ensures.value refl in let here = rw (← c.self.view_is) at c.requires in let home = rw (← c.self.view_is) at c.waiting-wait.ensures.wait.process in rw (c.in-Ok.ensures.parts, steps.end_is (tables_of c.self.inside.procs c.self.inside.parts.items c.self.inside.ports c.self.inside.waits c.self.inside.names c.self.inside.sections c.self.inside.tokens c.self.inside.token_names c.self.inside.marks) c.self.inside.calls c.self.inside.made c.self.invariant.kept c.args.tid c.end-ended.new.self c.end-ended.result c.end-ended.ensures.value c.end-ended.ensures.rows c.end-ended.ensures.spare c.end-ended.ensures.made, c.add_some.ensures, c.port_of.ensures) (suspecting.ended-to (tables_of c.self.inside.procs c.self.inside.parts.items c.self.inside.ports c.self.inside.waits c.self.inside.names c.self.inside.sections c.self.inside.tokens c.self.inside.token_names c.self.inside.marks) c.self.invariant.kept.named c.self.invariant.kept.lawful.single (basic (rows_by (tables_of c.self.inside.procs c.self.inside.parts.items c.self.inside.ports c.self.inside.waits c.self.inside.names c.self.inside.sections c.self.inside.tokens c.self.inside.token_names c.self.inside.marks)) (AddsHandle c.waiting-wait.result.process (shown_handle (birth_of (births_of (tables_of c.self.inside.procs c.self.inside.parts.items c.self.inside.ports c.self.inside.waits c.self.inside.names c.self.inside.sections c.self.inside.tokens c.self.inside.token_names c.self.inside.marks))) (c.in-Ok.value, (record { object = c.args.object; access = c.args.access }))))) refl c.self.inside.suspects own c.args.tid _ c.end-ended.result c.end-ended.ensures.value (finished.rows_after (tables_of c.self.inside.procs c.self.inside.parts.items c.self.inside.ports c.self.inside.waits c.self.inside.names c.self.inside.sections c.self.inside.tokens c.self.inside.token_names c.self.inside.marks) c.self.inside.calls c.self.inside.made c.self.invariant.kept c.args.tid c.waiting-wait.result.process here.waits here.connect home c.in-Ok.value (record { object = c.args.object; access = c.args.access }) here.object));
  lived = let here = rw (← c.self.view_is) at c.requires in let home = rw (← c.self.view_is) at c.waiting-wait.ensures.wait.process in rw (c.in-Ok.ensures.parts, c.remove.ensures, steps.end_is (tables_of c.self.inside.procs c.self.inside.parts.items c.self.inside.ports c.self.inside.waits c.self.inside.names c.self.inside.sections c.self.inside.tokens c.self.inside.token_names c.self.inside.marks) c.self.inside.calls c.self.inside.made c.self.invariant.kept c.args.tid c.end-ended.new.self c.end-ended.result c.end-ended.ensures.value c.end-ended.ensures.rows c.end-ended.ensures.spare c.end-ended.ensures.made) (λ calm. subst (λ w. AreLivesWatched w c.self.inside.lives) (sym (finished.rows_after (tables_of c.self.inside.procs c.self.inside.parts.items c.self.inside.ports c.self.inside.waits c.self.inside.names c.self.inside.sections c.self.inside.tokens c.self.inside.token_names c.self.inside.marks) c.self.inside.calls c.self.inside.made c.self.invariant.kept c.args.tid c.waiting-wait.result.process here.waits here.connect home c.in-Ok.value (record { object = c.args.object; access = c.args.access }) here.object)) (let held = lived.given-to (tables_of c.self.inside.procs c.self.inside.parts.items c.self.inside.ports c.self.inside.waits c.self.inside.names c.self.inside.sections c.self.inside.tokens c.self.inside.token_names c.self.inside.marks) c.self.inside.calls c.self.inside.made c.self.invariant.kept (c.self.invariant.lived calm) c.waiting-wait.result.process c.in-Ok.value (record { object = c.args.object; access = c.args.access }) (basic (rows_by (tables_of c.self.inside.procs c.self.inside.parts.items c.self.inside.ports c.self.inside.waits c.self.inside.names c.self.inside.sections c.self.inside.tokens c.self.inside.token_names c.self.inside.marks)) (AddsHandle c.waiting-wait.result.process (shown_handle (birth_of (births_of (tables_of c.self.inside.procs c.self.inside.parts.items c.self.inside.ports c.self.inside.waits c.self.inside.names c.self.inside.sections c.self.inside.tokens c.self.inside.token_names c.self.inside.marks))) (c.in-Ok.value, (record { object = c.args.object; access = c.args.access }))))) c.in-Ok.ensures.value refl in record { threads = held.threads; processes = held.processes }));
}

pub unreachable-requires : goal.unreachable-requires
unreachable-requires c =
    let there = rw (← c.self.view_is) at c.requires in
    let own = rw (← c.self.view_is) at c.waiting-wait.ensures.wait.process in
    let few = finished.few_handles (tables_of c.self.inside.procs c.self.inside.parts.items c.self.inside.ports c.self.inside.waits c.self.inside.names c.self.inside.sections c.self.inside.tokens c.self.inside.token_names c.self.inside.marks) c.self.inside.calls c.self.inside.made c.self.invariant.kept c.args.tid c.waiting-wait.result.process there.waits there.connect own in
    let full = c.in-Err.ensures.quota.0 refl in
    omega (arith, few, full)

pub returns-clause-value : goal.returns-clause-value
returns-clause-value c =
    let own = rw (← c.self.view_is) at c.waiting-wait.ensures.wait.process in
    rw (← c.self.view_is) (c.in-Ok.ensures.value ∙ sym (tables.free_value (tables_of c.self.inside.procs c.self.inside.parts.items c.self.inside.ports c.self.inside.waits c.self.inside.names c.self.inside.sections c.self.inside.tokens c.self.inside.token_names c.self.inside.marks) c.self.inside.calls c.self.inside.made c.self.invariant.kept c.waiting-wait.result.process) ∙ ap (free_handle (rows_by (tables_of c.self.inside.procs c.self.inside.parts.items c.self.inside.ports c.self.inside.waits c.self.inside.names c.self.inside.sections c.self.inside.tokens c.self.inside.token_names c.self.inside.marks))) (sym own))

pub returns-clause-rows : goal.returns-clause-rows
returns-clause-rows c =
    let there = rw (← c.self.view_is) at c.requires in
    let own = rw (← c.self.view_is) at c.waiting-wait.ensures.wait.process in
    let given : World = rows_by (tables_of c.self.inside.procs c.self.inside.parts.items c.self.inside.ports c.self.inside.waits c.self.inside.names c.self.inside.sections c.self.inside.tokens c.self.inside.token_names c.self.inside.marks) in
    rw (← c.self.view_is, c.in-Ok.ensures.parts, c.remove.ensures, steps.end_is (tables_of c.self.inside.procs c.self.inside.parts.items c.self.inside.ports c.self.inside.waits c.self.inside.names c.self.inside.sections c.self.inside.tokens c.self.inside.token_names c.self.inside.marks) c.self.inside.calls c.self.inside.made c.self.invariant.kept c.args.tid c.end-ended.new.self c.end-ended.result c.end-ended.ensures.value c.end-ended.ensures.rows c.end-ended.ensures.spare c.end-ended.ensures.made)
    (finished.rows_after (tables_of c.self.inside.procs c.self.inside.parts.items c.self.inside.ports c.self.inside.waits c.self.inside.names c.self.inside.sections c.self.inside.tokens c.self.inside.token_names c.self.inside.marks) c.self.inside.calls c.self.inside.made c.self.invariant.kept c.args.tid c.waiting-wait.result.process there.waits there.connect own c.in-Ok.value (record { object = c.args.object; access = c.args.access }) there.object ∙ ap (λ (pid : ℕ). left_by c.args.tid (basic given (AddsHandle pid (shown_handle (birth_of (births_of (tables_of c.self.inside.procs c.self.inside.parts.items c.self.inside.ports c.self.inside.waits c.self.inside.names c.self.inside.sections c.self.inside.tokens c.self.inside.token_names c.self.inside.marks))) (c.in-Ok.value, (record { object = c.args.object; access = c.args.access })))))) (sym own))

pub returns-clause-made : goal.returns-clause-made
returns-clause-made c =
    let there = rw (← c.self.view_is) at c.requires in
    let own = rw (← c.self.view_is) at c.waiting-wait.ensures.wait.process in
    let owed = finished.finished_owed (tables_of c.self.inside.procs c.self.inside.parts.items c.self.inside.ports c.self.inside.waits c.self.inside.names c.self.inside.sections c.self.inside.tokens c.self.inside.token_names c.self.inside.marks) c.self.inside.calls c.self.inside.made c.self.invariant.kept c.args.tid c.waiting-wait.result.process there.waits there.connect own c.in-Ok.value (record { object = c.args.object; access = c.args.access }) there.object in
    rw (← c.self.view_is, c.in-Ok.ensures.parts, c.remove.ensures, steps.end_is (tables_of c.self.inside.procs c.self.inside.parts.items c.self.inside.ports c.self.inside.waits c.self.inside.names c.self.inside.sections c.self.inside.tokens c.self.inside.token_names c.self.inside.marks) c.self.inside.calls c.self.inside.made c.self.invariant.kept c.args.tid c.end-ended.new.self c.end-ended.result c.end-ended.ensures.value c.end-ended.ensures.rows c.end-ended.ensures.spare c.end-ended.ensures.made) (omega (arith, owed))

pub returns-clause-capacity : goal.returns-clause-capacity
returns-clause-capacity c =
    let there = rw (← c.self.view_is) at c.requires in
    let own = rw (← c.self.view_is) at c.waiting-wait.ensures.wait.process in
    let place = finished.some_place (tables_of c.self.inside.procs c.self.inside.parts.items c.self.inside.ports c.self.inside.waits c.self.inside.names c.self.inside.sections c.self.inside.tokens c.self.inside.token_names c.self.inside.marks) c.self.inside.calls c.self.inside.made c.self.invariant.kept c.args.tid c.waiting-wait.result.process there.waits there.connect own in
    let held = capacities.handed_or_same c.waiting-wait.result.process (record { object = c.args.object; access = c.args.access }) (Ok c.in-Ok.value) c.self.inside.parts.items c.add_handle.new.self.items (tables.single (tables_of c.self.inside.procs c.self.inside.parts.items c.self.inside.ports c.self.inside.waits c.self.inside.names c.self.inside.sections c.self.inside.tokens c.self.inside.token_names c.self.inside.marks) c.self.inside.calls c.self.inside.made c.self.invariant.kept) c.in-Ok.ensures.value c.in-Ok.ensures.parts tt place in
    let left = capacities.ended (tables_of c.self.inside.procs c.self.inside.parts.items c.self.inside.ports c.self.inside.waits c.self.inside.names c.self.inside.sections c.self.inside.tokens c.self.inside.token_names c.self.inside.marks) c.self.inside.calls c.self.inside.made c.self.invariant.kept c.args.tid c.end-ended.new.self (steps.end_is (tables_of c.self.inside.procs c.self.inside.parts.items c.self.inside.ports c.self.inside.waits c.self.inside.names c.self.inside.sections c.self.inside.tokens c.self.inside.token_names c.self.inside.marks) c.self.inside.calls c.self.inside.made c.self.invariant.kept c.args.tid c.end-ended.new.self c.end-ended.result c.end-ended.ensures.value c.end-ended.ensures.rows c.end-ended.ensures.spare c.end-ended.ensures.made) in
    rw (← c.self.view_is, c.add_handle.ensures.kept)
    (capacities.of_waits (record (tables_of c.self.inside.procs c.self.inside.parts.items c.self.inside.ports c.self.inside.waits c.self.inside.names c.self.inside.sections c.self.inside.tokens c.self.inside.token_names c.self.inside.marks) { parts = c.add_handle.new.self.items }) c.self.inside.parts.room c.end-ended.new.self left ∙ capacities.of_handles (tables_of c.self.inside.procs c.self.inside.parts.items c.self.inside.ports c.self.inside.waits c.self.inside.names c.self.inside.sections c.self.inside.tokens c.self.inside.token_names c.self.inside.marks) c.self.inside.parts.room c.add_handle.new.self.items held (capacities.handed_views c.waiting-wait.result.process (record { object = c.args.object; access = c.args.access }) (Ok c.in-Ok.value) c.self.inside.parts.items c.add_handle.new.self.items c.in-Ok.ensures.parts tt))
