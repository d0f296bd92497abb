use Rattle.std.proofs.Common.{refl, arith}
use Rattle.std.proofs.Common.{◌+◌, cond, ap, sym, ◌∙◌}
use Rattle.std.specs.Prelude.{is_some}
use Rattle.lpc_base.specs.Rows.{has}
use Rattle.lpc_model.specs.World.{World}
use Rattle.lpc_model.specs.Found.{waits_as}
use Rattle.lpc_waits.specs.Table as waits
use Rattle.lpc_waits.specs.Table.{WaitingThread, row_of}
use Rattle.lpc_rows.specs.Shown.{tables_of}
use Rattle.lpc_rows.specs.Kept.{rows_by}
use Rattle.lpc_rows.proofs.Changes as changes
use Rattle.lpc_rows.proofs.Lawful.{owed-left}
use Rattle.lpc_rows.proofs.Readings as readings
use Rattle.lpc_rows.proofs.Rooms as rooms
use Rattle.lpc_rows.proofs.Steps as steps
use Rattle.lpc_base.proofs.RowWords.{has_none-without}
use Rattle.lpc_base.proofs.RowMaps.{some-map}
use Rattle.lpc_rows.proofs.Capacities as capacities
use Rattle.lpc_rows.proofs.Suspecting as suspecting
use Rattle.lpc_world.proofs.world.World.waits_end.Goals as goal

pub invariant_of-self : goal.invariant_of-self
invariant_of-self c = record {
  kept =
      rw (c.remove.ensures, steps.end_is (tables_of c.self.inside.procs c.self.inside.parts.items c.self.inside.ports c.self.inside.waits c.self.inside.names c.self.inside.sections c.self.inside.tokens c.self.inside.token_names c.self.inside.marks) c.self.inside.calls c.self.inside.made c.self.invariant.kept c.args.tid c.end-ended.new.self c.end-ended.result c.end-ended.ensures.value c.end-ended.ensures.rows c.end-ended.ensures.spare c.end-ended.ensures.made) (steps.ended (tables_of c.self.inside.procs c.self.inside.parts.items c.self.inside.ports c.self.inside.waits c.self.inside.names c.self.inside.sections c.self.inside.tokens c.self.inside.token_names c.self.inside.marks) c.self.inside.calls c.self.inside.made c.self.invariant.kept c.args.tid (rw (← c.self.view_is) at c.requires));
  watched = rw (steps.end_is (tables_of c.self.inside.procs c.self.inside.parts.items c.self.inside.ports c.self.inside.waits c.self.inside.names c.self.inside.sections c.self.inside.tokens c.self.inside.token_names c.self.inside.marks) c.self.inside.calls c.self.inside.made c.self.invariant.kept c.args.tid c.end-ended.new.self c.end-ended.result c.end-ended.ensures.value c.end-ended.ensures.rows c.end-ended.ensures.spare c.end-ended.ensures.made, c.add_some.ensures, c.port_of.ensures) (suspecting.ended-to (tables_of c.self.inside.procs c.self.inside.parts.items c.self.inside.ports c.self.inside.waits c.self.inside.names c.self.inside.sections c.self.inside.tokens c.self.inside.token_names c.self.inside.marks) c.self.invariant.kept.named c.self.invariant.kept.lawful.single (rows_by (tables_of c.self.inside.procs c.self.inside.parts.items c.self.inside.ports c.self.inside.waits c.self.inside.names c.self.inside.sections c.self.inside.tokens c.self.inside.token_names c.self.inside.marks)) refl c.self.inside.suspects c.self.invariant.watched c.args.tid _ c.end-ended.result c.end-ended.ensures.value (changes.ends (tables_of c.self.inside.procs c.self.inside.parts.items c.self.inside.ports c.self.inside.waits c.self.inside.names c.self.inside.sections c.self.inside.tokens c.self.inside.token_names c.self.inside.marks) c.self.invariant.kept.named c.args.tid (cond (has (waits.is_of c.args.tid) c.self.inside.waits.rows) (c.self.inside.waits.spare + 1) c.self.inside.waits.spare) c.self.inside.waits.made));
  lived = λ calm. let held = c.self.invariant.lived calm in record { threads = held.threads; processes = held.processes };
}

pub returns-clause-still : goal.returns-clause-still
returns-clause-still c =
    let spare = cond (has (waits.is_of c.args.tid) c.self.inside.waits.rows) (c.self.inside.waits.spare + 1) c.self.inside.waits.spare in
    rw (← c.self.view_is, c.remove.ensures, steps.end_is (tables_of c.self.inside.procs c.self.inside.parts.items c.self.inside.ports c.self.inside.waits c.self.inside.names c.self.inside.sections c.self.inside.tokens c.self.inside.token_names c.self.inside.marks) c.self.inside.calls c.self.inside.made c.self.invariant.kept c.args.tid c.end-ended.new.self c.end-ended.result c.end-ended.ensures.value c.end-ended.ensures.rows c.end-ended.ensures.spare c.end-ended.ensures.made, ap (λ (v : World). v.waits) (changes.ends (tables_of c.self.inside.procs c.self.inside.parts.items c.self.inside.ports c.self.inside.waits c.self.inside.names c.self.inside.sections c.self.inside.tokens c.self.inside.token_names c.self.inside.marks) c.self.invariant.kept.named c.args.tid spare c.self.inside.waits.made))
    (record { ready = λ tid none. has_none-without (waits_as tid) (waits_as c.args.tid) (rows_by (tables_of c.self.inside.procs c.self.inside.parts.items c.self.inside.ports c.self.inside.waits c.self.inside.names c.self.inside.sections c.self.inside.tokens c.self.inside.token_names c.self.inside.marks)).waits none })

pub returns-clause-some : goal.returns-clause-some
returns-clause-some c =
    rw (← c.self.view_is) (ap is_some c.end-ended.ensures.value ∙ some-map (λ (r : WaitingThread). r.wait) (row_of c.self.inside.waits c.args.tid) ∙ sym (readings.waits_are (tables_of c.self.inside.procs c.self.inside.parts.items c.self.inside.ports c.self.inside.waits c.self.inside.names c.self.inside.sections c.self.inside.tokens c.self.inside.token_names c.self.inside.marks) c.self.invariant.kept.named c.args.tid))

pub returns-clause-wait : goal.returns-clause-wait
returns-clause-wait c =
    rw (← c.self.view_is) (readings.wait_if (tables_of c.self.inside.procs c.self.inside.parts.items c.self.inside.ports c.self.inside.waits c.self.inside.names c.self.inside.sections c.self.inside.tokens c.self.inside.token_names c.self.inside.marks) c.self.invariant.kept.named c.self.inside.parts.room c.self.inside.calls c.self.inside.made c.self.inside.loose c.args.tid c.end-ended.result c.end-ended.ensures.value)

pub returns-clause-step : goal.returns-clause-step
returns-clause-step c = record {
  rows = rw (← c.self.view_is, c.remove.ensures, steps.end_is (tables_of c.self.inside.procs c.self.inside.parts.items c.self.inside.ports c.self.inside.waits c.self.inside.names c.self.inside.sections c.self.inside.tokens c.self.inside.token_names c.self.inside.marks) c.self.inside.calls c.self.inside.made c.self.invariant.kept c.args.tid c.end-ended.new.self c.end-ended.result c.end-ended.ensures.value c.end-ended.ensures.rows c.end-ended.ensures.spare c.end-ended.ensures.made) (changes.ends (tables_of c.self.inside.procs c.self.inside.parts.items c.self.inside.ports c.self.inside.waits c.self.inside.names c.self.inside.sections c.self.inside.tokens c.self.inside.token_names c.self.inside.marks) c.self.invariant.kept.named c.args.tid (cond (has (waits.is_of c.args.tid) c.self.inside.waits.rows) (c.self.inside.waits.spare + 1) c.self.inside.waits.spare) c.self.inside.waits.made);
  births = rw (← c.self.view_is) refl;
  calls = rw (← c.self.view_is) refl;
  made =
      let less = owed-left (waits_as c.args.tid) (rows_by (tables_of c.self.inside.procs c.self.inside.parts.items c.self.inside.ports c.self.inside.waits c.self.inside.names c.self.inside.sections c.self.inside.tokens c.self.inside.token_names c.self.inside.marks)).waits in
      let spare = cond (has (waits.is_of c.args.tid) c.self.inside.waits.rows) (c.self.inside.waits.spare + 1) c.self.inside.waits.spare in
      rw (← c.self.view_is, c.remove.ensures, steps.end_is (tables_of c.self.inside.procs c.self.inside.parts.items c.self.inside.ports c.self.inside.waits c.self.inside.names c.self.inside.sections c.self.inside.tokens c.self.inside.token_names c.self.inside.marks) c.self.inside.calls c.self.inside.made c.self.invariant.kept c.args.tid c.end-ended.new.self c.end-ended.result c.end-ended.ensures.value c.end-ended.ensures.rows c.end-ended.ensures.spare c.end-ended.ensures.made, ap (λ (v : World). v.waits) (changes.ends (tables_of c.self.inside.procs c.self.inside.parts.items c.self.inside.ports c.self.inside.waits c.self.inside.names c.self.inside.sections c.self.inside.tokens c.self.inside.token_names c.self.inside.marks) c.self.invariant.kept.named c.args.tid spare c.self.inside.waits.made)) (omega (arith, less));
  counted = rw (← c.self.view_is) (omega arith);
  room = let spare = cond (has (waits.is_of c.args.tid) c.self.inside.waits.rows) (c.self.inside.waits.spare + 1) c.self.inside.waits.spare in
      rw (← c.self.view_is, c.remove.ensures, steps.end_is (tables_of c.self.inside.procs c.self.inside.parts.items c.self.inside.ports c.self.inside.waits c.self.inside.names c.self.inside.sections c.self.inside.tokens c.self.inside.token_names c.self.inside.marks) c.self.inside.calls c.self.inside.made c.self.invariant.kept c.args.tid c.end-ended.new.self c.end-ended.result c.end-ended.ensures.value c.end-ended.ensures.rows c.end-ended.ensures.spare c.end-ended.ensures.made, ap (λ (v : World). v.waits) (changes.ends (tables_of c.self.inside.procs c.self.inside.parts.items c.self.inside.ports c.self.inside.waits c.self.inside.names c.self.inside.sections c.self.inside.tokens c.self.inside.token_names c.self.inside.marks) c.self.invariant.kept.named c.args.tid spare c.self.inside.waits.made), ← steps.has_wait (tables_of c.self.inside.procs c.self.inside.parts.items c.self.inside.ports c.self.inside.waits c.self.inside.names c.self.inside.sections c.self.inside.tokens c.self.inside.token_names c.self.inside.marks) c.self.inside.calls c.self.inside.made c.self.invariant.kept c.args.tid)
      (rooms.room_end _ _ _ _ _ _ _ _ _ _ _ (rows_by (tables_of c.self.inside.procs c.self.inside.parts.items c.self.inside.ports c.self.inside.waits c.self.inside.names c.self.inside.sections c.self.inside.tokens c.self.inside.token_names c.self.inside.marks)) _ c.args.tid c.self.invariant.kept.lawful.single);
}

pub returns-clause-capacity : goal.returns-clause-capacity
returns-clause-capacity c =
    rw (← c.self.view_is)
    (capacities.of_waits (tables_of c.self.inside.procs c.self.inside.parts.items c.self.inside.ports c.self.inside.waits c.self.inside.names c.self.inside.sections c.self.inside.tokens c.self.inside.token_names c.self.inside.marks) c.self.inside.parts.room c.end-ended.new.self (capacities.ended (tables_of c.self.inside.procs c.self.inside.parts.items c.self.inside.ports c.self.inside.waits c.self.inside.names c.self.inside.sections c.self.inside.tokens c.self.inside.token_names c.self.inside.marks) c.self.inside.calls c.self.inside.made c.self.invariant.kept c.args.tid c.end-ended.new.self (steps.end_is (tables_of c.self.inside.procs c.self.inside.parts.items c.self.inside.ports c.self.inside.waits c.self.inside.names c.self.inside.sections c.self.inside.tokens c.self.inside.token_names c.self.inside.marks) c.self.inside.calls c.self.inside.made c.self.invariant.kept c.args.tid c.end-ended.new.self c.end-ended.result c.end-ended.ensures.value c.end-ended.ensures.rows c.end-ended.ensures.spare c.end-ended.ensures.made)))
