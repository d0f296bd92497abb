use Rattle.lpc_rows.proofs.Lawful.{owed-kept}
use Rattle.std.proofs.Common.{ap, arith, refl, rules, sym, ◌∙◌}
use Rattle.lpc_base.proofs.RowWords.{length-change}
use Rattle.lpc_model.specs.Basics.{received}
use Rattle.lpc_model.specs.Found.{waits_as}
use Rattle.lpc_model.specs.World.{World}
use Rattle.lpc_rows.specs.Names.{name_of}
use Rattle.lpc_rows.specs.Shown.{births_of, tables_of}
use Rattle.lpc_rows.specs.Kept.{owed_rows, rows_by}
use Rattle.lpc_rows.proofs.Changes as changes
use Rattle.lpc_rows.proofs.Connecting as connecting
use Rattle.lpc_rows.proofs.ReceivesAt as at
use Rattle.lpc_rows.proofs.Rooms as rooms
use Rattle.lpc_rows.proofs.Steps as steps
use Rattle.lpc_rows.proofs.Suspected as suspected
use Rattle.lpc_world.proofs.world.World.waits_receive.Goals as goal

pub receive-requires : goal.receive-requires
receive-requires c =
    let there = rw (← c.self.view_is) at (sym c.waits_on.ensures ∙ c.if-waits_on.true) in
    record { waits = connecting.has_its_row (tables_of c.self.inside.procs c.self.inside.parts.items c.self.inside.ports c.self.inside.waits c.self.inside.names c.self.inside.sections c.self.inside.tokens c.self.inside.token_names c.self.inside.marks) c.self.invariant.kept.named c.args.tid (at.waits_somewhere c.args.tid (name_of (births_of (tables_of c.self.inside.procs c.self.inside.parts.items c.self.inside.ports c.self.inside.waits c.self.inside.names c.self.inside.sections c.self.inside.tokens c.self.inside.token_names c.self.inside.marks)).ports c.args.queue) (rows_by (tables_of c.self.inside.procs c.self.inside.parts.items c.self.inside.ports c.self.inside.waits c.self.inside.names c.self.inside.sections c.self.inside.tokens c.self.inside.token_names c.self.inside.marks)).waits there) }

pub invariant_of-self : goal.invariant_of-self
invariant_of-self c = record {
  kept =
      let left = rw (← c.self.view_is) at c.requires.left in
      rw c.receive.ensures.table (steps.received (tables_of c.self.inside.procs c.self.inside.parts.items c.self.inside.ports c.self.inside.waits c.self.inside.names c.self.inside.sections c.self.inside.tokens c.self.inside.token_names c.self.inside.marks) c.self.inside.calls c.self.inside.made c.self.invariant.kept c.args.tid left);
  watched = rw (c.receive.ensures.table) (suspected.waits-to (rows_by (tables_of c.self.inside.procs c.self.inside.parts.items c.self.inside.ports c.self.inside.waits c.self.inside.names c.self.inside.sections c.self.inside.tokens c.self.inside.token_names c.self.inside.marks)) (births_of (tables_of c.self.inside.procs c.self.inside.parts.items c.self.inside.ports c.self.inside.waits c.self.inside.names c.self.inside.sections c.self.inside.tokens c.self.inside.token_names c.self.inside.marks)).ports c.self.inside.suspects c.self.invariant.watched _ (waits_as c.args.tid) received (λ x. refl) (changes.receives (tables_of c.self.inside.procs c.self.inside.parts.items c.self.inside.ports c.self.inside.waits c.self.inside.names c.self.inside.sections c.self.inside.tokens c.self.inside.token_names c.self.inside.marks) c.self.invariant.kept.named c.args.tid));
  lived = λ calm. let held = c.self.invariant.lived calm in record { threads = held.threads; processes = held.processes };
}

pub returns-then-waits_on-clause-step : goal.returns-then-waits_on-clause-step
returns-then-waits_on-clause-step c = record {
  rows = let there = rw (← c.self.view_is) at (sym c.waits_on.ensures ∙ c.if-waits_on.true) in
      rw (← c.self.view_is, c.receive.ensures.table) (changes.receives (tables_of c.self.inside.procs c.self.inside.parts.items c.self.inside.ports c.self.inside.waits c.self.inside.names c.self.inside.sections c.self.inside.tokens c.self.inside.token_names c.self.inside.marks) c.self.invariant.kept.named c.args.tid ∙ at.receives_there (rows_by (tables_of c.self.inside.procs c.self.inside.parts.items c.self.inside.ports c.self.inside.waits c.self.inside.names c.self.inside.sections c.self.inside.tokens c.self.inside.token_names c.self.inside.marks)) c.args.tid (name_of (births_of (tables_of c.self.inside.procs c.self.inside.parts.items c.self.inside.ports c.self.inside.waits c.self.inside.names c.self.inside.sections c.self.inside.tokens c.self.inside.token_names c.self.inside.marks)).ports c.args.queue) c.self.invariant.kept.lawful.single there);
  births = rw (← c.self.view_is) refl;
  calls = rw (← c.self.view_is) refl;
  made =
      let owed = ap owed_rows (changes.receives (tables_of c.self.inside.procs c.self.inside.parts.items c.self.inside.ports c.self.inside.waits c.self.inside.names c.self.inside.sections c.self.inside.tokens c.self.inside.token_names c.self.inside.marks) c.self.invariant.kept.named c.args.tid) in
      let same = owed-kept c.args.tid received (λ x. refl) (λ x. refl) (rows_by (tables_of c.self.inside.procs c.self.inside.parts.items c.self.inside.ports c.self.inside.waits c.self.inside.names c.self.inside.sections c.self.inside.tokens c.self.inside.token_names c.self.inside.marks)).waits in
      rw (← c.self.view_is, c.receive.ensures.table) (omega (arith, owed, same));
  room = rw (← c.self.view_is, c.receive.ensures.table, ap (λ (v : World). v.waits) (changes.receives (tables_of c.self.inside.procs c.self.inside.parts.items c.self.inside.ports c.self.inside.waits c.self.inside.names c.self.inside.sections c.self.inside.tokens c.self.inside.token_names c.self.inside.marks) c.self.invariant.kept.named c.args.tid)) (rooms.room_keep _ _ _ _ _ _ _ _ _ _ _ (rows_by (tables_of c.self.inside.procs c.self.inside.parts.items c.self.inside.ports c.self.inside.waits c.self.inside.names c.self.inside.sections c.self.inside.tokens c.self.inside.token_names c.self.inside.marks)) _ _ (length-change (waits_as c.args.tid) received (rows_by (tables_of c.self.inside.procs c.self.inside.parts.items c.self.inside.ports c.self.inside.waits c.self.inside.names c.self.inside.sections c.self.inside.tokens c.self.inside.token_names c.self.inside.marks)).waits));
}

pub returns-else-waits_on-clause-step : goal.returns-else-waits_on-clause-step
returns-else-waits_on-clause-step c = record {
  rows = let off = rw (← c.self.view_is) at (sym c.waits_on.ensures ∙ c.if-waits_on.false) in
      rw (← c.self.view_is) (sym (at.receives_none (rows_by (tables_of c.self.inside.procs c.self.inside.parts.items c.self.inside.ports c.self.inside.waits c.self.inside.names c.self.inside.sections c.self.inside.tokens c.self.inside.token_names c.self.inside.marks)) c.args.tid (name_of (births_of (tables_of c.self.inside.procs c.self.inside.parts.items c.self.inside.ports c.self.inside.waits c.self.inside.names c.self.inside.sections c.self.inside.tokens c.self.inside.token_names c.self.inside.marks)).ports c.args.queue) off));
  births = rw (← c.self.view_is) refl;
  calls = rw (← c.self.view_is) refl;
  made = rw (← c.self.view_is) refl;
  room = search rules;
}
