use Rattle.std.proofs.Common.{refl, arith}
use Rattle.std.proofs.Common.{ap}
use Rattle.lpc_base.specs.Rows.{change}
use Rattle.lpc_model.specs.World.{World}
use Rattle.lpc_model.specs.Found.{waits_as}
use Rattle.lpc_rows.specs.Kept.{owed_rows, rows_by}
use Rattle.lpc_rows.specs.Shown.{with_message, tables_of}
use Rattle.lpc_model.specs.Message.{message_of}
use Rattle.lpc_rows.proofs.Changes as changes
use Rattle.lpc_rows.proofs.Rooms as rooms
use Rattle.lpc_rows.proofs.Steps as steps
use Rattle.lpc_rows.proofs.Suspected as suspected
use Rattle.lpc_rows.specs.Shown.{births_of}
use Rattle.lpc_world.proofs.world.World.waits_set_message.Goals as goal

pub set_message-requires-clause-waits : goal.set_message-requires-clause-waits
set_message-requires-clause-waits c = steps.some_wait (tables_of c.self.inside.procs c.self.inside.parts.items c.self.inside.ports c.self.inside.waits c.self.inside.names c.self.inside.sections c.self.inside.tokens c.self.inside.token_names c.self.inside.marks) c.self.inside.calls c.self.inside.made c.self.invariant.kept c.args.tid (rw (← c.self.view_is) at c.requires.waits)

pub invariant_of-self : goal.invariant_of-self
invariant_of-self c = record {
  kept =
      rw c.set_message.ensures.table (steps.kept_message (tables_of c.self.inside.procs c.self.inside.parts.items c.self.inside.ports c.self.inside.waits c.self.inside.names c.self.inside.sections c.self.inside.tokens c.self.inside.token_names c.self.inside.marks) c.self.inside.calls c.self.inside.made c.self.invariant.kept c.args.tid c.args.bytes.now);
  watched = rw (c.set_message.ensures.table) (suspected.waits-to (rows_by (tables_of c.self.inside.procs c.self.inside.parts.items c.self.inside.ports c.self.inside.waits c.self.inside.names c.self.inside.sections c.self.inside.tokens c.self.inside.token_names c.self.inside.marks)) (births_of (tables_of c.self.inside.procs c.self.inside.parts.items c.self.inside.ports c.self.inside.waits c.self.inside.names c.self.inside.sections c.self.inside.tokens c.self.inside.token_names c.self.inside.marks)).ports c.self.inside.suspects c.self.invariant.watched _ (waits_as c.args.tid) (with_message (message_of c.args.bytes.now)) (λ x. refl) (changes.keeps_message (tables_of c.self.inside.procs c.self.inside.parts.items c.self.inside.ports c.self.inside.waits c.self.inside.names c.self.inside.sections c.self.inside.tokens c.self.inside.token_names c.self.inside.marks) c.self.invariant.kept.named c.args.tid c.args.bytes.now));
  lived = λ calm. let held = c.self.invariant.lived calm in record { threads = held.threads; processes = held.processes };
}

pub returns-clause-step : goal.returns-clause-step
returns-clause-step c = record {
  rows = rw (← c.self.view_is, c.set_message.ensures.table) (changes.keeps_message (tables_of c.self.inside.procs c.self.inside.parts.items c.self.inside.ports c.self.inside.waits c.self.inside.names c.self.inside.sections c.self.inside.tokens c.self.inside.token_names c.self.inside.marks) c.self.invariant.kept.named c.args.tid c.args.bytes.now);
  births = rw (← c.self.view_is) refl;
  calls = rw (← c.self.view_is) refl;
  made =
      let owed = ap owed_rows (changes.keeps_message (tables_of c.self.inside.procs c.self.inside.parts.items c.self.inside.ports c.self.inside.waits c.self.inside.names c.self.inside.sections c.self.inside.tokens c.self.inside.token_names c.self.inside.marks) c.self.invariant.kept.named c.args.tid c.args.bytes.now) in
      let same = changes.message-owed (rows_by (tables_of c.self.inside.procs c.self.inside.parts.items c.self.inside.ports c.self.inside.waits c.self.inside.names c.self.inside.sections c.self.inside.tokens c.self.inside.token_names c.self.inside.marks)) c.args.tid c.args.bytes.now in
      rw (← c.self.view_is, c.set_message.ensures.table) (omega (arith, owed, same));
  room = rw (← c.self.view_is, c.set_message.ensures.table, ap (λ (v : World). v.waits) (changes.keeps_message (tables_of c.self.inside.procs c.self.inside.parts.items c.self.inside.ports c.self.inside.waits c.self.inside.names c.self.inside.sections c.self.inside.tokens c.self.inside.token_names c.self.inside.marks) c.self.invariant.kept.named c.args.tid c.args.bytes.now)) (rooms.room_keep _ _ _ _ _ _ _ _ _ _ _ (rows_by (tables_of c.self.inside.procs c.self.inside.parts.items c.self.inside.ports c.self.inside.waits c.self.inside.names c.self.inside.sections c.self.inside.tokens c.self.inside.token_names c.self.inside.marks)) _ (change (waits_as c.args.tid) (with_message (message_of c.args.bytes.now)) (rows_by (tables_of c.self.inside.procs c.self.inside.parts.items c.self.inside.ports c.self.inside.waits c.self.inside.names c.self.inside.sections c.self.inside.tokens c.self.inside.token_names c.self.inside.marks)).waits) (changes.length-message c.args.tid c.args.bytes.now (rows_by (tables_of c.self.inside.procs c.self.inside.parts.items c.self.inside.ports c.self.inside.waits c.self.inside.names c.self.inside.sections c.self.inside.tokens c.self.inside.token_names c.self.inside.marks)).waits));
}
