use Rattle.std.proofs.Common.{◌+◌, ◌-◌, ap, arith}
use Rattle.lpc_model.specs.World.{World}
use Rattle.lpc_ports.specs.Table as ports
use Rattle.lpc_slots.specs.declared.Key.{Key}
use Rattle.lpc_ports.specs.Table.{PortTable, QueuedMessage}
use Rattle.lpc_rows.specs.Kept.{rows_by}
use Rattle.lpc_rows.specs.Shown.{birth_of, births_of, sent_row, shown_message, tables_of}
use Rattle.lpc_rows.proofs.Changes as changes
use Rattle.lpc_rows.proofs.Lawful as lawful
use Rattle.lpc_rows.proofs.Rooms as rooms
use Rattle.lpc_rows.proofs.Steps as steps
use Rattle.lpc_rows.proofs.Unheld as unheld
use Rattle.std.proofs.Common.{◌∙◌, length}
use Rattle.lpc_rows.proofs.Capacities as capacities
use Rattle.lpc_rows.proofs.Suspected as suspected
use Rattle.std.proofs.Common.{refl}
use Rattle.lpc_model.specs.Basics.{Enters}
use Rattle.lpc_world.proofs.world.World.ports_send.Goals as goal

pub send-requires-clause-queue : goal.send-requires-clause-queue
send-requires-clause-queue c = unheld.has_row (tables_of c.self.inside.procs c.self.inside.parts.items c.self.inside.ports c.self.inside.waits c.self.inside.names c.self.inside.sections c.self.inside.tokens c.self.inside.token_names c.self.inside.marks) c.self.invariant.kept.named c.args.queue (rw (← c.self.view_is) at c.requires.queue)

pub send-requires-clause-sender : goal.send-requires-clause-sender
send-requires-clause-sender c = unheld.has_row (tables_of c.self.inside.procs c.self.inside.parts.items c.self.inside.ports c.self.inside.waits c.self.inside.names c.self.inside.sections c.self.inside.tokens c.self.inside.token_names c.self.inside.marks) c.self.invariant.kept.named c.args.sender (rw (← c.self.view_is) at c.requires.sender)

pub send-requires-clause-room : goal.send-requires-clause-room
send-requires-clause-room c =
    let there = rw (← c.self.view_is) at c.requires in
    steps.message_place (tables_of c.self.inside.procs c.self.inside.parts.items c.self.inside.ports c.self.inside.waits c.self.inside.names c.self.inside.sections c.self.inside.tokens c.self.inside.token_names c.self.inside.marks) c.self.inside.calls c.self.inside.made c.self.invariant.kept (sent_row (births_of (tables_of c.self.inside.procs c.self.inside.parts.items c.self.inside.ports c.self.inside.waits c.self.inside.names c.self.inside.sections c.self.inside.tokens c.self.inside.token_names c.self.inside.marks)) c.args.queue c.args.sender c.args.context c.args.bytes.now) there.request there.closing there.other

pub invariant_of-self : goal.invariant_of-self
invariant_of-self c = record {
  kept =
      let there = rw (← c.self.view_is) at c.requires in
      let place = steps.message_place (tables_of c.self.inside.procs c.self.inside.parts.items c.self.inside.ports c.self.inside.waits c.self.inside.names c.self.inside.sections c.self.inside.tokens c.self.inside.token_names c.self.inside.marks) c.self.inside.calls c.self.inside.made c.self.invariant.kept (sent_row (births_of (tables_of c.self.inside.procs c.self.inside.parts.items c.self.inside.ports c.self.inside.waits c.self.inside.names c.self.inside.sections c.self.inside.tokens c.self.inside.token_names c.self.inside.marks)) c.args.queue c.args.sender c.args.context c.args.bytes.now) there.request there.closing there.other in
      rw c.send.ensures.table (steps.entered (tables_of c.self.inside.procs c.self.inside.parts.items c.self.inside.ports c.self.inside.waits c.self.inside.names c.self.inside.sections c.self.inside.tokens c.self.inside.token_names c.self.inside.marks) c.self.inside.calls c.self.inside.made c.self.invariant.kept (c.send.result, ports.queued c.args.queue c.args.sender c.args.context c.args.bytes.now) (steps.two_stand (tables_of c.self.inside.procs c.self.inside.parts.items c.self.inside.ports c.self.inside.waits c.self.inside.names c.self.inside.sections c.self.inside.tokens c.self.inside.token_names c.self.inside.marks) c.self.inside.calls c.self.inside.made c.self.invariant.kept c.args.queue c.args.sender there.queue there.sender) (steps.long_is c.args.bytes.now c.requires.long) there.budget place there.quiet
      there.request there.closing (λ e. let h = there.other e in omega (arith, h)));
  watched = rw (c.send.ensures.table) (suspected.step-to (rows_by (tables_of c.self.inside.procs c.self.inside.parts.items c.self.inside.ports c.self.inside.waits c.self.inside.names c.self.inside.sections c.self.inside.tokens c.self.inside.token_names c.self.inside.marks)) (births_of (tables_of c.self.inside.procs c.self.inside.parts.items c.self.inside.ports c.self.inside.waits c.self.inside.names c.self.inside.sections c.self.inside.tokens c.self.inside.token_names c.self.inside.marks)).ports c.self.inside.suspects c.self.invariant.watched _ (Enters (shown_message (birth_of (births_of (tables_of c.self.inside.procs c.self.inside.parts.items c.self.inside.ports c.self.inside.waits c.self.inside.names c.self.inside.sections c.self.inside.tokens c.self.inside.token_names c.self.inside.marks))) (c.send.result, ports.queued c.args.queue c.args.sender c.args.context c.args.bytes.now))) (changes.enters (tables_of c.self.inside.procs c.self.inside.parts.items c.self.inside.ports c.self.inside.waits c.self.inside.names c.self.inside.sections c.self.inside.tokens c.self.inside.token_names c.self.inside.marks) c.self.invariant.kept.named (c.send.result, ports.queued c.args.queue c.args.sender c.args.context c.args.bytes.now) (c.self.inside.ports.message_room - 1) (c.self.inside.ports.messages_made + 1)) refl);
  lived = rw (c.send.ensures.table) (λ calm. let held = c.self.invariant.lived calm in record { threads = held.threads; processes = held.processes });
}

pub returns-clause-rows : goal.returns-clause-rows
returns-clause-rows c = rw (← c.self.view_is, c.send.ensures.table) (changes.enters (tables_of c.self.inside.procs c.self.inside.parts.items c.self.inside.ports c.self.inside.waits c.self.inside.names c.self.inside.sections c.self.inside.tokens c.self.inside.token_names c.self.inside.marks) c.self.invariant.kept.named (c.send.result, ports.queued c.args.queue c.args.sender c.args.context c.args.bytes.now) (c.self.inside.ports.message_room - 1) (c.self.inside.ports.messages_made + 1))

pub returns-clause-queued : goal.returns-clause-queued
returns-clause-queued c =
    let m : Key × QueuedMessage = (c.send.result, ports.queued c.args.queue c.args.sender c.args.context c.args.bytes.now) in
    rw (← c.self.view_is, c.send.ensures.table, ap (λ (v : World). v.messages) (changes.enters (tables_of c.self.inside.procs c.self.inside.parts.items c.self.inside.ports c.self.inside.waits c.self.inside.names c.self.inside.sections c.self.inside.tokens c.self.inside.token_names c.self.inside.marks) c.self.invariant.kept.named m (c.self.inside.ports.message_room - 1) (c.self.inside.ports.messages_made + 1))) (lawful.queued-push (shown_message (birth_of (births_of (tables_of c.self.inside.procs c.self.inside.parts.items c.self.inside.ports c.self.inside.waits c.self.inside.names c.self.inside.sections c.self.inside.tokens c.self.inside.token_names c.self.inside.marks))) m) _)

pub returns-clause-room : goal.returns-clause-room
returns-clause-room c =
    let m : Key × QueuedMessage = (c.send.result, ports.queued c.args.queue c.args.sender c.args.context c.args.bytes.now) in
    rw (← c.self.view_is, c.send.ensures.table, ap (λ (v : World). v.messages) (changes.enters (tables_of c.self.inside.procs c.self.inside.parts.items c.self.inside.ports c.self.inside.waits c.self.inside.names c.self.inside.sections c.self.inside.tokens c.self.inside.token_names c.self.inside.marks) c.self.invariant.kept.named m (c.self.inside.ports.message_room - 1) (c.self.inside.ports.messages_made + 1))) (rooms.room_enter _ _ _ _ _ _ _ _ _ _ _ (rows_by (tables_of c.self.inside.procs c.self.inside.parts.items c.self.inside.ports c.self.inside.waits c.self.inside.names c.self.inside.sections c.self.inside.tokens c.self.inside.token_names c.self.inside.marks)) _ (shown_message (birth_of (births_of (tables_of c.self.inside.procs c.self.inside.parts.items c.self.inside.ports c.self.inside.waits c.self.inside.names c.self.inside.sections c.self.inside.tokens c.self.inside.token_names c.self.inside.marks))) m))

pub returns-clause-made : goal.returns-clause-made
returns-clause-made c = rw (← c.self.view_is, c.send.ensures.table) (omega arith)

pub returns-clause-capacity : goal.returns-clause-capacity
returns-clause-capacity c =
    let there = rw (← c.self.view_is) at c.requires in
    let place = steps.message_place (tables_of c.self.inside.procs c.self.inside.parts.items c.self.inside.ports c.self.inside.waits c.self.inside.names c.self.inside.sections c.self.inside.tokens c.self.inside.token_names c.self.inside.marks) c.self.inside.calls c.self.inside.made c.self.invariant.kept (sent_row (births_of (tables_of c.self.inside.procs c.self.inside.parts.items c.self.inside.ports c.self.inside.waits c.self.inside.names c.self.inside.sections c.self.inside.tokens c.self.inside.token_names c.self.inside.marks)) c.args.queue c.args.sender c.args.context c.args.bytes.now) there.request there.closing there.other in
    rw (← c.self.view_is)
    (capacities.of_ports (tables_of c.self.inside.procs c.self.inside.parts.items c.self.inside.ports c.self.inside.waits c.self.inside.names c.self.inside.sections c.self.inside.tokens c.self.inside.token_names c.self.inside.marks) c.self.inside.parts.room c.send.new.self (ap (λ (s : PortTable). s.port_room + length s.ports) c.send.ensures.table)
    (ap (λ (s : PortTable). s.message_room + length s.messages) c.send.ensures.table ∙ capacities.one_more c.self.inside.ports.message_room c.self.inside.ports.messages (c.send.result, ports.queued c.args.queue c.args.sender c.args.context c.args.bytes.now) place))
