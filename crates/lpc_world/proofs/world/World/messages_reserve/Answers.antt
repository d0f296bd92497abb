use Rattle.lpc_rows.specs.Shown.{birth_of, births_of, shown_message}
use Rattle.std.proofs.lemmas.List.{length-map}
use Rattle.std.proofs.Common.{◌+◌, ◌≤◌, ◌<◌, refl, arith}
use Rattle.std.proofs.lemmas.Result.{on_err_weaker, on_ok_weaker}
use Rattle.lpc_rows.specs.Shown.{tables_of}
use Rattle.lpc_rows.specs.Kept.{rows_by}
use Rattle.lpc_rows.proofs.Rooms as rooms
use Rattle.lpc_rows.proofs.Steps as steps
use Rattle.lpc_world.proofs.world.World.messages_reserve.Goals as goal

pub invariant_of-self : goal.invariant_of-self
invariant_of-self c = record {
  kept =
      rw c.reserve.ensures.kept (steps.roomed_ports (tables_of c.self.inside.procs c.self.inside.parts.items c.self.inside.ports c.self.inside.waits c.self.inside.names c.self.inside.sections c.self.inside.tokens c.self.inside.token_names c.self.inside.marks) c.self.inside.calls c.self.inside.made c.self.invariant.kept c.reserve.new.self.port_room c.reserve.new.self.message_room c.reserve.ensures.message_room);
  watched = rw (c.reserve.ensures.kept) (c.self.invariant.watched);
  lived = rw (c.reserve.ensures.kept) (λ calm. let held = c.self.invariant.lived calm in record { threads = held.threads; processes = held.processes });
}

pub returns-clause-same : goal.returns-clause-same
returns-clause-same c = rw (← c.self.view_is, c.reserve.ensures.kept) (record { rows = refl; births = refl; calls = refl; made = refl; loose = refl })

pub returns-clause-room : goal.returns-clause-room
returns-clause-room c =
    let ports = c.reserve.ensures.port_room in
    let messages = c.reserve.ensures.message_room in
    rw (← c.self.view_is, c.reserve.ensures.kept) (rooms.room_more _ _ _ _ _ _ _ _ _ _ _ (rows_by (tables_of c.self.inside.procs c.self.inside.parts.items c.self.inside.ports c.self.inside.waits c.self.inside.names c.self.inside.sections c.self.inside.tokens c.self.inside.token_names c.self.inside.marks)) _ _ _ _ c.reserve.new.self.message_room c.reserve.new.self.port_room _ (omega arith) (omega arith) (omega arith) messages ports (omega arith))

pub returns-clause-messages : goal.returns-clause-messages
returns-clause-messages c =
    let owed = rw (← c.self.view_is) at c.owed_messages.ensures.owed in
    rw c.reserve.ensures.kept (on_ok_weaker c.reserve.result (λ (made : c.owed_messages.result + c.args.more ≤ c.reserve.new.self.message_room). omega (arith, made, owed)) c.reserve.ensures.messages)

pub returns-clause-wanting : goal.returns-clause-wanting
returns-clause-wanting c =
    let owed = rw (← c.self.view_is) at c.owed_messages.ensures.owed in
    rw (← c.self.view_is) (on_err_weaker c.reserve.result (λ (less : 0 ≤ c.self.inside.ports.port_room → c.self.inside.ports.message_room < c.owed_messages.result + c.args.more). let less_still = less (omega arith) in omega (arith, less_still, owed, c.self.invariant.kept.lawful.messages_fit)) c.reserve.ensures.wanting)

pub returns-clause-most : goal.returns-clause-most
returns-clause-most c =
    let owed = rw (← c.self.view_is) at c.owed_messages.ensures.owed in
    let rows = length-map c.self.inside.ports.messages (shown_message (birth_of (births_of (tables_of c.self.inside.procs c.self.inside.parts.items c.self.inside.ports c.self.inside.waits c.self.inside.names c.self.inside.sections c.self.inside.tokens c.self.inside.token_names c.self.inside.marks)))) in
    rw (← c.self.view_is, c.reserve.ensures.kept) (omega (arith, rows, owed, c.reserve.ensures.most_messages))

pub returns-clause-enough : goal.returns-clause-enough
returns-clause-enough c =
    λ some.
    let there = rw (← c.self.view_is) at some in
    let owed = rw (← c.self.view_is) at c.owed_messages.ensures.owed in
    let ports = c.reserve.ensures.enough_ports (omega arith) in
    let messages = c.reserve.ensures.enough_messages (omega (arith, there, owed, c.self.invariant.kept.lawful.messages_fit)) in
    rw (← c.self.view_is, c.reserve.ensures.kept, ports, messages) refl
