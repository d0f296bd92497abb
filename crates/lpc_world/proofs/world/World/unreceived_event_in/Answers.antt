use Rattle.lpc_model.specs.Close.{is_queued_event}
use Rattle.lpc_rows.specs.Kept.{rows_by}
use Rattle.lpc_rows.specs.Names.{name_of}
use Rattle.lpc_rows.specs.Shown.{births_of, tables_of}
use Rattle.lpc_rows.proofs.Raised as raised
use Rattle.lpc_world.proofs.world.World.unreceived_event_in.Goals as goal

pub returns-clause-found : goal.returns-clause-found
returns-clause-found c =
    let there = rw (← c.self.view_is) at c.requires in
    let met = rw c.list.ensures at c.unreceived_event_in.ensures in
    rw (← c.self.view_is) ((raised.event-in (tables_of c.self.inside.procs c.self.inside.parts.items c.self.inside.ports c.self.inside.waits c.self.inside.names c.self.inside.sections c.self.inside.tokens c.self.inside.token_names c.self.inside.marks) c.self.inside.calls c.self.inside.made c.self.invariant.kept c.args.queue there c.unreceived_event_in.result met).found)

pub returns-clause-waits : goal.returns-clause-waits
returns-clause-waits c =
    let there = rw (← c.self.view_is) at c.requires in
    let met = rw c.list.ensures at c.unreceived_event_in.ensures in
    rw (← c.self.view_is) ((raised.event-in (tables_of c.self.inside.procs c.self.inside.parts.items c.self.inside.ports c.self.inside.waits c.self.inside.names c.self.inside.sections c.self.inside.tokens c.self.inside.token_names c.self.inside.marks) c.self.inside.calls c.self.inside.made c.self.invariant.kept c.args.queue there c.unreceived_event_in.result met).waits)

pub returns-clause-thread : goal.returns-clause-thread
returns-clause-thread c =
    let there = rw (← c.self.view_is) at c.requires in
    let met = rw c.list.ensures at c.unreceived_event_in.ensures in
    rw (← c.self.view_is) ((raised.event-in (tables_of c.self.inside.procs c.self.inside.parts.items c.self.inside.ports c.self.inside.waits c.self.inside.names c.self.inside.sections c.self.inside.tokens c.self.inside.token_names c.self.inside.marks) c.self.inside.calls c.self.inside.made c.self.invariant.kept c.args.queue there c.unreceived_event_in.result met).thread)

pub returns-clause-event : goal.returns-clause-event
returns-clause-event c =
    let there = rw (← c.self.view_is) at c.requires in
    let met = rw c.list.ensures at c.unreceived_event_in.ensures in
    rw (← c.self.view_is) (raised.event-there (rows_by (tables_of c.self.inside.procs c.self.inside.parts.items c.self.inside.ports c.self.inside.waits c.self.inside.names c.self.inside.sections c.self.inside.tokens c.self.inside.token_names c.self.inside.marks)) (is_queued_event (name_of (births_of (tables_of c.self.inside.procs c.self.inside.parts.items c.self.inside.ports c.self.inside.waits c.self.inside.names c.self.inside.sections c.self.inside.tokens c.self.inside.token_names c.self.inside.marks)).ports c.args.queue) (rows_by (tables_of c.self.inside.procs c.self.inside.parts.items c.self.inside.ports c.self.inside.waits c.self.inside.names c.self.inside.sections c.self.inside.tokens c.self.inside.token_names c.self.inside.marks))) (raised.in-event (tables_of c.self.inside.procs c.self.inside.parts.items c.self.inside.ports c.self.inside.waits c.self.inside.names c.self.inside.sections c.self.inside.tokens c.self.inside.token_names c.self.inside.marks) c.self.inside.calls c.self.inside.made c.self.invariant.kept (name_of (births_of (tables_of c.self.inside.procs c.self.inside.parts.items c.self.inside.ports c.self.inside.waits c.self.inside.names c.self.inside.sections c.self.inside.tokens c.self.inside.token_names c.self.inside.marks)).ports c.args.queue)) c.unreceived_event_in.result (raised.event-in (tables_of c.self.inside.procs c.self.inside.parts.items c.self.inside.ports c.self.inside.waits c.self.inside.names c.self.inside.sections c.self.inside.tokens c.self.inside.token_names c.self.inside.marks) c.self.inside.calls c.self.inside.made c.self.invariant.kept c.args.queue there c.unreceived_event_in.result met))

pub returns-clause-unmarked : goal.returns-clause-unmarked
returns-clause-unmarked c =
    let there = rw (← c.self.view_is) at c.requires in
    let met = rw c.list.ensures at c.unreceived_event_in.ensures in
    rw (← c.self.view_is) (raised.unmarked-there (rows_by (tables_of c.self.inside.procs c.self.inside.parts.items c.self.inside.ports c.self.inside.waits c.self.inside.names c.self.inside.sections c.self.inside.tokens c.self.inside.token_names c.self.inside.marks)) (is_queued_event (name_of (births_of (tables_of c.self.inside.procs c.self.inside.parts.items c.self.inside.ports c.self.inside.waits c.self.inside.names c.self.inside.sections c.self.inside.tokens c.self.inside.token_names c.self.inside.marks)).ports c.args.queue) (rows_by (tables_of c.self.inside.procs c.self.inside.parts.items c.self.inside.ports c.self.inside.waits c.self.inside.names c.self.inside.sections c.self.inside.tokens c.self.inside.token_names c.self.inside.marks))) (raised.in-event (tables_of c.self.inside.procs c.self.inside.parts.items c.self.inside.ports c.self.inside.waits c.self.inside.names c.self.inside.sections c.self.inside.tokens c.self.inside.token_names c.self.inside.marks) c.self.inside.calls c.self.inside.made c.self.invariant.kept (name_of (births_of (tables_of c.self.inside.procs c.self.inside.parts.items c.self.inside.ports c.self.inside.waits c.self.inside.names c.self.inside.sections c.self.inside.tokens c.self.inside.token_names c.self.inside.marks)).ports c.args.queue)) c.unreceived_event_in.result (raised.event-in (tables_of c.self.inside.procs c.self.inside.parts.items c.self.inside.ports c.self.inside.waits c.self.inside.names c.self.inside.sections c.self.inside.tokens c.self.inside.token_names c.self.inside.marks) c.self.inside.calls c.self.inside.made c.self.invariant.kept c.args.queue there c.unreceived_event_in.result met))
