use Rattle.lpc_rows.specs.Kept.{rows_by}
use Rattle.lpc_rows.specs.Names.{name_of}
use Rattle.lpc_rows.specs.Shown.{births_of}
use Rattle.lpc_rows.specs.Shown.{tables_of}
use Rattle.lpc_rows.proofs.OwnMessages.{none-queued_if}
use Rattle.lpc_rows.proofs.Connecting as connecting
use Rattle.lpc_rows.proofs.Finished as finished
use Rattle.lpc_world.proofs.world.World.accepted_on.Goals as goal

pub returns-clause-found : goal.returns-clause-found
returns-clause-found c =
    let there = rw (← c.self.view_is) at c.requires in
    rw (← c.self.view_is) (connecting.accepted_found (tables_of c.self.inside.procs c.self.inside.parts.items c.self.inside.ports c.self.inside.waits c.self.inside.names c.self.inside.sections c.self.inside.tokens c.self.inside.token_names c.self.inside.marks) c.self.invariant.kept.named c.args.client there c.self.invariant.kept.lawful.single c.accepted_on.result c.accepted_on.ensures).found

pub returns-clause-waits : goal.returns-clause-waits
returns-clause-waits c =
    let there = rw (← c.self.view_is) at c.requires in
    rw (← c.self.view_is) (connecting.accepted_found (tables_of c.self.inside.procs c.self.inside.parts.items c.self.inside.ports c.self.inside.waits c.self.inside.names c.self.inside.sections c.self.inside.tokens c.self.inside.token_names c.self.inside.marks) c.self.invariant.kept.named c.args.client there c.self.invariant.kept.lawful.single c.accepted_on.result c.accepted_on.ensures).waits

pub returns-clause-thread : goal.returns-clause-thread
returns-clause-thread c =
    let there = rw (← c.self.view_is) at c.requires in
    rw (← c.self.view_is) (connecting.accepted_found (tables_of c.self.inside.procs c.self.inside.parts.items c.self.inside.ports c.self.inside.waits c.self.inside.names c.self.inside.sections c.self.inside.tokens c.self.inside.token_names c.self.inside.marks) c.self.invariant.kept.named c.args.client there c.self.invariant.kept.lawful.single c.accepted_on.result c.accepted_on.ensures).thread

pub returns-clause-idle : goal.returns-clause-idle
returns-clause-idle c =
    let there = rw (← c.self.view_is) at c.requires in
    rw (← c.self.view_is) (finished.idle-accepted (tables_of c.self.inside.procs c.self.inside.parts.items c.self.inside.ports c.self.inside.waits c.self.inside.names c.self.inside.sections c.self.inside.tokens c.self.inside.token_names c.self.inside.marks) c.self.inside.calls c.self.inside.made c.self.invariant.kept c.accepted_on.result (connecting.accepted_found (tables_of c.self.inside.procs c.self.inside.parts.items c.self.inside.ports c.self.inside.waits c.self.inside.names c.self.inside.sections c.self.inside.tokens c.self.inside.token_names c.self.inside.marks) c.self.invariant.kept.named c.args.client there c.self.invariant.kept.lawful.single c.accepted_on.result c.accepted_on.ensures).waits (connecting.met_accepted (rows_by (tables_of c.self.inside.procs c.self.inside.parts.items c.self.inside.ports c.self.inside.waits c.self.inside.names c.self.inside.sections c.self.inside.tokens c.self.inside.token_names c.self.inside.marks)) (name_of (births_of (tables_of c.self.inside.procs c.self.inside.parts.items c.self.inside.ports c.self.inside.waits c.self.inside.names c.self.inside.sections c.self.inside.tokens c.self.inside.token_names c.self.inside.marks)).ports c.args.client) c.accepted_on.result (connecting.accepted_found (tables_of c.self.inside.procs c.self.inside.parts.items c.self.inside.ports c.self.inside.waits c.self.inside.names c.self.inside.sections c.self.inside.tokens c.self.inside.token_names c.self.inside.marks) c.self.invariant.kept.named c.args.client there c.self.invariant.kept.lawful.single c.accepted_on.result c.accepted_on.ensures)) (connecting.accepted_found (tables_of c.self.inside.procs c.self.inside.parts.items c.self.inside.ports c.self.inside.waits c.self.inside.names c.self.inside.sections c.self.inside.tokens c.self.inside.token_names c.self.inside.marks) c.self.invariant.kept.named c.args.client there c.self.invariant.kept.lawful.single c.accepted_on.result c.accepted_on.ensures).idle)

pub returns-clause-left : goal.returns-clause-left
returns-clause-left c =
    let there = rw (← c.self.view_is) at c.requires in
    rw (← c.self.view_is) (none-queued_if (rows_by (tables_of c.self.inside.procs c.self.inside.parts.items c.self.inside.ports c.self.inside.waits c.self.inside.names c.self.inside.sections c.self.inside.tokens c.self.inside.token_names c.self.inside.marks)) c.accepted_on.result c.self.invariant.kept.lawful.own (finished.idle-accepted (tables_of c.self.inside.procs c.self.inside.parts.items c.self.inside.ports c.self.inside.waits c.self.inside.names c.self.inside.sections c.self.inside.tokens c.self.inside.token_names c.self.inside.marks) c.self.inside.calls c.self.inside.made c.self.invariant.kept c.accepted_on.result (connecting.accepted_found (tables_of c.self.inside.procs c.self.inside.parts.items c.self.inside.ports c.self.inside.waits c.self.inside.names c.self.inside.sections c.self.inside.tokens c.self.inside.token_names c.self.inside.marks) c.self.invariant.kept.named c.args.client there c.self.invariant.kept.lawful.single c.accepted_on.result c.accepted_on.ensures).waits (connecting.met_accepted (rows_by (tables_of c.self.inside.procs c.self.inside.parts.items c.self.inside.ports c.self.inside.waits c.self.inside.names c.self.inside.sections c.self.inside.tokens c.self.inside.token_names c.self.inside.marks)) (name_of (births_of (tables_of c.self.inside.procs c.self.inside.parts.items c.self.inside.ports c.self.inside.waits c.self.inside.names c.self.inside.sections c.self.inside.tokens c.self.inside.token_names c.self.inside.marks)).ports c.args.client) c.accepted_on.result (connecting.accepted_found (tables_of c.self.inside.procs c.self.inside.parts.items c.self.inside.ports c.self.inside.waits c.self.inside.names c.self.inside.sections c.self.inside.tokens c.self.inside.token_names c.self.inside.marks) c.self.invariant.kept.named c.args.client there c.self.invariant.kept.lawful.single c.accepted_on.result c.accepted_on.ensures)) (connecting.accepted_found (tables_of c.self.inside.procs c.self.inside.parts.items c.self.inside.ports c.self.inside.waits c.self.inside.names c.self.inside.sections c.self.inside.tokens c.self.inside.token_names c.self.inside.marks) c.self.invariant.kept.named c.args.client there c.self.invariant.kept.lawful.single c.accepted_on.result c.accepted_on.ensures).idle))

pub returns-clause-accepted : goal.returns-clause-accepted
returns-clause-accepted c =
    let there = rw (← c.self.view_is) at c.requires in
    rw (← c.self.view_is) (connecting.met_accepted (rows_by (tables_of c.self.inside.procs c.self.inside.parts.items c.self.inside.ports c.self.inside.waits c.self.inside.names c.self.inside.sections c.self.inside.tokens c.self.inside.token_names c.self.inside.marks)) (name_of (births_of (tables_of c.self.inside.procs c.self.inside.parts.items c.self.inside.ports c.self.inside.waits c.self.inside.names c.self.inside.sections c.self.inside.tokens c.self.inside.token_names c.self.inside.marks)).ports c.args.client) c.accepted_on.result (connecting.accepted_found (tables_of c.self.inside.procs c.self.inside.parts.items c.self.inside.ports c.self.inside.waits c.self.inside.names c.self.inside.sections c.self.inside.tokens c.self.inside.token_names c.self.inside.marks) c.self.invariant.kept.named c.args.client there c.self.invariant.kept.lawful.single c.accepted_on.result c.accepted_on.ensures))
