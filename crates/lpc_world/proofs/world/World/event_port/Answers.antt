use Rattle.std.proofs.Common.{sym, ◌∙◌}
use Rattle.lpc_rows.specs.Shown.{tables_of}
use Rattle.lpc_rows.proofs.Raised as raised
use Rattle.lpc_rows.proofs.Steps as steps
use Rattle.lpc_world.proofs.world.World.event_port.Goals as goal

pub debug_port-requires : goal.debug_port-requires
debug_port-requires c = record { present = sym (steps.process_same (tables_of c.self.inside.procs c.self.inside.parts.items c.self.inside.ports c.self.inside.waits c.self.inside.names c.self.inside.sections c.self.inside.tokens c.self.inside.token_names c.self.inside.marks) c.self.inside.calls c.self.inside.made c.self.invariant.kept c.args.pid) ∙ (rw (← c.self.view_is) at c.requires.process) }

pub debug_port-requires-in-LastDebug : goal.debug_port-requires-in-LastDebug
debug_port-requires-in-LastDebug c = record { present = sym (steps.process_same (tables_of c.self.inside.procs c.self.inside.parts.items c.self.inside.ports c.self.inside.waits c.self.inside.names c.self.inside.sections c.self.inside.tokens c.self.inside.token_names c.self.inside.marks) c.self.inside.calls c.self.inside.made c.self.invariant.kept c.args.pid) ∙ (rw (← c.self.view_is) at c.requires.process) }

pub exception_port-requires : goal.exception_port-requires
exception_port-requires c = record { present = sym (steps.process_same (tables_of c.self.inside.procs c.self.inside.parts.items c.self.inside.ports c.self.inside.waits c.self.inside.names c.self.inside.sections c.self.inside.tokens c.self.inside.token_names c.self.inside.marks) c.self.inside.calls c.self.inside.made c.self.invariant.kept c.args.pid) ∙ (rw (← c.self.view_is) at c.requires.process) }

pub returns-in-FirstDebug-clause-port : goal.returns-in-FirstDebug-clause-port
returns-in-FirstDebug-clause-port c =
    let is = raised.first-hearer (tables_of c.self.inside.procs c.self.inside.parts.items c.self.inside.ports c.self.inside.waits c.self.inside.names c.self.inside.sections c.self.inside.tokens c.self.inside.token_names c.self.inside.marks) c.self.inside.calls c.self.inside.made c.self.invariant.kept c.args.pid c.debug_port.result c.debug_port.ensures.port in
    rw (← c.self.view_is, c.key_of.ensures, c.in-FirstDebug.is) is.port

pub returns-in-FirstDebug-clause-stands : goal.returns-in-FirstDebug-clause-stands
returns-in-FirstDebug-clause-stands c =
    let is = raised.first-hearer (tables_of c.self.inside.procs c.self.inside.parts.items c.self.inside.ports c.self.inside.waits c.self.inside.names c.self.inside.sections c.self.inside.tokens c.self.inside.token_names c.self.inside.marks) c.self.inside.calls c.self.inside.made c.self.invariant.kept c.args.pid c.debug_port.result c.debug_port.ensures.port in
    rw (← c.self.view_is, c.key_of.ensures) is.there

pub returns-in-LastDebug-clause-port : goal.returns-in-LastDebug-clause-port
returns-in-LastDebug-clause-port c =
    let is = raised.later-hearer (tables_of c.self.inside.procs c.self.inside.parts.items c.self.inside.ports c.self.inside.waits c.self.inside.names c.self.inside.sections c.self.inside.tokens c.self.inside.token_names c.self.inside.marks) c.self.inside.calls c.self.inside.made c.self.invariant.kept c.args.pid c.debug_port-in-LastDebug.result c.debug_port-in-LastDebug.ensures.port in
    rw (← c.self.view_is, c.key_of-in-LastDebug.ensures, c.in-LastDebug.is) is.port

pub returns-in-LastDebug-clause-stands : goal.returns-in-LastDebug-clause-stands
returns-in-LastDebug-clause-stands c =
    let is = raised.later-hearer (tables_of c.self.inside.procs c.self.inside.parts.items c.self.inside.ports c.self.inside.waits c.self.inside.names c.self.inside.sections c.self.inside.tokens c.self.inside.token_names c.self.inside.marks) c.self.inside.calls c.self.inside.made c.self.invariant.kept c.args.pid c.debug_port-in-LastDebug.result c.debug_port-in-LastDebug.ensures.port in
    rw (← c.self.view_is, c.key_of-in-LastDebug.ensures) is.there

pub returns-in-LastException-clause-port : goal.returns-in-LastException-clause-port
returns-in-LastException-clause-port c =
    let is = raised.last-hearer (tables_of c.self.inside.procs c.self.inside.parts.items c.self.inside.ports c.self.inside.waits c.self.inside.names c.self.inside.sections c.self.inside.tokens c.self.inside.token_names c.self.inside.marks) c.self.inside.calls c.self.inside.made c.self.invariant.kept c.args.pid c.exception_port.result c.exception_port.ensures.port in
    rw (← c.self.view_is, c.key_of-in-LastException.ensures, c.in-LastException.is) is.port

pub returns-in-LastException-clause-stands : goal.returns-in-LastException-clause-stands
returns-in-LastException-clause-stands c =
    let is = raised.last-hearer (tables_of c.self.inside.procs c.self.inside.parts.items c.self.inside.ports c.self.inside.waits c.self.inside.names c.self.inside.sections c.self.inside.tokens c.self.inside.token_names c.self.inside.marks) c.self.inside.calls c.self.inside.made c.self.invariant.kept c.args.pid c.exception_port.result c.exception_port.ensures.port in
    rw (← c.self.view_is, c.key_of-in-LastException.ensures) is.there
