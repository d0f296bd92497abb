use Rattle.std.proofs.Common.{sym, ◌∙◌}
use Rattle.lpc_rows.specs.Kept.{rows_by}
use Rattle.lpc_rows.specs.Shown.{births_of, tables_of}
use Rattle.lpc_rows.proofs.Lives as lives
use Rattle.lpc_world.proofs.Hearers as hearers
use Rattle.lpc_world.proofs.world.World.hearers_born.Goals as goal

pub hearers-requires : goal.hearers-requires
hearers-requires c =
    let number = sym c.in-Some.is ∙ c.process_born.ensures.number ∙ sym (lives.process-born (tables_of c.self.inside.procs c.self.inside.parts.items c.self.inside.ports c.self.inside.waits c.self.inside.names c.self.inside.sections c.self.inside.tokens c.self.inside.token_names c.self.inside.marks) c.args.birth) in
    record { process = rw (← c.self.view_is) (hearers.born-there (rows_by (tables_of c.self.inside.procs c.self.inside.parts.items c.self.inside.ports c.self.inside.waits c.self.inside.names c.self.inside.sections c.self.inside.tokens c.self.inside.token_names c.self.inside.marks)) c.args.birth c.self.invariant.kept.born.processes_single c.in-Some.pid number) }

pub returns-in-Some : goal.returns-in-Some
returns-in-Some c =
    let number = sym c.in-Some.is ∙ c.process_born.ensures.number ∙ sym (lives.process-born (tables_of c.self.inside.procs c.self.inside.parts.items c.self.inside.ports c.self.inside.waits c.self.inside.names c.self.inside.sections c.self.inside.tokens c.self.inside.token_names c.self.inside.marks) c.args.birth) in
    let found = rw (← c.self.view_is) at c.hearers.ensures in
    rw (← c.self.view_is) (hearers.hearers-born (rows_by (tables_of c.self.inside.procs c.self.inside.parts.items c.self.inside.ports c.self.inside.waits c.self.inside.names c.self.inside.sections c.self.inside.tokens c.self.inside.token_names c.self.inside.marks)) c.args.birth c.self.invariant.kept.born.processes_single (births_of (tables_of c.self.inside.procs c.self.inside.parts.items c.self.inside.ports c.self.inside.waits c.self.inside.names c.self.inside.sections c.self.inside.tokens c.self.inside.token_names c.self.inside.marks)).ports c.in-Some.pid c.hearers.result.0 c.hearers.result.1 number found)

pub returns-in-None : goal.returns-in-None
returns-in-None c =
    let number = sym c.in-None.is ∙ c.process_born.ensures.number ∙ sym (lives.process-born (tables_of c.self.inside.procs c.self.inside.parts.items c.self.inside.ports c.self.inside.waits c.self.inside.names c.self.inside.sections c.self.inside.tokens c.self.inside.token_names c.self.inside.marks) c.args.birth) in
    rw (← c.self.view_is) (hearers.hearers-none (rows_by (tables_of c.self.inside.procs c.self.inside.parts.items c.self.inside.ports c.self.inside.waits c.self.inside.names c.self.inside.sections c.self.inside.tokens c.self.inside.token_names c.self.inside.marks)) c.args.birth c.self.invariant.kept.born.processes_single (births_of (tables_of c.self.inside.procs c.self.inside.parts.items c.self.inside.ports c.self.inside.waits c.self.inside.names c.self.inside.sections c.self.inside.tokens c.self.inside.token_names c.self.inside.marks)).ports number)
