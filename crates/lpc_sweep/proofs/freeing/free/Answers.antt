use Rattle.lpc_model.specs.Found.{process_name, section_name, thread_name, token_name}
use Rattle.lpc_rows.specs.Clauses.{birth_at}
use Rattle.lpc_rows.specs.Names.{name_of}
use Rattle.lpc_sweep.proofs.HeldLives.{none-handle, none-hold}
use Rattle.lpc_sweep.proofs.HeldPorts.{free_port}
use Rattle.lpc_sweep.proofs.freeing.free.Goals as goal

pub ports_free-requires-clause-free : goal.ports_free-requires-clause-free
ports_free-requires-clause-free c =
    free_port c.args.world.now.rows (birth_at c.args.world.now c.in-Port.port) c.requires.can (rw c.in-Port.is at c.requires.unheld)

pub processes_free-requires : goal.processes_free-requires
processes_free-requires c = record { empty = none-hold c.args.world.now.rows (process_name c.in-Process.birth) (rw c.in-Process.is at c.requires.unheld) }

pub threads_free-requires : goal.threads_free-requires
threads_free-requires c = record { ended = none-hold c.args.world.now.rows (thread_name c.in-Thread.birth) (rw c.in-Thread.is at c.requires.unheld) }

pub sections_free-requires-clause-handles : goal.sections_free-requires-clause-handles
sections_free-requires-clause-handles c =
    none-handle c.args.world.now.rows (section_name (name_of c.args.world.now.births.sections c.in-Section.section)) (rw c.in-Section.is at c.requires.unheld)

pub sections_free-requires-clause-holders : goal.sections_free-requires-clause-holders
sections_free-requires-clause-holders c =
    none-hold c.args.world.now.rows (section_name (name_of c.args.world.now.births.sections c.in-Section.section)) (rw c.in-Section.is at c.requires.unheld)

pub tokens_free-requires-clause-handles : goal.tokens_free-requires-clause-handles
tokens_free-requires-clause-handles c =
    none-handle c.args.world.now.rows (token_name (name_of c.args.world.now.births.tokens c.in-Token.token)) (rw c.in-Token.is at c.requires.unheld)
