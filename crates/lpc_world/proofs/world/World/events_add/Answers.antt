use Rattle.lpc_rows.specs.Shown.{birth_of}
use Rattle.lpc_rows.proofs.Raising.{event-quiet, event-pends, no-connect}
use Rattle.lpc_world.proofs.world.World.events_add.Goals as goal

pub waits_begin-requires-clause-quiet : goal.waits_begin-requires-clause-quiet
waits_begin-requires-clause-quiet c = event-quiet (birth_of c.args.self.now.births) c.args.tid c.args.wait c.args.self.now.rows.messages c.requires.event

pub waits_begin-requires-clause-table : goal.waits_begin-requires-clause-table
waits_begin-requires-clause-table c = λ connects. absurd (no-connect c.args.wait.kind c.requires.event connects)

pub waits_begin-requires-clause-load : goal.waits_begin-requires-clause-load
waits_begin-requires-clause-load c = λ connects. absurd (no-connect c.args.wait.kind c.requires.event connects)

pub waits_begin-requires-clause-handles : goal.waits_begin-requires-clause-handles
waits_begin-requires-clause-handles c = λ connects. absurd (no-connect c.args.wait.kind c.requires.event connects)

pub returns-clause-unsent : goal.returns-clause-unsent
returns-clause-unsent c = λ new. c.waits_begin.ensures.unsent (event-pends (birth_of c.args.self.now.births) c.args.tid c.args.wait c.requires.event new)
