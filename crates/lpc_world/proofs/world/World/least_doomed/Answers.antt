use Rattle.std.proofs.Common.{◌∙◌}
use Rattle.lpc_rows.specs.Shown.{tables_of}
use Rattle.lpc_rows.proofs.Raised as raised
use Rattle.lpc_world.proofs.world.World.least_doomed.Goals as goal

pub returns-clause-found : goal.returns-clause-found
returns-clause-found c = rw (← c.self.view_is) (c.least_doomed.ensures.process ∙ raised.least-is (tables_of c.self.inside.procs c.self.inside.parts.items c.self.inside.ports c.self.inside.waits c.self.inside.names c.self.inside.sections c.self.inside.tokens c.self.inside.token_names c.self.inside.marks) c.self.inside.calls c.self.inside.made c.self.invariant.kept)

pub returns-clause-process : goal.returns-clause-process
returns-clause-process c = rw (← c.self.view_is) (raised.least-stands (tables_of c.self.inside.procs c.self.inside.parts.items c.self.inside.ports c.self.inside.waits c.self.inside.names c.self.inside.sections c.self.inside.tokens c.self.inside.token_names c.self.inside.marks) c.self.inside.calls c.self.inside.made c.self.invariant.kept c.least_doomed.result c.least_doomed.ensures.process)

pub returns-clause-table : goal.returns-clause-table
returns-clause-table c = rw (← c.self.view_is) (raised.least-housed (tables_of c.self.inside.procs c.self.inside.parts.items c.self.inside.ports c.self.inside.waits c.self.inside.names c.self.inside.sections c.self.inside.tokens c.self.inside.token_names c.self.inside.marks) c.self.inside.calls c.self.inside.made c.self.invariant.kept c.least_doomed.result c.least_doomed.ensures.process)
