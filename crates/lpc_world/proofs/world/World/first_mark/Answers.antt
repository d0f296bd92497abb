use Rattle.std.proofs.Common.{arith}
use Rattle.lpc_rows.specs.Shown.{tables_of}
use Rattle.lpc_rows.proofs.Raised as raised
use Rattle.lpc_world.proofs.world.World.first_mark.Goals as goal

pub returns-clause-none : goal.returns-clause-none
returns-clause-none c = rw (← c.self.view_is) (raised.first-marked (tables_of c.self.inside.procs c.self.inside.parts.items c.self.inside.ports c.self.inside.waits c.self.inside.names c.self.inside.sections c.self.inside.tokens c.self.inside.token_names c.self.inside.marks) c.self.inside.calls c.self.inside.made c.self.invariant.kept c.first.result c.first.ensures).none

pub returns-clause-first : goal.returns-clause-first
returns-clause-first c = rw (← c.self.view_is) (raised.first-marked (tables_of c.self.inside.procs c.self.inside.parts.items c.self.inside.ports c.self.inside.waits c.self.inside.names c.self.inside.sections c.self.inside.tokens c.self.inside.token_names c.self.inside.marks) c.self.inside.calls c.self.inside.made c.self.invariant.kept c.first.result c.first.ensures).first

pub returns-clause-event : goal.returns-clause-event
returns-clause-event c = rw (← c.self.view_is) (raised.first-marked (tables_of c.self.inside.procs c.self.inside.parts.items c.self.inside.ports c.self.inside.waits c.self.inside.names c.self.inside.sections c.self.inside.tokens c.self.inside.token_names c.self.inside.marks) c.self.inside.calls c.self.inside.made c.self.invariant.kept c.first.result c.first.ensures).event

pub returns-clause-waits : goal.returns-clause-waits
returns-clause-waits c = rw (← c.self.view_is) (raised.first-marked (tables_of c.self.inside.procs c.self.inside.parts.items c.self.inside.ports c.self.inside.waits c.self.inside.names c.self.inside.sections c.self.inside.tokens c.self.inside.token_names c.self.inside.marks) c.self.inside.calls c.self.inside.made c.self.invariant.kept c.first.result c.first.ensures).waits

pub returns-clause-live : goal.returns-clause-live
returns-clause-live c = rw (← c.self.view_is) (raised.first-marked (tables_of c.self.inside.procs c.self.inside.parts.items c.self.inside.ports c.self.inside.waits c.self.inside.names c.self.inside.sections c.self.inside.tokens c.self.inside.token_names c.self.inside.marks) c.self.inside.calls c.self.inside.made c.self.invariant.kept c.first.result c.first.ensures).live

pub returns-clause-left : goal.returns-clause-left
returns-clause-left c = rw (← c.self.view_is) (raised.first-marked (tables_of c.self.inside.procs c.self.inside.parts.items c.self.inside.ports c.self.inside.waits c.self.inside.names c.self.inside.sections c.self.inside.tokens c.self.inside.token_names c.self.inside.marks) c.self.inside.calls c.self.inside.made c.self.invariant.kept c.first.result c.first.ensures).left

pub returns-clause-budget : goal.returns-clause-budget
returns-clause-budget c = let paid = c.self.invariant.kept.lawful.budget in rw (← c.self.view_is) (omega (arith, paid))
