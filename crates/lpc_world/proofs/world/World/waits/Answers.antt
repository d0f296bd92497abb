use Rattle.lpc_rows.specs.Kept.{rows_by}
use Rattle.lpc_rows.specs.Shown.{tables_of}
use Rattle.lpc_rows.proofs.OwnMessages.{none-queued}
use Rattle.lpc_world.proofs.world.World.waits.Goals as goal

pub returns-clause-stand : goal.returns-clause-stand
returns-clause-stand c = rw (← c.self.view_is) c.self.invariant.kept.named.refs.in_waits

pub returns-clause-apart : goal.returns-clause-apart
returns-clause-apart c = rw (← c.self.view_is) c.self.invariant.kept.named.ports_apart

pub returns-clause-single : goal.returns-clause-single
returns-clause-single c = rw (← c.self.view_is) c.self.invariant.kept.lawful.single

pub returns-clause-taken : goal.returns-clause-taken
returns-clause-taken c = rw (← c.self.view_is) c.self.invariant.kept.promised.taken

pub returns-clause-own : goal.returns-clause-own
returns-clause-own c = rw (← c.self.view_is) (record { left = λ who idle. none-queued (rows_by (tables_of c.self.inside.procs c.self.inside.parts.items c.self.inside.ports c.self.inside.waits c.self.inside.names c.self.inside.sections c.self.inside.tokens c.self.inside.token_names c.self.inside.marks)) who c.self.invariant.kept.lawful.own idle })
