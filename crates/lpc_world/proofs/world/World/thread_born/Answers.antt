use Rattle.std.proofs.Common.{sym, ◌∙◌}
use Rattle.lpc_rows.specs.Shown.{tables_of}
use Rattle.lpc_rows.proofs.Lives as lives
use Rattle.lpc_world.proofs.world.World.thread_born.Goals as goal

pub returns-clause-thread : goal.returns-clause-thread
returns-clause-thread c = rw (← c.self.view_is) (c.thread_born.ensures.thread ∙ sym (lives.thread-born (tables_of c.self.inside.procs c.self.inside.parts.items c.self.inside.ports c.self.inside.waits c.self.inside.names c.self.inside.sections c.self.inside.tokens c.self.inside.token_names c.self.inside.marks) c.args.birth))

pub returns-clause-row : goal.returns-clause-row
returns-clause-row c = rw (← c.self.view_is) (lives.own-row (tables_of c.self.inside.procs c.self.inside.parts.items c.self.inside.ports c.self.inside.waits c.self.inside.names c.self.inside.sections c.self.inside.tokens c.self.inside.token_names c.self.inside.marks) c.self.inside.calls c.self.inside.made c.self.invariant.kept c.args.birth c.thread_born.result (c.thread_born.ensures.thread ∙ sym (lives.thread-born (tables_of c.self.inside.procs c.self.inside.parts.items c.self.inside.ports c.self.inside.waits c.self.inside.names c.self.inside.sections c.self.inside.tokens c.self.inside.token_names c.self.inside.marks) c.args.birth)))
