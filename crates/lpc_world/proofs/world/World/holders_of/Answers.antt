use Rattle.std.proofs.Common.{sym, ◌∙◌, arith}
use Rattle.lpc_rows.specs.Shown.{tables_of}
use Rattle.lpc_rows.proofs.Counted as counted
use Rattle.lpc_world.proofs.world.World.holders_of.Goals as goal

pub lives_of_process-requires : goal.lives_of_process-requires
lives_of_process-requires c = record { one = counted.born-once (tables_of c.self.inside.procs c.self.inside.parts.items c.self.inside.ports c.self.inside.waits c.self.inside.names c.self.inside.sections c.self.inside.tokens c.self.inside.token_names c.self.inside.marks) c.self.inside.calls c.self.inside.made c.self.invariant.kept c.in-Process.birth }

pub returns-in-Process-clause-holders : goal.returns-in-Process-clause-holders
returns-in-Process-clause-holders c =
    rw (← c.self.view_is, c.in-Process.is) (c.lives_of_process.ensures.count ∙ sym (counted.process-lives (tables_of c.self.inside.procs c.self.inside.parts.items c.self.inside.ports c.self.inside.waits c.self.inside.names c.self.inside.sections c.self.inside.tokens c.self.inside.token_names c.self.inside.marks) c.self.inside.calls c.self.inside.made c.self.invariant.kept c.in-Process.birth))

pub returns-in-Process-clause-few : goal.returns-in-Process-clause-few
returns-in-Process-clause-few c =
    let few = counted.threads-few (tables_of c.self.inside.procs c.self.inside.parts.items c.self.inside.ports c.self.inside.waits c.self.inside.names c.self.inside.sections c.self.inside.tokens c.self.inside.token_names c.self.inside.marks) c.self.inside.calls c.self.inside.made c.self.invariant.kept c.in-Process.birth in
    let bound = c.lives_of_process.ensures.bound in
    rw (← c.self.view_is) (omega (arith, few, bound))

pub returns-in-Thread-clause-holders : goal.returns-in-Thread-clause-holders
returns-in-Thread-clause-holders c =
    rw (← c.self.view_is, c.in-Thread.is) (c.lives_of_thread.ensures.count ∙ sym (counted.thread-lives (tables_of c.self.inside.procs c.self.inside.parts.items c.self.inside.ports c.self.inside.waits c.self.inside.names c.self.inside.sections c.self.inside.tokens c.self.inside.token_names c.self.inside.marks) c.self.inside.calls c.self.inside.made c.self.invariant.kept c.in-Thread.birth))

pub returns-in-Thread-clause-few : goal.returns-in-Thread-clause-few
returns-in-Thread-clause-few c =
    let few = counted.threads-few (tables_of c.self.inside.procs c.self.inside.parts.items c.self.inside.ports c.self.inside.waits c.self.inside.names c.self.inside.sections c.self.inside.tokens c.self.inside.token_names c.self.inside.marks) c.self.inside.calls c.self.inside.made c.self.invariant.kept c.in-Thread.birth in
    let bound = c.lives_of_thread.ensures.bound in
    rw (← c.self.view_is) (omega (arith, few, bound))
