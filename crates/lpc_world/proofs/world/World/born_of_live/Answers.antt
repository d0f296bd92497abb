use Rattle.lpc_rows.specs.Shown.{tables_of}
use Rattle.lpc_rows.proofs.Lives as lives
use Rattle.lpc_world.proofs.world.World.born_of_live.Goals as goal

pub birth-requires : goal.birth-requires
birth-requires c =
    let there = rw (← c.self.view_is) at c.in-Some.ensures.process in
    record { present = lives.has-birth (tables_of c.self.inside.procs c.self.inside.parts.items c.self.inside.ports c.self.inside.waits c.self.inside.names c.self.inside.sections c.self.inside.tokens c.self.inside.token_names c.self.inside.marks) c.self.inside.calls c.self.inside.made c.self.invariant.kept c.in-Some.thread.process there }

pub unreachable-requires : goal.unreachable-requires
unreachable-requires c = absurd (lives.some-live c.args.self.now.rows c.args.tid c.requires c.live_thread.ensures.row c.in-None.is)

pub returns-clause-thread : goal.returns-clause-thread
returns-clause-thread c =
    let row = rw (← c.self.view_is) at c.in-Some.ensures.row in
    rw (← c.self.view_is) ((lives.live-births (tables_of c.self.inside.procs c.self.inside.parts.items c.self.inside.ports c.self.inside.waits c.self.inside.names c.self.inside.sections c.self.inside.tokens c.self.inside.token_names c.self.inside.marks) c.self.inside.calls c.self.inside.made c.self.invariant.kept c.args.tid c.in-Some.thread c.birth.result row c.birth.ensures.birth).0)

pub returns-clause-process : goal.returns-clause-process
returns-clause-process c =
    let row = rw (← c.self.view_is) at c.in-Some.ensures.row in
    rw (← c.self.view_is) ((lives.live-births (tables_of c.self.inside.procs c.self.inside.parts.items c.self.inside.ports c.self.inside.waits c.self.inside.names c.self.inside.sections c.self.inside.tokens c.self.inside.token_names c.self.inside.marks) c.self.inside.calls c.self.inside.made c.self.invariant.kept c.args.tid c.in-Some.thread c.birth.result row c.birth.ensures.birth).1)
