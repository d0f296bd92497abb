use Rattle.lpc_procs.proofs.Tables.{count-keyed, its-process}
use Rattle.lpc_procs.proofs.procs.Procs.live_count.Goals as goal

pub returns-in-Some : goal.returns-in-Some
returns-in-Some c =
    let there = its-process c.self.invariant c.args.pid c.process_key.result c.in-Some.process.now c.process_key.ensures c.in-Some.ensures.value in
    record { count = rw (← c.self.view_is) (count-keyed c.self.invariant c.args.pid c.in-Some.process.now there) }
