use Rattle.std.proofs.Common.{ap, arith, length}
use Rattle.std.proofs.lemmas.List.{length-map}
use Rattle.lpc_rows.specs.Shown.{shown_thread}
use Rattle.lpc_sweep.proofs.HeldLives.{thread-at}
use Rattle.lpc_sweep.proofs.finding.thread_life.Goals as goal

pub thread_in-requires : goal.thread_in-requires
thread_in-requires c = omega (arith, c.requires, ap length c.procs.ensures.threads, length-map c.procs.result.now.threads shown_thread)

pub returns-clause-birth : goal.returns-clause-birth
returns-clause-birth c = (thread-at c.args.world.now.rows c.procs.result.now c.procs.ensures.threads c.procs.ensures.processes c.procs.ensures.born c.args.place c.thread_in.result c.thread_in.ensures.life).birth

pub returns-clause-live : goal.returns-clause-live
returns-clause-live c = (thread-at c.args.world.now.rows c.procs.result.now c.procs.ensures.threads c.procs.ensures.processes c.procs.ensures.born c.args.place c.thread_in.result c.thread_in.ensures.life).live
