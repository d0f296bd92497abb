use Rattle.std.proofs.Common.{ap, arith, length}
use Rattle.std.proofs.lemmas.List.{length-map}
use Rattle.lpc_rows.specs.Shown.{shown_process}
use Rattle.lpc_sweep.proofs.HeldLives.{process-at}
use Rattle.lpc_sweep.proofs.finding.process_life.Goals as goal

pub process_in-requires : goal.process_in-requires
process_in-requires c = omega (arith, c.requires, ap length c.procs.ensures.processes, length-map c.procs.result.now.processes shown_process)

pub returns-clause-birth : goal.returns-clause-birth
returns-clause-birth c = (process-at c.args.world.now.rows c.procs.result.now c.procs.ensures.threads c.procs.ensures.processes c.procs.ensures.born c.args.place c.process_in.result c.process_in.ensures.life).birth

pub returns-clause-live : goal.returns-clause-live
returns-clause-live c = (process-at c.args.world.now.rows c.procs.result.now c.procs.ensures.threads c.procs.ensures.processes c.procs.ensures.born c.args.place c.process_in.result c.process_in.ensures.life).live
