use Rattle.std.proofs.Common.{subst, sym}
use Rattle.lpc_model.specs.Settle.{doomed_processes, least}
use Rattle.lpc_rows.specs.Does.{Took}
use Rattle.lpc_death.proofs.Doomed.{doomed-ends, none-took}
use Rattle.lpc_death.proofs.terminate.end_doomed.Goals as goal

pub returns-in-Some-clause-took : goal.returns-in-Some-clause-took
returns-in-Some-clause-took c =
    let w = c.args.world.now in
    let is = doomed-ends w.rows (least (doomed_processes w.rows)) c.in-Some.doomed c.in-Some.ensures.found in
    subst (λ bs. Took bs w c.end_threads.new.world c.args.out.now c.end_threads.new.out) (sym is) c.end_threads.ensures.took

pub returns-in_default-clause-took : goal.returns-in_default-clause-took
returns-in_default-clause-took c = none-took c.args.world.now c.args.out.now c.in_default.ensures.found
