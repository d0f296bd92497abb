use Rattle.lpc_model.proofs.Queues.Open.{queues_none}
use Rattle.lpc_model.proofs.Runs.{open_step, queues_run}
use Rattle.lpc_model.proofs.laws.law_open_queues.Goals as goal

pub returns-clause-first : goal.returns-clause-first
returns-clause-first c = queues_none

pub returns-clause-steps : goal.returns-clause-steps
returns-clause-steps c = open_step

pub returns-clause-runs : goal.returns-clause-runs
returns-clause-runs c = queues_run
