use Rattle.lpc_model.proofs.Runs.{ports_run, ports_step}
use Rattle.lpc_model.proofs.laws.law_ports_keep_what_they_are.Goals as goal

pub returns-clause-steps : goal.returns-clause-steps
returns-clause-steps c = ports_step

pub returns-clause-runs : goal.returns-clause-runs
returns-clause-runs c = ports_run
