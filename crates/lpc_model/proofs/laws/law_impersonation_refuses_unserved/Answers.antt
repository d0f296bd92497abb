use Rattle.lpc_model.proofs.Runs.{allowing_run, client_ends_run, unserved_alone, unserved_run}
use Rattle.lpc_model.proofs.laws.law_impersonation_refuses_unserved.Goals as goal

pub returns-clause-alone : goal.returns-clause-alone
returns-clause-alone c = unserved_alone

pub returns-clause-clients : goal.returns-clause-clients
returns-clause-clients c = allowing_run

pub returns-clause-ends : goal.returns-clause-ends
returns-clause-ends c = client_ends_run

pub returns-clause-runs : goal.returns-clause-runs
returns-clause-runs c = unserved_run
