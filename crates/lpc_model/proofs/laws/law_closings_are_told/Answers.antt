use Rattle.lpc_model.proofs.Closings.SingleLines.{untold_none}
use Rattle.lpc_model.proofs.Runs.{closings_step, closings_told_run, keeps_run, untold_run}
use Rattle.lpc_model.proofs.laws.law_closings_are_told.Goals as goal

pub returns-clause-runs : goal.returns-clause-runs
returns-clause-runs c = closings_told_run

pub returns-clause-single_closings_first : goal.returns-clause-single_closings_first
returns-clause-single_closings_first c = untold_none

pub returns-clause-single_closings_steps : goal.returns-clause-single_closings_steps
returns-clause-single_closings_steps c = closings_step

pub returns-clause-single_closings_runs : goal.returns-clause-single_closings_runs
returns-clause-single_closings_runs c = untold_run

pub returns-clause-creators : goal.returns-clause-creators
returns-clause-creators c = keeps_run
