use Rattle.lpc_model.proofs.Views.Lines.{views_none}
use Rattle.lpc_model.proofs.Runs.{offering_step, offers_run, viewing_step, views_run}
use Rattle.lpc_model.proofs.laws.law_views.Goals as goal

pub returns-clause-first : goal.returns-clause-first
returns-clause-first c = views_none

pub returns-clause-steps : goal.returns-clause-steps
returns-clause-steps c = viewing_step

pub returns-clause-runs : goal.returns-clause-runs
returns-clause-runs c = views_run

pub returns-clause-offers_steps : goal.returns-clause-offers_steps
returns-clause-offers_steps c = offering_step

pub returns-clause-offers_runs : goal.returns-clause-offers_runs
returns-clause-offers_runs c = offers_run
