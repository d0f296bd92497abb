use Rattle.lpc_model.proofs.Account.Runs.{deaths-accounted}
use Rattle.lpc_model.proofs.Runs.{closings_told_run, deaths_told_run, living_registrations_run, leaves_nothing_run, single_registrations_run}
use Rattle.lpc_model.proofs.laws.law_death.Goals as goal

pub returns-clause-runs : goal.returns-clause-runs
returns-clause-runs c = deaths_told_run

pub returns-clause-closings : goal.returns-clause-closings
returns-clause-closings c = closings_told_run

pub returns-clause-accounted : goal.returns-clause-accounted
returns-clause-accounted c = deaths-accounted

pub returns-clause-nothing_left : goal.returns-clause-nothing_left
returns-clause-nothing_left c = leaves_nothing_run

pub returns-clause-living_registrations : goal.returns-clause-living_registrations
returns-clause-living_registrations c = living_registrations_run

pub returns-clause-single_registrations : goal.returns-clause-single_registrations
returns-clause-single_registrations c = single_registrations_run
