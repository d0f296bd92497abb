use Rattle.lpc_model.proofs.Runs.{lawful_none, lawful_step}
use Rattle.lpc_model.proofs.laws.law_lawful_worlds.Goals as goal

pub returns-clause-first : goal.returns-clause-first
returns-clause-first c = lawful_none

pub returns-clause-steps : goal.returns-clause-steps
returns-clause-steps c = lawful_step
