use Rattle.lpc_names.proofs.Bound.{linked-as-direct}
use Rattle.lpc_names.proofs.Walks.{turns}
use Rattle.lpc_names.proofs.laws.law_linked_path_leads_as_direct.Goals as goal

pub returns-clause-step : goal.returns-clause-step
returns-clause-step g c = turns

pub returns-clause-texts : goal.returns-clause-texts
returns-clause-texts g c = linked-as-direct
