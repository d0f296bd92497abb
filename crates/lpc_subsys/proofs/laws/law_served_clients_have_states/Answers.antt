use Rattle.lpc_subsys.proofs.Rows.{serves-clients}
use Rattle.lpc_subsys.proofs.laws.law_served_clients_have_states.Goals as goal

pub returns : goal.returns
returns c = serves-clients
