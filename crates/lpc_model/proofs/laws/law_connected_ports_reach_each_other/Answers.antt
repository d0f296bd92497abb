use Rattle.lpc_model.proofs.Connected.{reach_each_other}
use Rattle.lpc_model.proofs.laws.law_connected_ports_reach_each_other.Goals as goal

pub returns : goal.returns
returns c = record { reach = reach_each_other }
