use Rattle.lpc_base.proofs.Bases.{new_bases_are_least}
use Rattle.lpc_base.proofs.laws.law_new_base_is_least.Goals as goal

pub returns : goal.returns
returns c = new_bases_are_least
