use Rattle.lpc_subsys.proofs.Small.{kept-small}
use Rattle.lpc_subsys.proofs.laws.law_kept_is_small.Goals as goal

pub returns : goal.returns
returns c = kept-small
