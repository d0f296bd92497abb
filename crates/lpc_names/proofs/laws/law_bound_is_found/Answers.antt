use Rattle.lpc_names.proofs.Bound.{bound-is-found}
use Rattle.lpc_names.proofs.laws.law_bound_is_found.Goals as goal

pub returns : goal.returns
returns g c = bound-is-found
