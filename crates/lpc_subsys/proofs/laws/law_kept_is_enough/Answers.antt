use Rattle.lpc_subsys.proofs.Kept.{goes-on, tells-reply}
use Rattle.lpc_subsys.proofs.laws.law_kept_is_enough.Goals as goal

pub returns-clause-goes_on : goal.returns-clause-goes_on
returns-clause-goes_on c = goes-on

pub returns-clause-tells_reply : goal.returns-clause-tells_reply
returns-clause-tells_reply c = tells-reply
