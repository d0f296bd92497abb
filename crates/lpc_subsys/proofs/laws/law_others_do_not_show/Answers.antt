use Rattle.lpc_subsys.proofs.Events.{others-dont-show}
use Rattle.lpc_subsys.proofs.laws.law_others_do_not_show.Goals as goal

pub returns : goal.returns
returns c = others-dont-show
