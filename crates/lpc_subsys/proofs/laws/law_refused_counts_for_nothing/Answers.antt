use Rattle.lpc_subsys.proofs.Refused.{refused-counts}
use Rattle.lpc_subsys.proofs.laws.law_refused_counts_for_nothing.Goals as goal

pub returns : goal.returns
returns c = refused-counts
