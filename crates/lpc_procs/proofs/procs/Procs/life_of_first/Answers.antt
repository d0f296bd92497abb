use Rattle.std.proofs.Common.{ap, ◌∙◌}
use Rattle.lpc_procs.specs.Kept.{life_of_first}
use Rattle.lpc_procs.proofs.procs.Procs.life_of_first.Goals as goal

pub returns-in-Some : goal.returns-in-Some
returns-in-Some c = c.life_count.ensures ∙ ap life_of_first c.in-Some.ensures

pub returns-in-None : goal.returns-in-None
returns-in-None c = ap life_of_first c.in-None.ensures
