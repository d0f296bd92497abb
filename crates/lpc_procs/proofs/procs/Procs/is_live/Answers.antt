use Rattle.std.proofs.Common.{ap, ◌∙◌}
use Rattle.std.specs.Prelude.{nat_lt}
use Rattle.lpc_procs.proofs.Counts.{counts-one}
use Rattle.lpc_procs.proofs.procs.Procs.is_live.Goals as goal

pub returns : goal.returns
returns c = record { live = ap (nat_lt 0) c.live_count.ensures.count ∙ counts-one c.args.pid c.args.self.now.threads }
