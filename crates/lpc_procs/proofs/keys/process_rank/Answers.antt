use Rattle.std.proofs.Common.{◌∙◌}
use Rattle.std.specs.Prelude.{unwrap_or}
use Rattle.lpc_procs.proofs.Led.{rank-is}
use Rattle.lpc_procs.proofs.keys.process_rank.Goals as goal

pub returns : goal.returns
returns c =
    c.unwrap_or-rank.ensures ∙ (λ i. unwrap_or (c.place.ensures i) (c.len.ensures i)) ∙ rank-is c.args.pid c.args.used.now.entries
