use Rattle.std.proofs.Common.{List, ap, length, sym, ◌∙◌}
use Rattle.std.proofs.lemmas.List.{length-map}
use Rattle.lpc_model.specs.World.{TokenRow}
use Rattle.lpc_rows.specs.Shown.{shown_token}
use Rattle.lpc_slots.specs.Table.{listed}
use Rattle.lpc_sweep.proofs.finding.token_count.Goals as goal

pub returns : goal.returns
returns c = c.count.ensures.number ∙ sym (ap (λ (ts : List TokenRow). length ts) c.tokens.ensures.tokens ∙ length-map (listed c.tokens.result.now) shown_token)
