use Rattle.std.proofs.Common.{◌∷◌, ◌++◌, ◌∙◌, ap, sym, List, ℕ, take}
use Rattle.lpc_transcript.proofs.Pairs.{zero_digits}
use Rattle.lpc_transcript.proofs.spell.write_status.Goals as goal

pub returns-then-status-eq0-clause-text : goal.returns-then-status-eq0-clause-text
returns-then-status-eq0-clause-text c =
    c.write_text.ensures.text
    ∙ ap (λ (digits : List ℕ). take c.args.at c.args.to.now ++ 32 ∷ digits) (sym (zero_digits c.args.status.0 c.if-status-eq0.true))
