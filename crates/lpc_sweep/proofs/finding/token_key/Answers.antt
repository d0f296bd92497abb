use Rattle.std.proofs.Common.{Some, ap, arith, length, option_map, subst, true, ◌≡◌, ◌∙◌}
use Rattle.std.proofs.lemmas.List.{length-map}
use Rattle.lpc_model.specs.World as model
use Rattle.lpc_rows.specs.Names.{Names, are_apart}
use Rattle.lpc_rows.specs.Shown.{shown_token}
use Rattle.lpc_tokens.specs.declared.token_row.TokenRow.{TokenRow}
use Rattle.lpc_slots.specs.Table.{listed}
use Rattle.lpc_sweep.proofs.Places as places
use Rattle.lpc_sweep.proofs.finding.token_key.Goals as goal

pub row-requires : goal.row-requires
row-requires c = omega (arith, c.requires, ap length c.tokens.ensures.tokens, length-map (listed c.tokens.result.now) shown_token)

pub returns-clause-stands : goal.returns-clause-stands
returns-clause-stands c =
    let apart = subst (λ (names : Names). are_apart names ≡ true) c.tokens.ensures.births c.tokens.ensures.apart in
    rw c.tokens.ensures.births (places.its_key (λ (t : TokenRow). t.birth) (listed c.tokens.result.now) apart c.args.place (c.row.result.0, c.row.result.1.now) c.row.ensures)

pub returns-clause-birth : goal.returns-clause-birth
returns-clause-birth c =
    let apart = subst (λ (names : Names). are_apart names ≡ true) c.tokens.ensures.births c.tokens.ensures.apart in
    let found = ap (option_map (λ (t : model.TokenRow). t.birth)) (places.mapped_at shown_token (listed c.tokens.result.now) c.args.place ∙ ap (option_map shown_token) c.row.ensures) in
    rw (c.tokens.ensures.tokens, c.tokens.ensures.births) (found ∙ ap Some (places.its_name (λ (t : TokenRow). t.birth) (listed c.tokens.result.now) apart c.args.place (c.row.result.0, c.row.result.1.now) c.row.ensures))
