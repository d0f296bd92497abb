use Rattle.std.proofs.Common.{◌≡◌, true, sym, ap, ◌∙◌, List, [], ◌∷◌, length, arith}
use Rattle.lpc_base.specs.Rows.{has, without}
use Rattle.lpc_slots.specs.declared.Key.{Key}
use Rattle.lpc_slots.specs.Table.{is_key}
use Rattle.lpc_slots.proofs.forget_key.Goals as goal

-- the only key is the one that goes
only_goes : (key : Key) (keys : List Key) → length keys ≡ 1 → has (λ other. is_key other key) keys ≡ true → without (λ other. is_key other key) keys ≡ []
only_goes key [] one stands = absurd (cc)
only_goes key (other ∷ []) one stands = grind (arith, stands)
only_goes key (other ∷ next ∷ keys) one stands = absurd (omega arith)

pub returns-then-len-eq1-clause-keys : goal.returns-then-len-eq1-clause-keys
returns-then-len-eq1-clause-keys c =
    let one : length c.args.order.now.items ≡ 1 = omega (arith, c.args.order.now.ok.0, c.len.ensures, c.if-len-eq1.true) in
    c.clear.ensures.items ∙ sym (only_goes c.args.key c.args.order.now.items one c.requires.stands)

pub returns-then-len-eq1-clause-len : goal.returns-then-len-eq1-clause-len
returns-then-len-eq1-clause-len c =
    let one : length c.args.order.now.items ≡ 1 = omega (arith, c.args.order.now.ok.0, c.len.ensures, c.if-len-eq1.true) in
    c.clear.ensures.len ∙ sym (ap length (only_goes c.args.key c.args.order.now.items one c.requires.stands))
