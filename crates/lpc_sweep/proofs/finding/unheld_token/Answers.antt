use Rattle.std.proofs.Common.{◌≡◌, ap, sym, ◌∙◌, true, false, not, option_map, arith}
use Rattle.lpc_base.specs.Rows.{every, first}
use Rattle.lpc_model.specs.Found.{token_name}
use Rattle.lpc_model.specs.Sweep.{is_unheld}
use Rattle.lpc_model.specs.World.{TokenRow}
use Rattle.lpc_rows.specs.Names.{name_of}
use Rattle.lpc_sweep.proofs.Places.{drop_all, found_at, held_on, passed_on, row_at_place}
use Rattle.lpc_sweep.proofs.finding.unheld_token.Goals as goal

pub loop-place-preserved : goal.loop-place-preserved
loop-place-preserved c =
    let w = c.args.world.now.rows in
    let b = name_of c.args.world.now.births.tokens c.token_key-token.result in
    let held : not (is_unheld w (token_name b)) ≡ true = grind (arith, c.is_object_held.ensures, c.if-not-is_object_held.false) in
    let off : is_unheld w (token_name b) ≡ false = grind (arith, c.is_object_held.ensures, c.if-not-is_object_held.false) in (
      sym (held_on (λ (t : TokenRow). t.birth) (λ d. not (is_unheld w (token_name d))) w.tokens c.loop-place.place b c.token_key-token.ensures.birth held) ∙ c.loop-place.invariant.0,
      sym (passed_on (λ (t : TokenRow). t.birth) (λ d. is_unheld w (token_name d)) w.tokens c.loop-place.place b c.token_key-token.ensures.birth off) ∙ c.loop-place.invariant.1,
    )

pub returns-clause-none : goal.returns-clause-none
returns-clause-none c =
    let w = c.args.world.now.rows in
    sym c.loop-place.invariant.0
    ∙ ap (every (λ t. not (is_unheld w (token_name t.birth)))) (drop_all w.tokens c.loop-place.place (omega (arith, c.loop-place-test.false, c.token_count-place-end.ensures)))

pub returns-then-not-is_object_held-clause-row : goal.returns-then-not-is_object_held-clause-row
returns-then-not-is_object_held-clause-row c = row_at_place (λ (t : TokenRow). t.birth) c.args.world.now.rows.tokens c.loop-place.place (name_of c.args.world.now.births.tokens c.token_key-token.result) c.token_key-token.ensures.birth

pub returns-clause-oldest : goal.returns-clause-oldest
returns-clause-oldest c =
    let w = c.args.world.now.rows in
    let test = λ (t : TokenRow). is_unheld w (token_name t.birth) in
    let passed = drop_all w.tokens c.loop-place.place (omega (arith, c.loop-place-test.false, c.token_count-place-end.ensures)) in
    sym (ap (option_map (λ (t : TokenRow). t.birth)) (sym c.loop-place.invariant.1 ∙ ap (first test) passed))

pub returns-then-not-is_object_held-clause-oldest : goal.returns-then-not-is_object_held-clause-oldest
returns-then-not-is_object_held-clause-oldest c =
    let w = c.args.world.now.rows in
    let b = name_of c.args.world.now.births.tokens c.token_key-token.result in
    let on : is_unheld w (token_name b) ≡ true = grind (arith, c.is_object_held.ensures, c.if-not-is_object_held.true) in
    sym (ap (option_map (λ (t : TokenRow). t.birth)) (sym c.loop-place.invariant.1) ∙ found_at (λ (t : TokenRow). t.birth) (λ d. is_unheld w (token_name d)) w.tokens c.loop-place.place b c.token_key-token.ensures.birth on)
