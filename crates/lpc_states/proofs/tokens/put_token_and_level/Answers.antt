use Rattle.std.proofs.Common.{ap, decimal, rules, vec_capacity}
use Rattle.lpc_states.specs.Values.{leveled_text, or_null}
use Rattle.lpc_states.proofs.Puts.{IsPut, as_two, put_last, put_more, put_stops, second_same}
use Rattle.lpc_states.proofs.tokens.put_token_and_level.Goals as goal

pub returns-in_err-put_token_under : goal.returns-in_err-put_token_under
unfolding leveled_text
returns-in_err-put_token_under c =
    let all : IsPut c.args.into.now.items (vec_capacity c.args.into.now) c.put_token_under.new.into.items (vec_capacity c.put_token_under.new.into) (leveled_text c.args.token.now c.args.level) c.from_residual.result =
    as_two _ _ _ (put_stops _ _ _ c.from_residual.ensures.0 c.in_err-put_token_under.ensures.err c.in_err-put_token_under.ensures.capacity c.in_err-put_token_under.ensures.wanting) in
    record { ok = all.ok; err = all.err; capacity = all.capacity; wanting = all.wanting }

pub returns-in_err-put_number_or_null_under : goal.returns-in_err-put_number_or_null_under
unfolding leveled_text
returns-in_err-put_number_or_null_under c =
    let all : IsPut c.args.into.now.items (vec_capacity c.args.into.now) c.put_number_or_null_under.new.into.items (vec_capacity c.put_number_or_null_under.new.into) (leveled_text c.args.token.now c.args.level) c.from_residual-in_err-put_number_or_null_under.result =
    as_two _ _ _ (put_more _ _ c.in_ok-put_token_under.ensures.ok c.in_ok-put_token_under.ensures.capacity
    (second_same _ _ _ _ (ap (or_null decimal) (search rules)) (as_two _ _ _ (put_stops _ _ _ c.from_residual-in_err-put_number_or_null_under.ensures.0 c.in_err-put_number_or_null_under.ensures.err c.in_err-put_number_or_null_under.ensures.capacity c.in_err-put_number_or_null_under.ensures.wanting)))) in
    record { ok = all.ok; err = all.err; capacity = all.capacity; wanting = all.wanting }

pub returns : goal.returns
unfolding leveled_text
returns c =
    let all : IsPut c.args.into.now.items (vec_capacity c.args.into.now) c.put.new.into.items (vec_capacity c.put.new.into) (leveled_text c.args.token.now c.args.level) c.put.result =
    as_two _ _ _ (put_more _ _ c.in_ok-put_token_under.ensures.ok c.in_ok-put_token_under.ensures.capacity
    (second_same _ _ _ _ (ap (or_null decimal) (search rules)) (as_two _ _ _ (put_more _ _ c.in_ok-put_number_or_null_under.ensures.ok c.in_ok-put_number_or_null_under.ensures.capacity
    (put_last _ c.put.ensures.ok c.put.ensures.err c.put.ensures.capacity c.put.ensures.wanting))))) in
    record { ok = all.ok; err = all.err; capacity = all.capacity; wanting = all.wanting }
