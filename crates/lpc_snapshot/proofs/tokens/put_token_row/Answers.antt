use Rattle.std.proofs.Common.{ap, decimal, vec_capacity}
use Rattle.lpc_model.specs.Found.{token_name}
use Rattle.lpc_rows.specs.Shown.{shown_token}
use Rattle.lpc_states.specs.Rows.{counts, token_row}
use Rattle.lpc_states.specs.Values.{or_null}
use Rattle.lpc_states.proofs.Puts.{IsPut, as_two, first_same, put_last, put_more, put_stops, second_same}
use Rattle.lpc_snapshot.proofs.tokens.put_token_row.Goals as goal

pub returns-in_err-put_object : goal.returns-in_err-put_object
unfolding token_row
returns-in_err-put_object c =
    let all : IsPut c.args.into.now.items (vec_capacity c.args.into.now) c.put_object.new.into.items (vec_capacity c.put_object.new.into) (token_row c.args.world.now.rows (shown_token (c.args.key, c.args.token.now))) c.from_residual.result =
    put_stops _ _ _ c.from_residual.ensures.0 c.in_err-put_object.ensures.err c.in_err-put_object.ensures.capacity c.in_err-put_object.ensures.wanting in
    record { ok = all.ok; err = all.err; capacity = all.capacity; wanting = all.wanting }

pub returns-in_err-put_row_token : goal.returns-in_err-put_row_token
unfolding token_row
returns-in_err-put_row_token c =
    let all : IsPut c.args.into.now.items (vec_capacity c.args.into.now) c.put_row_token.new.into.items (vec_capacity c.put_row_token.new.into) (token_row c.args.world.now.rows (shown_token (c.args.key, c.args.token.now))) c.from_residual-in_err-put_row_token.result =
    put_more _ _ c.in_ok-put_object.ensures.ok c.in_ok-put_object.ensures.capacity
    (as_two _ _ _ (put_stops _ _ _ c.from_residual-in_err-put_row_token.ensures.0 c.in_err-put_row_token.ensures.err c.in_err-put_row_token.ensures.capacity c.in_err-put_row_token.ensures.wanting)) in
    record { ok = all.ok; err = all.err; capacity = all.capacity; wanting = all.wanting }

pub returns-in_err-put_number_or_null_under : goal.returns-in_err-put_number_or_null_under
unfolding token_row
returns-in_err-put_number_or_null_under c =
    let all : IsPut c.args.into.now.items (vec_capacity c.args.into.now) c.put_number_or_null_under.new.into.items (vec_capacity c.put_number_or_null_under.new.into) (token_row c.args.world.now.rows (shown_token (c.args.key, c.args.token.now))) c.from_residual-in_err-put_number_or_null_under.result =
    put_more _ _ c.in_ok-put_object.ensures.ok c.in_ok-put_object.ensures.capacity
    (as_two _ _ _ (put_more _ _ c.in_ok-put_row_token.ensures.ok c.in_ok-put_row_token.ensures.capacity
    (second_same _ _ _ _ (ap (or_null decimal) c.level_of.ensures) (as_two _ _ _ (put_stops _ _ _ c.from_residual-in_err-put_number_or_null_under.ensures.0 c.in_err-put_number_or_null_under.ensures.err c.in_err-put_number_or_null_under.ensures.capacity c.in_err-put_number_or_null_under.ensures.wanting))))) in
    record { ok = all.ok; err = all.err; capacity = all.capacity; wanting = all.wanting }

pub returns-in_err-put_counts : goal.returns-in_err-put_counts
unfolding token_row
returns-in_err-put_counts c =
    let all : IsPut c.args.into.now.items (vec_capacity c.args.into.now) c.put_counts.new.into.items (vec_capacity c.put_counts.new.into) (token_row c.args.world.now.rows (shown_token (c.args.key, c.args.token.now))) c.from_residual-in_err-put_counts.result =
    put_more _ _ c.in_ok-put_object.ensures.ok c.in_ok-put_object.ensures.capacity
    (as_two _ _ _ (put_more _ _ c.in_ok-put_row_token.ensures.ok c.in_ok-put_row_token.ensures.capacity
    (second_same _ _ _ _ (ap (or_null decimal) c.level_of.ensures) (as_two _ _ _ (put_more _ _ c.in_ok-put_number_or_null_under.ensures.ok c.in_ok-put_number_or_null_under.ensures.capacity
    (first_same _ _ _ (ap (λ b. counts c.args.world.now.rows (token_name b)) c.requires.name) (put_stops _ _ _ c.from_residual-in_err-put_counts.ensures.0 c.in_err-put_counts.ensures.err c.in_err-put_counts.ensures.capacity c.in_err-put_counts.ensures.wanting))))))) in
    record { ok = all.ok; err = all.err; capacity = all.capacity; wanting = all.wanting }

pub returns : goal.returns
unfolding token_row
returns c =
    let all : IsPut c.args.into.now.items (vec_capacity c.args.into.now) c.put.new.into.items (vec_capacity c.put.new.into) (token_row c.args.world.now.rows (shown_token (c.args.key, c.args.token.now))) c.put.result =
    put_more _ _ c.in_ok-put_object.ensures.ok c.in_ok-put_object.ensures.capacity
    (as_two _ _ _ (put_more _ _ c.in_ok-put_row_token.ensures.ok c.in_ok-put_row_token.ensures.capacity
    (second_same _ _ _ _ (ap (or_null decimal) c.level_of.ensures) (as_two _ _ _ (put_more _ _ c.in_ok-put_number_or_null_under.ensures.ok c.in_ok-put_number_or_null_under.ensures.capacity
    (first_same _ _ _ (ap (λ b. counts c.args.world.now.rows (token_name b)) c.requires.name) (put_more _ _ c.in_ok-put_counts.ensures.ok c.in_ok-put_counts.ensures.capacity
    (put_last _ c.put.ensures.ok c.put.ensures.err c.put.ensures.capacity c.put.ensures.wanting)))))))) in
    record { ok = all.ok; err = all.err; capacity = all.capacity; wanting = all.wanting }
