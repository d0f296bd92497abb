use Rattle.std.proofs.Common.{vec_capacity}
use Rattle.lpc_states.specs.Rows.{token_name_row}
use Rattle.lpc_states.proofs.Puts.{IsPut, as_two, put_last, put_more, put_stops}
use Rattle.lpc_snapshot.proofs.tokens.put_token_name.Goals as goal

pub returns-in_err-put : goal.returns-in_err-put
unfolding token_name_row
returns-in_err-put c =
    let all : IsPut c.args.into.now.items (vec_capacity c.args.into.now) c.put.new.into.items (vec_capacity c.put.new.into) (token_name_row (record { name = c.args.name.now; token = c.args.token.now })) c.from_residual.result =
    put_stops _ _ _ c.from_residual.ensures.0 c.in_err-put.ensures.err c.in_err-put.ensures.capacity c.in_err-put.ensures.wanting in
    record { ok = all.ok; err = all.err; capacity = all.capacity; wanting = all.wanting }

pub returns-in_err-put_name : goal.returns-in_err-put_name
unfolding token_name_row
returns-in_err-put_name c =
    let all : IsPut c.args.into.now.items (vec_capacity c.args.into.now) c.put_name.new.into.items (vec_capacity c.put_name.new.into) (token_name_row (record { name = c.args.name.now; token = c.args.token.now })) c.from_residual-in_err-put_name.result =
    put_more _ _ c.in_ok-put.ensures.ok c.in_ok-put.ensures.capacity
    (put_stops _ _ _ c.from_residual-in_err-put_name.ensures.0 c.in_err-put_name.ensures.err c.in_err-put_name.ensures.capacity c.in_err-put_name.ensures.wanting) in
    record { ok = all.ok; err = all.err; capacity = all.capacity; wanting = all.wanting }

pub returns-in_err-put_token_under : goal.returns-in_err-put_token_under
unfolding token_name_row
returns-in_err-put_token_under c =
    let all : IsPut c.args.into.now.items (vec_capacity c.args.into.now) c.put_token_under.new.into.items (vec_capacity c.put_token_under.new.into) (token_name_row (record { name = c.args.name.now; token = c.args.token.now })) c.from_residual-in_err-put_token_under.result =
    put_more _ _ c.in_ok-put.ensures.ok c.in_ok-put.ensures.capacity
    (put_more _ _ c.in_ok-put_name.ensures.ok c.in_ok-put_name.ensures.capacity
    (as_two _ _ _ (put_stops _ _ _ c.from_residual-in_err-put_token_under.ensures.0 c.in_err-put_token_under.ensures.err c.in_err-put_token_under.ensures.capacity c.in_err-put_token_under.ensures.wanting))) in
    record { ok = all.ok; err = all.err; capacity = all.capacity; wanting = all.wanting }

pub returns : goal.returns
unfolding token_name_row
returns c =
    let all : IsPut c.args.into.now.items (vec_capacity c.args.into.now) c.put-2.new.into.items (vec_capacity c.put-2.new.into) (token_name_row (record { name = c.args.name.now; token = c.args.token.now })) c.put-2.result =
    put_more _ _ c.in_ok-put.ensures.ok c.in_ok-put.ensures.capacity
    (put_more _ _ c.in_ok-put_name.ensures.ok c.in_ok-put_name.ensures.capacity
    (as_two _ _ _ (put_more _ _ c.in_ok-put_token_under.ensures.ok c.in_ok-put_token_under.ensures.capacity
    (put_last _ c.put-2.ensures.ok c.put-2.ensures.err c.put-2.ensures.capacity c.put-2.ensures.wanting)))) in
    record { ok = all.ok; err = all.err; capacity = all.capacity; wanting = all.wanting }
