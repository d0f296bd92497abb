use Rattle.std.proofs.Common.{vec_capacity}
use Rattle.lpc_states.specs.Values.{ace_text}
use Rattle.lpc_states.proofs.Puts.{IsPut, as_two, put_last, put_more, put_stops}
use Rattle.lpc_states.proofs.tokens.put_ace.Goals as goal

pub returns-in_err-put_flag_under : goal.returns-in_err-put_flag_under
unfolding ace_text
returns-in_err-put_flag_under c =
    let all : IsPut c.args.into.now.items (vec_capacity c.args.into.now) c.put_flag_under.new.into.items (vec_capacity c.put_flag_under.new.into) (ace_text c.args.ace.now) c.from_residual.result =
    as_two _ _ _ (put_stops _ _ _ c.from_residual.ensures.0 c.in_err-put_flag_under.ensures.err c.in_err-put_flag_under.ensures.capacity c.in_err-put_flag_under.ensures.wanting) in
    record { ok = all.ok; err = all.err; capacity = all.capacity; wanting = all.wanting }

pub returns-in_err-put_hex_under : goal.returns-in_err-put_hex_under
unfolding ace_text
returns-in_err-put_hex_under c =
    let all : IsPut c.args.into.now.items (vec_capacity c.args.into.now) c.put_hex_under.new.into.items (vec_capacity c.put_hex_under.new.into) (ace_text c.args.ace.now) c.from_residual-in_err-put_hex_under.result =
    as_two _ _ _ (put_more _ _ c.in_ok-put_flag_under.ensures.ok c.in_ok-put_flag_under.ensures.capacity
    (as_two _ _ _ (put_stops _ _ _ c.from_residual-in_err-put_hex_under.ensures.0 c.in_err-put_hex_under.ensures.err c.in_err-put_hex_under.ensures.capacity c.in_err-put_hex_under.ensures.wanting))) in
    record { ok = all.ok; err = all.err; capacity = all.capacity; wanting = all.wanting }

pub returns-in_err-put : goal.returns-in_err-put
unfolding ace_text
returns-in_err-put c =
    let all : IsPut c.args.into.now.items (vec_capacity c.args.into.now) c.put.new.into.items (vec_capacity c.put.new.into) (ace_text c.args.ace.now) c.from_residual-in_err-put.result =
    as_two _ _ _ (put_more _ _ c.in_ok-put_flag_under.ensures.ok c.in_ok-put_flag_under.ensures.capacity
    (as_two _ _ _ (put_more _ _ c.in_ok-put_hex_under.ensures.ok c.in_ok-put_hex_under.ensures.capacity
    (put_stops _ _ _ c.from_residual-in_err-put.ensures.0 c.in_err-put.ensures.err c.in_err-put.ensures.capacity c.in_err-put.ensures.wanting)))) in
    record { ok = all.ok; err = all.err; capacity = all.capacity; wanting = all.wanting }

pub returns-in_err-put_quoted_sid : goal.returns-in_err-put_quoted_sid
unfolding ace_text
returns-in_err-put_quoted_sid c =
    let all : IsPut c.args.into.now.items (vec_capacity c.args.into.now) c.put_quoted_sid.new.into.items (vec_capacity c.put_quoted_sid.new.into) (ace_text c.args.ace.now) c.from_residual-in_err-put_quoted_sid.result =
    as_two _ _ _ (put_more _ _ c.in_ok-put_flag_under.ensures.ok c.in_ok-put_flag_under.ensures.capacity
    (as_two _ _ _ (put_more _ _ c.in_ok-put_hex_under.ensures.ok c.in_ok-put_hex_under.ensures.capacity
    (put_more _ _ c.in_ok-put.ensures.ok c.in_ok-put.ensures.capacity
    (put_stops _ _ _ c.from_residual-in_err-put_quoted_sid.ensures.0 c.in_err-put_quoted_sid.ensures.err c.in_err-put_quoted_sid.ensures.capacity c.in_err-put_quoted_sid.ensures.wanting))))) in
    record { ok = all.ok; err = all.err; capacity = all.capacity; wanting = all.wanting }

pub returns : goal.returns
unfolding ace_text
returns c =
    let all : IsPut c.args.into.now.items (vec_capacity c.args.into.now) c.put-2.new.into.items (vec_capacity c.put-2.new.into) (ace_text c.args.ace.now) c.put-2.result =
    as_two _ _ _ (put_more _ _ c.in_ok-put_flag_under.ensures.ok c.in_ok-put_flag_under.ensures.capacity
    (as_two _ _ _ (put_more _ _ c.in_ok-put_hex_under.ensures.ok c.in_ok-put_hex_under.ensures.capacity
    (put_more _ _ c.in_ok-put.ensures.ok c.in_ok-put.ensures.capacity
    (put_more _ _ c.in_ok-put_quoted_sid.ensures.ok c.in_ok-put_quoted_sid.ensures.capacity
    (put_last _ c.put-2.ensures.ok c.put-2.ensures.err c.put-2.ensures.capacity c.put-2.ensures.wanting)))))) in
    record { ok = all.ok; err = all.err; capacity = all.capacity; wanting = all.wanting }
