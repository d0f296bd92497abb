use Rattle.std.proofs.Common.{ap, vec_capacity}
use Rattle.lpc_states.specs.Values.{listed, sid_text, token_text}
use Rattle.lpc_states.proofs.Puts.{IsPut, first_same, put_last, put_more, put_stops}
use Rattle.lpc_states.proofs.tokens.put_token.Goals as goal

pub returns-in_err-put : goal.returns-in_err-put
unfolding token_text
returns-in_err-put c =
    let all : IsPut c.args.into.now.items (vec_capacity c.args.into.now) c.put.new.into.items (vec_capacity c.put.new.into) (token_text c.args.token.now) c.from_residual.result =
    put_stops _ _ _ c.from_residual.ensures.0 c.in_err-put.ensures.err c.in_err-put.ensures.capacity c.in_err-put.ensures.wanting in
    record { ok = all.ok; err = all.err; capacity = all.capacity; wanting = all.wanting }

pub returns-in_err-put_quoted_sid : goal.returns-in_err-put_quoted_sid
unfolding token_text
returns-in_err-put_quoted_sid c =
    let all : IsPut c.args.into.now.items (vec_capacity c.args.into.now) c.put_quoted_sid.new.into.items (vec_capacity c.put_quoted_sid.new.into) (token_text c.args.token.now) c.from_residual-in_err-put_quoted_sid.result =
    put_more _ _ c.in_ok-put.ensures.ok c.in_ok-put.ensures.capacity
    (put_stops _ _ _ c.from_residual-in_err-put_quoted_sid.ensures.0 c.in_err-put_quoted_sid.ensures.err c.in_err-put_quoted_sid.ensures.capacity c.in_err-put_quoted_sid.ensures.wanting) in
    record { ok = all.ok; err = all.err; capacity = all.capacity; wanting = all.wanting }

pub returns-in_err-put-2 : goal.returns-in_err-put-2
unfolding token_text
returns-in_err-put-2 c =
    let all : IsPut c.args.into.now.items (vec_capacity c.args.into.now) c.put-2.new.into.items (vec_capacity c.put-2.new.into) (token_text c.args.token.now) c.from_residual-in_err-put-2.result =
    put_more _ _ c.in_ok-put.ensures.ok c.in_ok-put.ensures.capacity
    (put_more _ _ c.in_ok-put_quoted_sid.ensures.ok c.in_ok-put_quoted_sid.ensures.capacity
    (put_stops _ _ _ c.from_residual-in_err-put-2.ensures.0 c.in_err-put-2.ensures.err c.in_err-put-2.ensures.capacity c.in_err-put-2.ensures.wanting)) in
    record { ok = all.ok; err = all.err; capacity = all.capacity; wanting = all.wanting }

pub returns-in_err-put_sids : goal.returns-in_err-put_sids
unfolding token_text
returns-in_err-put_sids c =
    let all : IsPut c.args.into.now.items (vec_capacity c.args.into.now) c.put_sids.new.into.items (vec_capacity c.put_sids.new.into) (token_text c.args.token.now) c.from_residual-in_err-put_sids.result =
    put_more _ _ c.in_ok-put.ensures.ok c.in_ok-put.ensures.capacity
    (put_more _ _ c.in_ok-put_quoted_sid.ensures.ok c.in_ok-put_quoted_sid.ensures.capacity
    (put_more _ _ c.in_ok-put-2.ensures.ok c.in_ok-put-2.ensures.capacity
    (first_same _ _ _ (ap (listed sid_text) c.as_slice.ensures.value) (put_stops _ _ _ c.from_residual-in_err-put_sids.ensures.0 c.in_err-put_sids.ensures.err c.in_err-put_sids.ensures.capacity c.in_err-put_sids.ensures.wanting)))) in
    record { ok = all.ok; err = all.err; capacity = all.capacity; wanting = all.wanting }

pub returns : goal.returns
unfolding token_text
returns c =
    let all : IsPut c.args.into.now.items (vec_capacity c.args.into.now) c.put-3.new.into.items (vec_capacity c.put-3.new.into) (token_text c.args.token.now) c.put-3.result =
    put_more _ _ c.in_ok-put.ensures.ok c.in_ok-put.ensures.capacity
    (put_more _ _ c.in_ok-put_quoted_sid.ensures.ok c.in_ok-put_quoted_sid.ensures.capacity
    (put_more _ _ c.in_ok-put-2.ensures.ok c.in_ok-put-2.ensures.capacity
    (first_same _ _ _ (ap (listed sid_text) c.as_slice.ensures.value) (put_more _ _ c.in_ok-put_sids.ensures.ok c.in_ok-put_sids.ensures.capacity
    (put_last _ c.put-3.ensures.ok c.put-3.ensures.err c.put-3.ensures.capacity c.put-3.ensures.wanting))))) in
    record { ok = all.ok; err = all.err; capacity = all.capacity; wanting = all.wanting }
