use Rattle.std.proofs.Common.{vec_capacity}
use Rattle.lpc_states.specs.Values.{ace_text, listed}
use Rattle.lpc_states.proofs.Puts.{IsPut, listed_parts, put_last, put_more, put_same, put_stops}
use Rattle.lpc_states.proofs.tokens.put_aces.Goals as goal

pub returns-in_err-put-in-len1-up : goal.returns-in_err-put-in-len1-up
returns-in_err-put-in-len1-up c =
    let all : IsPut c.args.into.now.items (vec_capacity c.args.into.now) c.put-in-len1-up.new.into.items (vec_capacity c.put-in-len1-up.new.into) (listed ace_text c.args.aces.now) c.from_residual.result =
    put_same _ _ (listed_parts ace_text c.args.aces.now c.first-item.result c.in-len1-up.len_at_least c.first-item.is) (put_stops _ _ _ c.from_residual.ensures.0 c.in_err-put-in-len1-up.ensures.err c.in_err-put-in-len1-up.ensures.capacity c.in_err-put-in-len1-up.ensures.wanting) in
    record { ok = all.ok; err = all.err; capacity = all.capacity; wanting = all.wanting }

pub returns-in_err-put_ace-in-len1-up : goal.returns-in_err-put_ace-in-len1-up
returns-in_err-put_ace-in-len1-up c =
    let all : IsPut c.args.into.now.items (vec_capacity c.args.into.now) c.put_ace.new.into.items (vec_capacity c.put_ace.new.into) (listed ace_text c.args.aces.now) c.from_residual-in_err-put_ace-in-len1-up.result =
    put_same _ _ (listed_parts ace_text c.args.aces.now c.first-item.result c.in-len1-up.len_at_least c.first-item.is) (put_more _ _ c.in_ok-put-in-len1-up.ensures.ok c.in_ok-put-in-len1-up.ensures.capacity
    (put_stops _ _ _ c.from_residual-in_err-put_ace-in-len1-up.ensures.0 c.in_err-put_ace-in-len1-up.ensures.err c.in_err-put_ace-in-len1-up.ensures.capacity c.in_err-put_ace-in-len1-up.ensures.wanting)) in
    record { ok = all.ok; err = all.err; capacity = all.capacity; wanting = all.wanting }

pub returns-in_err-put_further_aces-in-len1-up : goal.returns-in_err-put_further_aces-in-len1-up
returns-in_err-put_further_aces-in-len1-up c =
    let all : IsPut c.args.into.now.items (vec_capacity c.args.into.now) c.put_further_aces.new.into.items (vec_capacity c.put_further_aces.new.into) (listed ace_text c.args.aces.now) c.from_residual-in_err-put_further_aces-in-len1-up.result =
    put_same _ _ (listed_parts ace_text c.args.aces.now c.first-item.result c.in-len1-up.len_at_least c.first-item.is) (put_more _ _ c.in_ok-put-in-len1-up.ensures.ok c.in_ok-put-in-len1-up.ensures.capacity
    (put_more _ _ c.in_ok-put_ace-in-len1-up.ensures.ok c.in_ok-put_ace-in-len1-up.ensures.capacity
    (put_stops _ _ _ c.from_residual-in_err-put_further_aces-in-len1-up.ensures.0 c.in_err-put_further_aces-in-len1-up.ensures.err c.in_err-put_further_aces-in-len1-up.ensures.capacity c.in_err-put_further_aces-in-len1-up.ensures.wanting))) in
    record { ok = all.ok; err = all.err; capacity = all.capacity; wanting = all.wanting }

pub returns-in_ok-put_further_aces-in-len1-up : goal.returns-in_ok-put_further_aces-in-len1-up
returns-in_ok-put_further_aces-in-len1-up c =
    let all : IsPut c.args.into.now.items (vec_capacity c.args.into.now) c.put-in-len1-up-2.new.into.items (vec_capacity c.put-in-len1-up-2.new.into) (listed ace_text c.args.aces.now) c.put-in-len1-up-2.result =
    put_same _ _ (listed_parts ace_text c.args.aces.now c.first-item.result c.in-len1-up.len_at_least c.first-item.is) (put_more _ _ c.in_ok-put-in-len1-up.ensures.ok c.in_ok-put-in-len1-up.ensures.capacity
    (put_more _ _ c.in_ok-put_ace-in-len1-up.ensures.ok c.in_ok-put_ace-in-len1-up.ensures.capacity
    (put_more _ _ c.in_ok-put_further_aces-in-len1-up.ensures.ok c.in_ok-put_further_aces-in-len1-up.ensures.capacity
    (put_last _ c.put-in-len1-up-2.ensures.ok c.put-in-len1-up-2.ensures.err c.put-in-len1-up-2.ensures.capacity c.put-in-len1-up-2.ensures.wanting)))) in
    record { ok = all.ok; err = all.err; capacity = all.capacity; wanting = all.wanting }
