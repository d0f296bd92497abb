use Rattle.std.proofs.Common.{vec_capacity}
use Rattle.lpc_states.specs.Values.{allowed_text}
use Rattle.lpc_states.proofs.Puts.{IsPut, put_last, put_more, put_stops}
use Rattle.lpc_states.proofs.tokens.put_allowed.Goals as goal

pub returns-in_err-put : goal.returns-in_err-put
unfolding allowed_text
returns-in_err-put c =
    let all : IsPut c.args.into.now.items (vec_capacity c.args.into.now) c.put.new.into.items (vec_capacity c.put.new.into) (allowed_text c.args.quality.now c.args.kept.now) c.from_residual.result =
    put_stops _ _ _ c.from_residual.ensures.0 c.in_err-put.ensures.err c.in_err-put.ensures.capacity c.in_err-put.ensures.wanting in
    record { ok = all.ok; err = all.err; capacity = all.capacity; wanting = all.wanting }

pub returns-in_err-put_level : goal.returns-in_err-put_level
unfolding allowed_text
returns-in_err-put_level c =
    let all : IsPut c.args.into.now.items (vec_capacity c.args.into.now) c.put_level.new.into.items (vec_capacity c.put_level.new.into) (allowed_text c.args.quality.now c.args.kept.now) c.from_residual-in_err-put_level.result =
    put_more _ _ c.in_ok-put.ensures.ok c.in_ok-put.ensures.capacity
    (put_stops _ _ _ c.from_residual-in_err-put_level.ensures.0 c.in_err-put_level.ensures.err c.in_err-put_level.ensures.capacity c.in_err-put_level.ensures.wanting) in
    record { ok = all.ok; err = all.err; capacity = all.capacity; wanting = all.wanting }

pub returns-in_err-put-2 : goal.returns-in_err-put-2
unfolding allowed_text
returns-in_err-put-2 c =
    let all : IsPut c.args.into.now.items (vec_capacity c.args.into.now) c.put-2.new.into.items (vec_capacity c.put-2.new.into) (allowed_text c.args.quality.now c.args.kept.now) c.from_residual-in_err-put-2.result =
    put_more _ _ c.in_ok-put.ensures.ok c.in_ok-put.ensures.capacity
    (put_more _ _ c.in_ok-put_level.ensures.ok c.in_ok-put_level.ensures.capacity
    (put_stops _ _ _ c.from_residual-in_err-put-2.ensures.0 c.in_err-put-2.ensures.err c.in_err-put-2.ensures.capacity c.in_err-put-2.ensures.wanting)) in
    record { ok = all.ok; err = all.err; capacity = all.capacity; wanting = all.wanting }

pub returns-in_err-put_tracking : goal.returns-in_err-put_tracking
unfolding allowed_text
returns-in_err-put_tracking c =
    let all : IsPut c.args.into.now.items (vec_capacity c.args.into.now) c.put_tracking.new.into.items (vec_capacity c.put_tracking.new.into) (allowed_text c.args.quality.now c.args.kept.now) c.from_residual-in_err-put_tracking.result =
    put_more _ _ c.in_ok-put.ensures.ok c.in_ok-put.ensures.capacity
    (put_more _ _ c.in_ok-put_level.ensures.ok c.in_ok-put_level.ensures.capacity
    (put_more _ _ c.in_ok-put-2.ensures.ok c.in_ok-put-2.ensures.capacity
    (put_stops _ _ _ c.from_residual-in_err-put_tracking.ensures.0 c.in_err-put_tracking.ensures.err c.in_err-put_tracking.ensures.capacity c.in_err-put_tracking.ensures.wanting))) in
    record { ok = all.ok; err = all.err; capacity = all.capacity; wanting = all.wanting }

pub returns-in_err-put-3 : goal.returns-in_err-put-3
unfolding allowed_text
returns-in_err-put-3 c =
    let all : IsPut c.args.into.now.items (vec_capacity c.args.into.now) c.put-3.new.into.items (vec_capacity c.put-3.new.into) (allowed_text c.args.quality.now c.args.kept.now) c.from_residual-in_err-put-3.result =
    put_more _ _ c.in_ok-put.ensures.ok c.in_ok-put.ensures.capacity
    (put_more _ _ c.in_ok-put_level.ensures.ok c.in_ok-put_level.ensures.capacity
    (put_more _ _ c.in_ok-put-2.ensures.ok c.in_ok-put-2.ensures.capacity
    (put_more _ _ c.in_ok-put_tracking.ensures.ok c.in_ok-put_tracking.ensures.capacity
    (put_stops _ _ _ c.from_residual-in_err-put-3.ensures.0 c.in_err-put-3.ensures.err c.in_err-put-3.ensures.capacity c.in_err-put-3.ensures.wanting)))) in
    record { ok = all.ok; err = all.err; capacity = all.capacity; wanting = all.wanting }

pub returns-in_err-put_leveled : goal.returns-in_err-put_leveled
unfolding allowed_text
returns-in_err-put_leveled c =
    let all : IsPut c.args.into.now.items (vec_capacity c.args.into.now) c.put_leveled.new.into.items (vec_capacity c.put_leveled.new.into) (allowed_text c.args.quality.now c.args.kept.now) c.from_residual-in_err-put_leveled.result =
    put_more _ _ c.in_ok-put.ensures.ok c.in_ok-put.ensures.capacity
    (put_more _ _ c.in_ok-put_level.ensures.ok c.in_ok-put_level.ensures.capacity
    (put_more _ _ c.in_ok-put-2.ensures.ok c.in_ok-put-2.ensures.capacity
    (put_more _ _ c.in_ok-put_tracking.ensures.ok c.in_ok-put_tracking.ensures.capacity
    (put_more _ _ c.in_ok-put-3.ensures.ok c.in_ok-put-3.ensures.capacity
    (put_stops _ _ _ c.from_residual-in_err-put_leveled.ensures.0 c.in_err-put_leveled.ensures.err c.in_err-put_leveled.ensures.capacity c.in_err-put_leveled.ensures.wanting))))) in
    record { ok = all.ok; err = all.err; capacity = all.capacity; wanting = all.wanting }

pub returns : goal.returns
unfolding allowed_text
returns c =
    let all : IsPut c.args.into.now.items (vec_capacity c.args.into.now) c.put-4.new.into.items (vec_capacity c.put-4.new.into) (allowed_text c.args.quality.now c.args.kept.now) c.put-4.result =
    put_more _ _ c.in_ok-put.ensures.ok c.in_ok-put.ensures.capacity
    (put_more _ _ c.in_ok-put_level.ensures.ok c.in_ok-put_level.ensures.capacity
    (put_more _ _ c.in_ok-put-2.ensures.ok c.in_ok-put-2.ensures.capacity
    (put_more _ _ c.in_ok-put_tracking.ensures.ok c.in_ok-put_tracking.ensures.capacity
    (put_more _ _ c.in_ok-put-3.ensures.ok c.in_ok-put-3.ensures.capacity
    (put_more _ _ c.in_ok-put_leveled.ensures.ok c.in_ok-put_leveled.ensures.capacity
    (put_last _ c.put-4.ensures.ok c.put-4.ensures.err c.put-4.ensures.capacity c.put-4.ensures.wanting)))))) in
    record { ok = all.ok; err = all.err; capacity = all.capacity; wanting = all.wanting }
