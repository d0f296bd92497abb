use Rattle.std.proofs.Common.{vec_capacity}
use Rattle.lpc_states.specs.Changes.{told_as}
use Rattle.lpc_states.proofs.Puts.{IsPut, put_last, put_more, put_stops}
use Rattle.lpc_states.proofs.changes.put_told.Goals as goal

pub returns-in_err-put : goal.returns-in_err-put
unfolding told_as
returns-in_err-put c =
    let all : IsPut c.args.into.now.items (vec_capacity c.args.into.now) c.put.new.into.items (vec_capacity c.put.new.into) (told_as c.args.line c.args.word.now c.args.row.now) c.from_residual.result =
    put_stops _ _ _ c.from_residual.ensures.0 c.in_err-put.ensures.err c.in_err-put.ensures.capacity c.in_err-put.ensures.wanting in
    record { ok = all.ok; err = all.err; capacity = all.capacity; wanting = all.wanting }

pub returns-in_err-put_decimal : goal.returns-in_err-put_decimal
unfolding told_as
returns-in_err-put_decimal c =
    let all : IsPut c.args.into.now.items (vec_capacity c.args.into.now) c.put_decimal.new.into.items (vec_capacity c.put_decimal.new.into) (told_as c.args.line c.args.word.now c.args.row.now) c.from_residual-in_err-put_decimal.result =
    put_more _ _ c.in_ok-put.ensures.ok c.in_ok-put.ensures.capacity
    (put_stops _ _ _ c.from_residual-in_err-put_decimal.ensures.0 c.in_err-put_decimal.ensures.err c.in_err-put_decimal.ensures.capacity c.in_err-put_decimal.ensures.wanting) in
    record { ok = all.ok; err = all.err; capacity = all.capacity; wanting = all.wanting }

pub returns-in_err-put-2 : goal.returns-in_err-put-2
unfolding told_as
returns-in_err-put-2 c =
    let all : IsPut c.args.into.now.items (vec_capacity c.args.into.now) c.put-2.new.into.items (vec_capacity c.put-2.new.into) (told_as c.args.line c.args.word.now c.args.row.now) c.from_residual-in_err-put-2.result =
    put_more _ _ c.in_ok-put.ensures.ok c.in_ok-put.ensures.capacity
    (put_more _ _ c.in_ok-put_decimal.ensures.ok c.in_ok-put_decimal.ensures.capacity
    (put_stops _ _ _ c.from_residual-in_err-put-2.ensures.0 c.in_err-put-2.ensures.err c.in_err-put-2.ensures.capacity c.in_err-put-2.ensures.wanting)) in
    record { ok = all.ok; err = all.err; capacity = all.capacity; wanting = all.wanting }

pub returns-in_err-put-3 : goal.returns-in_err-put-3
unfolding told_as
returns-in_err-put-3 c =
    let all : IsPut c.args.into.now.items (vec_capacity c.args.into.now) c.put-3.new.into.items (vec_capacity c.put-3.new.into) (told_as c.args.line c.args.word.now c.args.row.now) c.from_residual-in_err-put-3.result =
    put_more _ _ c.in_ok-put.ensures.ok c.in_ok-put.ensures.capacity
    (put_more _ _ c.in_ok-put_decimal.ensures.ok c.in_ok-put_decimal.ensures.capacity
    (put_more _ _ c.in_ok-put-2.ensures.ok c.in_ok-put-2.ensures.capacity
    (put_stops _ _ _ c.from_residual-in_err-put-3.ensures.0 c.in_err-put-3.ensures.err c.in_err-put-3.ensures.capacity c.in_err-put-3.ensures.wanting))) in
    record { ok = all.ok; err = all.err; capacity = all.capacity; wanting = all.wanting }

pub returns-in_err-put-4 : goal.returns-in_err-put-4
unfolding told_as
returns-in_err-put-4 c =
    let all : IsPut c.args.into.now.items (vec_capacity c.args.into.now) c.put-4.new.into.items (vec_capacity c.put-4.new.into) (told_as c.args.line c.args.word.now c.args.row.now) c.from_residual-in_err-put-4.result =
    put_more _ _ c.in_ok-put.ensures.ok c.in_ok-put.ensures.capacity
    (put_more _ _ c.in_ok-put_decimal.ensures.ok c.in_ok-put_decimal.ensures.capacity
    (put_more _ _ c.in_ok-put-2.ensures.ok c.in_ok-put-2.ensures.capacity
    (put_more _ _ c.in_ok-put-3.ensures.ok c.in_ok-put-3.ensures.capacity
    (put_stops _ _ _ c.from_residual-in_err-put-4.ensures.0 c.in_err-put-4.ensures.err c.in_err-put-4.ensures.capacity c.in_err-put-4.ensures.wanting)))) in
    record { ok = all.ok; err = all.err; capacity = all.capacity; wanting = all.wanting }

pub returns-in_err-put-5 : goal.returns-in_err-put-5
unfolding told_as
returns-in_err-put-5 c =
    let all : IsPut c.args.into.now.items (vec_capacity c.args.into.now) c.put-5.new.into.items (vec_capacity c.put-5.new.into) (told_as c.args.line c.args.word.now c.args.row.now) c.from_residual-in_err-put-5.result =
    put_more _ _ c.in_ok-put.ensures.ok c.in_ok-put.ensures.capacity
    (put_more _ _ c.in_ok-put_decimal.ensures.ok c.in_ok-put_decimal.ensures.capacity
    (put_more _ _ c.in_ok-put-2.ensures.ok c.in_ok-put-2.ensures.capacity
    (put_more _ _ c.in_ok-put-3.ensures.ok c.in_ok-put-3.ensures.capacity
    (put_more _ _ c.in_ok-put-4.ensures.ok c.in_ok-put-4.ensures.capacity
    (put_stops _ _ _ c.from_residual-in_err-put-5.ensures.0 c.in_err-put-5.ensures.err c.in_err-put-5.ensures.capacity c.in_err-put-5.ensures.wanting))))) in
    record { ok = all.ok; err = all.err; capacity = all.capacity; wanting = all.wanting }

pub returns : goal.returns
unfolding told_as
returns c =
    let all : IsPut c.args.into.now.items (vec_capacity c.args.into.now) c.put-6.new.into.items (vec_capacity c.put-6.new.into) (told_as c.args.line c.args.word.now c.args.row.now) c.put-6.result =
    put_more _ _ c.in_ok-put.ensures.ok c.in_ok-put.ensures.capacity
    (put_more _ _ c.in_ok-put_decimal.ensures.ok c.in_ok-put_decimal.ensures.capacity
    (put_more _ _ c.in_ok-put-2.ensures.ok c.in_ok-put-2.ensures.capacity
    (put_more _ _ c.in_ok-put-3.ensures.ok c.in_ok-put-3.ensures.capacity
    (put_more _ _ c.in_ok-put-4.ensures.ok c.in_ok-put-4.ensures.capacity
    (put_more _ _ c.in_ok-put-5.ensures.ok c.in_ok-put-5.ensures.capacity
    (put_last _ c.put-6.ensures.ok c.put-6.ensures.err c.put-6.ensures.capacity c.put-6.ensures.wanting)))))) in
    record { ok = all.ok; err = all.err; capacity = all.capacity; wanting = all.wanting }
