use Rattle.std.proofs.Common.{vec_capacity}
use Rattle.lpc_states.specs.Rows.{mark_row}
use Rattle.lpc_states.proofs.Puts.{IsPut, as_two, put_last, put_more, put_stops}
use Rattle.lpc_snapshot.proofs.waits.put_mark.Goals as goal

pub returns-in_err-put_decimal_under : goal.returns-in_err-put_decimal_under
unfolding mark_row
returns-in_err-put_decimal_under c =
    let all : IsPut c.args.into.now.items (vec_capacity c.args.into.now) c.put_decimal_under.new.into.items (vec_capacity c.put_decimal_under.new.into) (mark_row c.args.tid) c.from_residual.result =
    as_two _ _ _ (put_stops _ _ _ c.from_residual.ensures.0 c.in_err-put_decimal_under.ensures.err c.in_err-put_decimal_under.ensures.capacity c.in_err-put_decimal_under.ensures.wanting) in
    record { ok = all.ok; err = all.err; capacity = all.capacity; wanting = all.wanting }

pub returns-in_err-put_decimal_under-2 : goal.returns-in_err-put_decimal_under-2
unfolding mark_row
returns-in_err-put_decimal_under-2 c =
    let all : IsPut c.args.into.now.items (vec_capacity c.args.into.now) c.put_decimal_under-2.new.into.items (vec_capacity c.put_decimal_under-2.new.into) (mark_row c.args.tid) c.from_residual-in_err-put_decimal_under-2.result =
    as_two _ _ _ (put_more _ _ c.in_ok-put_decimal_under.ensures.ok c.in_ok-put_decimal_under.ensures.capacity
    (as_two _ _ _ (put_stops _ _ _ c.from_residual-in_err-put_decimal_under-2.ensures.0 c.in_err-put_decimal_under-2.ensures.err c.in_err-put_decimal_under-2.ensures.capacity c.in_err-put_decimal_under-2.ensures.wanting))) in
    record { ok = all.ok; err = all.err; capacity = all.capacity; wanting = all.wanting }

pub returns : goal.returns
unfolding mark_row
returns c =
    let all : IsPut c.args.into.now.items (vec_capacity c.args.into.now) c.put.new.into.items (vec_capacity c.put.new.into) (mark_row c.args.tid) c.put.result =
    as_two _ _ _ (put_more _ _ c.in_ok-put_decimal_under.ensures.ok c.in_ok-put_decimal_under.ensures.capacity
    (as_two _ _ _ (put_more _ _ c.in_ok-put_decimal_under-2.ensures.ok c.in_ok-put_decimal_under-2.ensures.capacity
    (put_last _ c.put.ensures.ok c.put.ensures.err c.put.ensures.capacity c.put.ensures.wanting)))) in
    record { ok = all.ok; err = all.err; capacity = all.capacity; wanting = all.wanting }
