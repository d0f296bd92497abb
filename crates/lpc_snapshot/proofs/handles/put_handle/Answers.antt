use Rattle.std.proofs.Common.{vec_capacity}
use Rattle.lpc_rows.specs.Shown.{birth_of, shown_handle}
use Rattle.lpc_states.specs.Rows.{handle_row}
use Rattle.lpc_states.proofs.Puts.{IsPut, as_two, put_last, put_more, put_stops}
use Rattle.lpc_snapshot.proofs.handles.put_handle.Goals as goal

pub returns-in_err-put_decimal_under : goal.returns-in_err-put_decimal_under
unfolding handle_row
returns-in_err-put_decimal_under c =
    let all : IsPut c.args.into.now.items (vec_capacity c.args.into.now) c.put_decimal_under.new.into.items (vec_capacity c.put_decimal_under.new.into) (handle_row c.args.pid (shown_handle (birth_of c.args.world.now.births) (c.args.value, c.args.row))) c.from_residual.result =
    as_two _ _ _ (put_stops _ _ _ c.from_residual.ensures.0 c.in_err-put_decimal_under.ensures.err c.in_err-put_decimal_under.ensures.capacity c.in_err-put_decimal_under.ensures.wanting) in
    record { ok = all.ok; err = all.err; capacity = all.capacity; wanting = all.wanting }

pub returns-in_err-put_decimal_under-2 : goal.returns-in_err-put_decimal_under-2
unfolding handle_row
returns-in_err-put_decimal_under-2 c =
    let all : IsPut c.args.into.now.items (vec_capacity c.args.into.now) c.put_decimal_under-2.new.into.items (vec_capacity c.put_decimal_under-2.new.into) (handle_row c.args.pid (shown_handle (birth_of c.args.world.now.births) (c.args.value, c.args.row))) c.from_residual-in_err-put_decimal_under-2.result =
    as_two _ _ _ (put_more _ _ c.in_ok-put_decimal_under.ensures.ok c.in_ok-put_decimal_under.ensures.capacity
    (as_two _ _ _ (put_stops _ _ _ c.from_residual-in_err-put_decimal_under-2.ensures.0 c.in_err-put_decimal_under-2.ensures.err c.in_err-put_decimal_under-2.ensures.capacity c.in_err-put_decimal_under-2.ensures.wanting))) in
    record { ok = all.ok; err = all.err; capacity = all.capacity; wanting = all.wanting }

pub returns-in_err-put_decimal_under-3 : goal.returns-in_err-put_decimal_under-3
unfolding handle_row
returns-in_err-put_decimal_under-3 c =
    let all : IsPut c.args.into.now.items (vec_capacity c.args.into.now) c.put_decimal_under-3.new.into.items (vec_capacity c.put_decimal_under-3.new.into) (handle_row c.args.pid (shown_handle (birth_of c.args.world.now.births) (c.args.value, c.args.row))) c.from_residual-in_err-put_decimal_under-3.result =
    as_two _ _ _ (put_more _ _ c.in_ok-put_decimal_under.ensures.ok c.in_ok-put_decimal_under.ensures.capacity
    (as_two _ _ _ (put_more _ _ c.in_ok-put_decimal_under-2.ensures.ok c.in_ok-put_decimal_under-2.ensures.capacity
    (as_two _ _ _ (put_stops _ _ _ c.from_residual-in_err-put_decimal_under-3.ensures.0 c.in_err-put_decimal_under-3.ensures.err c.in_err-put_decimal_under-3.ensures.capacity c.in_err-put_decimal_under-3.ensures.wanting))))) in
    record { ok = all.ok; err = all.err; capacity = all.capacity; wanting = all.wanting }

pub returns-in_err-put_decimal_under-4 : goal.returns-in_err-put_decimal_under-4
unfolding handle_row
returns-in_err-put_decimal_under-4 c =
    let all : IsPut c.args.into.now.items (vec_capacity c.args.into.now) c.put_decimal_under-4.new.into.items (vec_capacity c.put_decimal_under-4.new.into) (handle_row c.args.pid (shown_handle (birth_of c.args.world.now.births) (c.args.value, c.args.row))) c.from_residual-in_err-put_decimal_under-4.result =
    as_two _ _ _ (put_more _ _ c.in_ok-put_decimal_under.ensures.ok c.in_ok-put_decimal_under.ensures.capacity
    (as_two _ _ _ (put_more _ _ c.in_ok-put_decimal_under-2.ensures.ok c.in_ok-put_decimal_under-2.ensures.capacity
    (as_two _ _ _ (put_more _ _ c.in_ok-put_decimal_under-3.ensures.ok c.in_ok-put_decimal_under-3.ensures.capacity
    (as_two _ _ _ (put_stops _ _ _ c.from_residual-in_err-put_decimal_under-4.ensures.0 c.in_err-put_decimal_under-4.ensures.err c.in_err-put_decimal_under-4.ensures.capacity c.in_err-put_decimal_under-4.ensures.wanting))))))) in
    record { ok = all.ok; err = all.err; capacity = all.capacity; wanting = all.wanting }

pub returns-in_err-put_name_of_under : goal.returns-in_err-put_name_of_under
unfolding handle_row
returns-in_err-put_name_of_under c =
    let all : IsPut c.args.into.now.items (vec_capacity c.args.into.now) c.put_name_of_under.new.into.items (vec_capacity c.put_name_of_under.new.into) (handle_row c.args.pid (shown_handle (birth_of c.args.world.now.births) (c.args.value, c.args.row))) c.from_residual-in_err-put_name_of_under.result =
    as_two _ _ _ (put_more _ _ c.in_ok-put_decimal_under.ensures.ok c.in_ok-put_decimal_under.ensures.capacity
    (as_two _ _ _ (put_more _ _ c.in_ok-put_decimal_under-2.ensures.ok c.in_ok-put_decimal_under-2.ensures.capacity
    (as_two _ _ _ (put_more _ _ c.in_ok-put_decimal_under-3.ensures.ok c.in_ok-put_decimal_under-3.ensures.capacity
    (as_two _ _ _ (put_more _ _ c.in_ok-put_decimal_under-4.ensures.ok c.in_ok-put_decimal_under-4.ensures.capacity
    (as_two _ _ _ (put_stops _ _ _ c.from_residual-in_err-put_name_of_under.ensures.0 c.in_err-put_name_of_under.ensures.err c.in_err-put_name_of_under.ensures.capacity c.in_err-put_name_of_under.ensures.wanting))))))))) in
    record { ok = all.ok; err = all.err; capacity = all.capacity; wanting = all.wanting }

pub returns-in_err-put_hex_under : goal.returns-in_err-put_hex_under
unfolding handle_row
returns-in_err-put_hex_under c =
    let all : IsPut c.args.into.now.items (vec_capacity c.args.into.now) c.put_hex_under.new.into.items (vec_capacity c.put_hex_under.new.into) (handle_row c.args.pid (shown_handle (birth_of c.args.world.now.births) (c.args.value, c.args.row))) c.from_residual-in_err-put_hex_under.result =
    as_two _ _ _ (put_more _ _ c.in_ok-put_decimal_under.ensures.ok c.in_ok-put_decimal_under.ensures.capacity
    (as_two _ _ _ (put_more _ _ c.in_ok-put_decimal_under-2.ensures.ok c.in_ok-put_decimal_under-2.ensures.capacity
    (as_two _ _ _ (put_more _ _ c.in_ok-put_decimal_under-3.ensures.ok c.in_ok-put_decimal_under-3.ensures.capacity
    (as_two _ _ _ (put_more _ _ c.in_ok-put_decimal_under-4.ensures.ok c.in_ok-put_decimal_under-4.ensures.capacity
    (as_two _ _ _ (put_more _ _ c.in_ok-put_name_of_under.ensures.ok c.in_ok-put_name_of_under.ensures.capacity
    (as_two _ _ _ (put_stops _ _ _ c.from_residual-in_err-put_hex_under.ensures.0 c.in_err-put_hex_under.ensures.err c.in_err-put_hex_under.ensures.capacity c.in_err-put_hex_under.ensures.wanting))))))))))) in
    record { ok = all.ok; err = all.err; capacity = all.capacity; wanting = all.wanting }

pub returns : goal.returns
unfolding handle_row
returns c =
    let all : IsPut c.args.into.now.items (vec_capacity c.args.into.now) c.put.new.into.items (vec_capacity c.put.new.into) (handle_row c.args.pid (shown_handle (birth_of c.args.world.now.births) (c.args.value, c.args.row))) c.put.result =
    as_two _ _ _ (put_more _ _ c.in_ok-put_decimal_under.ensures.ok c.in_ok-put_decimal_under.ensures.capacity
    (as_two _ _ _ (put_more _ _ c.in_ok-put_decimal_under-2.ensures.ok c.in_ok-put_decimal_under-2.ensures.capacity
    (as_two _ _ _ (put_more _ _ c.in_ok-put_decimal_under-3.ensures.ok c.in_ok-put_decimal_under-3.ensures.capacity
    (as_two _ _ _ (put_more _ _ c.in_ok-put_decimal_under-4.ensures.ok c.in_ok-put_decimal_under-4.ensures.capacity
    (as_two _ _ _ (put_more _ _ c.in_ok-put_name_of_under.ensures.ok c.in_ok-put_name_of_under.ensures.capacity
    (as_two _ _ _ (put_more _ _ c.in_ok-put_hex_under.ensures.ok c.in_ok-put_hex_under.ensures.capacity
    (put_last _ c.put.ensures.ok c.put.ensures.err c.put.ensures.capacity c.put.ensures.wanting)))))))))))) in
    record { ok = all.ok; err = all.err; capacity = all.capacity; wanting = all.wanting }
