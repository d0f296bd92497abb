use Rattle.std.proofs.Common.{ap, vec_capacity}
use Rattle.lpc_rows.specs.Shown.{birth_of, shown_view}
use Rattle.lpc_states.specs.Values.{or_null, port_text}
use Rattle.lpc_states.specs.Rows.{view_row}
use Rattle.lpc_states.proofs.Puts.{IsPut, as_two, put_last, put_more, put_stops, second_same}
use Rattle.lpc_snapshot.proofs.views.put_view.Goals as goal

pub returns-in_err-put_decimal_under : goal.returns-in_err-put_decimal_under
unfolding view_row
returns-in_err-put_decimal_under c =
    let all : IsPut c.args.into.now.items (vec_capacity c.args.into.now) c.put_decimal_under.new.into.items (vec_capacity c.put_decimal_under.new.into) (view_row c.args.pid (shown_view (birth_of c.args.world.now.births) c.args.view.now)) c.from_residual.result =
    as_two _ _ _ (put_stops _ _ _ c.from_residual.ensures.0 c.in_err-put_decimal_under.ensures.err c.in_err-put_decimal_under.ensures.capacity c.in_err-put_decimal_under.ensures.wanting) in
    record { ok = all.ok; err = all.err; capacity = all.capacity; wanting = all.wanting }

pub returns-in_err-put : goal.returns-in_err-put
unfolding view_row
returns-in_err-put c =
    let all : IsPut c.args.into.now.items (vec_capacity c.args.into.now) c.put.new.into.items (vec_capacity c.put.new.into) (view_row c.args.pid (shown_view (birth_of c.args.world.now.births) c.args.view.now)) c.from_residual-in_err-put.result =
    as_two _ _ _ (put_more _ _ c.in_ok-put_decimal_under.ensures.ok c.in_ok-put_decimal_under.ensures.capacity
    (put_stops _ _ _ c.from_residual-in_err-put.ensures.0 c.in_err-put.ensures.err c.in_err-put.ensures.capacity c.in_err-put.ensures.wanting)) in
    record { ok = all.ok; err = all.err; capacity = all.capacity; wanting = all.wanting }

pub returns-in_err-put_digits : goal.returns-in_err-put_digits
unfolding view_row
returns-in_err-put_digits c =
    let all : IsPut c.args.into.now.items (vec_capacity c.args.into.now) c.put_digits.new.into.items (vec_capacity c.put_digits.new.into) (view_row c.args.pid (shown_view (birth_of c.args.world.now.births) c.args.view.now)) c.from_residual-in_err-put_digits.result =
    as_two _ _ _ (put_more _ _ c.in_ok-put_decimal_under.ensures.ok c.in_ok-put_decimal_under.ensures.capacity
    (put_more _ _ c.in_ok-put.ensures.ok c.in_ok-put.ensures.capacity
    (put_stops _ _ _ c.from_residual-in_err-put_digits.ensures.0 c.in_err-put_digits.ensures.err c.in_err-put_digits.ensures.capacity c.in_err-put_digits.ensures.wanting))) in
    record { ok = all.ok; err = all.err; capacity = all.capacity; wanting = all.wanting }

pub returns-in_err-put_decimal_under-2 : goal.returns-in_err-put_decimal_under-2
unfolding view_row
returns-in_err-put_decimal_under-2 c =
    let all : IsPut c.args.into.now.items (vec_capacity c.args.into.now) c.put_decimal_under-2.new.into.items (vec_capacity c.put_decimal_under-2.new.into) (view_row c.args.pid (shown_view (birth_of c.args.world.now.births) c.args.view.now)) c.from_residual-in_err-put_decimal_under-2.result =
    as_two _ _ _ (put_more _ _ c.in_ok-put_decimal_under.ensures.ok c.in_ok-put_decimal_under.ensures.capacity
    (put_more _ _ c.in_ok-put.ensures.ok c.in_ok-put.ensures.capacity
    (put_more _ _ c.in_ok-put_digits.ensures.ok c.in_ok-put_digits.ensures.capacity
    (as_two _ _ _ (put_stops _ _ _ c.from_residual-in_err-put_decimal_under-2.ensures.0 c.in_err-put_decimal_under-2.ensures.err c.in_err-put_decimal_under-2.ensures.capacity c.in_err-put_decimal_under-2.ensures.wanting))))) in
    record { ok = all.ok; err = all.err; capacity = all.capacity; wanting = all.wanting }

pub returns-in_err-put_hex_under : goal.returns-in_err-put_hex_under
unfolding view_row
returns-in_err-put_hex_under c =
    let all : IsPut c.args.into.now.items (vec_capacity c.args.into.now) c.put_hex_under.new.into.items (vec_capacity c.put_hex_under.new.into) (view_row c.args.pid (shown_view (birth_of c.args.world.now.births) c.args.view.now)) c.from_residual-in_err-put_hex_under.result =
    as_two _ _ _ (put_more _ _ c.in_ok-put_decimal_under.ensures.ok c.in_ok-put_decimal_under.ensures.capacity
    (put_more _ _ c.in_ok-put.ensures.ok c.in_ok-put.ensures.capacity
    (put_more _ _ c.in_ok-put_digits.ensures.ok c.in_ok-put_digits.ensures.capacity
    (as_two _ _ _ (put_more _ _ c.in_ok-put_decimal_under-2.ensures.ok c.in_ok-put_decimal_under-2.ensures.capacity
    (as_two _ _ _ (put_stops _ _ _ c.from_residual-in_err-put_hex_under.ensures.0 c.in_err-put_hex_under.ensures.err c.in_err-put_hex_under.ensures.capacity c.in_err-put_hex_under.ensures.wanting))))))) in
    record { ok = all.ok; err = all.err; capacity = all.capacity; wanting = all.wanting }

pub returns-in_err-put_decimal_under-3 : goal.returns-in_err-put_decimal_under-3
unfolding view_row
returns-in_err-put_decimal_under-3 c =
    let all : IsPut c.args.into.now.items (vec_capacity c.args.into.now) c.put_decimal_under-3.new.into.items (vec_capacity c.put_decimal_under-3.new.into) (view_row c.args.pid (shown_view (birth_of c.args.world.now.births) c.args.view.now)) c.from_residual-in_err-put_decimal_under-3.result =
    as_two _ _ _ (put_more _ _ c.in_ok-put_decimal_under.ensures.ok c.in_ok-put_decimal_under.ensures.capacity
    (put_more _ _ c.in_ok-put.ensures.ok c.in_ok-put.ensures.capacity
    (put_more _ _ c.in_ok-put_digits.ensures.ok c.in_ok-put_digits.ensures.capacity
    (as_two _ _ _ (put_more _ _ c.in_ok-put_decimal_under-2.ensures.ok c.in_ok-put_decimal_under-2.ensures.capacity
    (as_two _ _ _ (put_more _ _ c.in_ok-put_hex_under.ensures.ok c.in_ok-put_hex_under.ensures.capacity
    (as_two _ _ _ (put_stops _ _ _ c.from_residual-in_err-put_decimal_under-3.ensures.0 c.in_err-put_decimal_under-3.ensures.err c.in_err-put_decimal_under-3.ensures.capacity c.in_err-put_decimal_under-3.ensures.wanting))))))))) in
    record { ok = all.ok; err = all.err; capacity = all.capacity; wanting = all.wanting }

pub returns-in_err-put_name_of_under : goal.returns-in_err-put_name_of_under
unfolding view_row
returns-in_err-put_name_of_under c =
    let all : IsPut c.args.into.now.items (vec_capacity c.args.into.now) c.put_name_of_under.new.into.items (vec_capacity c.put_name_of_under.new.into) (view_row c.args.pid (shown_view (birth_of c.args.world.now.births) c.args.view.now)) c.from_residual-in_err-put_name_of_under.result =
    as_two _ _ _ (put_more _ _ c.in_ok-put_decimal_under.ensures.ok c.in_ok-put_decimal_under.ensures.capacity
    (put_more _ _ c.in_ok-put.ensures.ok c.in_ok-put.ensures.capacity
    (put_more _ _ c.in_ok-put_digits.ensures.ok c.in_ok-put_digits.ensures.capacity
    (as_two _ _ _ (put_more _ _ c.in_ok-put_decimal_under-2.ensures.ok c.in_ok-put_decimal_under-2.ensures.capacity
    (as_two _ _ _ (put_more _ _ c.in_ok-put_hex_under.ensures.ok c.in_ok-put_hex_under.ensures.capacity
    (as_two _ _ _ (put_more _ _ c.in_ok-put_decimal_under-3.ensures.ok c.in_ok-put_decimal_under-3.ensures.capacity
    (as_two _ _ _ (put_stops _ _ _ c.from_residual-in_err-put_name_of_under.ensures.0 c.in_err-put_name_of_under.ensures.err c.in_err-put_name_of_under.ensures.capacity c.in_err-put_name_of_under.ensures.wanting))))))))))) in
    record { ok = all.ok; err = all.err; capacity = all.capacity; wanting = all.wanting }

pub returns-in_err-put_decimal_under-4 : goal.returns-in_err-put_decimal_under-4
unfolding view_row
returns-in_err-put_decimal_under-4 c =
    let all : IsPut c.args.into.now.items (vec_capacity c.args.into.now) c.put_decimal_under-4.new.into.items (vec_capacity c.put_decimal_under-4.new.into) (view_row c.args.pid (shown_view (birth_of c.args.world.now.births) c.args.view.now)) c.from_residual-in_err-put_decimal_under-4.result =
    as_two _ _ _ (put_more _ _ c.in_ok-put_decimal_under.ensures.ok c.in_ok-put_decimal_under.ensures.capacity
    (put_more _ _ c.in_ok-put.ensures.ok c.in_ok-put.ensures.capacity
    (put_more _ _ c.in_ok-put_digits.ensures.ok c.in_ok-put_digits.ensures.capacity
    (as_two _ _ _ (put_more _ _ c.in_ok-put_decimal_under-2.ensures.ok c.in_ok-put_decimal_under-2.ensures.capacity
    (as_two _ _ _ (put_more _ _ c.in_ok-put_hex_under.ensures.ok c.in_ok-put_hex_under.ensures.capacity
    (as_two _ _ _ (put_more _ _ c.in_ok-put_decimal_under-3.ensures.ok c.in_ok-put_decimal_under-3.ensures.capacity
    (as_two _ _ _ (put_more _ _ c.in_ok-put_name_of_under.ensures.ok c.in_ok-put_name_of_under.ensures.capacity
    (as_two _ _ _ (put_stops _ _ _ c.from_residual-in_err-put_decimal_under-4.ensures.0 c.in_err-put_decimal_under-4.ensures.err c.in_err-put_decimal_under-4.ensures.capacity c.in_err-put_decimal_under-4.ensures.wanting))))))))))))) in
    record { ok = all.ok; err = all.err; capacity = all.capacity; wanting = all.wanting }

pub returns-in_err-put_flag_under : goal.returns-in_err-put_flag_under
unfolding view_row
returns-in_err-put_flag_under c =
    let all : IsPut c.args.into.now.items (vec_capacity c.args.into.now) c.put_flag_under.new.into.items (vec_capacity c.put_flag_under.new.into) (view_row c.args.pid (shown_view (birth_of c.args.world.now.births) c.args.view.now)) c.from_residual-in_err-put_flag_under.result =
    as_two _ _ _ (put_more _ _ c.in_ok-put_decimal_under.ensures.ok c.in_ok-put_decimal_under.ensures.capacity
    (put_more _ _ c.in_ok-put.ensures.ok c.in_ok-put.ensures.capacity
    (put_more _ _ c.in_ok-put_digits.ensures.ok c.in_ok-put_digits.ensures.capacity
    (as_two _ _ _ (put_more _ _ c.in_ok-put_decimal_under-2.ensures.ok c.in_ok-put_decimal_under-2.ensures.capacity
    (as_two _ _ _ (put_more _ _ c.in_ok-put_hex_under.ensures.ok c.in_ok-put_hex_under.ensures.capacity
    (as_two _ _ _ (put_more _ _ c.in_ok-put_decimal_under-3.ensures.ok c.in_ok-put_decimal_under-3.ensures.capacity
    (as_two _ _ _ (put_more _ _ c.in_ok-put_name_of_under.ensures.ok c.in_ok-put_name_of_under.ensures.capacity
    (as_two _ _ _ (put_more _ _ c.in_ok-put_decimal_under-4.ensures.ok c.in_ok-put_decimal_under-4.ensures.capacity
    (as_two _ _ _ (put_stops _ _ _ c.from_residual-in_err-put_flag_under.ensures.0 c.in_err-put_flag_under.ensures.err c.in_err-put_flag_under.ensures.capacity c.in_err-put_flag_under.ensures.wanting))))))))))))))) in
    record { ok = all.ok; err = all.err; capacity = all.capacity; wanting = all.wanting }

pub returns-in_err-put_port_or_null_under : goal.returns-in_err-put_port_or_null_under
unfolding view_row
returns-in_err-put_port_or_null_under c =
    let all : IsPut c.args.into.now.items (vec_capacity c.args.into.now) c.put_port_or_null_under.new.into.items (vec_capacity c.put_port_or_null_under.new.into) (view_row c.args.pid (shown_view (birth_of c.args.world.now.births) c.args.view.now)) c.from_residual-in_err-put_port_or_null_under.result =
    as_two _ _ _ (put_more _ _ c.in_ok-put_decimal_under.ensures.ok c.in_ok-put_decimal_under.ensures.capacity
    (put_more _ _ c.in_ok-put.ensures.ok c.in_ok-put.ensures.capacity
    (put_more _ _ c.in_ok-put_digits.ensures.ok c.in_ok-put_digits.ensures.capacity
    (as_two _ _ _ (put_more _ _ c.in_ok-put_decimal_under-2.ensures.ok c.in_ok-put_decimal_under-2.ensures.capacity
    (as_two _ _ _ (put_more _ _ c.in_ok-put_hex_under.ensures.ok c.in_ok-put_hex_under.ensures.capacity
    (as_two _ _ _ (put_more _ _ c.in_ok-put_decimal_under-3.ensures.ok c.in_ok-put_decimal_under-3.ensures.capacity
    (as_two _ _ _ (put_more _ _ c.in_ok-put_name_of_under.ensures.ok c.in_ok-put_name_of_under.ensures.capacity
    (as_two _ _ _ (put_more _ _ c.in_ok-put_decimal_under-4.ensures.ok c.in_ok-put_decimal_under-4.ensures.capacity
    (as_two _ _ _ (put_more _ _ c.in_ok-put_flag_under.ensures.ok c.in_ok-put_flag_under.ensures.capacity
    (second_same _ _ _ _ (ap (or_null port_text) c.port_birth.ensures) (as_two _ _ _ (put_stops _ _ _ c.from_residual-in_err-put_port_or_null_under.ensures.0 c.in_err-put_port_or_null_under.ensures.err c.in_err-put_port_or_null_under.ensures.capacity c.in_err-put_port_or_null_under.ensures.wanting)))))))))))))))))) in
    record { ok = all.ok; err = all.err; capacity = all.capacity; wanting = all.wanting }

pub returns : goal.returns
unfolding view_row
returns c =
    let all : IsPut c.args.into.now.items (vec_capacity c.args.into.now) c.put-2.new.into.items (vec_capacity c.put-2.new.into) (view_row c.args.pid (shown_view (birth_of c.args.world.now.births) c.args.view.now)) c.put-2.result =
    as_two _ _ _ (put_more _ _ c.in_ok-put_decimal_under.ensures.ok c.in_ok-put_decimal_under.ensures.capacity
    (put_more _ _ c.in_ok-put.ensures.ok c.in_ok-put.ensures.capacity
    (put_more _ _ c.in_ok-put_digits.ensures.ok c.in_ok-put_digits.ensures.capacity
    (as_two _ _ _ (put_more _ _ c.in_ok-put_decimal_under-2.ensures.ok c.in_ok-put_decimal_under-2.ensures.capacity
    (as_two _ _ _ (put_more _ _ c.in_ok-put_hex_under.ensures.ok c.in_ok-put_hex_under.ensures.capacity
    (as_two _ _ _ (put_more _ _ c.in_ok-put_decimal_under-3.ensures.ok c.in_ok-put_decimal_under-3.ensures.capacity
    (as_two _ _ _ (put_more _ _ c.in_ok-put_name_of_under.ensures.ok c.in_ok-put_name_of_under.ensures.capacity
    (as_two _ _ _ (put_more _ _ c.in_ok-put_decimal_under-4.ensures.ok c.in_ok-put_decimal_under-4.ensures.capacity
    (as_two _ _ _ (put_more _ _ c.in_ok-put_flag_under.ensures.ok c.in_ok-put_flag_under.ensures.capacity
    (second_same _ _ _ _ (ap (or_null port_text) c.port_birth.ensures) (as_two _ _ _ (put_more _ _ c.in_ok-put_port_or_null_under.ensures.ok c.in_ok-put_port_or_null_under.ensures.capacity
    (put_last _ c.put-2.ensures.ok c.put-2.ensures.err c.put-2.ensures.capacity c.put-2.ensures.wanting))))))))))))))))))) in
    record { ok = all.ok; err = all.err; capacity = all.capacity; wanting = all.wanting }
