use Rattle.std.proofs.Common.{ap, ◌∙◌, vec_capacity}
use Rattle.lpc_model.specs.Text.{call_text}
use Rattle.lpc_rows.specs.Shown.{birth_of, shown_wait}
use Rattle.lpc_waits.specs.Lent.{waiting_of}
use Rattle.lpc_states.specs.Rows.{wait_row}
use Rattle.lpc_states.proofs.Puts.{IsPut, as_two, first_same, put_last, put_more, put_stops}
use Rattle.lpc_snapshot.proofs.waits.put_wait.Goals as goal

pub returns-in_err-put_decimal_under : goal.returns-in_err-put_decimal_under
unfolding wait_row
returns-in_err-put_decimal_under c =
    let all : IsPut c.args.into.now.items (vec_capacity c.args.into.now) c.put_decimal_under.new.into.items (vec_capacity c.put_decimal_under.new.into) (wait_row (shown_wait (birth_of c.args.world.now.births) (waiting_of c.args.row.now))) c.from_residual.result =
    as_two _ _ _ (put_stops _ _ _ c.from_residual.ensures.0 c.in_err-put_decimal_under.ensures.err c.in_err-put_decimal_under.ensures.capacity c.in_err-put_decimal_under.ensures.wanting) in
    record { ok = all.ok; err = all.err; capacity = all.capacity; wanting = all.wanting }

pub returns-in_err-put_decimal_under-2 : goal.returns-in_err-put_decimal_under-2
unfolding wait_row
returns-in_err-put_decimal_under-2 c =
    let all : IsPut c.args.into.now.items (vec_capacity c.args.into.now) c.put_decimal_under-2.new.into.items (vec_capacity c.put_decimal_under-2.new.into) (wait_row (shown_wait (birth_of c.args.world.now.births) (waiting_of c.args.row.now))) c.from_residual-in_err-put_decimal_under-2.result =
    as_two _ _ _ (put_more _ _ c.in_ok-put_decimal_under.ensures.ok c.in_ok-put_decimal_under.ensures.capacity
    (as_two _ _ _ (put_stops _ _ _ c.from_residual-in_err-put_decimal_under-2.ensures.0 c.in_err-put_decimal_under-2.ensures.err c.in_err-put_decimal_under-2.ensures.capacity c.in_err-put_decimal_under-2.ensures.wanting))) in
    record { ok = all.ok; err = all.err; capacity = all.capacity; wanting = all.wanting }

pub returns-in_err-put_decimal_under-3 : goal.returns-in_err-put_decimal_under-3
unfolding wait_row
returns-in_err-put_decimal_under-3 c =
    let all : IsPut c.args.into.now.items (vec_capacity c.args.into.now) c.put_decimal_under-3.new.into.items (vec_capacity c.put_decimal_under-3.new.into) (wait_row (shown_wait (birth_of c.args.world.now.births) (waiting_of c.args.row.now))) c.from_residual-in_err-put_decimal_under-3.result =
    as_two _ _ _ (put_more _ _ c.in_ok-put_decimal_under.ensures.ok c.in_ok-put_decimal_under.ensures.capacity
    (as_two _ _ _ (put_more _ _ c.in_ok-put_decimal_under-2.ensures.ok c.in_ok-put_decimal_under-2.ensures.capacity
    (as_two _ _ _ (put_stops _ _ _ c.from_residual-in_err-put_decimal_under-3.ensures.0 c.in_err-put_decimal_under-3.ensures.err c.in_err-put_decimal_under-3.ensures.capacity c.in_err-put_decimal_under-3.ensures.wanting))))) in
    record { ok = all.ok; err = all.err; capacity = all.capacity; wanting = all.wanting }

pub returns-in_err-put_decimal_under-4 : goal.returns-in_err-put_decimal_under-4
unfolding wait_row
returns-in_err-put_decimal_under-4 c =
    let all : IsPut c.args.into.now.items (vec_capacity c.args.into.now) c.put_decimal_under-4.new.into.items (vec_capacity c.put_decimal_under-4.new.into) (wait_row (shown_wait (birth_of c.args.world.now.births) (waiting_of c.args.row.now))) c.from_residual-in_err-put_decimal_under-4.result =
    as_two _ _ _ (put_more _ _ c.in_ok-put_decimal_under.ensures.ok c.in_ok-put_decimal_under.ensures.capacity
    (as_two _ _ _ (put_more _ _ c.in_ok-put_decimal_under-2.ensures.ok c.in_ok-put_decimal_under-2.ensures.capacity
    (as_two _ _ _ (put_more _ _ c.in_ok-put_decimal_under-3.ensures.ok c.in_ok-put_decimal_under-3.ensures.capacity
    (as_two _ _ _ (put_stops _ _ _ c.from_residual-in_err-put_decimal_under-4.ensures.0 c.in_err-put_decimal_under-4.ensures.err c.in_err-put_decimal_under-4.ensures.capacity c.in_err-put_decimal_under-4.ensures.wanting))))))) in
    record { ok = all.ok; err = all.err; capacity = all.capacity; wanting = all.wanting }

pub returns-in_err-put : goal.returns-in_err-put
unfolding wait_row
returns-in_err-put c =
    let all : IsPut c.args.into.now.items (vec_capacity c.args.into.now) c.put.new.into.items (vec_capacity c.put.new.into) (wait_row (shown_wait (birth_of c.args.world.now.births) (waiting_of c.args.row.now))) c.from_residual-in_err-put.result =
    as_two _ _ _ (put_more _ _ c.in_ok-put_decimal_under.ensures.ok c.in_ok-put_decimal_under.ensures.capacity
    (as_two _ _ _ (put_more _ _ c.in_ok-put_decimal_under-2.ensures.ok c.in_ok-put_decimal_under-2.ensures.capacity
    (as_two _ _ _ (put_more _ _ c.in_ok-put_decimal_under-3.ensures.ok c.in_ok-put_decimal_under-3.ensures.capacity
    (as_two _ _ _ (put_more _ _ c.in_ok-put_decimal_under-4.ensures.ok c.in_ok-put_decimal_under-4.ensures.capacity
    (put_stops _ _ _ c.from_residual-in_err-put.ensures.0 c.in_err-put.ensures.err c.in_err-put.ensures.capacity c.in_err-put.ensures.wanting)))))))) in
    record { ok = all.ok; err = all.err; capacity = all.capacity; wanting = all.wanting }

pub returns-in_err-put-2 : goal.returns-in_err-put-2
unfolding wait_row
returns-in_err-put-2 c =
    let all : IsPut c.args.into.now.items (vec_capacity c.args.into.now) c.put-2.new.into.items (vec_capacity c.put-2.new.into) (wait_row (shown_wait (birth_of c.args.world.now.births) (waiting_of c.args.row.now))) c.from_residual-in_err-put-2.result =
    as_two _ _ _ (put_more _ _ c.in_ok-put_decimal_under.ensures.ok c.in_ok-put_decimal_under.ensures.capacity
    (as_two _ _ _ (put_more _ _ c.in_ok-put_decimal_under-2.ensures.ok c.in_ok-put_decimal_under-2.ensures.capacity
    (as_two _ _ _ (put_more _ _ c.in_ok-put_decimal_under-3.ensures.ok c.in_ok-put_decimal_under-3.ensures.capacity
    (as_two _ _ _ (put_more _ _ c.in_ok-put_decimal_under-4.ensures.ok c.in_ok-put_decimal_under-4.ensures.capacity
    (put_more _ _ c.in_ok-put.ensures.ok c.in_ok-put.ensures.capacity
    (first_same _ _ _ (c.name.ensures ∙ ap call_text c.call_of.ensures) (put_stops _ _ _ c.from_residual-in_err-put-2.ensures.0 c.in_err-put-2.ensures.err c.in_err-put-2.ensures.capacity c.in_err-put-2.ensures.wanting)))))))))) in
    record { ok = all.ok; err = all.err; capacity = all.capacity; wanting = all.wanting }

pub returns-in_err-put_name_of_under : goal.returns-in_err-put_name_of_under
unfolding wait_row
returns-in_err-put_name_of_under c =
    let all : IsPut c.args.into.now.items (vec_capacity c.args.into.now) c.put_name_of_under.new.into.items (vec_capacity c.put_name_of_under.new.into) (wait_row (shown_wait (birth_of c.args.world.now.births) (waiting_of c.args.row.now))) c.from_residual-in_err-put_name_of_under.result =
    as_two _ _ _ (put_more _ _ c.in_ok-put_decimal_under.ensures.ok c.in_ok-put_decimal_under.ensures.capacity
    (as_two _ _ _ (put_more _ _ c.in_ok-put_decimal_under-2.ensures.ok c.in_ok-put_decimal_under-2.ensures.capacity
    (as_two _ _ _ (put_more _ _ c.in_ok-put_decimal_under-3.ensures.ok c.in_ok-put_decimal_under-3.ensures.capacity
    (as_two _ _ _ (put_more _ _ c.in_ok-put_decimal_under-4.ensures.ok c.in_ok-put_decimal_under-4.ensures.capacity
    (put_more _ _ c.in_ok-put.ensures.ok c.in_ok-put.ensures.capacity
    (first_same _ _ _ (c.name.ensures ∙ ap call_text c.call_of.ensures) (put_more _ _ c.in_ok-put-2.ensures.ok c.in_ok-put-2.ensures.capacity
    (as_two _ _ _ (put_stops _ _ _ c.from_residual-in_err-put_name_of_under.ensures.0 c.in_err-put_name_of_under.ensures.err c.in_err-put_name_of_under.ensures.capacity c.in_err-put_name_of_under.ensures.wanting)))))))))))) in
    record { ok = all.ok; err = all.err; capacity = all.capacity; wanting = all.wanting }

pub returns-in_err-put_name_of_under-2 : goal.returns-in_err-put_name_of_under-2
unfolding wait_row
returns-in_err-put_name_of_under-2 c =
    let all : IsPut c.args.into.now.items (vec_capacity c.args.into.now) c.put_name_of_under-2.new.into.items (vec_capacity c.put_name_of_under-2.new.into) (wait_row (shown_wait (birth_of c.args.world.now.births) (waiting_of c.args.row.now))) c.from_residual-in_err-put_name_of_under-2.result =
    as_two _ _ _ (put_more _ _ c.in_ok-put_decimal_under.ensures.ok c.in_ok-put_decimal_under.ensures.capacity
    (as_two _ _ _ (put_more _ _ c.in_ok-put_decimal_under-2.ensures.ok c.in_ok-put_decimal_under-2.ensures.capacity
    (as_two _ _ _ (put_more _ _ c.in_ok-put_decimal_under-3.ensures.ok c.in_ok-put_decimal_under-3.ensures.capacity
    (as_two _ _ _ (put_more _ _ c.in_ok-put_decimal_under-4.ensures.ok c.in_ok-put_decimal_under-4.ensures.capacity
    (put_more _ _ c.in_ok-put.ensures.ok c.in_ok-put.ensures.capacity
    (first_same _ _ _ (c.name.ensures ∙ ap call_text c.call_of.ensures) (put_more _ _ c.in_ok-put-2.ensures.ok c.in_ok-put-2.ensures.capacity
    (as_two _ _ _ (put_more _ _ c.in_ok-put_name_of_under.ensures.ok c.in_ok-put_name_of_under.ensures.capacity
    (as_two _ _ _ (put_stops _ _ _ c.from_residual-in_err-put_name_of_under-2.ensures.0 c.in_err-put_name_of_under-2.ensures.err c.in_err-put_name_of_under-2.ensures.capacity c.in_err-put_name_of_under-2.ensures.wanting)))))))))))))) in
    record { ok = all.ok; err = all.err; capacity = all.capacity; wanting = all.wanting }

pub returns-in_err-put_decimal_under-5 : goal.returns-in_err-put_decimal_under-5
unfolding wait_row
returns-in_err-put_decimal_under-5 c =
    let all : IsPut c.args.into.now.items (vec_capacity c.args.into.now) c.put_decimal_under-5.new.into.items (vec_capacity c.put_decimal_under-5.new.into) (wait_row (shown_wait (birth_of c.args.world.now.births) (waiting_of c.args.row.now))) c.from_residual-in_err-put_decimal_under-5.result =
    as_two _ _ _ (put_more _ _ c.in_ok-put_decimal_under.ensures.ok c.in_ok-put_decimal_under.ensures.capacity
    (as_two _ _ _ (put_more _ _ c.in_ok-put_decimal_under-2.ensures.ok c.in_ok-put_decimal_under-2.ensures.capacity
    (as_two _ _ _ (put_more _ _ c.in_ok-put_decimal_under-3.ensures.ok c.in_ok-put_decimal_under-3.ensures.capacity
    (as_two _ _ _ (put_more _ _ c.in_ok-put_decimal_under-4.ensures.ok c.in_ok-put_decimal_under-4.ensures.capacity
    (put_more _ _ c.in_ok-put.ensures.ok c.in_ok-put.ensures.capacity
    (first_same _ _ _ (c.name.ensures ∙ ap call_text c.call_of.ensures) (put_more _ _ c.in_ok-put-2.ensures.ok c.in_ok-put-2.ensures.capacity
    (as_two _ _ _ (put_more _ _ c.in_ok-put_name_of_under.ensures.ok c.in_ok-put_name_of_under.ensures.capacity
    (as_two _ _ _ (put_more _ _ c.in_ok-put_name_of_under-2.ensures.ok c.in_ok-put_name_of_under-2.ensures.capacity
    (as_two _ _ _ (put_stops _ _ _ c.from_residual-in_err-put_decimal_under-5.ensures.0 c.in_err-put_decimal_under-5.ensures.err c.in_err-put_decimal_under-5.ensures.capacity c.in_err-put_decimal_under-5.ensures.wanting)))))))))))))))) in
    record { ok = all.ok; err = all.err; capacity = all.capacity; wanting = all.wanting }

pub returns-in_err-put_flag_under : goal.returns-in_err-put_flag_under
unfolding wait_row
returns-in_err-put_flag_under c =
    let all : IsPut c.args.into.now.items (vec_capacity c.args.into.now) c.put_flag_under.new.into.items (vec_capacity c.put_flag_under.new.into) (wait_row (shown_wait (birth_of c.args.world.now.births) (waiting_of c.args.row.now))) c.from_residual-in_err-put_flag_under.result =
    as_two _ _ _ (put_more _ _ c.in_ok-put_decimal_under.ensures.ok c.in_ok-put_decimal_under.ensures.capacity
    (as_two _ _ _ (put_more _ _ c.in_ok-put_decimal_under-2.ensures.ok c.in_ok-put_decimal_under-2.ensures.capacity
    (as_two _ _ _ (put_more _ _ c.in_ok-put_decimal_under-3.ensures.ok c.in_ok-put_decimal_under-3.ensures.capacity
    (as_two _ _ _ (put_more _ _ c.in_ok-put_decimal_under-4.ensures.ok c.in_ok-put_decimal_under-4.ensures.capacity
    (put_more _ _ c.in_ok-put.ensures.ok c.in_ok-put.ensures.capacity
    (first_same _ _ _ (c.name.ensures ∙ ap call_text c.call_of.ensures) (put_more _ _ c.in_ok-put-2.ensures.ok c.in_ok-put-2.ensures.capacity
    (as_two _ _ _ (put_more _ _ c.in_ok-put_name_of_under.ensures.ok c.in_ok-put_name_of_under.ensures.capacity
    (as_two _ _ _ (put_more _ _ c.in_ok-put_name_of_under-2.ensures.ok c.in_ok-put_name_of_under-2.ensures.capacity
    (as_two _ _ _ (put_more _ _ c.in_ok-put_decimal_under-5.ensures.ok c.in_ok-put_decimal_under-5.ensures.capacity
    (as_two _ _ _ (put_stops _ _ _ c.from_residual-in_err-put_flag_under.ensures.0 c.in_err-put_flag_under.ensures.err c.in_err-put_flag_under.ensures.capacity c.in_err-put_flag_under.ensures.wanting)))))))))))))))))) in
    record { ok = all.ok; err = all.err; capacity = all.capacity; wanting = all.wanting }

pub returns-in_err-put_awaited : goal.returns-in_err-put_awaited
unfolding wait_row
returns-in_err-put_awaited c =
    let all : IsPut c.args.into.now.items (vec_capacity c.args.into.now) c.put_awaited.new.into.items (vec_capacity c.put_awaited.new.into) (wait_row (shown_wait (birth_of c.args.world.now.births) (waiting_of c.args.row.now))) c.from_residual-in_err-put_awaited.result =
    as_two _ _ _ (put_more _ _ c.in_ok-put_decimal_under.ensures.ok c.in_ok-put_decimal_under.ensures.capacity
    (as_two _ _ _ (put_more _ _ c.in_ok-put_decimal_under-2.ensures.ok c.in_ok-put_decimal_under-2.ensures.capacity
    (as_two _ _ _ (put_more _ _ c.in_ok-put_decimal_under-3.ensures.ok c.in_ok-put_decimal_under-3.ensures.capacity
    (as_two _ _ _ (put_more _ _ c.in_ok-put_decimal_under-4.ensures.ok c.in_ok-put_decimal_under-4.ensures.capacity
    (put_more _ _ c.in_ok-put.ensures.ok c.in_ok-put.ensures.capacity
    (first_same _ _ _ (c.name.ensures ∙ ap call_text c.call_of.ensures) (put_more _ _ c.in_ok-put-2.ensures.ok c.in_ok-put-2.ensures.capacity
    (as_two _ _ _ (put_more _ _ c.in_ok-put_name_of_under.ensures.ok c.in_ok-put_name_of_under.ensures.capacity
    (as_two _ _ _ (put_more _ _ c.in_ok-put_name_of_under-2.ensures.ok c.in_ok-put_name_of_under-2.ensures.capacity
    (as_two _ _ _ (put_more _ _ c.in_ok-put_decimal_under-5.ensures.ok c.in_ok-put_decimal_under-5.ensures.capacity
    (as_two _ _ _ (put_more _ _ c.in_ok-put_flag_under.ensures.ok c.in_ok-put_flag_under.ensures.capacity
    (put_stops _ _ _ c.from_residual-in_err-put_awaited.ensures.0 c.in_err-put_awaited.ensures.err c.in_err-put_awaited.ensures.capacity c.in_err-put_awaited.ensures.wanting))))))))))))))))))) in
    record { ok = all.ok; err = all.err; capacity = all.capacity; wanting = all.wanting }

pub returns : goal.returns
unfolding wait_row
returns c =
    let all : IsPut c.args.into.now.items (vec_capacity c.args.into.now) c.put-3.new.into.items (vec_capacity c.put-3.new.into) (wait_row (shown_wait (birth_of c.args.world.now.births) (waiting_of c.args.row.now))) c.put-3.result =
    as_two _ _ _ (put_more _ _ c.in_ok-put_decimal_under.ensures.ok c.in_ok-put_decimal_under.ensures.capacity
    (as_two _ _ _ (put_more _ _ c.in_ok-put_decimal_under-2.ensures.ok c.in_ok-put_decimal_under-2.ensures.capacity
    (as_two _ _ _ (put_more _ _ c.in_ok-put_decimal_under-3.ensures.ok c.in_ok-put_decimal_under-3.ensures.capacity
    (as_two _ _ _ (put_more _ _ c.in_ok-put_decimal_under-4.ensures.ok c.in_ok-put_decimal_under-4.ensures.capacity
    (put_more _ _ c.in_ok-put.ensures.ok c.in_ok-put.ensures.capacity
    (first_same _ _ _ (c.name.ensures ∙ ap call_text c.call_of.ensures) (put_more _ _ c.in_ok-put-2.ensures.ok c.in_ok-put-2.ensures.capacity
    (as_two _ _ _ (put_more _ _ c.in_ok-put_name_of_under.ensures.ok c.in_ok-put_name_of_under.ensures.capacity
    (as_two _ _ _ (put_more _ _ c.in_ok-put_name_of_under-2.ensures.ok c.in_ok-put_name_of_under-2.ensures.capacity
    (as_two _ _ _ (put_more _ _ c.in_ok-put_decimal_under-5.ensures.ok c.in_ok-put_decimal_under-5.ensures.capacity
    (as_two _ _ _ (put_more _ _ c.in_ok-put_flag_under.ensures.ok c.in_ok-put_flag_under.ensures.capacity
    (put_more _ _ c.in_ok-put_awaited.ensures.ok c.in_ok-put_awaited.ensures.capacity
    (put_last _ c.put-3.ensures.ok c.put-3.ensures.err c.put-3.ensures.capacity c.put-3.ensures.wanting)))))))))))))))))))) in
    record { ok = all.ok; err = all.err; capacity = all.capacity; wanting = all.wanting }
