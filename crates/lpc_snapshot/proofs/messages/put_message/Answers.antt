use Rattle.std.proofs.Common.{ap, vec_capacity}
use Rattle.lpc_model.specs.Message.{message_of}
use Rattle.lpc_rows.specs.Shown.{pulled_row}
use Rattle.lpc_states.specs.Values.{message_fields}
use Rattle.lpc_states.specs.Rows.{message_row}
use Rattle.lpc_states.proofs.Puts.{IsPut, as_two, first_same, put_last, put_more, put_stops}
use Rattle.lpc_snapshot.proofs.messages.put_message.Goals as goal

pub returns-in_err-put_message_name : goal.returns-in_err-put_message_name
unfolding message_row
returns-in_err-put_message_name c =
    let all : IsPut c.args.into.now.items (vec_capacity c.args.into.now) c.put_message_name.new.into.items (vec_capacity c.put_message_name.new.into) (message_row (pulled_row c.args.world.now.births c.args.queue c.args.message.now)) c.from_residual.result =
    put_stops _ _ _ c.from_residual.ensures.0 c.in_err-put_message_name.ensures.err c.in_err-put_message_name.ensures.capacity c.in_err-put_message_name.ensures.wanting in
    record { ok = all.ok; err = all.err; capacity = all.capacity; wanting = all.wanting }

pub returns-in_err-put_name_of_under : goal.returns-in_err-put_name_of_under
unfolding message_row
returns-in_err-put_name_of_under c =
    let all : IsPut c.args.into.now.items (vec_capacity c.args.into.now) c.put_name_of_under.new.into.items (vec_capacity c.put_name_of_under.new.into) (message_row (pulled_row c.args.world.now.births c.args.queue c.args.message.now)) c.from_residual-in_err-put_name_of_under.result =
    put_more _ _ c.in_ok-put_message_name.ensures.ok c.in_ok-put_message_name.ensures.capacity
    (as_two _ _ _ (put_stops _ _ _ c.from_residual-in_err-put_name_of_under.ensures.0 c.in_err-put_name_of_under.ensures.err c.in_err-put_name_of_under.ensures.capacity c.in_err-put_name_of_under.ensures.wanting)) in
    record { ok = all.ok; err = all.err; capacity = all.capacity; wanting = all.wanting }

pub returns-in_err-put_name_of_under-2 : goal.returns-in_err-put_name_of_under-2
unfolding message_row
returns-in_err-put_name_of_under-2 c =
    let all : IsPut c.args.into.now.items (vec_capacity c.args.into.now) c.put_name_of_under-2.new.into.items (vec_capacity c.put_name_of_under-2.new.into) (message_row (pulled_row c.args.world.now.births c.args.queue c.args.message.now)) c.from_residual-in_err-put_name_of_under-2.result =
    put_more _ _ c.in_ok-put_message_name.ensures.ok c.in_ok-put_message_name.ensures.capacity
    (as_two _ _ _ (put_more _ _ c.in_ok-put_name_of_under.ensures.ok c.in_ok-put_name_of_under.ensures.capacity
    (as_two _ _ _ (put_stops _ _ _ c.from_residual-in_err-put_name_of_under-2.ensures.0 c.in_err-put_name_of_under-2.ensures.err c.in_err-put_name_of_under-2.ensures.capacity c.in_err-put_name_of_under-2.ensures.wanting)))) in
    record { ok = all.ok; err = all.err; capacity = all.capacity; wanting = all.wanting }

pub returns-in_err-put_hex_under : goal.returns-in_err-put_hex_under
unfolding message_row
returns-in_err-put_hex_under c =
    let all : IsPut c.args.into.now.items (vec_capacity c.args.into.now) c.put_hex_under.new.into.items (vec_capacity c.put_hex_under.new.into) (message_row (pulled_row c.args.world.now.births c.args.queue c.args.message.now)) c.from_residual-in_err-put_hex_under.result =
    put_more _ _ c.in_ok-put_message_name.ensures.ok c.in_ok-put_message_name.ensures.capacity
    (as_two _ _ _ (put_more _ _ c.in_ok-put_name_of_under.ensures.ok c.in_ok-put_name_of_under.ensures.capacity
    (as_two _ _ _ (put_more _ _ c.in_ok-put_name_of_under-2.ensures.ok c.in_ok-put_name_of_under-2.ensures.capacity
    (as_two _ _ _ (put_stops _ _ _ c.from_residual-in_err-put_hex_under.ensures.0 c.in_err-put_hex_under.ensures.err c.in_err-put_hex_under.ensures.capacity c.in_err-put_hex_under.ensures.wanting)))))) in
    record { ok = all.ok; err = all.err; capacity = all.capacity; wanting = all.wanting }

pub returns-in_err-put : goal.returns-in_err-put
unfolding message_row
returns-in_err-put c =
    let all : IsPut c.args.into.now.items (vec_capacity c.args.into.now) c.put.new.into.items (vec_capacity c.put.new.into) (message_row (pulled_row c.args.world.now.births c.args.queue c.args.message.now)) c.from_residual-in_err-put.result =
    put_more _ _ c.in_ok-put_message_name.ensures.ok c.in_ok-put_message_name.ensures.capacity
    (as_two _ _ _ (put_more _ _ c.in_ok-put_name_of_under.ensures.ok c.in_ok-put_name_of_under.ensures.capacity
    (as_two _ _ _ (put_more _ _ c.in_ok-put_name_of_under-2.ensures.ok c.in_ok-put_name_of_under-2.ensures.capacity
    (as_two _ _ _ (put_more _ _ c.in_ok-put_hex_under.ensures.ok c.in_ok-put_hex_under.ensures.capacity
    (put_stops _ _ _ c.from_residual-in_err-put.ensures.0 c.in_err-put.ensures.err c.in_err-put.ensures.capacity c.in_err-put.ensures.wanting))))))) in
    record { ok = all.ok; err = all.err; capacity = all.capacity; wanting = all.wanting }

pub returns-in_err-put_message_fields : goal.returns-in_err-put_message_fields
unfolding message_row
returns-in_err-put_message_fields c =
    let all : IsPut c.args.into.now.items (vec_capacity c.args.into.now) c.put_message_fields.new.into.items (vec_capacity c.put_message_fields.new.into) (message_row (pulled_row c.args.world.now.births c.args.queue c.args.message.now)) c.from_residual-in_err-put_message_fields.result =
    put_more _ _ c.in_ok-put_message_name.ensures.ok c.in_ok-put_message_name.ensures.capacity
    (as_two _ _ _ (put_more _ _ c.in_ok-put_name_of_under.ensures.ok c.in_ok-put_name_of_under.ensures.capacity
    (as_two _ _ _ (put_more _ _ c.in_ok-put_name_of_under-2.ensures.ok c.in_ok-put_name_of_under-2.ensures.capacity
    (as_two _ _ _ (put_more _ _ c.in_ok-put_hex_under.ensures.ok c.in_ok-put_hex_under.ensures.capacity
    (put_more _ _ c.in_ok-put.ensures.ok c.in_ok-put.ensures.capacity
    (first_same _ _ _ (ap (λ bytes. message_fields (message_of bytes)) c.as_slice.ensures.value) (put_stops _ _ _ c.from_residual-in_err-put_message_fields.ensures.0 c.in_err-put_message_fields.ensures.err c.in_err-put_message_fields.ensures.capacity c.in_err-put_message_fields.ensures.wanting))))))))) in
    record { ok = all.ok; err = all.err; capacity = all.capacity; wanting = all.wanting }

pub returns : goal.returns
unfolding message_row
returns c =
    let all : IsPut c.args.into.now.items (vec_capacity c.args.into.now) c.put-2.new.into.items (vec_capacity c.put-2.new.into) (message_row (pulled_row c.args.world.now.births c.args.queue c.args.message.now)) c.put-2.result =
    put_more _ _ c.in_ok-put_message_name.ensures.ok c.in_ok-put_message_name.ensures.capacity
    (as_two _ _ _ (put_more _ _ c.in_ok-put_name_of_under.ensures.ok c.in_ok-put_name_of_under.ensures.capacity
    (as_two _ _ _ (put_more _ _ c.in_ok-put_name_of_under-2.ensures.ok c.in_ok-put_name_of_under-2.ensures.capacity
    (as_two _ _ _ (put_more _ _ c.in_ok-put_hex_under.ensures.ok c.in_ok-put_hex_under.ensures.capacity
    (put_more _ _ c.in_ok-put.ensures.ok c.in_ok-put.ensures.capacity
    (first_same _ _ _ (ap (λ bytes. message_fields (message_of bytes)) c.as_slice.ensures.value) (put_more _ _ c.in_ok-put_message_fields.ensures.ok c.in_ok-put_message_fields.ensures.capacity
    (put_last _ c.put-2.ensures.ok c.put-2.ensures.err c.put-2.ensures.capacity c.put-2.ensures.wanting)))))))))) in
    record { ok = all.ok; err = all.err; capacity = all.capacity; wanting = all.wanting }
