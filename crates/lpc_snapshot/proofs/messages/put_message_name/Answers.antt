use Rattle.std.proofs.Common.{ap, ◌∙◌, decimal, vec_capacity}
use Rattle.lpc_message.specs.Layout.{header_of}
use Rattle.lpc_message.specs.declared.message.Header.{Header}
use Rattle.lpc_rows.specs.Shown.{pulled_row}
use Rattle.lpc_states.specs.Values.{birth_text}
use Rattle.lpc_states.specs.Rows.{message_name}
use Rattle.lpc_states.proofs.Puts.{IsPut, as_two, first_same, put_last, put_more, put_stops, second_same}
use Rattle.lpc_snapshot.proofs.messages.put_message_name.Goals as goal

pub returns-in_err-put : goal.returns-in_err-put
unfolding message_name
returns-in_err-put c =
    let all : IsPut c.args.into.now.items (vec_capacity c.args.into.now) c.put.new.into.items (vec_capacity c.put.new.into) (message_name (pulled_row c.args.world.now.births c.args.queue c.args.message.now)) c.from_residual.result =
    put_stops _ _ _ c.from_residual.ensures.0 c.in_err-put.ensures.err c.in_err-put.ensures.capacity c.in_err-put.ensures.wanting in
    record { ok = all.ok; err = all.err; capacity = all.capacity; wanting = all.wanting }

pub returns-in_err-put_birth : goal.returns-in_err-put_birth
unfolding message_name
returns-in_err-put_birth c =
    let all : IsPut c.args.into.now.items (vec_capacity c.args.into.now) c.put_birth.new.into.items (vec_capacity c.put_birth.new.into) (message_name (pulled_row c.args.world.now.births c.args.queue c.args.message.now)) c.from_residual-in_err-put_birth.result =
    put_more _ _ c.in_ok-put.ensures.ok c.in_ok-put.ensures.capacity
    (first_same _ _ _ (ap birth_text c.birth_of.ensures) (put_stops _ _ _ c.from_residual-in_err-put_birth.ensures.0 c.in_err-put_birth.ensures.err c.in_err-put_birth.ensures.capacity c.in_err-put_birth.ensures.wanting)) in
    record { ok = all.ok; err = all.err; capacity = all.capacity; wanting = all.wanting }

pub returns-in_err-put-2 : goal.returns-in_err-put-2
unfolding message_name
returns-in_err-put-2 c =
    let all : IsPut c.args.into.now.items (vec_capacity c.args.into.now) c.put-2.new.into.items (vec_capacity c.put-2.new.into) (message_name (pulled_row c.args.world.now.births c.args.queue c.args.message.now)) c.from_residual-in_err-put-2.result =
    put_more _ _ c.in_ok-put.ensures.ok c.in_ok-put.ensures.capacity
    (first_same _ _ _ (ap birth_text c.birth_of.ensures) (put_more _ _ c.in_ok-put_birth.ensures.ok c.in_ok-put_birth.ensures.capacity
    (put_stops _ _ _ c.from_residual-in_err-put-2.ensures.0 c.in_err-put-2.ensures.err c.in_err-put-2.ensures.capacity c.in_err-put-2.ensures.wanting))) in
    record { ok = all.ok; err = all.err; capacity = all.capacity; wanting = all.wanting }

pub returns-in_err-put_birth-2 : goal.returns-in_err-put_birth-2
unfolding message_name
returns-in_err-put_birth-2 c =
    let all : IsPut c.args.into.now.items (vec_capacity c.args.into.now) c.put_birth-2.new.into.items (vec_capacity c.put_birth-2.new.into) (message_name (pulled_row c.args.world.now.births c.args.queue c.args.message.now)) c.from_residual-in_err-put_birth-2.result =
    put_more _ _ c.in_ok-put.ensures.ok c.in_ok-put.ensures.capacity
    (first_same _ _ _ (ap birth_text c.birth_of.ensures) (put_more _ _ c.in_ok-put_birth.ensures.ok c.in_ok-put_birth.ensures.capacity
    (put_more _ _ c.in_ok-put-2.ensures.ok c.in_ok-put-2.ensures.capacity
    (first_same _ _ _ (ap birth_text c.birth_of-2.ensures) (put_stops _ _ _ c.from_residual-in_err-put_birth-2.ensures.0 c.in_err-put_birth-2.ensures.err c.in_err-put_birth-2.ensures.capacity c.in_err-put_birth-2.ensures.wanting))))) in
    record { ok = all.ok; err = all.err; capacity = all.capacity; wanting = all.wanting }

pub returns-in_err-put_decimal_under : goal.returns-in_err-put_decimal_under
unfolding message_name
returns-in_err-put_decimal_under c =
    let all : IsPut c.args.into.now.items (vec_capacity c.args.into.now) c.put_decimal_under.new.into.items (vec_capacity c.put_decimal_under.new.into) (message_name (pulled_row c.args.world.now.births c.args.queue c.args.message.now)) c.from_residual-in_err-put_decimal_under.result =
    put_more _ _ c.in_ok-put.ensures.ok c.in_ok-put.ensures.capacity
    (first_same _ _ _ (ap birth_text c.birth_of.ensures) (put_more _ _ c.in_ok-put_birth.ensures.ok c.in_ok-put_birth.ensures.capacity
    (put_more _ _ c.in_ok-put-2.ensures.ok c.in_ok-put-2.ensures.capacity
    (first_same _ _ _ (ap birth_text c.birth_of-2.ensures) (put_more _ _ c.in_ok-put_birth-2.ensures.ok c.in_ok-put_birth-2.ensures.capacity
    (second_same _ _ _ _ (ap (λ (h : Header). decimal h.client.thread) (c.header_in-header.ensures ∙ ap header_of c.as_slice.ensures.value)) (as_two _ _ _ (put_stops _ _ _ c.from_residual-in_err-put_decimal_under.ensures.0 c.in_err-put_decimal_under.ensures.err c.in_err-put_decimal_under.ensures.capacity c.in_err-put_decimal_under.ensures.wanting)))))))) in
    record { ok = all.ok; err = all.err; capacity = all.capacity; wanting = all.wanting }

pub returns-in_err-put_decimal_under-2 : goal.returns-in_err-put_decimal_under-2
unfolding message_name
returns-in_err-put_decimal_under-2 c =
    let all : IsPut c.args.into.now.items (vec_capacity c.args.into.now) c.put_decimal_under-2.new.into.items (vec_capacity c.put_decimal_under-2.new.into) (message_name (pulled_row c.args.world.now.births c.args.queue c.args.message.now)) c.from_residual-in_err-put_decimal_under-2.result =
    put_more _ _ c.in_ok-put.ensures.ok c.in_ok-put.ensures.capacity
    (first_same _ _ _ (ap birth_text c.birth_of.ensures) (put_more _ _ c.in_ok-put_birth.ensures.ok c.in_ok-put_birth.ensures.capacity
    (put_more _ _ c.in_ok-put-2.ensures.ok c.in_ok-put-2.ensures.capacity
    (first_same _ _ _ (ap birth_text c.birth_of-2.ensures) (put_more _ _ c.in_ok-put_birth-2.ensures.ok c.in_ok-put_birth-2.ensures.capacity
    (second_same _ _ _ _ (ap (λ (h : Header). decimal h.client.thread) (c.header_in-header.ensures ∙ ap header_of c.as_slice.ensures.value)) (as_two _ _ _ (put_more _ _ c.in_ok-put_decimal_under.ensures.ok c.in_ok-put_decimal_under.ensures.capacity
    (second_same _ _ _ _ (ap (λ (h : Header). decimal h.message_id) (c.header_in-header.ensures ∙ ap header_of c.as_slice.ensures.value)) (as_two _ _ _ (put_stops _ _ _ c.from_residual-in_err-put_decimal_under-2.ensures.0 c.in_err-put_decimal_under-2.ensures.err c.in_err-put_decimal_under-2.ensures.capacity c.in_err-put_decimal_under-2.ensures.wanting))))))))))) in
    record { ok = all.ok; err = all.err; capacity = all.capacity; wanting = all.wanting }

pub returns-in_err-put-3 : goal.returns-in_err-put-3
unfolding message_name
returns-in_err-put-3 c =
    let all : IsPut c.args.into.now.items (vec_capacity c.args.into.now) c.put-3.new.into.items (vec_capacity c.put-3.new.into) (message_name (pulled_row c.args.world.now.births c.args.queue c.args.message.now)) c.from_residual-in_err-put-3.result =
    put_more _ _ c.in_ok-put.ensures.ok c.in_ok-put.ensures.capacity
    (first_same _ _ _ (ap birth_text c.birth_of.ensures) (put_more _ _ c.in_ok-put_birth.ensures.ok c.in_ok-put_birth.ensures.capacity
    (put_more _ _ c.in_ok-put-2.ensures.ok c.in_ok-put-2.ensures.capacity
    (first_same _ _ _ (ap birth_text c.birth_of-2.ensures) (put_more _ _ c.in_ok-put_birth-2.ensures.ok c.in_ok-put_birth-2.ensures.capacity
    (second_same _ _ _ _ (ap (λ (h : Header). decimal h.client.thread) (c.header_in-header.ensures ∙ ap header_of c.as_slice.ensures.value)) (as_two _ _ _ (put_more _ _ c.in_ok-put_decimal_under.ensures.ok c.in_ok-put_decimal_under.ensures.capacity
    (second_same _ _ _ _ (ap (λ (h : Header). decimal h.message_id) (c.header_in-header.ensures ∙ ap header_of c.as_slice.ensures.value)) (as_two _ _ _ (put_more _ _ c.in_ok-put_decimal_under-2.ensures.ok c.in_ok-put_decimal_under-2.ensures.capacity
    (put_stops _ _ _ c.from_residual-in_err-put-3.ensures.0 c.in_err-put-3.ensures.err c.in_err-put-3.ensures.capacity c.in_err-put-3.ensures.wanting)))))))))))) in
    record { ok = all.ok; err = all.err; capacity = all.capacity; wanting = all.wanting }

pub returns-in_err-put_type : goal.returns-in_err-put_type
unfolding message_name
returns-in_err-put_type c =
    let all : IsPut c.args.into.now.items (vec_capacity c.args.into.now) c.put_type.new.into.items (vec_capacity c.put_type.new.into) (message_name (pulled_row c.args.world.now.births c.args.queue c.args.message.now)) c.from_residual-in_err-put_type.result =
    put_more _ _ c.in_ok-put.ensures.ok c.in_ok-put.ensures.capacity
    (first_same _ _ _ (ap birth_text c.birth_of.ensures) (put_more _ _ c.in_ok-put_birth.ensures.ok c.in_ok-put_birth.ensures.capacity
    (put_more _ _ c.in_ok-put-2.ensures.ok c.in_ok-put-2.ensures.capacity
    (first_same _ _ _ (ap birth_text c.birth_of-2.ensures) (put_more _ _ c.in_ok-put_birth-2.ensures.ok c.in_ok-put_birth-2.ensures.capacity
    (second_same _ _ _ _ (ap (λ (h : Header). decimal h.client.thread) (c.header_in-header.ensures ∙ ap header_of c.as_slice.ensures.value)) (as_two _ _ _ (put_more _ _ c.in_ok-put_decimal_under.ensures.ok c.in_ok-put_decimal_under.ensures.capacity
    (second_same _ _ _ _ (ap (λ (h : Header). decimal h.message_id) (c.header_in-header.ensures ∙ ap header_of c.as_slice.ensures.value)) (as_two _ _ _ (put_more _ _ c.in_ok-put_decimal_under-2.ensures.ok c.in_ok-put_decimal_under-2.ensures.capacity
    (put_more _ _ c.in_ok-put-3.ensures.ok c.in_ok-put-3.ensures.capacity
    (first_same _ _ _ (ap (λ (h : Header). decimal h.kind) (c.header_in-header.ensures ∙ ap header_of c.as_slice.ensures.value)) (put_stops _ _ _ c.from_residual-in_err-put_type.ensures.0 c.in_err-put_type.ensures.err c.in_err-put_type.ensures.capacity c.in_err-put_type.ensures.wanting)))))))))))))) in
    record { ok = all.ok; err = all.err; capacity = all.capacity; wanting = all.wanting }

pub returns : goal.returns
unfolding message_name
returns c =
    let all : IsPut c.args.into.now.items (vec_capacity c.args.into.now) c.put-4.new.into.items (vec_capacity c.put-4.new.into) (message_name (pulled_row c.args.world.now.births c.args.queue c.args.message.now)) c.put-4.result =
    put_more _ _ c.in_ok-put.ensures.ok c.in_ok-put.ensures.capacity
    (first_same _ _ _ (ap birth_text c.birth_of.ensures) (put_more _ _ c.in_ok-put_birth.ensures.ok c.in_ok-put_birth.ensures.capacity
    (put_more _ _ c.in_ok-put-2.ensures.ok c.in_ok-put-2.ensures.capacity
    (first_same _ _ _ (ap birth_text c.birth_of-2.ensures) (put_more _ _ c.in_ok-put_birth-2.ensures.ok c.in_ok-put_birth-2.ensures.capacity
    (second_same _ _ _ _ (ap (λ (h : Header). decimal h.client.thread) (c.header_in-header.ensures ∙ ap header_of c.as_slice.ensures.value)) (as_two _ _ _ (put_more _ _ c.in_ok-put_decimal_under.ensures.ok c.in_ok-put_decimal_under.ensures.capacity
    (second_same _ _ _ _ (ap (λ (h : Header). decimal h.message_id) (c.header_in-header.ensures ∙ ap header_of c.as_slice.ensures.value)) (as_two _ _ _ (put_more _ _ c.in_ok-put_decimal_under-2.ensures.ok c.in_ok-put_decimal_under-2.ensures.capacity
    (put_more _ _ c.in_ok-put-3.ensures.ok c.in_ok-put-3.ensures.capacity
    (first_same _ _ _ (ap (λ (h : Header). decimal h.kind) (c.header_in-header.ensures ∙ ap header_of c.as_slice.ensures.value)) (put_more _ _ c.in_ok-put_type.ensures.ok c.in_ok-put_type.ensures.capacity
    (put_last _ c.put-4.ensures.ok c.put-4.ensures.err c.put-4.ensures.capacity c.put-4.ensures.wanting))))))))))))))) in
    record { ok = all.ok; err = all.err; capacity = all.capacity; wanting = all.wanting }
