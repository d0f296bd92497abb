use Rattle.std.proofs.Common.{◌≡◌, ℕ, List, ap, drop, subst, vec_capacity}
use Rattle.std.specs.Prelude.{Result}
use Rattle.lpc_base.specs.declared.limits.TheConstants.{HEADER_SIZE}
use Rattle.lpc_message.specs.Layout.{header_of}
use Rattle.lpc_message.specs.declared.message.Header.{Header}
use Rattle.lpc_model.specs.Message.{message_of}
use Rattle.lpc_states.specs.Values.{bytes_text, message_fields}
use Rattle.lpc_states.proofs.Puts.{IsPut, as_two, first_same, put_last, put_more, put_stops}
use Rattle.lpc_states.proofs.messages.put_message_fields.Goals as goal

-- the fields are those of the header that was read
by_header : {T E : Type 0} {before now : List ℕ} {held holds : ℕ} {result : Result T E} (bytes : List ℕ) (header : Header) → header ≡ header_of bytes → IsPut before held now holds (message_fields (record { header = header; body = drop HEADER_SIZE bytes })) result → IsPut before held now holds (message_fields (message_of bytes)) result
by_header {T} {E} {before} {now} {held} {holds} {result} bytes header is put =
    subst (λ h. IsPut before held now holds (message_fields (record { header = h; body = drop HEADER_SIZE bytes })) result) is put

pub returns-in_err-put_half : goal.returns-in_err-put_half
unfolding message_fields
returns-in_err-put_half c =
    let all : IsPut c.args.into.now.items (vec_capacity c.args.into.now) c.put_half.new.into.items (vec_capacity c.put_half.new.into) (message_fields (message_of c.args.bytes.now)) c.from_residual.result =
    by_header c.args.bytes.now _ c.header_in-header.ensures (as_two _ _ _ (put_stops _ _ _ c.from_residual.ensures.0 c.in_err-put_half.ensures.err c.in_err-put_half.ensures.capacity c.in_err-put_half.ensures.wanting)) in
    record { ok = all.ok; err = all.err; capacity = all.capacity; wanting = all.wanting }

pub returns-in_err-put_decimal_under : goal.returns-in_err-put_decimal_under
unfolding message_fields
returns-in_err-put_decimal_under c =
    let all : IsPut c.args.into.now.items (vec_capacity c.args.into.now) c.put_decimal_under.new.into.items (vec_capacity c.put_decimal_under.new.into) (message_fields (message_of c.args.bytes.now)) c.from_residual-in_err-put_decimal_under.result =
    by_header c.args.bytes.now _ c.header_in-header.ensures (as_two _ _ _ (put_more _ _ c.in_ok-put_half.ensures.ok c.in_ok-put_half.ensures.capacity
    (as_two _ _ _ (put_stops _ _ _ c.from_residual-in_err-put_decimal_under.ensures.0 c.in_err-put_decimal_under.ensures.err c.in_err-put_decimal_under.ensures.capacity c.in_err-put_decimal_under.ensures.wanting)))) in
    record { ok = all.ok; err = all.err; capacity = all.capacity; wanting = all.wanting }

pub returns-in_err-put_decimal_under-2 : goal.returns-in_err-put_decimal_under-2
unfolding message_fields
returns-in_err-put_decimal_under-2 c =
    let all : IsPut c.args.into.now.items (vec_capacity c.args.into.now) c.put_decimal_under-2.new.into.items (vec_capacity c.put_decimal_under-2.new.into) (message_fields (message_of c.args.bytes.now)) c.from_residual-in_err-put_decimal_under-2.result =
    by_header c.args.bytes.now _ c.header_in-header.ensures (as_two _ _ _ (put_more _ _ c.in_ok-put_half.ensures.ok c.in_ok-put_half.ensures.capacity
    (as_two _ _ _ (put_more _ _ c.in_ok-put_decimal_under.ensures.ok c.in_ok-put_decimal_under.ensures.capacity
    (as_two _ _ _ (put_stops _ _ _ c.from_residual-in_err-put_decimal_under-2.ensures.0 c.in_err-put_decimal_under-2.ensures.err c.in_err-put_decimal_under-2.ensures.capacity c.in_err-put_decimal_under-2.ensures.wanting)))))) in
    record { ok = all.ok; err = all.err; capacity = all.capacity; wanting = all.wanting }

pub returns-in_err-put_decimal_under-3 : goal.returns-in_err-put_decimal_under-3
unfolding message_fields
returns-in_err-put_decimal_under-3 c =
    let all : IsPut c.args.into.now.items (vec_capacity c.args.into.now) c.put_decimal_under-3.new.into.items (vec_capacity c.put_decimal_under-3.new.into) (message_fields (message_of c.args.bytes.now)) c.from_residual-in_err-put_decimal_under-3.result =
    by_header c.args.bytes.now _ c.header_in-header.ensures (as_two _ _ _ (put_more _ _ c.in_ok-put_half.ensures.ok c.in_ok-put_half.ensures.capacity
    (as_two _ _ _ (put_more _ _ c.in_ok-put_decimal_under.ensures.ok c.in_ok-put_decimal_under.ensures.capacity
    (as_two _ _ _ (put_more _ _ c.in_ok-put_decimal_under-2.ensures.ok c.in_ok-put_decimal_under-2.ensures.capacity
    (as_two _ _ _ (put_stops _ _ _ c.from_residual-in_err-put_decimal_under-3.ensures.0 c.in_err-put_decimal_under-3.ensures.err c.in_err-put_decimal_under-3.ensures.capacity c.in_err-put_decimal_under-3.ensures.wanting)))))))) in
    record { ok = all.ok; err = all.err; capacity = all.capacity; wanting = all.wanting }

pub returns-in_err-put_half-2 : goal.returns-in_err-put_half-2
unfolding message_fields
returns-in_err-put_half-2 c =
    let all : IsPut c.args.into.now.items (vec_capacity c.args.into.now) c.put_half-2.new.into.items (vec_capacity c.put_half-2.new.into) (message_fields (message_of c.args.bytes.now)) c.from_residual-in_err-put_half-2.result =
    by_header c.args.bytes.now _ c.header_in-header.ensures (as_two _ _ _ (put_more _ _ c.in_ok-put_half.ensures.ok c.in_ok-put_half.ensures.capacity
    (as_two _ _ _ (put_more _ _ c.in_ok-put_decimal_under.ensures.ok c.in_ok-put_decimal_under.ensures.capacity
    (as_two _ _ _ (put_more _ _ c.in_ok-put_decimal_under-2.ensures.ok c.in_ok-put_decimal_under-2.ensures.capacity
    (as_two _ _ _ (put_more _ _ c.in_ok-put_decimal_under-3.ensures.ok c.in_ok-put_decimal_under-3.ensures.capacity
    (as_two _ _ _ (put_stops _ _ _ c.from_residual-in_err-put_half-2.ensures.0 c.in_err-put_half-2.ensures.err c.in_err-put_half-2.ensures.capacity c.in_err-put_half-2.ensures.wanting)))))))))) in
    record { ok = all.ok; err = all.err; capacity = all.capacity; wanting = all.wanting }

pub returns-in_err-put_half-3 : goal.returns-in_err-put_half-3
unfolding message_fields
returns-in_err-put_half-3 c =
    let all : IsPut c.args.into.now.items (vec_capacity c.args.into.now) c.put_half-3.new.into.items (vec_capacity c.put_half-3.new.into) (message_fields (message_of c.args.bytes.now)) c.from_residual-in_err-put_half-3.result =
    by_header c.args.bytes.now _ c.header_in-header.ensures (as_two _ _ _ (put_more _ _ c.in_ok-put_half.ensures.ok c.in_ok-put_half.ensures.capacity
    (as_two _ _ _ (put_more _ _ c.in_ok-put_decimal_under.ensures.ok c.in_ok-put_decimal_under.ensures.capacity
    (as_two _ _ _ (put_more _ _ c.in_ok-put_decimal_under-2.ensures.ok c.in_ok-put_decimal_under-2.ensures.capacity
    (as_two _ _ _ (put_more _ _ c.in_ok-put_decimal_under-3.ensures.ok c.in_ok-put_decimal_under-3.ensures.capacity
    (as_two _ _ _ (put_more _ _ c.in_ok-put_half-2.ensures.ok c.in_ok-put_half-2.ensures.capacity
    (as_two _ _ _ (put_stops _ _ _ c.from_residual-in_err-put_half-3.ensures.0 c.in_err-put_half-3.ensures.err c.in_err-put_half-3.ensures.capacity c.in_err-put_half-3.ensures.wanting)))))))))))) in
    record { ok = all.ok; err = all.err; capacity = all.capacity; wanting = all.wanting }

pub returns-in_err-put_half-4 : goal.returns-in_err-put_half-4
unfolding message_fields
returns-in_err-put_half-4 c =
    let all : IsPut c.args.into.now.items (vec_capacity c.args.into.now) c.put_half-4.new.into.items (vec_capacity c.put_half-4.new.into) (message_fields (message_of c.args.bytes.now)) c.from_residual-in_err-put_half-4.result =
    by_header c.args.bytes.now _ c.header_in-header.ensures (as_two _ _ _ (put_more _ _ c.in_ok-put_half.ensures.ok c.in_ok-put_half.ensures.capacity
    (as_two _ _ _ (put_more _ _ c.in_ok-put_decimal_under.ensures.ok c.in_ok-put_decimal_under.ensures.capacity
    (as_two _ _ _ (put_more _ _ c.in_ok-put_decimal_under-2.ensures.ok c.in_ok-put_decimal_under-2.ensures.capacity
    (as_two _ _ _ (put_more _ _ c.in_ok-put_decimal_under-3.ensures.ok c.in_ok-put_decimal_under-3.ensures.capacity
    (as_two _ _ _ (put_more _ _ c.in_ok-put_half-2.ensures.ok c.in_ok-put_half-2.ensures.capacity
    (as_two _ _ _ (put_more _ _ c.in_ok-put_half-3.ensures.ok c.in_ok-put_half-3.ensures.capacity
    (as_two _ _ _ (put_stops _ _ _ c.from_residual-in_err-put_half-4.ensures.0 c.in_err-put_half-4.ensures.err c.in_err-put_half-4.ensures.capacity c.in_err-put_half-4.ensures.wanting)))))))))))))) in
    record { ok = all.ok; err = all.err; capacity = all.capacity; wanting = all.wanting }

pub returns-in_err-put_decimal_under-4 : goal.returns-in_err-put_decimal_under-4
unfolding message_fields
returns-in_err-put_decimal_under-4 c =
    let all : IsPut c.args.into.now.items (vec_capacity c.args.into.now) c.put_decimal_under-4.new.into.items (vec_capacity c.put_decimal_under-4.new.into) (message_fields (message_of c.args.bytes.now)) c.from_residual-in_err-put_decimal_under-4.result =
    by_header c.args.bytes.now _ c.header_in-header.ensures (as_two _ _ _ (put_more _ _ c.in_ok-put_half.ensures.ok c.in_ok-put_half.ensures.capacity
    (as_two _ _ _ (put_more _ _ c.in_ok-put_decimal_under.ensures.ok c.in_ok-put_decimal_under.ensures.capacity
    (as_two _ _ _ (put_more _ _ c.in_ok-put_decimal_under-2.ensures.ok c.in_ok-put_decimal_under-2.ensures.capacity
    (as_two _ _ _ (put_more _ _ c.in_ok-put_decimal_under-3.ensures.ok c.in_ok-put_decimal_under-3.ensures.capacity
    (as_two _ _ _ (put_more _ _ c.in_ok-put_half-2.ensures.ok c.in_ok-put_half-2.ensures.capacity
    (as_two _ _ _ (put_more _ _ c.in_ok-put_half-3.ensures.ok c.in_ok-put_half-3.ensures.capacity
    (as_two _ _ _ (put_more _ _ c.in_ok-put_half-4.ensures.ok c.in_ok-put_half-4.ensures.capacity
    (as_two _ _ _ (put_stops _ _ _ c.from_residual-in_err-put_decimal_under-4.ensures.0 c.in_err-put_decimal_under-4.ensures.err c.in_err-put_decimal_under-4.ensures.capacity c.in_err-put_decimal_under-4.ensures.wanting)))))))))))))))) in
    record { ok = all.ok; err = all.err; capacity = all.capacity; wanting = all.wanting }

pub returns-in_err-put : goal.returns-in_err-put
unfolding message_fields
returns-in_err-put c =
    let all : IsPut c.args.into.now.items (vec_capacity c.args.into.now) c.put.new.into.items (vec_capacity c.put.new.into) (message_fields (message_of c.args.bytes.now)) c.from_residual-in_err-put.result =
    by_header c.args.bytes.now _ c.header_in-header.ensures (as_two _ _ _ (put_more _ _ c.in_ok-put_half.ensures.ok c.in_ok-put_half.ensures.capacity
    (as_two _ _ _ (put_more _ _ c.in_ok-put_decimal_under.ensures.ok c.in_ok-put_decimal_under.ensures.capacity
    (as_two _ _ _ (put_more _ _ c.in_ok-put_decimal_under-2.ensures.ok c.in_ok-put_decimal_under-2.ensures.capacity
    (as_two _ _ _ (put_more _ _ c.in_ok-put_decimal_under-3.ensures.ok c.in_ok-put_decimal_under-3.ensures.capacity
    (as_two _ _ _ (put_more _ _ c.in_ok-put_half-2.ensures.ok c.in_ok-put_half-2.ensures.capacity
    (as_two _ _ _ (put_more _ _ c.in_ok-put_half-3.ensures.ok c.in_ok-put_half-3.ensures.capacity
    (as_two _ _ _ (put_more _ _ c.in_ok-put_half-4.ensures.ok c.in_ok-put_half-4.ensures.capacity
    (as_two _ _ _ (put_more _ _ c.in_ok-put_decimal_under-4.ensures.ok c.in_ok-put_decimal_under-4.ensures.capacity
    (put_stops _ _ _ c.from_residual-in_err-put.ensures.0 c.in_err-put.ensures.err c.in_err-put.ensures.capacity c.in_err-put.ensures.wanting))))))))))))))))) in
    record { ok = all.ok; err = all.err; capacity = all.capacity; wanting = all.wanting }

pub returns : goal.returns
unfolding message_fields
returns c =
    let all : IsPut c.args.into.now.items (vec_capacity c.args.into.now) c.put_hex_bytes.new.into.items (vec_capacity c.put_hex_bytes.new.into) (message_fields (message_of c.args.bytes.now)) c.put_hex_bytes.result =
    by_header c.args.bytes.now _ c.header_in-header.ensures (as_two _ _ _ (put_more _ _ c.in_ok-put_half.ensures.ok c.in_ok-put_half.ensures.capacity
    (as_two _ _ _ (put_more _ _ c.in_ok-put_decimal_under.ensures.ok c.in_ok-put_decimal_under.ensures.capacity
    (as_two _ _ _ (put_more _ _ c.in_ok-put_decimal_under-2.ensures.ok c.in_ok-put_decimal_under-2.ensures.capacity
    (as_two _ _ _ (put_more _ _ c.in_ok-put_decimal_under-3.ensures.ok c.in_ok-put_decimal_under-3.ensures.capacity
    (as_two _ _ _ (put_more _ _ c.in_ok-put_half-2.ensures.ok c.in_ok-put_half-2.ensures.capacity
    (as_two _ _ _ (put_more _ _ c.in_ok-put_half-3.ensures.ok c.in_ok-put_half-3.ensures.capacity
    (as_two _ _ _ (put_more _ _ c.in_ok-put_half-4.ensures.ok c.in_ok-put_half-4.ensures.capacity
    (as_two _ _ _ (put_more _ _ c.in_ok-put_decimal_under-4.ensures.ok c.in_ok-put_decimal_under-4.ensures.capacity
    (put_more _ _ c.in_ok-put.ensures.ok c.in_ok-put.ensures.capacity
    (first_same _ _ _ (ap bytes_text c.body_in.ensures) (put_last _ c.put_hex_bytes.ensures.ok c.put_hex_bytes.ensures.err c.put_hex_bytes.ensures.capacity c.put_hex_bytes.ensures.wanting))))))))))))))))))) in
    record { ok = all.ok; err = all.err; capacity = all.capacity; wanting = all.wanting }
