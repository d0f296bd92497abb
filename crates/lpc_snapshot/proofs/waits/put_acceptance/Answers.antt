use Rattle.std.proofs.Common.{ap, vec_capacity}
use Rattle.lpc_rows.specs.Shown.{shown_acceptance}
use Rattle.lpc_states.specs.Values.{acceptance_text, bytes_text}
use Rattle.lpc_states.proofs.Puts.{IsPut, as_two, first_same, put_last, put_more, put_stops}
use Rattle.lpc_snapshot.proofs.waits.put_acceptance.Goals as goal

pub returns-in_err-put : goal.returns-in_err-put
unfolding acceptance_text
returns-in_err-put c =
    let all : IsPut c.args.into.now.items (vec_capacity c.args.into.now) c.put.new.into.items (vec_capacity c.put.new.into) (acceptance_text (shown_acceptance c.args.accepted.now)) c.from_residual.result =
    put_stops _ _ _ c.from_residual.ensures.0 c.in_err-put.ensures.err c.in_err-put.ensures.capacity c.in_err-put.ensures.wanting in
    record { ok = all.ok; err = all.err; capacity = all.capacity; wanting = all.wanting }

pub returns-in_err-put_hex_bytes : goal.returns-in_err-put_hex_bytes
unfolding acceptance_text
returns-in_err-put_hex_bytes c =
    let all : IsPut c.args.into.now.items (vec_capacity c.args.into.now) c.put_hex_bytes.new.into.items (vec_capacity c.put_hex_bytes.new.into) (acceptance_text (shown_acceptance c.args.accepted.now)) c.from_residual-in_err-put_hex_bytes.result =
    put_more _ _ c.in_ok-put.ensures.ok c.in_ok-put.ensures.capacity
    (first_same _ _ _ (ap bytes_text c.as_slice.ensures.value) (put_stops _ _ _ c.from_residual-in_err-put_hex_bytes.ensures.0 c.in_err-put_hex_bytes.ensures.err c.in_err-put_hex_bytes.ensures.capacity c.in_err-put_hex_bytes.ensures.wanting)) in
    record { ok = all.ok; err = all.err; capacity = all.capacity; wanting = all.wanting }

pub returns-in_err-put_hex_or_null_under : goal.returns-in_err-put_hex_or_null_under
unfolding acceptance_text
returns-in_err-put_hex_or_null_under c =
    let all : IsPut c.args.into.now.items (vec_capacity c.args.into.now) c.put_hex_or_null_under.new.into.items (vec_capacity c.put_hex_or_null_under.new.into) (acceptance_text (shown_acceptance c.args.accepted.now)) c.from_residual-in_err-put_hex_or_null_under.result =
    put_more _ _ c.in_ok-put.ensures.ok c.in_ok-put.ensures.capacity
    (first_same _ _ _ (ap bytes_text c.as_slice.ensures.value) (put_more _ _ c.in_ok-put_hex_bytes.ensures.ok c.in_ok-put_hex_bytes.ensures.capacity
    (as_two _ _ _ (put_stops _ _ _ c.from_residual-in_err-put_hex_or_null_under.ensures.0 c.in_err-put_hex_or_null_under.ensures.err c.in_err-put_hex_or_null_under.ensures.capacity c.in_err-put_hex_or_null_under.ensures.wanting)))) in
    record { ok = all.ok; err = all.err; capacity = all.capacity; wanting = all.wanting }

pub returns-in_err-put_hex_or_null_under-2 : goal.returns-in_err-put_hex_or_null_under-2
unfolding acceptance_text
returns-in_err-put_hex_or_null_under-2 c =
    let all : IsPut c.args.into.now.items (vec_capacity c.args.into.now) c.put_hex_or_null_under-2.new.into.items (vec_capacity c.put_hex_or_null_under-2.new.into) (acceptance_text (shown_acceptance c.args.accepted.now)) c.from_residual-in_err-put_hex_or_null_under-2.result =
    put_more _ _ c.in_ok-put.ensures.ok c.in_ok-put.ensures.capacity
    (first_same _ _ _ (ap bytes_text c.as_slice.ensures.value) (put_more _ _ c.in_ok-put_hex_bytes.ensures.ok c.in_ok-put_hex_bytes.ensures.capacity
    (as_two _ _ _ (put_more _ _ c.in_ok-put_hex_or_null_under.ensures.ok c.in_ok-put_hex_or_null_under.ensures.capacity
    (as_two _ _ _ (put_stops _ _ _ c.from_residual-in_err-put_hex_or_null_under-2.ensures.0 c.in_err-put_hex_or_null_under-2.ensures.err c.in_err-put_hex_or_null_under-2.ensures.capacity c.in_err-put_hex_or_null_under-2.ensures.wanting)))))) in
    record { ok = all.ok; err = all.err; capacity = all.capacity; wanting = all.wanting }

pub returns-in_err-put_number_or_null_under : goal.returns-in_err-put_number_or_null_under
unfolding acceptance_text
returns-in_err-put_number_or_null_under c =
    let all : IsPut c.args.into.now.items (vec_capacity c.args.into.now) c.put_number_or_null_under.new.into.items (vec_capacity c.put_number_or_null_under.new.into) (acceptance_text (shown_acceptance c.args.accepted.now)) c.from_residual-in_err-put_number_or_null_under.result =
    put_more _ _ c.in_ok-put.ensures.ok c.in_ok-put.ensures.capacity
    (first_same _ _ _ (ap bytes_text c.as_slice.ensures.value) (put_more _ _ c.in_ok-put_hex_bytes.ensures.ok c.in_ok-put_hex_bytes.ensures.capacity
    (as_two _ _ _ (put_more _ _ c.in_ok-put_hex_or_null_under.ensures.ok c.in_ok-put_hex_or_null_under.ensures.capacity
    (as_two _ _ _ (put_more _ _ c.in_ok-put_hex_or_null_under-2.ensures.ok c.in_ok-put_hex_or_null_under-2.ensures.capacity
    (as_two _ _ _ (put_stops _ _ _ c.from_residual-in_err-put_number_or_null_under.ensures.0 c.in_err-put_number_or_null_under.ensures.err c.in_err-put_number_or_null_under.ensures.capacity c.in_err-put_number_or_null_under.ensures.wanting)))))))) in
    record { ok = all.ok; err = all.err; capacity = all.capacity; wanting = all.wanting }

pub returns : goal.returns
unfolding acceptance_text
returns c =
    let all : IsPut c.args.into.now.items (vec_capacity c.args.into.now) c.put-2.new.into.items (vec_capacity c.put-2.new.into) (acceptance_text (shown_acceptance c.args.accepted.now)) c.put-2.result =
    put_more _ _ c.in_ok-put.ensures.ok c.in_ok-put.ensures.capacity
    (first_same _ _ _ (ap bytes_text c.as_slice.ensures.value) (put_more _ _ c.in_ok-put_hex_bytes.ensures.ok c.in_ok-put_hex_bytes.ensures.capacity
    (as_two _ _ _ (put_more _ _ c.in_ok-put_hex_or_null_under.ensures.ok c.in_ok-put_hex_or_null_under.ensures.capacity
    (as_two _ _ _ (put_more _ _ c.in_ok-put_hex_or_null_under-2.ensures.ok c.in_ok-put_hex_or_null_under-2.ensures.capacity
    (as_two _ _ _ (put_more _ _ c.in_ok-put_number_or_null_under.ensures.ok c.in_ok-put_number_or_null_under.ensures.capacity
    (put_last _ c.put-2.ensures.ok c.put-2.ensures.err c.put-2.ensures.capacity c.put-2.ensures.wanting))))))))) in
    record { ok = all.ok; err = all.err; capacity = all.capacity; wanting = all.wanting }
