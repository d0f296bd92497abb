use Rattle.std.proofs.Common.{ap, map, vec_capacity}
use Rattle.lpc_procs.specs.declared.rows.Registration.{Registration}
use Rattle.lpc_rows.specs.Shown.{shown_thread}
use Rattle.lpc_states.specs.Values.{impersonation_text, listed, or_null, port_text}
use Rattle.lpc_states.specs.Rows.{thread_row}
use Rattle.lpc_states.proofs.Puts.{IsPut, as_two, first_same, put_last, put_more, put_stops}
use Rattle.lpc_snapshot.proofs.lives.put_thread.Goals as goal

pub returns-in_err-put_object : goal.returns-in_err-put_object
unfolding thread_row
returns-in_err-put_object c =
    let all : IsPut c.args.into.now.items (vec_capacity c.args.into.now) c.put_object.new.into.items (vec_capacity c.put_object.new.into) (thread_row c.args.world.now.rows (shown_thread c.args.thread.now)) c.from_residual.result =
    put_stops _ _ _ c.from_residual.ensures.0 c.in_err-put_object.ensures.err c.in_err-put_object.ensures.capacity c.in_err-put_object.ensures.wanting in
    record { ok = all.ok; err = all.err; capacity = all.capacity; wanting = all.wanting }

pub returns-in_err-put_decimal_under : goal.returns-in_err-put_decimal_under
unfolding thread_row
returns-in_err-put_decimal_under c =
    let all : IsPut c.args.into.now.items (vec_capacity c.args.into.now) c.put_decimal_under.new.into.items (vec_capacity c.put_decimal_under.new.into) (thread_row c.args.world.now.rows (shown_thread c.args.thread.now)) c.from_residual-in_err-put_decimal_under.result =
    put_more _ _ c.in_ok-put_object.ensures.ok c.in_ok-put_object.ensures.capacity
    (as_two _ _ _ (put_stops _ _ _ c.from_residual-in_err-put_decimal_under.ensures.0 c.in_err-put_decimal_under.ensures.err c.in_err-put_decimal_under.ensures.capacity c.in_err-put_decimal_under.ensures.wanting)) in
    record { ok = all.ok; err = all.err; capacity = all.capacity; wanting = all.wanting }

pub returns-in_err-put_decimal_under-2 : goal.returns-in_err-put_decimal_under-2
unfolding thread_row
returns-in_err-put_decimal_under-2 c =
    let all : IsPut c.args.into.now.items (vec_capacity c.args.into.now) c.put_decimal_under-2.new.into.items (vec_capacity c.put_decimal_under-2.new.into) (thread_row c.args.world.now.rows (shown_thread c.args.thread.now)) c.from_residual-in_err-put_decimal_under-2.result =
    put_more _ _ c.in_ok-put_object.ensures.ok c.in_ok-put_object.ensures.capacity
    (as_two _ _ _ (put_more _ _ c.in_ok-put_decimal_under.ensures.ok c.in_ok-put_decimal_under.ensures.capacity
    (as_two _ _ _ (put_stops _ _ _ c.from_residual-in_err-put_decimal_under-2.ensures.0 c.in_err-put_decimal_under-2.ensures.err c.in_err-put_decimal_under-2.ensures.capacity c.in_err-put_decimal_under-2.ensures.wanting)))) in
    record { ok = all.ok; err = all.err; capacity = all.capacity; wanting = all.wanting }

pub returns-in_err-put_flag_under : goal.returns-in_err-put_flag_under
unfolding thread_row
returns-in_err-put_flag_under c =
    let all : IsPut c.args.into.now.items (vec_capacity c.args.into.now) c.put_flag_under.new.into.items (vec_capacity c.put_flag_under.new.into) (thread_row c.args.world.now.rows (shown_thread c.args.thread.now)) c.from_residual-in_err-put_flag_under.result =
    put_more _ _ c.in_ok-put_object.ensures.ok c.in_ok-put_object.ensures.capacity
    (as_two _ _ _ (put_more _ _ c.in_ok-put_decimal_under.ensures.ok c.in_ok-put_decimal_under.ensures.capacity
    (as_two _ _ _ (put_more _ _ c.in_ok-put_decimal_under-2.ensures.ok c.in_ok-put_decimal_under-2.ensures.capacity
    (as_two _ _ _ (put_stops _ _ _ c.from_residual-in_err-put_flag_under.ensures.0 c.in_err-put_flag_under.ensures.err c.in_err-put_flag_under.ensures.capacity c.in_err-put_flag_under.ensures.wanting)))))) in
    record { ok = all.ok; err = all.err; capacity = all.capacity; wanting = all.wanting }

pub returns-in_err-put_decimal_under-3 : goal.returns-in_err-put_decimal_under-3
unfolding thread_row
returns-in_err-put_decimal_under-3 c =
    let all : IsPut c.args.into.now.items (vec_capacity c.args.into.now) c.put_decimal_under-3.new.into.items (vec_capacity c.put_decimal_under-3.new.into) (thread_row c.args.world.now.rows (shown_thread c.args.thread.now)) c.from_residual-in_err-put_decimal_under-3.result =
    put_more _ _ c.in_ok-put_object.ensures.ok c.in_ok-put_object.ensures.capacity
    (as_two _ _ _ (put_more _ _ c.in_ok-put_decimal_under.ensures.ok c.in_ok-put_decimal_under.ensures.capacity
    (as_two _ _ _ (put_more _ _ c.in_ok-put_decimal_under-2.ensures.ok c.in_ok-put_decimal_under-2.ensures.capacity
    (as_two _ _ _ (put_more _ _ c.in_ok-put_flag_under.ensures.ok c.in_ok-put_flag_under.ensures.capacity
    (as_two _ _ _ (put_stops _ _ _ c.from_residual-in_err-put_decimal_under-3.ensures.0 c.in_err-put_decimal_under-3.ensures.err c.in_err-put_decimal_under-3.ensures.capacity c.in_err-put_decimal_under-3.ensures.wanting)))))))) in
    record { ok = all.ok; err = all.err; capacity = all.capacity; wanting = all.wanting }

pub returns-in_err-put_decimal_under-4 : goal.returns-in_err-put_decimal_under-4
unfolding thread_row
returns-in_err-put_decimal_under-4 c =
    let all : IsPut c.args.into.now.items (vec_capacity c.args.into.now) c.put_decimal_under-4.new.into.items (vec_capacity c.put_decimal_under-4.new.into) (thread_row c.args.world.now.rows (shown_thread c.args.thread.now)) c.from_residual-in_err-put_decimal_under-4.result =
    put_more _ _ c.in_ok-put_object.ensures.ok c.in_ok-put_object.ensures.capacity
    (as_two _ _ _ (put_more _ _ c.in_ok-put_decimal_under.ensures.ok c.in_ok-put_decimal_under.ensures.capacity
    (as_two _ _ _ (put_more _ _ c.in_ok-put_decimal_under-2.ensures.ok c.in_ok-put_decimal_under-2.ensures.capacity
    (as_two _ _ _ (put_more _ _ c.in_ok-put_flag_under.ensures.ok c.in_ok-put_flag_under.ensures.capacity
    (as_two _ _ _ (put_more _ _ c.in_ok-put_decimal_under-3.ensures.ok c.in_ok-put_decimal_under-3.ensures.capacity
    (as_two _ _ _ (put_stops _ _ _ c.from_residual-in_err-put_decimal_under-4.ensures.0 c.in_err-put_decimal_under-4.ensures.err c.in_err-put_decimal_under-4.ensures.capacity c.in_err-put_decimal_under-4.ensures.wanting)))))))))) in
    record { ok = all.ok; err = all.err; capacity = all.capacity; wanting = all.wanting }

pub returns-in_err-put : goal.returns-in_err-put
unfolding thread_row
returns-in_err-put c =
    let all : IsPut c.args.into.now.items (vec_capacity c.args.into.now) c.put.new.into.items (vec_capacity c.put.new.into) (thread_row c.args.world.now.rows (shown_thread c.args.thread.now)) c.from_residual-in_err-put.result =
    put_more _ _ c.in_ok-put_object.ensures.ok c.in_ok-put_object.ensures.capacity
    (as_two _ _ _ (put_more _ _ c.in_ok-put_decimal_under.ensures.ok c.in_ok-put_decimal_under.ensures.capacity
    (as_two _ _ _ (put_more _ _ c.in_ok-put_decimal_under-2.ensures.ok c.in_ok-put_decimal_under-2.ensures.capacity
    (as_two _ _ _ (put_more _ _ c.in_ok-put_flag_under.ensures.ok c.in_ok-put_flag_under.ensures.capacity
    (as_two _ _ _ (put_more _ _ c.in_ok-put_decimal_under-3.ensures.ok c.in_ok-put_decimal_under-3.ensures.capacity
    (as_two _ _ _ (put_more _ _ c.in_ok-put_decimal_under-4.ensures.ok c.in_ok-put_decimal_under-4.ensures.capacity
    (put_stops _ _ _ c.from_residual-in_err-put.ensures.0 c.in_err-put.ensures.err c.in_err-put.ensures.capacity c.in_err-put.ensures.wanting))))))))))) in
    record { ok = all.ok; err = all.err; capacity = all.capacity; wanting = all.wanting }

pub returns-in_err-put_registrations : goal.returns-in_err-put_registrations
unfolding thread_row
returns-in_err-put_registrations c =
    let all : IsPut c.args.into.now.items (vec_capacity c.args.into.now) c.put_registrations.new.into.items (vec_capacity c.put_registrations.new.into) (thread_row c.args.world.now.rows (shown_thread c.args.thread.now)) c.from_residual-in_err-put_registrations.result =
    put_more _ _ c.in_ok-put_object.ensures.ok c.in_ok-put_object.ensures.capacity
    (as_two _ _ _ (put_more _ _ c.in_ok-put_decimal_under.ensures.ok c.in_ok-put_decimal_under.ensures.capacity
    (as_two _ _ _ (put_more _ _ c.in_ok-put_decimal_under-2.ensures.ok c.in_ok-put_decimal_under-2.ensures.capacity
    (as_two _ _ _ (put_more _ _ c.in_ok-put_flag_under.ensures.ok c.in_ok-put_flag_under.ensures.capacity
    (as_two _ _ _ (put_more _ _ c.in_ok-put_decimal_under-3.ensures.ok c.in_ok-put_decimal_under-3.ensures.capacity
    (as_two _ _ _ (put_more _ _ c.in_ok-put_decimal_under-4.ensures.ok c.in_ok-put_decimal_under-4.ensures.capacity
    (put_more _ _ c.in_ok-put.ensures.ok c.in_ok-put.ensures.capacity
    (first_same _ _ _ (ap (λ ports. listed port_text (map (λ (r : Registration). r.birth) ports)) c.as_slice.ensures.value) (put_stops _ _ _ c.from_residual-in_err-put_registrations.ensures.0 c.in_err-put_registrations.ensures.err c.in_err-put_registrations.ensures.capacity c.in_err-put_registrations.ensures.wanting))))))))))))) in
    record { ok = all.ok; err = all.err; capacity = all.capacity; wanting = all.wanting }

pub returns-in_err-put-2 : goal.returns-in_err-put-2
unfolding thread_row
returns-in_err-put-2 c =
    let all : IsPut c.args.into.now.items (vec_capacity c.args.into.now) c.put-2.new.into.items (vec_capacity c.put-2.new.into) (thread_row c.args.world.now.rows (shown_thread c.args.thread.now)) c.from_residual-in_err-put-2.result =
    put_more _ _ c.in_ok-put_object.ensures.ok c.in_ok-put_object.ensures.capacity
    (as_two _ _ _ (put_more _ _ c.in_ok-put_decimal_under.ensures.ok c.in_ok-put_decimal_under.ensures.capacity
    (as_two _ _ _ (put_more _ _ c.in_ok-put_decimal_under-2.ensures.ok c.in_ok-put_decimal_under-2.ensures.capacity
    (as_two _ _ _ (put_more _ _ c.in_ok-put_flag_under.ensures.ok c.in_ok-put_flag_under.ensures.capacity
    (as_two _ _ _ (put_more _ _ c.in_ok-put_decimal_under-3.ensures.ok c.in_ok-put_decimal_under-3.ensures.capacity
    (as_two _ _ _ (put_more _ _ c.in_ok-put_decimal_under-4.ensures.ok c.in_ok-put_decimal_under-4.ensures.capacity
    (put_more _ _ c.in_ok-put.ensures.ok c.in_ok-put.ensures.capacity
    (first_same _ _ _ (ap (λ ports. listed port_text (map (λ (r : Registration). r.birth) ports)) c.as_slice.ensures.value) (put_more _ _ c.in_ok-put_registrations.ensures.ok c.in_ok-put_registrations.ensures.capacity
    (put_stops _ _ _ c.from_residual-in_err-put-2.ensures.0 c.in_err-put-2.ensures.err c.in_err-put-2.ensures.capacity c.in_err-put-2.ensures.wanting)))))))))))))) in
    record { ok = all.ok; err = all.err; capacity = all.capacity; wanting = all.wanting }

pub returns-in_err-put_own : goal.returns-in_err-put_own
unfolding thread_row
returns-in_err-put_own c =
    let all : IsPut c.args.into.now.items (vec_capacity c.args.into.now) c.put_own.new.into.items (vec_capacity c.put_own.new.into) (thread_row c.args.world.now.rows (shown_thread c.args.thread.now)) c.from_residual-in_err-put_own.result =
    put_more _ _ c.in_ok-put_object.ensures.ok c.in_ok-put_object.ensures.capacity
    (as_two _ _ _ (put_more _ _ c.in_ok-put_decimal_under.ensures.ok c.in_ok-put_decimal_under.ensures.capacity
    (as_two _ _ _ (put_more _ _ c.in_ok-put_decimal_under-2.ensures.ok c.in_ok-put_decimal_under-2.ensures.capacity
    (as_two _ _ _ (put_more _ _ c.in_ok-put_flag_under.ensures.ok c.in_ok-put_flag_under.ensures.capacity
    (as_two _ _ _ (put_more _ _ c.in_ok-put_decimal_under-3.ensures.ok c.in_ok-put_decimal_under-3.ensures.capacity
    (as_two _ _ _ (put_more _ _ c.in_ok-put_decimal_under-4.ensures.ok c.in_ok-put_decimal_under-4.ensures.capacity
    (put_more _ _ c.in_ok-put.ensures.ok c.in_ok-put.ensures.capacity
    (first_same _ _ _ (ap (λ ports. listed port_text (map (λ (r : Registration). r.birth) ports)) c.as_slice.ensures.value) (put_more _ _ c.in_ok-put_registrations.ensures.ok c.in_ok-put_registrations.ensures.capacity
    (put_more _ _ c.in_ok-put-2.ensures.ok c.in_ok-put-2.ensures.capacity
    (first_same _ _ _ (ap (or_null impersonation_text) c.as_ref.ensures.value) (put_stops _ _ _ c.from_residual-in_err-put_own.ensures.0 c.in_err-put_own.ensures.err c.in_err-put_own.ensures.capacity c.in_err-put_own.ensures.wanting)))))))))))))))) in
    record { ok = all.ok; err = all.err; capacity = all.capacity; wanting = all.wanting }

pub returns-in_err-put_counts : goal.returns-in_err-put_counts
unfolding thread_row
returns-in_err-put_counts c =
    let all : IsPut c.args.into.now.items (vec_capacity c.args.into.now) c.put_counts.new.into.items (vec_capacity c.put_counts.new.into) (thread_row c.args.world.now.rows (shown_thread c.args.thread.now)) c.from_residual-in_err-put_counts.result =
    put_more _ _ c.in_ok-put_object.ensures.ok c.in_ok-put_object.ensures.capacity
    (as_two _ _ _ (put_more _ _ c.in_ok-put_decimal_under.ensures.ok c.in_ok-put_decimal_under.ensures.capacity
    (as_two _ _ _ (put_more _ _ c.in_ok-put_decimal_under-2.ensures.ok c.in_ok-put_decimal_under-2.ensures.capacity
    (as_two _ _ _ (put_more _ _ c.in_ok-put_flag_under.ensures.ok c.in_ok-put_flag_under.ensures.capacity
    (as_two _ _ _ (put_more _ _ c.in_ok-put_decimal_under-3.ensures.ok c.in_ok-put_decimal_under-3.ensures.capacity
    (as_two _ _ _ (put_more _ _ c.in_ok-put_decimal_under-4.ensures.ok c.in_ok-put_decimal_under-4.ensures.capacity
    (put_more _ _ c.in_ok-put.ensures.ok c.in_ok-put.ensures.capacity
    (first_same _ _ _ (ap (λ ports. listed port_text (map (λ (r : Registration). r.birth) ports)) c.as_slice.ensures.value) (put_more _ _ c.in_ok-put_registrations.ensures.ok c.in_ok-put_registrations.ensures.capacity
    (put_more _ _ c.in_ok-put-2.ensures.ok c.in_ok-put-2.ensures.capacity
    (first_same _ _ _ (ap (or_null impersonation_text) c.as_ref.ensures.value) (put_more _ _ c.in_ok-put_own.ensures.ok c.in_ok-put_own.ensures.capacity
    (put_stops _ _ _ c.from_residual-in_err-put_counts.ensures.0 c.in_err-put_counts.ensures.err c.in_err-put_counts.ensures.capacity c.in_err-put_counts.ensures.wanting))))))))))))))))) in
    record { ok = all.ok; err = all.err; capacity = all.capacity; wanting = all.wanting }

pub returns : goal.returns
unfolding thread_row
returns c =
    let all : IsPut c.args.into.now.items (vec_capacity c.args.into.now) c.put-3.new.into.items (vec_capacity c.put-3.new.into) (thread_row c.args.world.now.rows (shown_thread c.args.thread.now)) c.put-3.result =
    put_more _ _ c.in_ok-put_object.ensures.ok c.in_ok-put_object.ensures.capacity
    (as_two _ _ _ (put_more _ _ c.in_ok-put_decimal_under.ensures.ok c.in_ok-put_decimal_under.ensures.capacity
    (as_two _ _ _ (put_more _ _ c.in_ok-put_decimal_under-2.ensures.ok c.in_ok-put_decimal_under-2.ensures.capacity
    (as_two _ _ _ (put_more _ _ c.in_ok-put_flag_under.ensures.ok c.in_ok-put_flag_under.ensures.capacity
    (as_two _ _ _ (put_more _ _ c.in_ok-put_decimal_under-3.ensures.ok c.in_ok-put_decimal_under-3.ensures.capacity
    (as_two _ _ _ (put_more _ _ c.in_ok-put_decimal_under-4.ensures.ok c.in_ok-put_decimal_under-4.ensures.capacity
    (put_more _ _ c.in_ok-put.ensures.ok c.in_ok-put.ensures.capacity
    (first_same _ _ _ (ap (λ ports. listed port_text (map (λ (r : Registration). r.birth) ports)) c.as_slice.ensures.value) (put_more _ _ c.in_ok-put_registrations.ensures.ok c.in_ok-put_registrations.ensures.capacity
    (put_more _ _ c.in_ok-put-2.ensures.ok c.in_ok-put-2.ensures.capacity
    (first_same _ _ _ (ap (or_null impersonation_text) c.as_ref.ensures.value) (put_more _ _ c.in_ok-put_own.ensures.ok c.in_ok-put_own.ensures.capacity
    (put_more _ _ c.in_ok-put_counts.ensures.ok c.in_ok-put_counts.ensures.capacity
    (put_last _ c.put-3.ensures.ok c.put-3.ensures.err c.put-3.ensures.capacity c.put-3.ensures.wanting)))))))))))))))))) in
    record { ok = all.ok; err = all.err; capacity = all.capacity; wanting = all.wanting }
