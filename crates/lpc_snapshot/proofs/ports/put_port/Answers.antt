use Rattle.std.proofs.Common.{ap, vec_capacity}
use Rattle.lpc_model.specs.Found.{port_name}
use Rattle.lpc_rows.specs.Shown.{birth_of, shown_port}
use Rattle.lpc_states.specs.Rows.{counts, port_row}
use Rattle.lpc_states.specs.Values.{or_null, port_text}
use Rattle.lpc_states.proofs.Puts.{IsPut, as_two, first_same, put_last, put_more, put_stops, second_same}
use Rattle.lpc_snapshot.proofs.ports.put_port.Goals as goal

pub returns-in_err-put_object : goal.returns-in_err-put_object
unfolding port_row
returns-in_err-put_object c =
    let all : IsPut c.args.into.now.items (vec_capacity c.args.into.now) c.put_object.new.into.items (vec_capacity c.put_object.new.into) (port_row c.args.world.now.rows (shown_port (birth_of c.args.world.now.births) (c.args.key, c.args.port.now))) c.from_residual.result =
    put_stops _ _ _ c.from_residual.ensures.0 c.in_err-put_object.ensures.err c.in_err-put_object.ensures.capacity c.in_err-put_object.ensures.wanting in
    record { ok = all.ok; err = all.err; capacity = all.capacity; wanting = all.wanting }

pub returns-in_err-put : goal.returns-in_err-put
unfolding port_row
returns-in_err-put c =
    let all : IsPut c.args.into.now.items (vec_capacity c.args.into.now) c.put.new.into.items (vec_capacity c.put.new.into) (port_row c.args.world.now.rows (shown_port (birth_of c.args.world.now.births) (c.args.key, c.args.port.now))) c.from_residual-in_err-put.result =
    put_more _ _ c.in_ok-put_object.ensures.ok c.in_ok-put_object.ensures.capacity
    (put_stops _ _ _ c.from_residual-in_err-put.ensures.0 c.in_err-put.ensures.err c.in_err-put.ensures.capacity c.in_err-put.ensures.wanting) in
    record { ok = all.ok; err = all.err; capacity = all.capacity; wanting = all.wanting }

pub returns-in_err-put_port_kind : goal.returns-in_err-put_port_kind
unfolding port_row
returns-in_err-put_port_kind c =
    let all : IsPut c.args.into.now.items (vec_capacity c.args.into.now) c.put_port_kind.new.into.items (vec_capacity c.put_port_kind.new.into) (port_row c.args.world.now.rows (shown_port (birth_of c.args.world.now.births) (c.args.key, c.args.port.now))) c.from_residual-in_err-put_port_kind.result =
    put_more _ _ c.in_ok-put_object.ensures.ok c.in_ok-put_object.ensures.capacity
    (put_more _ _ c.in_ok-put.ensures.ok c.in_ok-put.ensures.capacity
    (put_stops _ _ _ c.from_residual-in_err-put_port_kind.ensures.0 c.in_err-put_port_kind.ensures.err c.in_err-put_port_kind.ensures.capacity c.in_err-put_port_kind.ensures.wanting)) in
    record { ok = all.ok; err = all.err; capacity = all.capacity; wanting = all.wanting }

pub returns-in_err-put_port_or_null_under : goal.returns-in_err-put_port_or_null_under
unfolding port_row
returns-in_err-put_port_or_null_under c =
    let all : IsPut c.args.into.now.items (vec_capacity c.args.into.now) c.put_port_or_null_under.new.into.items (vec_capacity c.put_port_or_null_under.new.into) (port_row c.args.world.now.rows (shown_port (birth_of c.args.world.now.births) (c.args.key, c.args.port.now))) c.from_residual-in_err-put_port_or_null_under.result =
    put_more _ _ c.in_ok-put_object.ensures.ok c.in_ok-put_object.ensures.capacity
    (put_more _ _ c.in_ok-put.ensures.ok c.in_ok-put.ensures.capacity
    (put_more _ _ c.in_ok-put_port_kind.ensures.ok c.in_ok-put_port_kind.ensures.capacity
    (second_same _ _ _ _ (ap (or_null port_text) c.port_birth.ensures) (as_two _ _ _ (put_stops _ _ _ c.from_residual-in_err-put_port_or_null_under.ensures.0 c.in_err-put_port_or_null_under.ensures.err c.in_err-put_port_or_null_under.ensures.capacity c.in_err-put_port_or_null_under.ensures.wanting))))) in
    record { ok = all.ok; err = all.err; capacity = all.capacity; wanting = all.wanting }

pub returns-in_err-put_port_or_null_under-2 : goal.returns-in_err-put_port_or_null_under-2
unfolding port_row
returns-in_err-put_port_or_null_under-2 c =
    let all : IsPut c.args.into.now.items (vec_capacity c.args.into.now) c.put_port_or_null_under-2.new.into.items (vec_capacity c.put_port_or_null_under-2.new.into) (port_row c.args.world.now.rows (shown_port (birth_of c.args.world.now.births) (c.args.key, c.args.port.now))) c.from_residual-in_err-put_port_or_null_under-2.result =
    put_more _ _ c.in_ok-put_object.ensures.ok c.in_ok-put_object.ensures.capacity
    (put_more _ _ c.in_ok-put.ensures.ok c.in_ok-put.ensures.capacity
    (put_more _ _ c.in_ok-put_port_kind.ensures.ok c.in_ok-put_port_kind.ensures.capacity
    (second_same _ _ _ _ (ap (or_null port_text) c.port_birth.ensures) (as_two _ _ _ (put_more _ _ c.in_ok-put_port_or_null_under.ensures.ok c.in_ok-put_port_or_null_under.ensures.capacity
    (second_same _ _ _ _ (ap (or_null port_text) c.port_birth-2.ensures) (as_two _ _ _ (put_stops _ _ _ c.from_residual-in_err-put_port_or_null_under-2.ensures.0 c.in_err-put_port_or_null_under-2.ensures.err c.in_err-put_port_or_null_under-2.ensures.capacity c.in_err-put_port_or_null_under-2.ensures.wanting)))))))) in
    record { ok = all.ok; err = all.err; capacity = all.capacity; wanting = all.wanting }

pub returns-in_err-put_hex_under : goal.returns-in_err-put_hex_under
unfolding port_row
returns-in_err-put_hex_under c =
    let all : IsPut c.args.into.now.items (vec_capacity c.args.into.now) c.put_hex_under.new.into.items (vec_capacity c.put_hex_under.new.into) (port_row c.args.world.now.rows (shown_port (birth_of c.args.world.now.births) (c.args.key, c.args.port.now))) c.from_residual-in_err-put_hex_under.result =
    put_more _ _ c.in_ok-put_object.ensures.ok c.in_ok-put_object.ensures.capacity
    (put_more _ _ c.in_ok-put.ensures.ok c.in_ok-put.ensures.capacity
    (put_more _ _ c.in_ok-put_port_kind.ensures.ok c.in_ok-put_port_kind.ensures.capacity
    (second_same _ _ _ _ (ap (or_null port_text) c.port_birth.ensures) (as_two _ _ _ (put_more _ _ c.in_ok-put_port_or_null_under.ensures.ok c.in_ok-put_port_or_null_under.ensures.capacity
    (second_same _ _ _ _ (ap (or_null port_text) c.port_birth-2.ensures) (as_two _ _ _ (put_more _ _ c.in_ok-put_port_or_null_under-2.ensures.ok c.in_ok-put_port_or_null_under-2.ensures.capacity
    (as_two _ _ _ (put_stops _ _ _ c.from_residual-in_err-put_hex_under.ensures.0 c.in_err-put_hex_under.ensures.err c.in_err-put_hex_under.ensures.capacity c.in_err-put_hex_under.ensures.wanting)))))))))) in
    record { ok = all.ok; err = all.err; capacity = all.capacity; wanting = all.wanting }

pub returns-in_err-put_flag_under : goal.returns-in_err-put_flag_under
unfolding port_row
returns-in_err-put_flag_under c =
    let all : IsPut c.args.into.now.items (vec_capacity c.args.into.now) c.put_flag_under.new.into.items (vec_capacity c.put_flag_under.new.into) (port_row c.args.world.now.rows (shown_port (birth_of c.args.world.now.births) (c.args.key, c.args.port.now))) c.from_residual-in_err-put_flag_under.result =
    put_more _ _ c.in_ok-put_object.ensures.ok c.in_ok-put_object.ensures.capacity
    (put_more _ _ c.in_ok-put.ensures.ok c.in_ok-put.ensures.capacity
    (put_more _ _ c.in_ok-put_port_kind.ensures.ok c.in_ok-put_port_kind.ensures.capacity
    (second_same _ _ _ _ (ap (or_null port_text) c.port_birth.ensures) (as_two _ _ _ (put_more _ _ c.in_ok-put_port_or_null_under.ensures.ok c.in_ok-put_port_or_null_under.ensures.capacity
    (second_same _ _ _ _ (ap (or_null port_text) c.port_birth-2.ensures) (as_two _ _ _ (put_more _ _ c.in_ok-put_port_or_null_under-2.ensures.ok c.in_ok-put_port_or_null_under-2.ensures.capacity
    (as_two _ _ _ (put_more _ _ c.in_ok-put_hex_under.ensures.ok c.in_ok-put_hex_under.ensures.capacity
    (as_two _ _ _ (put_stops _ _ _ c.from_residual-in_err-put_flag_under.ensures.0 c.in_err-put_flag_under.ensures.err c.in_err-put_flag_under.ensures.capacity c.in_err-put_flag_under.ensures.wanting)))))))))))) in
    record { ok = all.ok; err = all.err; capacity = all.capacity; wanting = all.wanting }

pub returns-in_err-put-2 : goal.returns-in_err-put-2
unfolding port_row
returns-in_err-put-2 c =
    let all : IsPut c.args.into.now.items (vec_capacity c.args.into.now) c.put-2.new.into.items (vec_capacity c.put-2.new.into) (port_row c.args.world.now.rows (shown_port (birth_of c.args.world.now.births) (c.args.key, c.args.port.now))) c.from_residual-in_err-put-2.result =
    put_more _ _ c.in_ok-put_object.ensures.ok c.in_ok-put_object.ensures.capacity
    (put_more _ _ c.in_ok-put.ensures.ok c.in_ok-put.ensures.capacity
    (put_more _ _ c.in_ok-put_port_kind.ensures.ok c.in_ok-put_port_kind.ensures.capacity
    (second_same _ _ _ _ (ap (or_null port_text) c.port_birth.ensures) (as_two _ _ _ (put_more _ _ c.in_ok-put_port_or_null_under.ensures.ok c.in_ok-put_port_or_null_under.ensures.capacity
    (second_same _ _ _ _ (ap (or_null port_text) c.port_birth-2.ensures) (as_two _ _ _ (put_more _ _ c.in_ok-put_port_or_null_under-2.ensures.ok c.in_ok-put_port_or_null_under-2.ensures.capacity
    (as_two _ _ _ (put_more _ _ c.in_ok-put_hex_under.ensures.ok c.in_ok-put_hex_under.ensures.capacity
    (as_two _ _ _ (put_more _ _ c.in_ok-put_flag_under.ensures.ok c.in_ok-put_flag_under.ensures.capacity
    (put_stops _ _ _ c.from_residual-in_err-put-2.ensures.0 c.in_err-put-2.ensures.err c.in_err-put-2.ensures.capacity c.in_err-put-2.ensures.wanting))))))))))))) in
    record { ok = all.ok; err = all.err; capacity = all.capacity; wanting = all.wanting }

pub returns-in_err-put_creator_or_null : goal.returns-in_err-put_creator_or_null
unfolding port_row
returns-in_err-put_creator_or_null c =
    let all : IsPut c.args.into.now.items (vec_capacity c.args.into.now) c.put_creator_or_null.new.into.items (vec_capacity c.put_creator_or_null.new.into) (port_row c.args.world.now.rows (shown_port (birth_of c.args.world.now.births) (c.args.key, c.args.port.now))) c.from_residual-in_err-put_creator_or_null.result =
    put_more _ _ c.in_ok-put_object.ensures.ok c.in_ok-put_object.ensures.capacity
    (put_more _ _ c.in_ok-put.ensures.ok c.in_ok-put.ensures.capacity
    (put_more _ _ c.in_ok-put_port_kind.ensures.ok c.in_ok-put_port_kind.ensures.capacity
    (second_same _ _ _ _ (ap (or_null port_text) c.port_birth.ensures) (as_two _ _ _ (put_more _ _ c.in_ok-put_port_or_null_under.ensures.ok c.in_ok-put_port_or_null_under.ensures.capacity
    (second_same _ _ _ _ (ap (or_null port_text) c.port_birth-2.ensures) (as_two _ _ _ (put_more _ _ c.in_ok-put_port_or_null_under-2.ensures.ok c.in_ok-put_port_or_null_under-2.ensures.capacity
    (as_two _ _ _ (put_more _ _ c.in_ok-put_hex_under.ensures.ok c.in_ok-put_hex_under.ensures.capacity
    (as_two _ _ _ (put_more _ _ c.in_ok-put_flag_under.ensures.ok c.in_ok-put_flag_under.ensures.capacity
    (put_more _ _ c.in_ok-put-2.ensures.ok c.in_ok-put-2.ensures.capacity
    (put_stops _ _ _ c.from_residual-in_err-put_creator_or_null.ensures.0 c.in_err-put_creator_or_null.ensures.err c.in_err-put_creator_or_null.ensures.capacity c.in_err-put_creator_or_null.ensures.wanting)))))))))))))) in
    record { ok = all.ok; err = all.err; capacity = all.capacity; wanting = all.wanting }

pub returns-in_err-put-3 : goal.returns-in_err-put-3
unfolding port_row
returns-in_err-put-3 c =
    let all : IsPut c.args.into.now.items (vec_capacity c.args.into.now) c.put-3.new.into.items (vec_capacity c.put-3.new.into) (port_row c.args.world.now.rows (shown_port (birth_of c.args.world.now.births) (c.args.key, c.args.port.now))) c.from_residual-in_err-put-3.result =
    put_more _ _ c.in_ok-put_object.ensures.ok c.in_ok-put_object.ensures.capacity
    (put_more _ _ c.in_ok-put.ensures.ok c.in_ok-put.ensures.capacity
    (put_more _ _ c.in_ok-put_port_kind.ensures.ok c.in_ok-put_port_kind.ensures.capacity
    (second_same _ _ _ _ (ap (or_null port_text) c.port_birth.ensures) (as_two _ _ _ (put_more _ _ c.in_ok-put_port_or_null_under.ensures.ok c.in_ok-put_port_or_null_under.ensures.capacity
    (second_same _ _ _ _ (ap (or_null port_text) c.port_birth-2.ensures) (as_two _ _ _ (put_more _ _ c.in_ok-put_port_or_null_under-2.ensures.ok c.in_ok-put_port_or_null_under-2.ensures.capacity
    (as_two _ _ _ (put_more _ _ c.in_ok-put_hex_under.ensures.ok c.in_ok-put_hex_under.ensures.capacity
    (as_two _ _ _ (put_more _ _ c.in_ok-put_flag_under.ensures.ok c.in_ok-put_flag_under.ensures.capacity
    (put_more _ _ c.in_ok-put-2.ensures.ok c.in_ok-put-2.ensures.capacity
    (put_more _ _ c.in_ok-put_creator_or_null.ensures.ok c.in_ok-put_creator_or_null.ensures.capacity
    (put_stops _ _ _ c.from_residual-in_err-put-3.ensures.0 c.in_err-put-3.ensures.err c.in_err-put-3.ensures.capacity c.in_err-put-3.ensures.wanting))))))))))))))) in
    record { ok = all.ok; err = all.err; capacity = all.capacity; wanting = all.wanting }

pub returns-in_err-put_security : goal.returns-in_err-put_security
unfolding port_row
returns-in_err-put_security c =
    let all : IsPut c.args.into.now.items (vec_capacity c.args.into.now) c.put_security.new.into.items (vec_capacity c.put_security.new.into) (port_row c.args.world.now.rows (shown_port (birth_of c.args.world.now.births) (c.args.key, c.args.port.now))) c.from_residual-in_err-put_security.result =
    put_more _ _ c.in_ok-put_object.ensures.ok c.in_ok-put_object.ensures.capacity
    (put_more _ _ c.in_ok-put.ensures.ok c.in_ok-put.ensures.capacity
    (put_more _ _ c.in_ok-put_port_kind.ensures.ok c.in_ok-put_port_kind.ensures.capacity
    (second_same _ _ _ _ (ap (or_null port_text) c.port_birth.ensures) (as_two _ _ _ (put_more _ _ c.in_ok-put_port_or_null_under.ensures.ok c.in_ok-put_port_or_null_under.ensures.capacity
    (second_same _ _ _ _ (ap (or_null port_text) c.port_birth-2.ensures) (as_two _ _ _ (put_more _ _ c.in_ok-put_port_or_null_under-2.ensures.ok c.in_ok-put_port_or_null_under-2.ensures.capacity
    (as_two _ _ _ (put_more _ _ c.in_ok-put_hex_under.ensures.ok c.in_ok-put_hex_under.ensures.capacity
    (as_two _ _ _ (put_more _ _ c.in_ok-put_flag_under.ensures.ok c.in_ok-put_flag_under.ensures.capacity
    (put_more _ _ c.in_ok-put-2.ensures.ok c.in_ok-put-2.ensures.capacity
    (put_more _ _ c.in_ok-put_creator_or_null.ensures.ok c.in_ok-put_creator_or_null.ensures.capacity
    (put_more _ _ c.in_ok-put-3.ensures.ok c.in_ok-put-3.ensures.capacity
    (put_stops _ _ _ c.from_residual-in_err-put_security.ensures.0 c.in_err-put_security.ensures.err c.in_err-put_security.ensures.capacity c.in_err-put_security.ensures.wanting)))))))))))))))) in
    record { ok = all.ok; err = all.err; capacity = all.capacity; wanting = all.wanting }

pub returns-in_err-put_counts : goal.returns-in_err-put_counts
unfolding port_row
returns-in_err-put_counts c =
    let all : IsPut c.args.into.now.items (vec_capacity c.args.into.now) c.put_counts.new.into.items (vec_capacity c.put_counts.new.into) (port_row c.args.world.now.rows (shown_port (birth_of c.args.world.now.births) (c.args.key, c.args.port.now))) c.from_residual-in_err-put_counts.result =
    put_more _ _ c.in_ok-put_object.ensures.ok c.in_ok-put_object.ensures.capacity
    (put_more _ _ c.in_ok-put.ensures.ok c.in_ok-put.ensures.capacity
    (put_more _ _ c.in_ok-put_port_kind.ensures.ok c.in_ok-put_port_kind.ensures.capacity
    (second_same _ _ _ _ (ap (or_null port_text) c.port_birth.ensures) (as_two _ _ _ (put_more _ _ c.in_ok-put_port_or_null_under.ensures.ok c.in_ok-put_port_or_null_under.ensures.capacity
    (second_same _ _ _ _ (ap (or_null port_text) c.port_birth-2.ensures) (as_two _ _ _ (put_more _ _ c.in_ok-put_port_or_null_under-2.ensures.ok c.in_ok-put_port_or_null_under-2.ensures.capacity
    (as_two _ _ _ (put_more _ _ c.in_ok-put_hex_under.ensures.ok c.in_ok-put_hex_under.ensures.capacity
    (as_two _ _ _ (put_more _ _ c.in_ok-put_flag_under.ensures.ok c.in_ok-put_flag_under.ensures.capacity
    (put_more _ _ c.in_ok-put-2.ensures.ok c.in_ok-put-2.ensures.capacity
    (put_more _ _ c.in_ok-put_creator_or_null.ensures.ok c.in_ok-put_creator_or_null.ensures.capacity
    (put_more _ _ c.in_ok-put-3.ensures.ok c.in_ok-put-3.ensures.capacity
    (put_more _ _ c.in_ok-put_security.ensures.ok c.in_ok-put_security.ensures.capacity
    (first_same _ _ _ (ap (λ b. counts c.args.world.now.rows (port_name b)) c.requires.name) (put_stops _ _ _ c.from_residual-in_err-put_counts.ensures.0 c.in_err-put_counts.ensures.err c.in_err-put_counts.ensures.capacity c.in_err-put_counts.ensures.wanting)))))))))))))))))) in
    record { ok = all.ok; err = all.err; capacity = all.capacity; wanting = all.wanting }

pub returns : goal.returns
unfolding port_row
returns c =
    let all : IsPut c.args.into.now.items (vec_capacity c.args.into.now) c.put-4.new.into.items (vec_capacity c.put-4.new.into) (port_row c.args.world.now.rows (shown_port (birth_of c.args.world.now.births) (c.args.key, c.args.port.now))) c.put-4.result =
    put_more _ _ c.in_ok-put_object.ensures.ok c.in_ok-put_object.ensures.capacity
    (put_more _ _ c.in_ok-put.ensures.ok c.in_ok-put.ensures.capacity
    (put_more _ _ c.in_ok-put_port_kind.ensures.ok c.in_ok-put_port_kind.ensures.capacity
    (second_same _ _ _ _ (ap (or_null port_text) c.port_birth.ensures) (as_two _ _ _ (put_more _ _ c.in_ok-put_port_or_null_under.ensures.ok c.in_ok-put_port_or_null_under.ensures.capacity
    (second_same _ _ _ _ (ap (or_null port_text) c.port_birth-2.ensures) (as_two _ _ _ (put_more _ _ c.in_ok-put_port_or_null_under-2.ensures.ok c.in_ok-put_port_or_null_under-2.ensures.capacity
    (as_two _ _ _ (put_more _ _ c.in_ok-put_hex_under.ensures.ok c.in_ok-put_hex_under.ensures.capacity
    (as_two _ _ _ (put_more _ _ c.in_ok-put_flag_under.ensures.ok c.in_ok-put_flag_under.ensures.capacity
    (put_more _ _ c.in_ok-put-2.ensures.ok c.in_ok-put-2.ensures.capacity
    (put_more _ _ c.in_ok-put_creator_or_null.ensures.ok c.in_ok-put_creator_or_null.ensures.capacity
    (put_more _ _ c.in_ok-put-3.ensures.ok c.in_ok-put-3.ensures.capacity
    (put_more _ _ c.in_ok-put_security.ensures.ok c.in_ok-put_security.ensures.capacity
    (first_same _ _ _ (ap (λ b. counts c.args.world.now.rows (port_name b)) c.requires.name) (put_more _ _ c.in_ok-put_counts.ensures.ok c.in_ok-put_counts.ensures.capacity
    (put_last _ c.put-4.ensures.ok c.put-4.ensures.err c.put-4.ensures.capacity c.put-4.ensures.wanting))))))))))))))))))) in
    record { ok = all.ok; err = all.err; capacity = all.capacity; wanting = all.wanting }
