use Rattle.std.proofs.Common.{ap, sym, ◌∙◌, decimal, vec_capacity}
use Rattle.lpc_base.specs.declared.birth.Birth.{Birth}
use Rattle.lpc_model.specs.Found.{section_name}
use Rattle.lpc_rows.specs.Shown.{shown_section}
use Rattle.lpc_states.specs.Rows.{counts, section_row, without_last_zeros}
use Rattle.lpc_states.specs.Values.{bytes_text, flag, object_text}
use Rattle.lpc_snapshot.proofs.Pieces.{whole_part}
use Rattle.lpc_states.proofs.Puts.{IsPut, as_two, first_same, put_last, put_more, put_stops, second_same}
use Rattle.lpc_snapshot.proofs.sections.put_section.Goals as goal

pub returns-in_err-put_object : goal.returns-in_err-put_object
unfolding section_row
returns-in_err-put_object c =
    let all : IsPut c.args.into.now.items (vec_capacity c.args.into.now) c.put_object.new.into.items (vec_capacity c.put_object.new.into) (section_row c.args.world.now.rows (shown_section (c.args.key, c.args.section.now))) c.from_residual.result =
    first_same _ _ _ (ap (λ b. object_text (section_name b)) c.birth.ensures) (put_stops _ _ _ c.from_residual.ensures.0 c.in_err-put_object.ensures.err c.in_err-put_object.ensures.capacity c.in_err-put_object.ensures.wanting) in
    record { ok = all.ok; err = all.err; capacity = all.capacity; wanting = all.wanting }

pub returns-in_err-put_decimal_under : goal.returns-in_err-put_decimal_under
unfolding section_row
returns-in_err-put_decimal_under c =
    let all : IsPut c.args.into.now.items (vec_capacity c.args.into.now) c.put_decimal_under.new.into.items (vec_capacity c.put_decimal_under.new.into) (section_row c.args.world.now.rows (shown_section (c.args.key, c.args.section.now))) c.from_residual-in_err-put_decimal_under.result =
    first_same _ _ _ (ap (λ b. object_text (section_name b)) c.birth.ensures) (put_more _ _ c.in_ok-put_object.ensures.ok c.in_ok-put_object.ensures.capacity
    (second_same _ _ _ _ (ap (λ (b : Birth). decimal b.process) c.birth-2.ensures) (as_two _ _ _ (put_stops _ _ _ c.from_residual-in_err-put_decimal_under.ensures.0 c.in_err-put_decimal_under.ensures.err c.in_err-put_decimal_under.ensures.capacity c.in_err-put_decimal_under.ensures.wanting)))) in
    record { ok = all.ok; err = all.err; capacity = all.capacity; wanting = all.wanting }

pub returns-in_err-put_decimal_under-2 : goal.returns-in_err-put_decimal_under-2
unfolding section_row
returns-in_err-put_decimal_under-2 c =
    let all : IsPut c.args.into.now.items (vec_capacity c.args.into.now) c.put_decimal_under-2.new.into.items (vec_capacity c.put_decimal_under-2.new.into) (section_row c.args.world.now.rows (shown_section (c.args.key, c.args.section.now))) c.from_residual-in_err-put_decimal_under-2.result =
    first_same _ _ _ (ap (λ b. object_text (section_name b)) c.birth.ensures) (put_more _ _ c.in_ok-put_object.ensures.ok c.in_ok-put_object.ensures.capacity
    (second_same _ _ _ _ (ap (λ (b : Birth). decimal b.process) c.birth-2.ensures) (as_two _ _ _ (put_more _ _ c.in_ok-put_decimal_under.ensures.ok c.in_ok-put_decimal_under.ensures.capacity
    (second_same _ _ _ _ (ap decimal c.size.ensures.size) (as_two _ _ _ (put_stops _ _ _ c.from_residual-in_err-put_decimal_under-2.ensures.0 c.in_err-put_decimal_under-2.ensures.err c.in_err-put_decimal_under-2.ensures.capacity c.in_err-put_decimal_under-2.ensures.wanting))))))) in
    record { ok = all.ok; err = all.err; capacity = all.capacity; wanting = all.wanting }

pub returns-in_err-put_flag_under : goal.returns-in_err-put_flag_under
unfolding section_row
returns-in_err-put_flag_under c =
    let all : IsPut c.args.into.now.items (vec_capacity c.args.into.now) c.put_flag_under.new.into.items (vec_capacity c.put_flag_under.new.into) (section_row c.args.world.now.rows (shown_section (c.args.key, c.args.section.now))) c.from_residual-in_err-put_flag_under.result =
    first_same _ _ _ (ap (λ b. object_text (section_name b)) c.birth.ensures) (put_more _ _ c.in_ok-put_object.ensures.ok c.in_ok-put_object.ensures.capacity
    (second_same _ _ _ _ (ap (λ (b : Birth). decimal b.process) c.birth-2.ensures) (as_two _ _ _ (put_more _ _ c.in_ok-put_decimal_under.ensures.ok c.in_ok-put_decimal_under.ensures.capacity
    (second_same _ _ _ _ (ap decimal c.size.ensures.size) (as_two _ _ _ (put_more _ _ c.in_ok-put_decimal_under-2.ensures.ok c.in_ok-put_decimal_under-2.ensures.capacity
    (second_same _ _ _ _ (ap flag c.writable.ensures) (as_two _ _ _ (put_stops _ _ _ c.from_residual-in_err-put_flag_under.ensures.0 c.in_err-put_flag_under.ensures.err c.in_err-put_flag_under.ensures.capacity c.in_err-put_flag_under.ensures.wanting)))))))))) in
    record { ok = all.ok; err = all.err; capacity = all.capacity; wanting = all.wanting }

pub returns-in_err-put : goal.returns-in_err-put
unfolding section_row
returns-in_err-put c =
    let all : IsPut c.args.into.now.items (vec_capacity c.args.into.now) c.put.new.into.items (vec_capacity c.put.new.into) (section_row c.args.world.now.rows (shown_section (c.args.key, c.args.section.now))) c.from_residual-in_err-put.result =
    first_same _ _ _ (ap (λ b. object_text (section_name b)) c.birth.ensures) (put_more _ _ c.in_ok-put_object.ensures.ok c.in_ok-put_object.ensures.capacity
    (second_same _ _ _ _ (ap (λ (b : Birth). decimal b.process) c.birth-2.ensures) (as_two _ _ _ (put_more _ _ c.in_ok-put_decimal_under.ensures.ok c.in_ok-put_decimal_under.ensures.capacity
    (second_same _ _ _ _ (ap decimal c.size.ensures.size) (as_two _ _ _ (put_more _ _ c.in_ok-put_decimal_under-2.ensures.ok c.in_ok-put_decimal_under-2.ensures.capacity
    (second_same _ _ _ _ (ap flag c.writable.ensures) (as_two _ _ _ (put_more _ _ c.in_ok-put_flag_under.ensures.ok c.in_ok-put_flag_under.ensures.capacity
    (put_stops _ _ _ c.from_residual-in_err-put.ensures.0 c.in_err-put.ensures.err c.in_err-put.ensures.capacity c.in_err-put.ensures.wanting))))))))))) in
    record { ok = all.ok; err = all.err; capacity = all.capacity; wanting = all.wanting }

pub returns-in_err-put_hex_bytes : goal.returns-in_err-put_hex_bytes
unfolding section_row
returns-in_err-put_hex_bytes c =
    let all : IsPut c.args.into.now.items (vec_capacity c.args.into.now) c.put_hex_bytes.new.into.items (vec_capacity c.put_hex_bytes.new.into) (section_row c.args.world.now.rows (shown_section (c.args.key, c.args.section.now))) c.from_residual-in_err-put_hex_bytes.result =
    first_same _ _ _ (ap (λ b. object_text (section_name b)) c.birth.ensures) (put_more _ _ c.in_ok-put_object.ensures.ok c.in_ok-put_object.ensures.capacity
    (second_same _ _ _ _ (ap (λ (b : Birth). decimal b.process) c.birth-2.ensures) (as_two _ _ _ (put_more _ _ c.in_ok-put_decimal_under.ensures.ok c.in_ok-put_decimal_under.ensures.capacity
    (second_same _ _ _ _ (ap decimal c.size.ensures.size) (as_two _ _ _ (put_more _ _ c.in_ok-put_decimal_under-2.ensures.ok c.in_ok-put_decimal_under-2.ensures.capacity
    (second_same _ _ _ _ (ap flag c.writable.ensures) (as_two _ _ _ (put_more _ _ c.in_ok-put_flag_under.ensures.ok c.in_ok-put_flag_under.ensures.capacity
    (put_more _ _ c.in_ok-put.ensures.ok c.in_ok-put.ensures.capacity
    (first_same _ _ _ (ap bytes_text (c.without_last_zeros.ensures ∙ ap without_last_zeros (c.part.ensures.value ∙ (whole_part c.args.section.now _ c.size-2.ensures.size ∙ sym c.requires.content)))) (put_stops _ _ _ c.from_residual-in_err-put_hex_bytes.ensures.0 c.in_err-put_hex_bytes.ensures.err c.in_err-put_hex_bytes.ensures.capacity c.in_err-put_hex_bytes.ensures.wanting))))))))))))) in
    record { ok = all.ok; err = all.err; capacity = all.capacity; wanting = all.wanting }

pub returns-in_err-put_counts : goal.returns-in_err-put_counts
unfolding section_row
returns-in_err-put_counts c =
    let all : IsPut c.args.into.now.items (vec_capacity c.args.into.now) c.put_counts.new.into.items (vec_capacity c.put_counts.new.into) (section_row c.args.world.now.rows (shown_section (c.args.key, c.args.section.now))) c.from_residual-in_err-put_counts.result =
    first_same _ _ _ (ap (λ b. object_text (section_name b)) c.birth.ensures) (put_more _ _ c.in_ok-put_object.ensures.ok c.in_ok-put_object.ensures.capacity
    (second_same _ _ _ _ (ap (λ (b : Birth). decimal b.process) c.birth-2.ensures) (as_two _ _ _ (put_more _ _ c.in_ok-put_decimal_under.ensures.ok c.in_ok-put_decimal_under.ensures.capacity
    (second_same _ _ _ _ (ap decimal c.size.ensures.size) (as_two _ _ _ (put_more _ _ c.in_ok-put_decimal_under-2.ensures.ok c.in_ok-put_decimal_under-2.ensures.capacity
    (second_same _ _ _ _ (ap flag c.writable.ensures) (as_two _ _ _ (put_more _ _ c.in_ok-put_flag_under.ensures.ok c.in_ok-put_flag_under.ensures.capacity
    (put_more _ _ c.in_ok-put.ensures.ok c.in_ok-put.ensures.capacity
    (first_same _ _ _ (ap bytes_text (c.without_last_zeros.ensures ∙ ap without_last_zeros (c.part.ensures.value ∙ (whole_part c.args.section.now _ c.size-2.ensures.size ∙ sym c.requires.content)))) (put_more _ _ c.in_ok-put_hex_bytes.ensures.ok c.in_ok-put_hex_bytes.ensures.capacity
    (first_same _ _ _ (ap (λ b. counts c.args.world.now.rows (section_name b)) c.requires.name) (put_stops _ _ _ c.from_residual-in_err-put_counts.ensures.0 c.in_err-put_counts.ensures.err c.in_err-put_counts.ensures.capacity c.in_err-put_counts.ensures.wanting))))))))))))))) in
    record { ok = all.ok; err = all.err; capacity = all.capacity; wanting = all.wanting }

pub returns : goal.returns
unfolding section_row
returns c =
    let all : IsPut c.args.into.now.items (vec_capacity c.args.into.now) c.put-2.new.into.items (vec_capacity c.put-2.new.into) (section_row c.args.world.now.rows (shown_section (c.args.key, c.args.section.now))) c.put-2.result =
    first_same _ _ _ (ap (λ b. object_text (section_name b)) c.birth.ensures) (put_more _ _ c.in_ok-put_object.ensures.ok c.in_ok-put_object.ensures.capacity
    (second_same _ _ _ _ (ap (λ (b : Birth). decimal b.process) c.birth-2.ensures) (as_two _ _ _ (put_more _ _ c.in_ok-put_decimal_under.ensures.ok c.in_ok-put_decimal_under.ensures.capacity
    (second_same _ _ _ _ (ap decimal c.size.ensures.size) (as_two _ _ _ (put_more _ _ c.in_ok-put_decimal_under-2.ensures.ok c.in_ok-put_decimal_under-2.ensures.capacity
    (second_same _ _ _ _ (ap flag c.writable.ensures) (as_two _ _ _ (put_more _ _ c.in_ok-put_flag_under.ensures.ok c.in_ok-put_flag_under.ensures.capacity
    (put_more _ _ c.in_ok-put.ensures.ok c.in_ok-put.ensures.capacity
    (first_same _ _ _ (ap bytes_text (c.without_last_zeros.ensures ∙ ap without_last_zeros (c.part.ensures.value ∙ (whole_part c.args.section.now _ c.size-2.ensures.size ∙ sym c.requires.content)))) (put_more _ _ c.in_ok-put_hex_bytes.ensures.ok c.in_ok-put_hex_bytes.ensures.capacity
    (first_same _ _ _ (ap (λ b. counts c.args.world.now.rows (section_name b)) c.requires.name) (put_more _ _ c.in_ok-put_counts.ensures.ok c.in_ok-put_counts.ensures.capacity
    (put_last _ c.put-2.ensures.ok c.put-2.ensures.err c.put-2.ensures.capacity c.put-2.ensures.wanting)))))))))))))))) in
    record { ok = all.ok; err = all.err; capacity = all.capacity; wanting = all.wanting }
