use Rattle.std.proofs.Common.{sym, vec_capacity}
use Rattle.lpc_states.specs.Rows.{rows_text}
use Rattle.lpc_snapshot.proofs.Tables.{rows_joined}
use Rattle.lpc_states.proofs.Puts.{IsPut, put_last, put_more, put_same, put_stops}
use Rattle.lpc_snapshot.proofs.print_rows.Goals as goal

pub returns-in_err-put_processes : goal.returns-in_err-put_processes
returns-in_err-put_processes c =
    let all : IsPut c.args.into.now.items (vec_capacity c.args.into.now) c.put_processes.new.into.items (vec_capacity c.put_processes.new.into) (rows_text c.args.world.now.rows) c.from_residual.result =
    put_same _ _ (sym (rows_joined c.args.world.now.rows)) (put_stops _ _ _ c.from_residual.ensures.0 c.in_err-put_processes.ensures.err c.in_err-put_processes.ensures.capacity c.in_err-put_processes.ensures.wanting) in
    record { ok = all.ok; err = all.err; capacity = all.capacity; wanting = all.wanting }

pub returns-in_err-put_threads : goal.returns-in_err-put_threads
returns-in_err-put_threads c =
    let all : IsPut c.args.into.now.items (vec_capacity c.args.into.now) c.put_threads.new.into.items (vec_capacity c.put_threads.new.into) (rows_text c.args.world.now.rows) c.from_residual-in_err-put_threads.result =
    put_same _ _ (sym (rows_joined c.args.world.now.rows)) (put_more _ _ c.in_ok-put_processes.ensures.ok c.in_ok-put_processes.ensures.capacity
    (put_stops _ _ _ c.from_residual-in_err-put_threads.ensures.0 c.in_err-put_threads.ensures.err c.in_err-put_threads.ensures.capacity c.in_err-put_threads.ensures.wanting)) in
    record { ok = all.ok; err = all.err; capacity = all.capacity; wanting = all.wanting }

pub returns-in_err-put_waits : goal.returns-in_err-put_waits
returns-in_err-put_waits c =
    let all : IsPut c.args.into.now.items (vec_capacity c.args.into.now) c.put_waits.new.into.items (vec_capacity c.put_waits.new.into) (rows_text c.args.world.now.rows) c.from_residual-in_err-put_waits.result =
    put_same _ _ (sym (rows_joined c.args.world.now.rows)) (put_more _ _ c.in_ok-put_processes.ensures.ok c.in_ok-put_processes.ensures.capacity
    (put_more _ _ c.in_ok-put_threads.ensures.ok c.in_ok-put_threads.ensures.capacity
    (put_stops _ _ _ c.from_residual-in_err-put_waits.ensures.0 c.in_err-put_waits.ensures.err c.in_err-put_waits.ensures.capacity c.in_err-put_waits.ensures.wanting))) in
    record { ok = all.ok; err = all.err; capacity = all.capacity; wanting = all.wanting }

pub returns-in_err-put_marks : goal.returns-in_err-put_marks
returns-in_err-put_marks c =
    let all : IsPut c.args.into.now.items (vec_capacity c.args.into.now) c.put_marks.new.into.items (vec_capacity c.put_marks.new.into) (rows_text c.args.world.now.rows) c.from_residual-in_err-put_marks.result =
    put_same _ _ (sym (rows_joined c.args.world.now.rows)) (put_more _ _ c.in_ok-put_processes.ensures.ok c.in_ok-put_processes.ensures.capacity
    (put_more _ _ c.in_ok-put_threads.ensures.ok c.in_ok-put_threads.ensures.capacity
    (put_more _ _ c.in_ok-put_waits.ensures.ok c.in_ok-put_waits.ensures.capacity
    (put_stops _ _ _ c.from_residual-in_err-put_marks.ensures.0 c.in_err-put_marks.ensures.err c.in_err-put_marks.ensures.capacity c.in_err-put_marks.ensures.wanting)))) in
    record { ok = all.ok; err = all.err; capacity = all.capacity; wanting = all.wanting }

pub returns-in_err-put_handles : goal.returns-in_err-put_handles
returns-in_err-put_handles c =
    let all : IsPut c.args.into.now.items (vec_capacity c.args.into.now) c.put_handles.new.into.items (vec_capacity c.put_handles.new.into) (rows_text c.args.world.now.rows) c.from_residual-in_err-put_handles.result =
    put_same _ _ (sym (rows_joined c.args.world.now.rows)) (put_more _ _ c.in_ok-put_processes.ensures.ok c.in_ok-put_processes.ensures.capacity
    (put_more _ _ c.in_ok-put_threads.ensures.ok c.in_ok-put_threads.ensures.capacity
    (put_more _ _ c.in_ok-put_waits.ensures.ok c.in_ok-put_waits.ensures.capacity
    (put_more _ _ c.in_ok-put_marks.ensures.ok c.in_ok-put_marks.ensures.capacity
    (put_stops _ _ _ c.from_residual-in_err-put_handles.ensures.0 c.in_err-put_handles.ensures.err c.in_err-put_handles.ensures.capacity c.in_err-put_handles.ensures.wanting))))) in
    record { ok = all.ok; err = all.err; capacity = all.capacity; wanting = all.wanting }

pub returns-in_err-put_ports : goal.returns-in_err-put_ports
returns-in_err-put_ports c =
    let all : IsPut c.args.into.now.items (vec_capacity c.args.into.now) c.put_ports.new.into.items (vec_capacity c.put_ports.new.into) (rows_text c.args.world.now.rows) c.from_residual-in_err-put_ports.result =
    put_same _ _ (sym (rows_joined c.args.world.now.rows)) (put_more _ _ c.in_ok-put_processes.ensures.ok c.in_ok-put_processes.ensures.capacity
    (put_more _ _ c.in_ok-put_threads.ensures.ok c.in_ok-put_threads.ensures.capacity
    (put_more _ _ c.in_ok-put_waits.ensures.ok c.in_ok-put_waits.ensures.capacity
    (put_more _ _ c.in_ok-put_marks.ensures.ok c.in_ok-put_marks.ensures.capacity
    (put_more _ _ c.in_ok-put_handles.ensures.ok c.in_ok-put_handles.ensures.capacity
    (put_stops _ _ _ c.from_residual-in_err-put_ports.ensures.0 c.in_err-put_ports.ensures.err c.in_err-put_ports.ensures.capacity c.in_err-put_ports.ensures.wanting)))))) in
    record { ok = all.ok; err = all.err; capacity = all.capacity; wanting = all.wanting }

pub returns-in_err-put_messages : goal.returns-in_err-put_messages
returns-in_err-put_messages c =
    let all : IsPut c.args.into.now.items (vec_capacity c.args.into.now) c.put_messages.new.into.items (vec_capacity c.put_messages.new.into) (rows_text c.args.world.now.rows) c.from_residual-in_err-put_messages.result =
    put_same _ _ (sym (rows_joined c.args.world.now.rows)) (put_more _ _ c.in_ok-put_processes.ensures.ok c.in_ok-put_processes.ensures.capacity
    (put_more _ _ c.in_ok-put_threads.ensures.ok c.in_ok-put_threads.ensures.capacity
    (put_more _ _ c.in_ok-put_waits.ensures.ok c.in_ok-put_waits.ensures.capacity
    (put_more _ _ c.in_ok-put_marks.ensures.ok c.in_ok-put_marks.ensures.capacity
    (put_more _ _ c.in_ok-put_handles.ensures.ok c.in_ok-put_handles.ensures.capacity
    (put_more _ _ c.in_ok-put_ports.ensures.ok c.in_ok-put_ports.ensures.capacity
    (put_stops _ _ _ c.from_residual-in_err-put_messages.ensures.0 c.in_err-put_messages.ensures.err c.in_err-put_messages.ensures.capacity c.in_err-put_messages.ensures.wanting))))))) in
    record { ok = all.ok; err = all.err; capacity = all.capacity; wanting = all.wanting }

pub returns-in_err-put_names : goal.returns-in_err-put_names
returns-in_err-put_names c =
    let all : IsPut c.args.into.now.items (vec_capacity c.args.into.now) c.put_names.new.into.items (vec_capacity c.put_names.new.into) (rows_text c.args.world.now.rows) c.from_residual-in_err-put_names.result =
    put_same _ _ (sym (rows_joined c.args.world.now.rows)) (put_more _ _ c.in_ok-put_processes.ensures.ok c.in_ok-put_processes.ensures.capacity
    (put_more _ _ c.in_ok-put_threads.ensures.ok c.in_ok-put_threads.ensures.capacity
    (put_more _ _ c.in_ok-put_waits.ensures.ok c.in_ok-put_waits.ensures.capacity
    (put_more _ _ c.in_ok-put_marks.ensures.ok c.in_ok-put_marks.ensures.capacity
    (put_more _ _ c.in_ok-put_handles.ensures.ok c.in_ok-put_handles.ensures.capacity
    (put_more _ _ c.in_ok-put_ports.ensures.ok c.in_ok-put_ports.ensures.capacity
    (put_more _ _ c.in_ok-put_messages.ensures.ok c.in_ok-put_messages.ensures.capacity
    (put_stops _ _ _ c.from_residual-in_err-put_names.ensures.0 c.in_err-put_names.ensures.err c.in_err-put_names.ensures.capacity c.in_err-put_names.ensures.wanting)))))))) in
    record { ok = all.ok; err = all.err; capacity = all.capacity; wanting = all.wanting }

pub returns-in_err-put_sections : goal.returns-in_err-put_sections
returns-in_err-put_sections c =
    let all : IsPut c.args.into.now.items (vec_capacity c.args.into.now) c.put_sections.new.into.items (vec_capacity c.put_sections.new.into) (rows_text c.args.world.now.rows) c.from_residual-in_err-put_sections.result =
    put_same _ _ (sym (rows_joined c.args.world.now.rows)) (put_more _ _ c.in_ok-put_processes.ensures.ok c.in_ok-put_processes.ensures.capacity
    (put_more _ _ c.in_ok-put_threads.ensures.ok c.in_ok-put_threads.ensures.capacity
    (put_more _ _ c.in_ok-put_waits.ensures.ok c.in_ok-put_waits.ensures.capacity
    (put_more _ _ c.in_ok-put_marks.ensures.ok c.in_ok-put_marks.ensures.capacity
    (put_more _ _ c.in_ok-put_handles.ensures.ok c.in_ok-put_handles.ensures.capacity
    (put_more _ _ c.in_ok-put_ports.ensures.ok c.in_ok-put_ports.ensures.capacity
    (put_more _ _ c.in_ok-put_messages.ensures.ok c.in_ok-put_messages.ensures.capacity
    (put_more _ _ c.in_ok-put_names.ensures.ok c.in_ok-put_names.ensures.capacity
    (put_stops _ _ _ c.from_residual-in_err-put_sections.ensures.0 c.in_err-put_sections.ensures.err c.in_err-put_sections.ensures.capacity c.in_err-put_sections.ensures.wanting))))))))) in
    record { ok = all.ok; err = all.err; capacity = all.capacity; wanting = all.wanting }

pub returns-in_err-put_views : goal.returns-in_err-put_views
returns-in_err-put_views c =
    let all : IsPut c.args.into.now.items (vec_capacity c.args.into.now) c.put_views.new.into.items (vec_capacity c.put_views.new.into) (rows_text c.args.world.now.rows) c.from_residual-in_err-put_views.result =
    put_same _ _ (sym (rows_joined c.args.world.now.rows)) (put_more _ _ c.in_ok-put_processes.ensures.ok c.in_ok-put_processes.ensures.capacity
    (put_more _ _ c.in_ok-put_threads.ensures.ok c.in_ok-put_threads.ensures.capacity
    (put_more _ _ c.in_ok-put_waits.ensures.ok c.in_ok-put_waits.ensures.capacity
    (put_more _ _ c.in_ok-put_marks.ensures.ok c.in_ok-put_marks.ensures.capacity
    (put_more _ _ c.in_ok-put_handles.ensures.ok c.in_ok-put_handles.ensures.capacity
    (put_more _ _ c.in_ok-put_ports.ensures.ok c.in_ok-put_ports.ensures.capacity
    (put_more _ _ c.in_ok-put_messages.ensures.ok c.in_ok-put_messages.ensures.capacity
    (put_more _ _ c.in_ok-put_names.ensures.ok c.in_ok-put_names.ensures.capacity
    (put_more _ _ c.in_ok-put_sections.ensures.ok c.in_ok-put_sections.ensures.capacity
    (put_stops _ _ _ c.from_residual-in_err-put_views.ensures.0 c.in_err-put_views.ensures.err c.in_err-put_views.ensures.capacity c.in_err-put_views.ensures.wanting)))))))))) in
    record { ok = all.ok; err = all.err; capacity = all.capacity; wanting = all.wanting }

pub returns-in_err-put_tokens : goal.returns-in_err-put_tokens
returns-in_err-put_tokens c =
    let all : IsPut c.args.into.now.items (vec_capacity c.args.into.now) c.put_tokens.new.into.items (vec_capacity c.put_tokens.new.into) (rows_text c.args.world.now.rows) c.from_residual-in_err-put_tokens.result =
    put_same _ _ (sym (rows_joined c.args.world.now.rows)) (put_more _ _ c.in_ok-put_processes.ensures.ok c.in_ok-put_processes.ensures.capacity
    (put_more _ _ c.in_ok-put_threads.ensures.ok c.in_ok-put_threads.ensures.capacity
    (put_more _ _ c.in_ok-put_waits.ensures.ok c.in_ok-put_waits.ensures.capacity
    (put_more _ _ c.in_ok-put_marks.ensures.ok c.in_ok-put_marks.ensures.capacity
    (put_more _ _ c.in_ok-put_handles.ensures.ok c.in_ok-put_handles.ensures.capacity
    (put_more _ _ c.in_ok-put_ports.ensures.ok c.in_ok-put_ports.ensures.capacity
    (put_more _ _ c.in_ok-put_messages.ensures.ok c.in_ok-put_messages.ensures.capacity
    (put_more _ _ c.in_ok-put_names.ensures.ok c.in_ok-put_names.ensures.capacity
    (put_more _ _ c.in_ok-put_sections.ensures.ok c.in_ok-put_sections.ensures.capacity
    (put_more _ _ c.in_ok-put_views.ensures.ok c.in_ok-put_views.ensures.capacity
    (put_stops _ _ _ c.from_residual-in_err-put_tokens.ensures.0 c.in_err-put_tokens.ensures.err c.in_err-put_tokens.ensures.capacity c.in_err-put_tokens.ensures.wanting))))))))))) in
    record { ok = all.ok; err = all.err; capacity = all.capacity; wanting = all.wanting }

pub returns : goal.returns
returns c =
    let all : IsPut c.args.into.now.items (vec_capacity c.args.into.now) c.put_token_names.new.into.items (vec_capacity c.put_token_names.new.into) (rows_text c.args.world.now.rows) c.put_token_names.result =
    put_same _ _ (sym (rows_joined c.args.world.now.rows)) (put_more _ _ c.in_ok-put_processes.ensures.ok c.in_ok-put_processes.ensures.capacity
    (put_more _ _ c.in_ok-put_threads.ensures.ok c.in_ok-put_threads.ensures.capacity
    (put_more _ _ c.in_ok-put_waits.ensures.ok c.in_ok-put_waits.ensures.capacity
    (put_more _ _ c.in_ok-put_marks.ensures.ok c.in_ok-put_marks.ensures.capacity
    (put_more _ _ c.in_ok-put_handles.ensures.ok c.in_ok-put_handles.ensures.capacity
    (put_more _ _ c.in_ok-put_ports.ensures.ok c.in_ok-put_ports.ensures.capacity
    (put_more _ _ c.in_ok-put_messages.ensures.ok c.in_ok-put_messages.ensures.capacity
    (put_more _ _ c.in_ok-put_names.ensures.ok c.in_ok-put_names.ensures.capacity
    (put_more _ _ c.in_ok-put_sections.ensures.ok c.in_ok-put_sections.ensures.capacity
    (put_more _ _ c.in_ok-put_views.ensures.ok c.in_ok-put_views.ensures.capacity
    (put_more _ _ c.in_ok-put_tokens.ensures.ok c.in_ok-put_tokens.ensures.capacity
    (put_last _ c.put_token_names.ensures.ok c.put_token_names.ensures.err c.put_token_names.ensures.capacity c.put_token_names.ensures.wanting)))))))))))) in
    record { ok = all.ok; err = all.err; capacity = all.capacity; wanting = all.wanting }
