-- The text of all rows is that of one table after the other.
use Rattle.std.proofs.Common.{◌≡◌, [], ◌∷◌, append_assoc, append-nil}
use Rattle.std.specs.List.{flat_map}
use Rattle.lpc_model.specs.World.{HandleTable, ViewTable, World}
use Rattle.lpc_states.specs.Rows.{handle_row, lines, mark_row, message_row, name_row, port_row, process_row, rows_text, section_row, thread_row, token_name_row, token_row, view_row, wait_row}
use Rattle.lpc_states.specs.Values.{joined}

pub rows_joined : (w : World) → rows_text w ≡ joined (
    lines (process_row w) w.processes
    ∷ lines (thread_row w) w.threads
    ∷ lines wait_row w.waits
    ∷ lines mark_row w.marks
    ∷ flat_map (λ (t : HandleTable). lines (handle_row t.process) t.rows) w.handles
    ∷ lines (port_row w) w.ports
    ∷ lines message_row w.messages
    ∷ lines name_row w.bindings
    ∷ lines (section_row w) w.sections
    ∷ flat_map (λ (t : ViewTable). lines (view_row t.process) t.rows) w.views
    ∷ lines (token_row w) w.tokens
    ∷ lines token_name_row w.token_names
    ∷ []
    )
unfolding rows_text joined
rows_joined w = simp (append_assoc, append-nil)
