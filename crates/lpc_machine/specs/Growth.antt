-- For how many rows of each table there is to be room by a line, and how far the memory of the tables may grow by it.
use Rattle.std.specs.Prelude.{ℕ, zero, suc, if◌then◌else◌}
use Rattle.lpc_connect.specs.Sharing.{KeepsUnansweredPlaces}
use Rattle.lpc_model.specs.Lines.{ScriptCall, ScriptLine, boot, thread, run, accept_connect_port, connect_port, create_port, create_process, create_section, create_thread, duplicate_object, map_view_of_section, open_process_token, open_thread_token, register_thread_terminate_port, request_port}
use Rattle.lpc_model.specs.World.{ThreadRow, World}
use Rattle.lpc_rows.specs.Capacity.{KeepsOtherViewPlaces, KeepsViewPlaces, handle_places, view_places}
use Rattle.lpc_rows.specs.Kept.{Kept, grown_handles, grown_messages, grown_ports, grown_processes, grown_sections, grown_threads, grown_tokens, grown_views, grown_waits}
use Rattle.lpc_rows.specs.Ready.{caller}

-- For how many rows of each table there is to be room: of handles in the process of the thread whose call it is, of
-- views there, and in the process of a client whose connect it accepts. A thread comes with room for its wait and for
-- the message that it asks with, a client port with room for the message that is to tell that it is closed, and a
-- registration with room for the one that is to tell of its thread's end.
pub record NewRows : Type 0 where
  pub processes : ℕ
  pub threads : ℕ
  pub waits : ℕ
  pub messages : ℕ
  pub ports : ℕ
  pub sections : ℕ
  pub tokens : ℕ
  pub handles : ℕ
  pub views : ℕ

abbrev pub no_row : NewRows
no_row = record { processes = 0; threads = 0; waits = 0; messages = 0; ports = 0; sections = 0; tokens = 0; handles = 0; views = 0 }

abbrev pub one_thread : NewRows
one_thread = record no_row { threads = 1; waits = 1; messages = 1 }

abbrev pub one_process : NewRows
one_process = record one_thread { processes = 1 }

-- A connect counts for a view, be one offered or not. An accept counts for three in either process: two at most are
-- mapped in the caller's and one in the client's, and both may be one.
abbrev pub call_adds : ScriptCall → NewRows
call_adds (create_port name dacl) = record no_row { ports = 1; handles = 1 }
call_adds (connect_port name quality view info) = record no_row { ports = 1; messages = 1; handles = 1; views = 1 }
call_adds (accept_connect_port context message accept view) =
    if accept then record no_row { ports = 1; handles = 1; views = 3 } else no_row
call_adds (request_port handle message) = record no_row { messages = 1 }
call_adds (register_thread_terminate_port handle) = record no_row { messages = 1 }
call_adds (duplicate_object handle access) = record no_row { handles = 1 }
call_adds (create_process pid tid) = record one_process { handles = 2 }
call_adds (create_thread process tid) = record one_thread { handles = 1 }
call_adds (create_section size prot) = record no_row { sections = 1; handles = 1 }
call_adds (map_view_of_section handle offset size prot) = record no_row { views = 1 }
call_adds open_thread_token = record no_row { tokens = 1; handles = 1 }
call_adds open_process_token = record no_row { tokens = 1; handles = 1 }
call_adds call = no_row

abbrev pub line_adds : ScriptLine → NewRows
line_adds (boot pid tid name) = one_process
line_adds (thread tid pid) = one_thread
line_adds (run tid call) = call_adds call
line_adds line = no_row

-- The most memory of a table: what it had, where there is to be room for none, else what it may have once it was asked
-- for so many
abbrev pub most_of : ℕ → ℕ → ℕ → ℕ
most_of zero had grown = had
most_of (suc n) had grown = grown

abbrev pub most_processes : Kept → ℕ → ℕ
most_processes w n = most_of n w.capacity.processes (grown_processes w n)

abbrev pub most_threads : Kept → ℕ → ℕ
most_threads w n = most_of n w.capacity.threads (grown_threads w n)

abbrev pub most_waits : Kept → ℕ → ℕ
most_waits w n = most_of n w.capacity.waits (grown_waits w n)

abbrev pub most_messages : Kept → ℕ → ℕ
most_messages w n = most_of n w.capacity.messages (grown_messages w n)

abbrev pub most_ports : Kept → ℕ → ℕ
most_ports w n = most_of n w.capacity.ports (grown_ports w n)

abbrev pub most_sections : Kept → ℕ → ℕ
most_sections w n = most_of n w.capacity.sections (grown_sections w n)

abbrev pub most_tokens : Kept → ℕ → ℕ
most_tokens w n = most_of n w.capacity.tokens (grown_tokens w n)

abbrev pub most_handles : Kept → ℕ → ℕ → ℕ
most_handles w pid n = most_of n (handle_places w.capacity pid) (grown_handles w pid n)

abbrev pub most_views : Kept → ℕ → ℕ → ℕ
most_views w pid n = most_of n (view_places w.capacity pid) (grown_views w pid n)

-- the process of a live thread, 0 where none has the number; and that of the thread whose call the line is, 0 of a
-- directive
abbrev pub caller_process : World → ℕ → ℕ
caller_process w tid = let by = caller w tid in by.process

abbrev pub process_of : World → ScriptLine → ℕ
process_of w (run tid call) = caller_process w tid
process_of w line = 0

-- The tables of views have the memory that they had: of all processes but the caller's, and but the client's whose
-- connect is answered. Of a message that answers none it says nothing; a call with such a one is refused.
abbrev pub KeepsViewsBeside : ThreadRow → ScriptCall → Kept → Kept → Type 0
KeepsViewsBeside by (accept_connect_port context message accept view) old new = KeepsUnansweredPlaces old new by message
KeepsViewsBeside by call old new = KeepsOtherViewPlaces by.process old.capacity new.capacity

-- a directive leaves all of them
abbrev pub KeepsOtherViews : ScriptLine → Kept → Kept → Type 0
KeepsOtherViews (run tid call) old new = KeepsViewsBeside (caller old.rows tid) call old new
KeepsOtherViews line old new = KeepsViewPlaces old.capacity new.capacity
