-- Which lines may need memory, and which make a call.
use Rattle.std.specs.Prelude.{◌≡◌, ◌==◌, ◌&&◌, ℕ, Bool, true, false, not, IsErr, IsOk}
use Rattle.lpc_connect.specs.Room.{lacks_connect_room, lacks_room_for}
use Rattle.lpc_connect.specs.Sharing.{lacks_accept_room}
use Rattle.lpc_closing.specs.Calls.{lacks_handle_room}
use Rattle.lpc_directives.specs.Room.{lacks_token_name_room}
use Rattle.lpc_death.specs.Room.{lacks_child_room, lacks_member_room}
use Rattle.lpc_imperson.specs.Calls.{lacks_token_room}
use Rattle.lpc_model.specs.World.{World}
use Rattle.lpc_ranges.specs.Calls.{lacks_view_room}
use Rattle.lpc_request.specs.Called.{was_registered}
use Rattle.lpc_model.specs.Machine.{boot_line, dir_line, link_line, service_of, thread_line, token_line}
use Rattle.lpc_rows.specs.Kept.{Kept, lacks_name_room, lacks_process_room, lacks_thread_room}
use Rattle.lpc_rows.specs.Ready.{caller, is_ready}
use Rattle.lpc_model.specs.Lines.{ScriptCall, ScriptLine, boot, thread, token, dir, link, of_resident, run, accept_connect_port, connect_port, create_port, create_process, create_section, create_thread, duplicate_object, map_view_of_section, open_process_token, open_thread_token, register_thread_terminate_port, request_port}

-- the calls whose step may take memory: they make a port, a process, a thread, a section, a view, a token, a further
-- handle, a message that no thread waits with, or a place for one that is to tell of a thread's end; a refusal of a
-- connect makes none of these
abbrev pub call_takes_memory : ScriptCall → Bool
call_takes_memory (create_port name dacl) = true
call_takes_memory (connect_port name quality view info) = true
call_takes_memory (accept_connect_port context message accept view) = accept
call_takes_memory (request_port handle message) = true
call_takes_memory (register_thread_terminate_port handle) = true
call_takes_memory (duplicate_object handle access) = true
call_takes_memory (create_process pid tid) = true
call_takes_memory (create_thread target tid) = true
call_takes_memory (create_section size prot) = true
call_takes_memory (map_view_of_section handle offset size prot) = true
call_takes_memory open_thread_token = true
call_takes_memory open_process_token = true
call_takes_memory call = false

-- the lines whose step may take memory; every other step always answers
abbrev pub takes_memory : ScriptLine → Bool
takes_memory (boot pid tid name) = true
takes_memory (thread tid pid) = true
takes_memory (token name content) = true
takes_memory (dir path) = true
takes_memory (link path target) = true
takes_memory (of_resident tid what had) = false
takes_memory (run tid call) = call_takes_memory call

-- the line makes a call: a directive on the world does, and a call of a thread that lives and doesn't wait
abbrev pub makes_call : World → ScriptLine → Bool
makes_call w (boot pid tid name) = true
makes_call w (thread tid pid) = true
makes_call w (token name content) = true
makes_call w (dir path) = true
makes_call w (link path target) = true
makes_call w (of_resident tid what had) = false
makes_call w (run tid call) = is_ready w tid

-- the line makes a call that isn't refused
abbrev pub GoesOn : World → ScriptLine → Type 0
GoesOn w (boot pid tid name) = IsOk (boot_line w pid tid name)
GoesOn w (thread tid pid) = IsOk (thread_line w tid pid)
GoesOn w (token name content) = IsOk (token_line w name content)
GoesOn w (dir path) = IsOk (dir_line w path)
GoesOn w (link path target) = IsOk (link_line w path target)
GoesOn w (of_resident tid what had) = ⊥
GoesOn w (run tid call) = (is_ready w tid ≡ true) × IsOk (service_of w (caller w tid) call)

-- the line makes no call, or one that is refused
abbrev pub Halts : World → ScriptLine → Type 0
Halts w (boot pid tid name) = IsErr (boot_line w pid tid name)
Halts w (thread tid pid) = IsErr (thread_line w tid pid)
Halts w (token name content) = IsErr (token_line w name content)
Halts w (dir path) = IsErr (dir_line w path)
Halts w (link path target) = IsErr (link_line w path target)
Halts w (of_resident tid what had) = Unit {0}
Halts w (run tid call) = is_ready w tid ≡ true → IsErr (service_of w (caller w tid) call)

-- There is no room for what a thread's call makes: a port with its handle, and its name; a client port with its handle,
-- the message that is to tell that it is closed, and the view that it offers; a server port with its handle, and the
-- views of its connection; a message that no thread waits with; of a port that isn't registered yet, the message that is
-- to tell of a thread's end; a further handle; a process with its first thread and a handle to each; a thread with a
-- handle; a view; a token with its handle. The bytes of a section are new memory, so for these there never is room. What
-- the other calls need was reserved when their threads were made.
abbrev pub lacks_call_room : Kept → ℕ → ScriptCall → Bool
lacks_call_room w tid (create_port name dacl) = lacks_room_for w (caller w.rows tid) name
lacks_call_room w tid (connect_port name quality view info) = lacks_connect_room w (caller w.rows tid) view
lacks_call_room w tid (accept_connect_port context message accept view) =
    lacks_accept_room w (caller w.rows tid) message view
lacks_call_room w tid (request_port handle message) = w.room.messages == 0
lacks_call_room w tid (register_thread_terminate_port handle) =
    not (was_registered w.rows tid handle) && (w.room.messages == 0)
lacks_call_room w tid (duplicate_object handle access) = lacks_handle_room w (caller w.rows tid)
lacks_call_room w tid (create_process pid new) = lacks_child_room w (caller w.rows tid)
lacks_call_room w tid (create_thread target new) = lacks_member_room w (caller w.rows tid)
lacks_call_room w tid (create_section size prot) = true
lacks_call_room w tid (map_view_of_section handle offset size prot) = lacks_view_room w (caller w.rows tid)
lacks_call_room w tid open_thread_token = lacks_token_room w (caller w.rows tid)
lacks_call_room w tid open_process_token = lacks_token_room w (caller w.rows tid)
lacks_call_room w tid call = false

-- there is no room for what a line makes
abbrev pub lacks_room : Kept → ScriptLine → Bool
lacks_room w (boot pid tid name) = lacks_process_room w
lacks_room w (thread tid pid) = lacks_thread_room w
lacks_room w (token name content) = lacks_token_name_room w
lacks_room w (dir path) = lacks_name_room w
lacks_room w (link path target) = lacks_name_room w
lacks_room w (of_resident tid what had) = false
lacks_room w (run tid call) = lacks_call_room w tid call
