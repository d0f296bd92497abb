-- One line's step: a directive, or a call of a thread that can make one.
use Rattle.std.specs.Prelude.{ℕ, Bool, true, false, List, [], ◌∷◌, Option, Some, None, is_some, Result, Ok, Err}
use Rattle.lpc_base.specs.declared.status.Status.{Status}
use Rattle.lpc_base.specs.declared.status.TheConstants.{INVALID_CID, OBJECT_NAME_COLLISION, OBJECT_NAME_NOT_FOUND, SUCCESS}
use Rattle.lpc_model.specs.declared.entry.Entry.{Entry}
use Rattle.lpc_model.specs.declared.entry.Entry.TheVariants.{Answer, Busy, Directive, NoThread}
use Rattle.lpc_model.specs.declared.entry.Word.{Word}
use Rattle.lpc_model.specs.declared.entry.Word.TheVariants as word
use Rattle.lpc_model.specs.declared.entry.CallName.TheVariants.{NtAcceptConnectPort, NtCompleteConnectPort, NtConnectPort, NtCreatePort, NtListenPort, NtReplyPort, NtReplyWaitReceivePort, NtRequestPort, NtRequestWaitReplyPort, NtRegisterThreadTerminatePort, NtClose, NtDuplicateObject, NtQueryObject, NtCreateProcess, NtCreateThread, NtTerminateProcess, NtTerminateThread, NtCreateSection, NtMapViewOfSection, NtUnmapViewOfSection, NtReadVirtualMemory, NtWriteVirtualMemory, NtReadRequestData, NtWriteRequestData, NtImpersonateClientOfPort, NtSetInformationThread, NtOpenThreadToken, NtOpenProcessToken, NtQueryInformationToken, NtSetInformationProcess, Raise}
use Rattle.lpc_sid.specs.WellKnown.{system_token}
use Rattle.lpc_model.specs.Refusal.{found_or, refuse_if}
use Rattle.lpc_model.specs.Then.{◌>>=◌}
use Rattle.lpc_model.specs.World.{World, Birth, CallName, MessageRow, ThreadRow, Token, WaitRow}
use Rattle.lpc_model.specs.Found.{live_thread, named_token, wait_of}
use Rattle.lpc_model.specs.Basics.{AddsProcess, AddsThread, Basic, Binds, NamesToken, Steps, Tells, entries_of, posts_of, world_after, ◌▹◌}
use Rattle.lpc_model.specs.Sweep.{sweep}
use Rattle.lpc_model.specs.Connect.{nt_accept_connect_port, nt_complete_connect_port, nt_connect_port, nt_create_port, nt_listen_port}
use Rattle.lpc_model.specs.Close.{nt_close}
use Rattle.lpc_model.specs.Counts.{nt_duplicate_object, nt_query_object}
use Rattle.lpc_model.specs.Memory.{nt_create_section, nt_map_view_of_section, nt_read_virtual_memory, nt_unmap_view_of_section, nt_write_virtual_memory}
use Rattle.lpc_model.specs.Impersonation.{nt_impersonate_client_of_port, nt_open_process_token, nt_open_thread_token, nt_query_information_token, nt_set_information_thread}
use Rattle.lpc_model.specs.Ranges.{nt_read_request_data, nt_write_request_data}
use Rattle.lpc_model.specs.Register.{nt_register_thread_terminate_port}
use Rattle.lpc_model.specs.Death.{nt_terminate_process, nt_terminate_thread}
use Rattle.lpc_model.specs.Raise.{nt_set_information_process, raise_exception}
use Rattle.lpc_model.specs.Settle.{settle}
pub use Rattle.lpc_model.specs.Creation.{new_process, new_thread, thread_count_test, thread_test, unused_test, unused_thread_test}
use Rattle.lpc_model.specs.Creation.{nt_create_process, nt_create_thread}
pub use Rattle.lpc_model.specs.Tests.{live_test}
use Rattle.lpc_model.specs.Named.{free_name, spelled_name}
use Rattle.lpc_names.specs.Walk.{LinkTo, Stands}
use Rattle.lpc_names.specs.declared.names.Found.TheVariants.{Directory}
use Rattle.lpc_model.specs.Request.{nt_reply_port, nt_reply_wait_receive_port, nt_request_port, nt_request_wait_reply_port}
use Rattle.lpc_model.specs.Lines.{ScriptCall, create_port, connect_port, listen_port, accept_connect_port, complete_connect_port, request_port, request_wait_reply_port, reply_port, reply_wait_receive_port, register_thread_terminate_port, close, duplicate_object, query_object, create_process, create_thread, terminate_process, terminate_thread, create_section, map_view_of_section, unmap_view_of_section, read_virtual_memory, write_virtual_memory, read_request_data, write_request_data, impersonate_client_of_port, set_information_thread, open_thread_token, open_process_token, query_information_token, ScriptLine, boot, thread, token, dir, link, run, set_information_process, raise, of_resident, ResidentLine, hosts, moves}

-- the name of a call
abbrev pub name_of_call : ScriptCall → CallName
name_of_call (create_port name dacl) = NtCreatePort
name_of_call (connect_port name quality view info) = NtConnectPort
name_of_call (listen_port handle) = NtListenPort
name_of_call (accept_connect_port context message accept view) = NtAcceptConnectPort
name_of_call (complete_connect_port handle) = NtCompleteConnectPort
name_of_call (request_port handle message) = NtRequestPort
name_of_call (request_wait_reply_port handle message) = NtRequestWaitReplyPort
name_of_call (reply_port handle message) = NtReplyPort
name_of_call (reply_wait_receive_port handle reply) = NtReplyWaitReceivePort
name_of_call (register_thread_terminate_port handle) = NtRegisterThreadTerminatePort
name_of_call (close handle) = NtClose
name_of_call (duplicate_object handle access) = NtDuplicateObject
name_of_call (query_object handle) = NtQueryObject
name_of_call (create_process pid tid) = NtCreateProcess
name_of_call (create_thread target tid) = NtCreateThread
name_of_call (terminate_thread target code) = NtTerminateThread
name_of_call (terminate_process target code) = NtTerminateProcess
name_of_call (create_section size prot) = NtCreateSection
name_of_call (map_view_of_section handle offset size prot) = NtMapViewOfSection
name_of_call (unmap_view_of_section address) = NtUnmapViewOfSection
name_of_call (read_virtual_memory address n) = NtReadVirtualMemory
name_of_call (write_virtual_memory address new) = NtWriteVirtualMemory
name_of_call (read_request_data handle message index n) = NtReadRequestData
name_of_call (write_request_data handle message index new) = NtWriteRequestData
name_of_call (impersonate_client_of_port handle message) = NtImpersonateClientOfPort
name_of_call (set_information_thread class) = NtSetInformationThread
name_of_call open_thread_token = NtOpenThreadToken
name_of_call open_process_token = NtOpenProcessToken
name_of_call (query_information_token handle class) = NtQueryInformationToken
name_of_call (set_information_process target class port) = NtSetInformationProcess
name_of_call (raise code handled) = Raise

-- the service that serves a call
abbrev pub service_of : World → ThreadRow → ScriptCall → Result (List Basic) Status
service_of w by (create_port name dacl) = nt_create_port w by name dacl
service_of w by (connect_port name quality view info) = nt_connect_port w by name quality view info
service_of w by (listen_port handle) = nt_listen_port w by handle
service_of w by (accept_connect_port context message accept view) =
    nt_accept_connect_port w by context message accept view
service_of w by (complete_connect_port handle) = nt_complete_connect_port w by handle
service_of w by (request_port handle message) = nt_request_port w by handle message
service_of w by (request_wait_reply_port handle message) = nt_request_wait_reply_port w by handle message
service_of w by (reply_port handle message) = nt_reply_port w by handle message
service_of w by (reply_wait_receive_port handle reply) = nt_reply_wait_receive_port w by handle reply
service_of w by (register_thread_terminate_port handle) = nt_register_thread_terminate_port w by handle
service_of w by (close handle) = nt_close w by handle
service_of w by (duplicate_object handle access) = nt_duplicate_object w by handle access
service_of w by (query_object handle) = nt_query_object w by handle
service_of w by (create_process pid tid) = nt_create_process w by pid tid
service_of w by (create_thread target tid) = nt_create_thread w by target tid
service_of w by (terminate_thread target code) = nt_terminate_thread w by target code
service_of w by (terminate_process target code) = nt_terminate_process w by target code
service_of w by (create_section size prot) = nt_create_section w by size prot
service_of w by (map_view_of_section handle offset size prot) = nt_map_view_of_section w by handle offset size prot
service_of w by (unmap_view_of_section address) = nt_unmap_view_of_section w by address
service_of w by (read_virtual_memory address n) = nt_read_virtual_memory w by address n
service_of w by (write_virtual_memory address new) = nt_write_virtual_memory w by address new
service_of w by (read_request_data handle message index n) = nt_read_request_data w by handle message index n
service_of w by (write_request_data handle message index new) = nt_write_request_data w by handle message index new
service_of w by (impersonate_client_of_port handle message) = nt_impersonate_client_of_port w by handle message
service_of w by (set_information_thread class) = nt_set_information_thread w by class
service_of w by open_thread_token = nt_open_thread_token w by
service_of w by open_process_token = nt_open_process_token w by
service_of w by (query_information_token handle class) = nt_query_information_token w by handle class
service_of w by (set_information_process target class port) = nt_set_information_process w by target class port
service_of w by (raise code handled) = raise_exception w by code handled

-- a refusal is one answer, and changes nothing
abbrev pub settled : ThreadRow → CallName → Result (List Basic) Status → List Basic
settled by call (Ok bs) = bs
settled by call (Err s) = Tells (Answer by.number call s []) ∷ []

-- a call of a thread
abbrev pub call_steps : ThreadRow → ScriptCall → Steps
call_steps by call w = settled by (name_of_call call) (service_of w by call)

-- a call of a live thread, which is busy where it waits
abbrev pub ready_steps : ThreadRow → ScriptCall → Option WaitRow → Steps
ready_steps by call (Some x) w = Tells (Busy by.number) ∷ []
ready_steps by call None w = call_steps by call w

-- a call of a live thread; no other thread makes one
abbrev pub thread_steps : ℕ → ScriptCall → Option ThreadRow → Steps
thread_steps tid call None w = Tells (NoThread tid) ∷ []
thread_steps tid call (Some by) w = ready_steps by call (wait_of w tid) w

-- Directives
-- a directive tells its status
abbrev pub directed : Word → Result (List Basic) Status → List Basic
directed word (Ok bs) = Tells (Directive word SUCCESS) ∷ bs
directed word (Err s) = Tells (Directive word s) ∷ []

-- What a directive makes has maker 0 and its own number as ordinal. It is of its own process: a process of itself.
abbrev pub directive_birth : ℕ → ℕ → Birth
directive_birth n pid = record { maker = 0; ordinal = n; process = pid }

-- the token that a `boot` names, and where it names none the local system's
abbrev pub boot_token : World → Option (List ℕ) → Result Token Status
boot_token w None = Ok system_token
boot_token w (Some name) = do
  named ← found_or (named_token w name) OBJECT_NAME_NOT_FOUND
  Ok named.token

-- a process and its thread are made by a directive
abbrev pub boot_steps : ℕ → ℕ → Token → List Basic
boot_steps pid tid content =
    AddsProcess (new_process pid None (directive_birth pid pid) content)
    ∷ AddsThread (new_thread tid pid (directive_birth tid pid))
    ∷ []

-- `boot`: no token of that name, a number that was ever used
unfoldable pub boot_line : World → ℕ → ℕ → Option (List ℕ) → Result (List Basic) Status
boot_line w pid tid name = do
  content ← boot_token w name
  _ ← unused_test w pid tid
  Ok (boot_steps pid tid content)

-- `token`: a name that a token has
unfoldable pub token_line : World → List ℕ → Token → Result (List Basic) Status
token_line w name content = do
  _ ← refuse_if (is_some (named_token w name)) OBJECT_NAME_COLLISION
  Ok (NamesToken (record { name = name; token = content }) ∷ [])

-- `thread`: no such process, a thread number that was ever used, 64 live threads
unfoldable pub thread_line : World → ℕ → ℕ → Result (List Basic) Status
thread_line w tid pid = do
  _ ← thread_test w tid pid
  Ok (AddsThread (new_thread tid pid (directive_birth tid pid)) ∷ [])

-- `dir`: a fault of the path, at which nothing may stand
unfoldable pub dir_line : World → List ℕ → Result (List Basic) Status
dir_line w text = do
  path ← free_name w text
  Ok (Binds path (Stands Directory) ∷ [])

-- `link`: a fault of the target's form, then one of the path; the target need not stand
unfoldable pub link_line : World → List ℕ → List ℕ → Result (List Basic) Status
link_line w text target = do
  to ← spelled_name target
  path ← free_name w text
  Ok (Binds path (LinkTo to) ∷ [])

-- Lines about the servers on threads
-- A server comes: no live thread of that number, a thread that has one.
abbrev pub hosting_status : Option ThreadRow → Bool → Status
hosting_status None had = INVALID_CID
hosting_status (Some t) true = OBJECT_NAME_COLLISION
hosting_status (Some t) false = SUCCESS

-- A server is to make its next call and makes none: its thread waits; or there is no live thread of that number, or none
-- on it.
abbrev pub idle_entry : ℕ → Option ThreadRow → Bool → Entry
idle_entry tid None had = Directive word.Turn INVALID_CID
idle_entry tid (Some t) false = Directive word.Turn INVALID_CID
idle_entry tid (Some t) true = Busy tid

-- what such a line tells, where there is a server by then, or none; it changes no row
unfoldable pub resident_entry : World → ℕ → ResidentLine → Bool → Entry
resident_entry w tid (hosts kind handle) had = Directive word.Resident (hosting_status (live_thread w tid) had)
resident_entry w tid moves had = idle_entry tid (live_thread w tid) had

-- Lines
-- what the directive or call of a line does in a world
unfoldable pub own_steps : ScriptLine → Steps
own_steps (boot pid tid name) w = directed word.Boot (boot_line w pid tid name)
own_steps (thread tid pid) w = directed word.Thread (thread_line w tid pid)
own_steps (token name content) w = directed word.Token (token_line w name content)
own_steps (dir path) w = directed word.Dir (dir_line w path)
own_steps (link path target) w = directed word.Link (link_line w path target)
own_steps (of_resident tid what had) w = Tells (resident_entry w tid what had) ∷ []
own_steps (run tid call) w = thread_steps tid call (live_thread w tid) w

-- what a line does in a world, before rows go: its directive or call, and then the world settles
unfoldable pub bare_steps : ScriptLine → Steps
bare_steps line = own_steps line ▹ settle

-- what a line does in a world: all this, and then the objects go that no row counts for
abbrev pub steps : ScriptLine → Steps
steps line = bare_steps line ▹ sweep

-- the world that a step leaves, the entries that it makes, and the messages that it posts
pub record Stepped : Type 0 where
  pub world : World
  pub entries : List Entry
  pub posts : List MessageRow

-- what some steps leave, tell and post
abbrev pub landed : World → List Basic → Stepped
landed w bs = record { world = world_after w bs; entries = entries_of bs; posts = posts_of bs }

-- the step of a line, and what it is before rows go
abbrev pub step : World → ScriptLine → Stepped
step w line = landed w (steps line w)

abbrev pub bare_step : World → ScriptLine → Stepped
bare_step w line = landed w (bare_steps line w)
