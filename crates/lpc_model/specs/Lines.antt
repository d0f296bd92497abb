-- What a line of a script says, whatever buffer its messages lie in.
use Rattle.std.specs.Prelude.{ℕ, Bool, false, List, Option}
use Rattle.std.specs.Option.{option_copied}
use Rattle.lpc_sid.specs.declared.access.Dacl.{Dacl}
use Rattle.lpc_sid.specs.declared.token.Token.{Token}
use Rattle.lpc_tokens.specs.declared.qos.Qos.{Qos}
use Rattle.lpc_model.specs.declared.line.Call.{Call}
use Rattle.lpc_model.specs.declared.line.Call.TheVariants as call
use Rattle.lpc_model.specs.declared.line.Line.{Line}
pub use Rattle.lpc_model.specs.declared.line.Kind.{Kind}
pub use Rattle.lpc_model.specs.declared.line.ProcArg.{ProcArg}
pub use Rattle.lpc_model.specs.declared.line.ViewWord.{ViewWord}
use Rattle.lpc_model.specs.declared.line.Line.TheVariants as line

-- A system call with its arguments. A message, a name and what is written are their bytes, and an unnamed port has none. A
-- port may have an access list; a further handle without rights of its own has those of the handle; a connect or its answer
-- may offer a view.
pub data ScriptCall : Type 0 where
  create_port : Option (List ℕ) → Option Dacl → ScriptCall
  connect_port : List ℕ → Qos → Option ViewWord → List ℕ → ScriptCall
  listen_port : ℕ → ScriptCall
  accept_connect_port : ℕ → List ℕ → Bool → Option ViewWord → ScriptCall
  complete_connect_port : ℕ → ScriptCall
  request_port : ℕ → List ℕ → ScriptCall
  request_wait_reply_port : ℕ → List ℕ → ScriptCall
  reply_port : ℕ → List ℕ → ScriptCall
  reply_wait_receive_port : ℕ → Option (List ℕ) → ScriptCall
  register_thread_terminate_port : ℕ → ScriptCall
  close : ℕ → ScriptCall
  duplicate_object : ℕ → Option ℕ → ScriptCall
  query_object : ℕ → ScriptCall
  create_process : ℕ → ℕ → ScriptCall
  create_thread : ProcArg → ℕ → ScriptCall
  terminate_thread : ProcArg → ℕ → ScriptCall
  terminate_process : ProcArg → ℕ → ScriptCall
  create_section : ℕ → ℕ → ScriptCall
  map_view_of_section : ℕ → ℕ → ℕ → ℕ → ScriptCall
  unmap_view_of_section : ℕ → ScriptCall
  read_virtual_memory : ℕ → ℕ → ScriptCall
  write_virtual_memory : ℕ → List ℕ → ScriptCall
  read_request_data : ℕ → List ℕ → ℕ → ℕ → ScriptCall
  write_request_data : ℕ → List ℕ → ℕ → List ℕ → ScriptCall
  impersonate_client_of_port : ℕ → List ℕ → ScriptCall
  set_information_thread : ℕ → ScriptCall
  open_thread_token : ScriptCall
  open_process_token : ScriptCall
  query_information_token : ℕ → ℕ → ScriptCall
  set_information_process : ProcArg → ℕ → ℕ → ScriptCall
  raise : ℕ → Bool → ScriptCall

-- a line about the server that sits on a thread: it comes, of a kind, to serve the port of a handle; or it is to make its next
-- call
pub data ResidentLine : Type 0 where
  hosts : Kind → ℕ → ResidentLine
  moves : ResidentLine

-- A directive, or a call of a thread; a path and the name of a token are their bytes. A line about the server on a thread has
-- besides whether there is one by then, which no script says and each run knows: as it is said, there is none.
pub data ScriptLine : Type 0 where
  boot : ℕ → ℕ → Option (List ℕ) → ScriptLine
  thread : ℕ → ℕ → ScriptLine
  token : List ℕ → Token → ScriptLine
  dir : List ℕ → ScriptLine
  link : List ℕ → List ℕ → ScriptLine
  of_resident : ℕ → ResidentLine → Bool → ScriptLine
  run : ℕ → ScriptCall → ScriptLine

-- a call without what it is lent
abbrev pub call_of : Call → ScriptCall
call_of (call.CreatePort name dacl) = create_port (option_copied name) (option_copied dacl)
call_of (call.ConnectPort name quality view info) = connect_port name.now quality view info.now
call_of (call.ListenPort handle) = listen_port handle
call_of (call.AcceptConnectPort context message accept view) = accept_connect_port context message.now accept view
call_of (call.CompleteConnectPort handle) = complete_connect_port handle
call_of (call.RequestPort handle message) = request_port handle message.now
call_of (call.RequestWaitReplyPort handle message) = request_wait_reply_port handle message.now
call_of (call.ReplyPort handle message) = reply_port handle message.now
call_of (call.ReplyWaitReceivePort handle reply) = reply_wait_receive_port handle (option_copied reply)
call_of (call.RegisterThreadTerminatePort handle) = register_thread_terminate_port handle
call_of (call.Close handle) = close handle
call_of (call.DuplicateObject handle access) = duplicate_object handle access
call_of (call.QueryObject handle) = query_object handle
call_of (call.CreateProcess pid tid) = create_process pid tid
call_of (call.CreateThread process tid) = create_thread process tid
call_of (call.TerminateThread target code) = terminate_thread target code
call_of (call.TerminateProcess target code) = terminate_process target code
call_of (call.CreateSection size protection) = create_section size protection
call_of (call.MapViewOfSection handle offset size protection) = map_view_of_section handle offset size protection
call_of (call.UnmapViewOfSection address) = unmap_view_of_section address
call_of (call.ReadVirtualMemory address length) = read_virtual_memory address length
call_of (call.WriteVirtualMemory address bytes) = write_virtual_memory address bytes.now
call_of (call.ReadRequestData handle message index length) = read_request_data handle message.now index length
call_of (call.WriteRequestData handle message index bytes) = write_request_data handle message.now index bytes.now
call_of (call.ImpersonateClientOfPort handle message) = impersonate_client_of_port handle message.now
call_of (call.SetInformationThread class) = set_information_thread class
call_of call.OpenThreadToken = open_thread_token
call_of call.OpenProcessToken = open_process_token
call_of (call.QueryInformationToken handle class) = query_information_token handle class
call_of (call.SetInformationProcess target class port) = set_information_process target class port
call_of (call.Raise code handled) = raise code handled

abbrev pub line_of : Line → ScriptLine
line_of (line.Boot pid tid name) = boot pid tid (option_copied name)
line_of (line.Thread tid pid) = thread tid pid
line_of (line.Token name content) = token name.now content.now
line_of (line.Dir path) = dir path.now
line_of (line.Link path target) = link path.now target.now
line_of (line.Resident tid kind handle) = of_resident tid (hosts kind handle) false
line_of (line.Turn tid) = of_resident tid moves false
line_of (line.Run tid c) = run tid (call_of c)
