-- What calls come to: each way in which a call isn't refused, with what its tests found. A call's tests are taken off here
-- and nowhere else; what holds of each outcome holds of each call.
use Rattle.lpc_base.specs.Rows.{first, when}
use Rattle.lpc_base.specs.declared.status.Status.{Status}
use Rattle.lpc_base.specs.declared.status.TheConstants.{INVALID_CID, INVALID_HANDLE, INVALID_PARAMETER, INVALID_PORT_HANDLE, REPLY_MESSAGE_MISMATCH, SUCCESS, ACCESS_VIOLATION, INVALID_PARAMETER_4, MAPPED_ALIGNMENT, NOT_MAPPED_VIEW, SECTION_PROTECTION, SECTION_TOO_BIG}
use Rattle.lpc_message.specs.declared.kind.TheConstants.{DATAGRAM, REQUEST}
use Rattle.lpc_model.proofs.Calls.Creating.{process-made, tested-further}
use Rattle.lpc_model.proofs.Steps.Ending.{answered_end}
use Rattle.lpc_model.proofs.Calls.Holding.{Holds, bind_holds, found_ok, holds_ok, not_refused}
use Rattle.lpc_model.specs.Basics.{Basic, Registers, Tells}
use Rattle.lpc_model.specs.Close.{close_steps, nt_close}
use Rattle.lpc_model.specs.Impersonation.{THREAD_IMPERSONATION_TOKEN, allowed_by, held_content, impersonate_steps, is_served_by, nt_impersonate_client_of_port, nt_open_process_token, nt_open_thread_token, nt_query_information_token, nt_set_information_thread, own_test, process_content, revert_steps, told_of, told_steps, token_steps, token_test}
use Rattle.lpc_model.specs.Connect.{Completable, ConnectAnswer, accept_steps, access_test, allow_steps, guard_steps, answer_test, complete_steps, complete_test, connect_steps, connection_request, create_steps, info_test, listen_steps, making, named_steps, nt_accept_connect_port, nt_complete_connect_port, nt_connect_port, nt_create_port, nt_listen_port, refuse_steps, unnamed_steps}
use Rattle.lpc_model.specs.Counts.{asked, counts_of, duplicate_steps, nt_duplicate_object, nt_query_object, rights_test}
use Rattle.lpc_model.specs.Creation.{making_process, making_thread, nt_create_thread, thread_test}
use Rattle.lpc_model.specs.Death.{code_status, nt_terminate_process, nt_terminate_thread}
use Rattle.lpc_model.specs.Found.{free_handle, handle_at, is_connection_port, is_live, is_queued, is_queued_connect, is_server_port, live_threads, was_process, was_thread, view_holding}
use Rattle.lpc_model.specs.Lines.{ProcArg, ScriptCall, accept_connect_port, close, complete_connect_port, connect_port, create_port, create_process, create_thread, duplicate_object, listen_port, query_object, register_thread_terminate_port, reply_port, reply_wait_receive_port, request_port, request_wait_reply_port, terminate_process, terminate_thread, create_section, map_view_of_section, unmap_view_of_section, read_virtual_memory, write_virtual_memory, read_request_data, write_request_data, impersonate_client_of_port, set_information_thread, open_thread_token, open_process_token, query_information_token, ViewWord, raise, set_information_process}
use Rattle.lpc_model.specs.Machine.{service_of}
use Rattle.lpc_base.specs.Views.{whole_pages}
use Rattle.lpc_base.specs.declared.limits.TheConstants.{PAGE_SIZE, SECTION_LIMIT}
use Rattle.lpc_model.specs.Memory.{PAGE_READWRITE, base_test, map_steps, mapped_view, mapping_right, memory_test, nt_create_section, nt_map_view_of_section, nt_read_virtual_memory, nt_unmap_view_of_section, nt_write_virtual_memory, protection_test, read_steps, section_load_test, section_steps, section_test, size_test, unmap_steps, write_steps}
use Rattle.lpc_model.specs.Message.{message_test}
use Rattle.lpc_model.specs.Offers.{SharedViews, Wanted, if_given, offer_test, shared_test, view_test, wanted_test}
use Rattle.lpc_model.specs.Named.{free_name, named_port}
use Rattle.lpc_model.specs.Raise.{Handled, Heard, Hearing, Next, Unhandled, class_test, from_first, nt_set_information_process, raise_exception, raise_steps, set_port_steps, unset_test}
use Rattle.lpc_model.proofs.Calls.Raising.{IsHearing, WhereHeard, first-holds}
use Rattle.lpc_model.specs.Ranges.{Described, described_test, nt_read_request_data, nt_write_request_data, read_range_steps, write_range_steps}
use Rattle.lpc_model.specs.Refusal.{refuse_if, found_or}
use Rattle.lpc_model.specs.Register.{is_registered, nt_register_thread_terminate_port, registration_test}
use Rattle.lpc_model.specs.Request.{Sendable, datagram_send_test, datagram_steps, given_reply, nt_reply_port, nt_reply_wait_receive_port, nt_request_port, nt_request_wait_reply_port, optional_message, receive_steps, receive_test, reply_steps, reply_test, request_steps, send_test, sent_by}
use Rattle.lpc_model.specs.Targets.{process_target, thread_target}
use Rattle.lpc_model.specs.Tests.{client_test, handles_test, live_test, next_birth, own_handle, port_test}
use Rattle.lpc_model.specs.World.{Birth, Dacl, HandleRow, Impersonation, Qos, TokenRow, Message, MessageRow, Offer, Path, PortRow, ThreadRow, WaitRow, World, SectionRow, ViewRow}
use Rattle.lpc_model.specs.declared.entry.CallName.{CallName}
use Rattle.lpc_model.specs.declared.entry.CallName.TheVariants.{NtOpenProcessToken, NtOpenThreadToken, NtQueryObject, NtRegisterThreadTerminatePort, NtTerminateProcess, NtTerminateThread}
use Rattle.lpc_model.specs.declared.entry.Entry.TheVariants.{Answer}
use Rattle.lpc_model.specs.declared.entry.Field.{Field}
use Rattle.std.proofs.Common.{Bool, List, None, Option, Some, [], false, not, refl, true, ℕ, ◌++◌, ◌∷◌, ◌≡◌}
use Rattle.std.proofs.lemmas.Bool.{eqb-true, not-false}
use Rattle.std.specs.Prelude.{Ok, ◌%◌, ◌&&◌, ◌==◌, length, nat_lt}

-- the tests of a listen find a connection port
pub record IsListening (w : World) (by : ThreadRow) (handle : ℕ) (port : PortRow) : Type 0 where
  pub port_found : port_test w by handle ≡ Ok port
  pub kind : is_connection_port port ≡ true

-- the tests of a receive find its port, its message, its queue, and the reply that it makes first
pub record IsReceiving (w : World) (by : ThreadRow) (handle : ℕ) (bytes : Option (List ℕ)) (o : Option Message) (port : PortRow) (queue : Birth) (replied : List Basic) : Type 0 where
  pub port_found : port_test w by handle ≡ Ok port
  pub message_read : optional_message bytes ≡ Ok o
  pub queue_found : receive_test w port ≡ Ok queue
  pub reply_made : given_reply w port o ≡ Ok replied

-- the tests of a connect find what it offers, the view of that, and the connection port
pub record IsConnecting (w : World) (by : ThreadRow) (name : List ℕ) (view : Option ViewWord) (offer : Option Offer) (own : Option ViewRow) (connection : Birth) : Type 0 where
  pub wanted : Option Wanted
  pub wanted_found : if_given (wanted_test w by) view ≡ Ok wanted
  pub offer_made : if_given offer_test wanted ≡ Ok offer
  pub port_named : named_port w name ≡ Ok connection
  pub view_placed : if_given (view_test w by.process (next_birth by)) offer ≡ Ok own

-- the tests of an accept find what it offers, the connect that it answers, and the views of the connection
pub record IsAccepting (w : World) (by : ThreadRow) (bytes : List ℕ) (view : Option ViewWord) (offer : Option Offer) (a : ConnectAnswer) (views : SharedViews) : Type 0 where
  pub wanted : Option Wanted
  pub wanted_found : if_given (wanted_test w by) view ≡ Ok wanted
  pub answered : answer_test w by bytes ≡ Ok a
  pub offer_made : if_given offer_test wanted ≡ Ok offer
  pub views_placed : shared_test w by a.wait offer ≡ Ok views

-- the tests of an impersonation find the port, the message, and the request that it names, whose port allows a token
pub record IsAllowed (w : World) (by : ThreadRow) (handle : ℕ) (bytes : List ℕ) (own : Impersonation) : Type 0 where
  pub port : PortRow
  pub message : Message
  pub wait : WaitRow
  pub port_found : port_test w by handle ≡ Ok port
  pub message_read : message_test bytes ≡ Ok message
  pub wait_found : first (is_served_by port message) w.waits ≡ Some wait
  pub token_found : allowed_by w wait ≡ Some own

-- the tests of a creation find a protection, and a size that a section may have
pub record IsBuilding (size prot : ℕ) : Type 0 where
  pub protection : protection_test prot ≡ Ok tt
  pub some : (size == 0) ≡ false
  pub most : nat_lt SECTION_LIMIT size ≡ false

-- the tests of a mapping find the section, the size of the view and its base
pub record IsMapping (w : World) (by : ThreadRow) (handle offset size prot : ℕ) (s : SectionRow) (rounded base : ℕ) : Type 0 where
  pub section : section_test w by (mapping_right prot) handle ≡ Ok s
  pub pages : offset % PAGE_SIZE ≡ 0
  pub protection : protection_test prot ≡ Ok tt
  pub written : ((prot == PAGE_READWRITE) && not s.writable) ≡ false
  pub size_found : size_test s offset size ≡ Ok rounded
  pub base_found : base_test w by.process rounded ≡ Ok base

-- the threads that a call ends, all of one process: the one that it names, or those of the process that it names; and whether
-- its own is among them
pub data AreDoomed (w : World) (by : ThreadRow) : Bool → ℕ → List ThreadRow → Type 0 where
  one : (target : ProcArg) (t : ThreadRow) → thread_target w by target ≡ Ok t → t.live ≡ true → AreDoomed w by (t.number == by.number) t.process (t ∷ [])
  all : (target : ProcArg) (pid : ℕ) → process_target w by target ≡ Ok pid → is_live w pid ≡ true → AreDoomed w by (pid == by.process) pid (live_threads w pid)

-- the calls that end threads
pub data EndCall : Type 0 where
  of_thread : (target : ProcArg) (code : ℕ) → EndCall
  of_process : (target : ProcArg) (code : ℕ) → EndCall

abbrev pub end_call : EndCall → ScriptCall
end_call (of_thread target code) = terminate_thread target code
end_call (of_process target code) = terminate_process target code

-- What calls of a thread come to in a world, each with its steps
pub record Outcomes (w : World) (by : ThreadRow) (P : ScriptCall → List Basic → Type 0) : Type 0 where
  -- a port is made, without a name and with one
  pub creates : (dacl : Option Dacl) → P (create_port None dacl) (create_steps by (unnamed_steps (next_birth by)) (free_handle w by.process))
  pub founds : (name : List ℕ) (dacl : Option Dacl) (path : Path) → free_name w name ≡ Ok path → P (create_port (Some name) dacl) (create_steps by (named_steps (next_birth by) path) (free_handle w by.process) ++ guard_steps (next_birth by) (Some name) dacl)
  -- a connect is made, listened for, refused, accepted, completed
  pub connects : (name : List ℕ) (quality : Qos) (view : Option ViewWord) (bytes : List ℕ) (offer : Option Offer) (own : Option ViewRow) (connection : Birth) → IsConnecting w by name view offer own connection → P (connect_port name quality view bytes) (connect_steps by connection offer own (connection_request by offer bytes) w ++ allow_steps w by quality)
  pub listens : (handle : ℕ) (port : PortRow) (m : MessageRow) → IsListening w by handle port → first (is_queued_connect port.birth) w.messages ≡ Some m → P (listen_port handle) (listen_steps by port.birth (Some m))
  pub awaits_connect : (handle : ℕ) (port : PortRow) → IsListening w by handle port → first (is_queued_connect port.birth) w.messages ≡ None → P (listen_port handle) (listen_steps by port.birth None)
  pub refuses : (context : ℕ) (bytes : List ℕ) (view : Option ViewWord) (a : ConnectAnswer) → answer_test w by bytes ≡ Ok a → P (accept_connect_port context bytes false view) (refuse_steps by a)
  pub accepts : (context : ℕ) (bytes : List ℕ) (view : Option ViewWord) (offer : Option Offer) (a : ConnectAnswer) (views : SharedViews) → IsAccepting w by bytes view offer a views → P (accept_connect_port context bytes true view) (accept_steps by context (free_handle w by.process) a views)
  pub completes : (handle : ℕ) (c : Completable) → complete_test w by handle ≡ Ok c → P (complete_connect_port handle) (complete_steps by (free_handle w c.wait.process) c)
  -- a message is sent, and its sender goes on or waits
  pub sends : (handle : ℕ) (bytes : List ℕ) (s : Sendable) → datagram_send_test w by handle bytes ≡ Ok s → P (request_port handle bytes) (datagram_steps by s.port s.queue (sent_by by DATAGRAM s.message) w)
  pub asks : (handle : ℕ) (bytes : List ℕ) (s : Sendable) → send_test w by handle bytes ≡ Ok s → P (request_wait_reply_port handle bytes) (request_steps by s.port s.queue (sent_by by REQUEST s.message) w)
  -- a reply is made; a message is received, or waited for
  pub replies : (handle : ℕ) (bytes : List ℕ) (port : PortRow) (m : Message) (x : WaitRow) → port_test w by handle ≡ Ok port → message_test bytes ≡ Ok m → reply_test w port m ≡ Ok x → P (reply_port handle bytes) (reply_steps by x m)
  pub receives : (handle : ℕ) (bytes : Option (List ℕ)) (o : Option Message) (port : PortRow) (queue : Birth) (replied : List Basic) (m : MessageRow) → IsReceiving w by handle bytes o port queue replied → first (is_queued queue) w.messages ≡ Some m → P (reply_wait_receive_port handle bytes) (receive_steps by port queue replied (Some m))
  pub awaits_message : (handle : ℕ) (bytes : Option (List ℕ)) (o : Option Message) (port : PortRow) (queue : Birth) (replied : List Basic) → IsReceiving w by handle bytes o port queue replied → first (is_queued queue) w.messages ≡ None → P (reply_wait_receive_port handle bytes) (receive_steps by port queue replied None)
  -- a port is registered, newly or again
  pub registers : (handle : ℕ) (port : PortRow) → port_test w by handle ≡ Ok port → is_registered port.birth by ≡ false → registration_test by port.birth ≡ Ok tt → P (register_thread_terminate_port handle) (Tells (Answer by.number NtRegisterThreadTerminatePort SUCCESS []) ∷ Registers by.number port.birth ∷ [])
  pub repeats : (handle : ℕ) (port : PortRow) → port_test w by handle ≡ Ok port → is_registered port.birth by ≡ true → P (register_thread_terminate_port handle) (Tells (Answer by.number NtRegisterThreadTerminatePort SUCCESS []) ∷ [])
  -- a handle is closed, given again, asked
  pub closes : (handle : ℕ) (r : HandleRow) → handle_at w by.process handle ≡ Some r → P (close handle) (close_steps by r w)
  pub duplicates : (handle : ℕ) (access : Option ℕ) (r : HandleRow) → handle_at w by.process handle ≡ Some r → P (duplicate_object handle access) (duplicate_steps by (free_handle w by.process) r (asked r access))
  pub queries : (handle : ℕ) (r : HandleRow) → handle_at w by.process handle ≡ Some r → P (query_object handle) (Tells (Answer by.number NtQueryObject SUCCESS (counts_of w r)) ∷ [])
  -- a process is made with its thread, a thread is made
  pub spawns : (pid tid : ℕ) → was_process w pid ≡ false → was_thread w tid ≡ false → P (create_process pid tid) (making_process w by pid tid)
  pub starts : (target : ProcArg) (tid pid : ℕ) → process_target w by target ≡ Ok pid → is_live w pid ≡ true → was_thread w tid ≡ false → P (create_thread target tid) (making_thread w by tid pid)
  -- a section is made; a view is mapped, and goes; memory is read and written
  pub makes_section : (size prot : ℕ) → IsBuilding size prot → P (create_section size prot) (section_steps by size prot (free_handle w by.process))
  pub maps_view : (handle offset size prot : ℕ) (s : SectionRow) (rounded base : ℕ) → IsMapping w by handle offset size prot s rounded base → P (map_view_of_section handle offset size prot) (map_steps by (mapped_view s offset rounded prot base))
  pub unmaps_view : (address : ℕ) (v : ViewRow) → view_holding w by.process address 1 ≡ Some v → P (unmap_view_of_section address) (unmap_steps by v)
  pub reads_memory : (address n : ℕ) (v : ViewRow) → memory_test w by address n ≡ Ok v → P (read_virtual_memory address n) (read_steps w.contents by address n v)
  pub writes_memory : (address : ℕ) (new : List ℕ) (v : ViewRow) → memory_test w by address (length new) ≡ Ok v → v.writable ≡ true → P (write_virtual_memory address new) (write_steps by address new v)
  -- and so are ranges that a request describes
  pub reads_range : (handle : ℕ) (bytes : List ℕ) (index n : ℕ) (d : Described) → described_test w by handle bytes index n ≡ Ok d → P (read_request_data handle bytes index n) (read_range_steps w.contents by n d)
  pub writes_range : (handle : ℕ) (bytes : List ℕ) (index : ℕ) (new : List ℕ) (d : Described) → described_test w by handle bytes index (length new) ≡ Ok d → d.view.writable ≡ true → P (write_request_data handle bytes index new) (write_range_steps by new d)
  -- a thread acts as its client, and as itself again; a token is made as an object, and asked
  pub impersonates : (handle : ℕ) (bytes : List ℕ) (own : Impersonation) → IsAllowed w by handle bytes own → P (impersonate_client_of_port handle bytes) (impersonate_steps by own)
  pub reverts : (class : ℕ) → P (set_information_thread class) (revert_steps by)
  pub opens_own : (own : Impersonation) → own_test by ≡ Ok own → P open_thread_token (token_steps by NtOpenThreadToken (held_content own) (free_handle w by.process))
  pub opens_primary : P open_process_token (token_steps by NtOpenProcessToken (process_content w by) (free_handle w by.process))
  pub asks_token : (handle class : ℕ) (t : TokenRow) (field : Field) → token_test w by handle ≡ Ok t → told_of t class ≡ Some field → P (query_information_token handle class) (told_steps by field)
  -- a port is set that is told of the exceptions of a process
  pub sets : (target : ProcArg) (class handle pid : ℕ) (port : PortRow) → process_target w by target ≡ Ok pid → port_test w by handle ≡ Ok port → is_live w pid ≡ true → P (set_information_process target class handle) (set_port_steps by class pid port.birth)
  -- an exception is raised that its frame handlers handle at once, of which an event is sent, or that nothing handles
  pub handles : (code : ℕ) (handled : Bool) → P (raise code handled) (raise_steps by code handled Handled w)
  pub hears : (code : ℕ) (handled : Bool) (h : Hearing) → IsHearing w by.process h → P (raise code handled) (raise_steps by code handled (Heard h) w)
  pub fails : (code : ℕ) (handled : Bool) → P (raise code handled) (raise_steps by code handled Unhandled w)
  -- threads end, the caller itself (own) or others
  pub ends : (call : EndCall) (name : CallName) (own : Bool) (pid : ℕ) (code : Status) (ts : List ThreadRow) → AreDoomed w by own pid ts → P (end_call call) (answered_end by name own pid code ts w)

-- The calls
module _ (w : World) (by : ThreadRow) (P : ScriptCall → List Basic → Type 0) (o : Outcomes w by P) where
  making-does : (name : Option (List ℕ)) (dacl : Option Dacl) → Holds (λ made. P (create_port name dacl) (create_steps by made (free_handle w by.process) ++ guard_steps (next_birth by) name dacl)) (making w (next_birth by) name)
  making-does None dacl = o.creates dacl
  making-does (Some name) dacl = bind_holds (free_name w name) _ (λ made. P (create_port (Some name) dacl) (create_steps by made (free_handle w by.process) ++ guard_steps (next_birth by) (Some name) dacl)) (λ path free. o.founds name dacl path free)

  create-does : (name : Option (List ℕ)) (dacl : Option Dacl) → Holds (P (create_port name dacl)) (nt_create_port w by name dacl)
  unfolding nt_create_port
  create-does name dacl =
      bind_holds (making w (next_birth by) name) _ (P (create_port name dacl)) (λ made at.
      bind_holds (handles_test w by.process 1) _ (P (create_port name dacl)) (λ _ _.
      holds_ok (λ made. P (create_port name dacl) (create_steps by made (free_handle w by.process) ++ guard_steps (next_birth by) name dacl)) (making w (next_birth by) name) made (making-does name dacl) at))

  connect-does : (name : List ℕ) (quality : Qos) (view : Option ViewWord) (bytes : List ℕ) → Holds (P (connect_port name quality view bytes)) (nt_connect_port w by name quality view bytes)
  unfolding nt_connect_port
  connect-does name quality view bytes =
      let Q = P (connect_port name quality view bytes) in
      bind_holds (if_given (wanted_test w by) view) _ Q (λ wanted found.
      bind_holds (info_test bytes) _ Q (λ _ _.
      bind_holds (if_given offer_test wanted) _ Q (λ offer made.
      bind_holds (named_port w name) _ Q (λ connection at.
      bind_holds (access_test w by connection) _ Q (λ _ _.
      bind_holds (handles_test w by.process 1) _ Q (λ _ _.
      bind_holds (if_given (view_test w by.process (next_birth by)) offer) _ Q (λ own placed.
      o.connects name quality view bytes offer own connection (record { wanted = wanted; wanted_found = found; offer_made = made; port_named = at; view_placed = placed }))))))))

  listened-does : (handle : ℕ) (port : PortRow) (m : Option MessageRow) → IsListening w by handle port → first (is_queued_connect port.birth) w.messages ≡ m → P (listen_port handle) (listen_steps by port.birth m)
  listened-does handle port (Some m) l at = o.listens handle port m l at
  listened-does handle port None l at = o.awaits_connect handle port l at

  listen-does : (handle : ℕ) → Holds (P (listen_port handle)) (nt_listen_port w by handle)
  unfolding nt_listen_port
  listen-does handle =
      let Q = P (listen_port handle) in
      bind_holds (port_test w by handle) _ Q (λ port at.
      bind_holds (refuse_if (not (is_connection_port port)) INVALID_PORT_HANDLE) _ Q (λ u off.
      listened-does handle port (first (is_queued_connect port.birth) w.messages) (record { port_found = at; kind = not-false (is_connection_port port) (not_refused _ INVALID_PORT_HANDLE u off) }) refl))

  accept-does : (context : ℕ) (bytes : List ℕ) (accept : Bool) (view : Option ViewWord) → Holds (P (accept_connect_port context bytes accept view)) (nt_accept_connect_port w by context bytes accept view)
  unfolding nt_accept_connect_port
  accept-does context bytes false view = bind_holds (answer_test w by bytes) _ (P (accept_connect_port context bytes false view)) (λ a at. o.refuses context bytes view a at)
  accept-does context bytes true view =
      let Q = P (accept_connect_port context bytes true view) in
      bind_holds (if_given (wanted_test w by) view) _ Q (λ wanted found.
      bind_holds (answer_test w by bytes) _ Q (λ a at.
      bind_holds (if_given offer_test wanted) _ Q (λ offer made.
      bind_holds (handles_test w by.process 1) _ Q (λ _ _.
      bind_holds (shared_test w by a.wait offer) _ Q (λ views placed.
      o.accepts context bytes view offer a views (record { wanted = wanted; wanted_found = found; answered = at; offer_made = made; views_placed = placed }))))))

  complete-does : (handle : ℕ) → Holds (P (complete_connect_port handle)) (nt_complete_connect_port w by handle)
  unfolding nt_complete_connect_port
  complete-does handle = bind_holds (complete_test w by handle) _ (P (complete_connect_port handle)) (λ c at. o.completes handle c at)

  datagram-does : (handle : ℕ) (bytes : List ℕ) → Holds (P (request_port handle bytes)) (nt_request_port w by handle bytes)
  unfolding nt_request_port
  datagram-does handle bytes = bind_holds (datagram_send_test w by handle bytes) _ (P (request_port handle bytes)) (λ s at. o.sends handle bytes s at)

  request-does : (handle : ℕ) (bytes : List ℕ) → Holds (P (request_wait_reply_port handle bytes)) (nt_request_wait_reply_port w by handle bytes)
  unfolding nt_request_wait_reply_port
  request-does handle bytes = bind_holds (send_test w by handle bytes) _ (P (request_wait_reply_port handle bytes)) (λ s at. o.asks handle bytes s at)

  reply-does : (handle : ℕ) (bytes : List ℕ) → Holds (P (reply_port handle bytes)) (nt_reply_port w by handle bytes)
  unfolding nt_reply_port
  reply-does handle bytes =
      let Q = P (reply_port handle bytes) in
      bind_holds (port_test w by handle) _ Q (λ port at.
      bind_holds (message_test bytes) _ Q (λ m read.
      bind_holds (reply_test w port m) _ Q (λ x fits. o.replies handle bytes port m x at read fits)))

  received-does : (handle : ℕ) (bytes : Option (List ℕ)) (m : Option Message) (port : PortRow) (queue : Birth) (replied : List Basic) (row : Option MessageRow) → IsReceiving w by handle bytes m port queue replied → first (is_queued queue) w.messages ≡ row → P (reply_wait_receive_port handle bytes) (receive_steps by port queue replied row)
  received-does handle bytes m port queue replied (Some row) r at = o.receives handle bytes m port queue replied row r at
  received-does handle bytes m port queue replied None r at = o.awaits_message handle bytes m port queue replied r at

  receive-does : (handle : ℕ) (bytes : Option (List ℕ)) → Holds (P (reply_wait_receive_port handle bytes)) (nt_reply_wait_receive_port w by handle bytes)
  unfolding nt_reply_wait_receive_port
  receive-does handle bytes =
      let Q = P (reply_wait_receive_port handle bytes) in
      bind_holds (port_test w by handle) _ Q (λ port at.
      bind_holds (optional_message bytes) _ Q (λ m read.
      bind_holds (receive_test w port) _ Q (λ queue found.
      bind_holds (given_reply w port m) _ Q (λ replied made.
      received-does handle bytes m port queue replied (first (is_queued queue) w.messages) (record { port_found = at; message_read = read; queue_found = found; reply_made = made }) refl))))

  register-does : (handle : ℕ) → Holds (P (register_thread_terminate_port handle)) (nt_register_thread_terminate_port w by handle)
  unfolding nt_register_thread_terminate_port
  register-does handle =
      let Q = P (register_thread_terminate_port handle) in
      bind_holds (port_test w by handle) _ Q (λ port at.
      bind_holds (registration_test by port.birth) _ Q (λ u few. registered port at few (is_registered port.birth by) refl))
    where
      registered : (port : PortRow) → port_test w by handle ≡ Ok port → registration_test by port.birth ≡ Ok tt → (known : Bool) → is_registered port.birth by ≡ known → P (register_thread_terminate_port handle) (Tells (Answer by.number NtRegisterThreadTerminatePort SUCCESS []) ∷ when (not known) (Registers by.number port.birth ∷ []))
      registered port at few true known = o.repeats handle port at known
      registered port at few false new = o.registers handle port at new few

  close-does : (handle : ℕ) → Holds (P (close handle)) (nt_close w by handle)
  unfolding nt_close
  close-does handle = bind_holds (own_handle w by handle) _ (P (close handle)) (λ r at. o.closes handle r (found_ok (handle_at w by.process handle) INVALID_HANDLE r at))

  duplicate-does : (handle : ℕ) (access : Option ℕ) → Holds (P (duplicate_object handle access)) (nt_duplicate_object w by handle access)
  unfolding nt_duplicate_object
  duplicate-does handle access =
      let Q = P (duplicate_object handle access) in
      bind_holds (own_handle w by handle) _ Q (λ r at.
      bind_holds (rights_test r (asked r access)) _ Q (λ _ _.
      bind_holds (handles_test w by.process 1) _ Q (λ _ _. o.duplicates handle access r (found_ok (handle_at w by.process handle) INVALID_HANDLE r at))))

  query-does : (handle : ℕ) → Holds (P (query_object handle)) (nt_query_object w by handle)
  unfolding nt_query_object
  query-does handle = bind_holds (own_handle w by handle) _ (P (query_object handle)) (λ r at. o.queries handle r (found_ok (handle_at w by.process handle) INVALID_HANDLE r at))

  create-thread-does : (target : ProcArg) (tid : ℕ) → Holds (P (create_thread target tid)) (nt_create_thread w by target tid)
  unfolding nt_create_thread
  create-thread-does target tid =
      let Q = P (create_thread target tid) in
      bind_holds (process_target w by target) _ Q (λ pid at.
      bind_holds (thread_test w tid pid) _ Q (λ u is.
      let found = holds_ok (λ _. (is_live w pid ≡ true) × (was_thread w tid ≡ false)) (thread_test w tid pid) u (tested-further w tid pid) is in
      bind_holds (handles_test w by.process 1) _ Q (λ _ _. o.starts target tid pid at found.0 found.1)))

  thread-does : (target : ProcArg) (code : ℕ) → Holds (P (terminate_thread target code)) (nt_terminate_thread w by target code)
  unfolding nt_terminate_thread
  thread-does target code =
      let Q = P (terminate_thread target code) in
      bind_holds (thread_target w by target) _ Q (λ t at.
      bind_holds (refuse_if (not t.live) INVALID_CID) _ Q (λ u off.
      o.ends (of_thread target code) NtTerminateThread (t.number == by.number) t.process (code_status code) (t ∷ []) (one target t at (not-false t.live (not_refused (not t.live) INVALID_CID u off)))))

  process-does : (target : ProcArg) (code : ℕ) → Holds (P (terminate_process target code)) (nt_terminate_process w by target code)
  unfolding nt_terminate_process
  process-does target code =
      let Q = P (terminate_process target code) in
      bind_holds (process_target w by target) _ Q (λ pid at.
      bind_holds (live_test w pid) _ Q (λ u off.
      o.ends (of_process target code) NtTerminateProcess (pid == by.process) pid (code_status code) (live_threads w pid) (all target pid at (not-false (is_live w pid) (not_refused (not (is_live w pid)) INVALID_CID u off)))))

  create-section-does : (size prot : ℕ) → Holds (P (create_section size prot)) (nt_create_section w by size prot)
  unfolding nt_create_section
  create-section-does size prot =
      let Q = P (create_section size prot) in
      bind_holds (protection_test prot) _ Q (λ p protected.
      bind_holds (refuse_if (size == 0) INVALID_PARAMETER_4) _ Q (λ x some.
      bind_holds (refuse_if (nat_lt SECTION_LIMIT size) SECTION_TOO_BIG) _ Q (λ y most.
      bind_holds (section_load_test w by.process (whole_pages size)) _ Q (λ _ _.
      bind_holds (handles_test w by.process 1) _ Q (λ _ _. o.makes_section size prot (record {
        protection = protected;
        some = not_refused _ INVALID_PARAMETER_4 x some;
        most = not_refused _ SECTION_TOO_BIG y most;
      }))))))

  map-does : (handle offset size prot : ℕ) → Holds (P (map_view_of_section handle offset size prot)) (nt_map_view_of_section w by handle offset size prot)
  unfolding nt_map_view_of_section
  map-does handle offset size prot =
      let Q = P (map_view_of_section handle offset size prot) in
      bind_holds (section_test w by (mapping_right prot) handle) _ Q (λ s found.
      bind_holds (refuse_if (not (offset % PAGE_SIZE == 0)) MAPPED_ALIGNMENT) _ Q (λ u aligned.
      bind_holds (protection_test prot) _ Q (λ p protected.
      bind_holds (refuse_if ((prot == PAGE_READWRITE) && not s.writable) SECTION_PROTECTION) _ Q (λ x written.
      bind_holds (size_test s offset size) _ Q (λ rounded sized.
      bind_holds (base_test w by.process rounded) _ Q (λ base based. o.maps_view handle offset size prot s rounded base (record {
        section = found;
        pages = eqb-true _ _ (not-false _ (not_refused _ MAPPED_ALIGNMENT u aligned));
        protection = protected;
        written = not_refused _ SECTION_PROTECTION x written;
        size_found = sized;
        base_found = based;
      })))))))

  unmap-does : (address : ℕ) → Holds (P (unmap_view_of_section address)) (nt_unmap_view_of_section w by address)
  unfolding nt_unmap_view_of_section
  unmap-does address = bind_holds (found_or (view_holding w by.process address 1) NOT_MAPPED_VIEW) _ (P (unmap_view_of_section address)) (λ v at. o.unmaps_view address v (found_ok (view_holding w by.process address 1) NOT_MAPPED_VIEW v at))

  read-does : (address n : ℕ) → Holds (P (read_virtual_memory address n)) (nt_read_virtual_memory w by address n)
  unfolding nt_read_virtual_memory
  read-does address n = bind_holds (memory_test w by address n) _ (P (read_virtual_memory address n)) (λ v at. o.reads_memory address n v at)

  write-does : (address : ℕ) (new : List ℕ) → Holds (P (write_virtual_memory address new)) (nt_write_virtual_memory w by address new)
  unfolding nt_write_virtual_memory
  write-does address new =
      let Q = P (write_virtual_memory address new) in
      bind_holds (memory_test w by address (length new)) _ Q (λ v at.
      bind_holds (refuse_if (not v.writable) ACCESS_VIOLATION) _ Q (λ u off. o.writes_memory address new v at (not-false v.writable (not_refused (not v.writable) ACCESS_VIOLATION u off))))

  read-range-does : (handle : ℕ) (bytes : List ℕ) (index n : ℕ) → Holds (P (read_request_data handle bytes index n)) (nt_read_request_data w by handle bytes index n)
  unfolding nt_read_request_data
  read-range-does handle bytes index n = bind_holds (described_test w by handle bytes index n) _ (P (read_request_data handle bytes index n)) (λ d at. o.reads_range handle bytes index n d at)

  write-range-does : (handle : ℕ) (bytes : List ℕ) (index : ℕ) (new : List ℕ) → Holds (P (write_request_data handle bytes index new)) (nt_write_request_data w by handle bytes index new)
  unfolding nt_write_request_data
  write-range-does handle bytes index new =
      let Q = P (write_request_data handle bytes index new) in
      bind_holds (described_test w by handle bytes index (length new)) _ Q (λ d at.
      bind_holds (refuse_if (not d.view.writable) ACCESS_VIOLATION) _ Q (λ u off. o.writes_range handle bytes index new d at (not-false d.view.writable (not_refused (not d.view.writable) ACCESS_VIOLATION u off))))

  impersonate-does : (handle : ℕ) (bytes : List ℕ) → Holds (P (impersonate_client_of_port handle bytes)) (nt_impersonate_client_of_port w by handle bytes)
  unfolding nt_impersonate_client_of_port
  impersonate-does handle bytes =
      let Q = P (impersonate_client_of_port handle bytes) in
      bind_holds (port_test w by handle) _ Q (λ port at.
      bind_holds (message_test bytes) _ Q (λ m read.
      bind_holds (refuse_if (not (is_server_port port)) INVALID_PORT_HANDLE) _ Q (λ _ _.
      bind_holds (client_test w m.header.client) _ Q (λ _ _.
      bind_holds (found_or (first (is_served_by port m) w.waits) REPLY_MESSAGE_MISMATCH) _ Q (λ x wait.
      bind_holds (found_or (allowed_by w x) REPLY_MESSAGE_MISMATCH) _ Q (λ own found. o.impersonates handle bytes own (record {
        port = port;
        message = m;
        wait = x;
        port_found = at;
        message_read = read;
        wait_found = found_ok (first (is_served_by port m) w.waits) REPLY_MESSAGE_MISMATCH x wait;
        token_found = found_ok (allowed_by w x) REPLY_MESSAGE_MISMATCH own found;
      })))))))

  revert-does : (class : ℕ) → Holds (P (set_information_thread class)) (nt_set_information_thread w by class)
  unfolding nt_set_information_thread
  revert-does class = bind_holds (refuse_if (not (class == THREAD_IMPERSONATION_TOKEN)) INVALID_PARAMETER) _ (P (set_information_thread class)) (λ _ _. o.reverts class)

  own-token-does : Holds (P open_thread_token) (nt_open_thread_token w by)
  unfolding nt_open_thread_token
  own-token-does =
      bind_holds (own_test by) _ (P open_thread_token) (λ own at.
      bind_holds (handles_test w by.process 1) _ (P open_thread_token) (λ _ _. o.opens_own own at))

  process-token-does : Holds (P open_process_token) (nt_open_process_token w by)
  unfolding nt_open_process_token
  process-token-does = bind_holds (handles_test w by.process 1) _ (P open_process_token) (λ _ _. o.opens_primary)

  query-token-does : (handle class : ℕ) → Holds (P (query_information_token handle class)) (nt_query_information_token w by handle class)
  unfolding nt_query_information_token
  query-token-does handle class =
      let Q = P (query_information_token handle class) in
      bind_holds (token_test w by handle) _ Q (λ t at.
      bind_holds (found_or (told_of t class) INVALID_PARAMETER) _ Q (λ field found. o.asks_token handle class t field at (found_ok (told_of t class) INVALID_PARAMETER field found)))

  set-does : (target : ProcArg) (class handle : ℕ) → Holds (P (set_information_process target class handle)) (nt_set_information_process w by target class handle)
  unfolding nt_set_information_process
  set-does target class handle =
      let Q = P (set_information_process target class handle) in
      bind_holds (process_target w by target) _ Q (λ pid at.
      bind_holds (port_test w by handle) _ Q (λ port found.
      bind_holds (live_test w pid) _ Q (λ u off.
      bind_holds (class_test class) _ Q (λ _ _.
      bind_holds (unset_test w pid class) _ Q (λ _ _. o.sets target class handle pid port at found (not-false (is_live w pid) (not_refused (not (is_live w pid)) INVALID_CID u off)))))))

  raise-does : (code : ℕ) (handled : Bool) → Holds (P (raise code handled)) (raise_exception w by code handled)
  unfolding raise_exception
  raise-does code handled = at (from_first w by.process handled) (first-holds (IsHearing w by.process) w by.process handled (λ chance h is. record { chance = chance; found = is }))
    where
      at : (n : Next) → WhereHeard (IsHearing w by.process) n → P (raise code handled) (raise_steps by code handled n w)
      at Handled is = o.handles code handled
      at (Heard h) is = o.hears code handled h is
      at Unhandled is = o.fails code handled

  pub service-does : (call : ScriptCall) → Holds (P call) (service_of w by call)
  service-does (create_port name dacl) = create-does name dacl
  service-does (connect_port name quality view bytes) = connect-does name quality view bytes
  service-does (listen_port handle) = listen-does handle
  service-does (accept_connect_port context bytes accept view) = accept-does context bytes accept view
  service-does (complete_connect_port handle) = complete-does handle
  service-does (request_port handle bytes) = datagram-does handle bytes
  service-does (request_wait_reply_port handle bytes) = request-does handle bytes
  service-does (reply_port handle bytes) = reply-does handle bytes
  service-does (reply_wait_receive_port handle bytes) = receive-does handle bytes
  service-does (register_thread_terminate_port handle) = register-does handle
  service-does (close handle) = close-does handle
  service-does (duplicate_object handle access) = duplicate-does handle access
  service-does (query_object handle) = query-does handle
  service-does (create_process pid tid) = process-made (P (create_process pid tid)) w by pid tid (λ new unused. o.spawns pid tid new unused)
  service-does (create_thread target tid) = create-thread-does target tid
  service-does (terminate_thread target code) = thread-does target code
  service-does (terminate_process target code) = process-does target code
  service-does (create_section size prot) = create-section-does size prot
  service-does (map_view_of_section handle offset size prot) = map-does handle offset size prot
  service-does (unmap_view_of_section address) = unmap-does address
  service-does (read_virtual_memory address n) = read-does address n
  service-does (write_virtual_memory address new) = write-does address new
  service-does (read_request_data handle bytes index n) = read-range-does handle bytes index n
  service-does (write_request_data handle bytes index new) = write-range-does handle bytes index new
  service-does (impersonate_client_of_port handle bytes) = impersonate-does handle bytes
  service-does (set_information_thread class) = revert-does class
  service-does open_thread_token = own-token-does
  service-does open_process_token = process-token-does
  service-does (query_information_token handle class) = query-token-does handle class
  service-does (set_information_process target class handle) = set-does target class handle
  service-does (raise code handled) = raise-does code handled
