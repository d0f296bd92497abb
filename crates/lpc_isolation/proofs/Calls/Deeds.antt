-- What calls come to in the machine whose rows never go, each with its steps and what its tests found. What holds of each deed
-- holds of each call that is served.
use Rattle.lpc_model.specs.declared.line.ProcArg.{ProcArg}
use Rattle.lpc_model.specs.Targets.{process_target}
use Rattle.lpc_model.proofs.Calls.Raising.{IsHearing}
use Rattle.lpc_model.specs.Raise.{Handled, Heard, Hearing, Unhandled, raise_steps, set_port_steps}
use Rattle.lpc_tokens.specs.declared.security.Security.TheVariants.{Guarded}
use Rattle.lpc_model.specs.Ranges.{Described, described_test, read_range_steps, write_range_steps}
use Rattle.lpc_base.specs.Views.{whole_pages}
use Rattle.lpc_base.specs.declared.limits.TheConstants.{SECTION_LIMIT}
use Rattle.lpc_model.specs.Refusal.{refuse_if}
use Rattle.lpc_model.specs.Register.{is_registered, register_steps}
use Rattle.lpc_model.specs.Counts.{asked, counts_of, duplicate_steps}
use Rattle.lpc_model.specs.declared.entry.CallName.TheVariants.{NtDuplicateObject, NtMapViewOfSection, NtQueryObject, NtReadVirtualMemory, NtRegisterThreadTerminatePort, NtUnmapViewOfSection, NtWriteVirtualMemory, NtReadRequestData, NtWriteRequestData, NtOpenProcessToken, NtOpenThreadToken, NtQueryInformationToken, NtSetInformationThread}
use Rattle.lpc_model.specs.Memory.{map_steps, mapped_view, memory_test, read_steps, section_steps, section_test, mapping_right, unmap_steps, write_steps, protection_test, is_transfer}
use Rattle.lpc_model.proofs.Calls.Outcomes.{IsMapping, IsConnecting, IsAccepting, IsAllowed}
use Rattle.lpc_base.specs.Rows.{first, when}
use Rattle.lpc_base.specs.declared.status.Status.{Status}
use Rattle.lpc_base.specs.declared.status.TheConstants.{INVALID_HANDLE, SUCCESS, INVALID_PARAMETER_4, SECTION_TOO_BIG, ACCESS_VIOLATION, INVALID_PARAMETER}
use Rattle.lpc_isolation.proofs.Gone.Served.{served, standing_load_test}
use Rattle.lpc_message.specs.declared.kind.TheConstants.{DATAGRAM, REQUEST}
use Rattle.lpc_model.proofs.Steps.Ending.{answered_end}
use Rattle.lpc_model.proofs.Calls.Holding.{Holds, bind_holds, holds-more, found_ok, found_holds, not_refused}
use Rattle.lpc_model.proofs.Calls.Outcomes.{AreDoomed, EndCall, IsReceiving, Outcomes, end_call, of_process, of_thread, service-does}
use Rattle.lpc_model.specs.Basics.{AddsHandle, Basic, DrawsIdentifier, Maps, Registers, Tells, Unmaps, Writes, Acts, Secures}
use Rattle.lpc_model.specs.Close.{close_steps}
use Rattle.lpc_model.specs.Connect.{Completable, ConnectAnswer, accept_steps, answer_test, complete_steps, complete_test, connect_steps, connection_request, create_steps, listen_steps, named_steps, refuse_steps, unnamed_steps, allow_steps, guard_steps}
use Rattle.lpc_model.specs.Found.{free_handle, handle_at, is_queued, is_queued_connect, view_holding, is_live}
use Rattle.lpc_model.specs.Lines.{ScriptCall, accept_connect_port, close, complete_connect_port, connect_port, create_port, create_process, create_thread, listen_port, query_object, reply_port, reply_wait_receive_port, request_port, request_wait_reply_port, terminate_process, terminate_thread, duplicate_object, register_thread_terminate_port, create_section, map_view_of_section, unmap_view_of_section, read_virtual_memory, write_virtual_memory, read_request_data, write_request_data, impersonate_client_of_port, open_process_token, open_thread_token, query_information_token, set_information_thread, raise, set_information_process}
use Rattle.lpc_model.specs.Message.{message_test}
use Rattle.lpc_model.specs.Named.{free_name}
use Rattle.lpc_model.specs.Request.{Sendable, datagram_send_test, datagram_steps, receive_steps, reply_steps, reply_test, request_steps, send_test, sent_by}
use Rattle.lpc_model.specs.Tests.{next_birth, own_handle, port_test, handles_test}
use Rattle.lpc_model.specs.World.{Birth, HandleRow, MessageRow, Path, PortRow, SectionRow, ThreadRow, ViewRow, WaitRow, World, Offer, Dacl, Impersonation, Qos, TokenRow, Security}
use Rattle.lpc_model.specs.declared.entry.CallName.{CallName}
use Rattle.lpc_model.specs.declared.entry.Entry.TheVariants.{Answer}
use Rattle.lpc_model.specs.declared.entry.Field.{Field}
use Rattle.lpc_model.specs.declared.message.Message.{Message}
use Rattle.std.proofs.Common.{Bool, List, None, Option, Some, [], false, refl, true, ℕ, ◌∷◌, ◌≡◌, not, subst, ◌++◌}
use Rattle.std.specs.Prelude.{Ok, length, ◌==◌, nat_lt}
use Rattle.lpc_model.specs.Offers.{SharedViews}
use Rattle.lpc_model.specs.declared.line.ViewWord.{ViewWord}
use Rattle.lpc_model.specs.Impersonation.{held_content, impersonate_steps, own_test, process_content, revert_steps, told_of, told_steps, token_steps, token_test}

-- Tame calls: they tell an answer, and change rows of their own process alone, or bytes that views show
-- a step of such a call: a further handle to an object that a handle of the process names, a port registered that one names, a number drawn;
-- a view of a section that such a handle names, a view of the process that goes, bytes of a section written; the thread acts as
-- another or as itself
pub data IsTame (w : World) (by : ThreadRow) : Basic → Type 0 where
  gives : (h r : HandleRow) (value : ℕ) → handle_at w by.process value ≡ Some r → r.object ≡ h.object → IsTame w by (AddsHandle by.process h)
  registers : (p : PortRow) (value : ℕ) → port_test w by value ≡ Ok p → IsTame w by (Registers by.number p.birth)
  numbers : IsTame w by (DrawsIdentifier by.number)
  maps : (v : ViewRow) (s : SectionRow) (rights value : ℕ) → section_test w by rights value ≡ Ok s → v.section ≡ s.birth → v.owner ≡ None → IsTame w by (Maps by.process v)
  unmaps : (base : ℕ) → IsTame w by (Unmaps by.process base)
  writes : (b : Birth) (place : ℕ) (new : List ℕ) → IsTame w by (Writes b place new)
  acts : (own : Option Impersonation) → IsTame w by (Acts by.number own)

pub data AreTame (w : World) (by : ThreadRow) : List Basic → Type 0 where
  none : AreTame w by []
  more : {b : Basic} {bs : List Basic} → IsTame w by b → AreTame w by bs → AreTame w by (b ∷ bs)

-- a call that makes no thread
abbrev pub is_calm : ScriptCall → Bool
is_calm (create_process pid tid) = false
is_calm (create_thread target tid) = false
is_calm call = true

-- a call that ends no thread, and none of exceptions
abbrev pub spares : ScriptCall → Bool
spares (terminate_thread target code) = false
spares (terminate_process target code) = false
spares (set_information_process target class port) = false
spares (raise code handled) = false
spares call = true

-- a call that is tame
abbrev pub is_tame : ScriptCall → Bool
is_tame (register_thread_terminate_port handle) = true
is_tame (duplicate_object handle access) = true
is_tame (query_object handle) = true
is_tame (map_view_of_section handle offset size prot) = true
is_tame (unmap_view_of_section address) = true
is_tame (read_virtual_memory address n) = true
is_tame (write_virtual_memory address new) = true
is_tame (read_request_data handle bytes index n) = true
is_tame (write_request_data handle bytes index new) = true
is_tame (set_information_thread class) = true
is_tame (query_information_token handle class) = true
is_tame call = false

pub ends-some : (call : EndCall) → spares (end_call call) ≡ false
ends-some (of_thread target code) = refl
ends-some (of_process target code) = refl

-- what the tame calls come to
pub record Tames (w : World) (by : ThreadRow) (P : ScriptCall → List Basic → Type 0) : Type 0 where
  pub of_register : (handle : ℕ) (port : PortRow) → port_test w by handle ≡ Ok port → P (register_thread_terminate_port handle) (register_steps by port.birth)
  pub of_duplicate : (handle : ℕ) (access : Option ℕ) (r : HandleRow) → handle_at w by.process handle ≡ Some r → P (duplicate_object handle access) (duplicate_steps by (free_handle w by.process) r (asked r access))
  pub of_query : (handle : ℕ) (r : HandleRow) (fields : List Field) → handle_at w by.process handle ≡ Some r → P (query_object handle) (Tells (Answer by.number NtQueryObject SUCCESS fields) ∷ [])
  pub of_map : (handle offset size prot : ℕ) (s : SectionRow) (rounded base : ℕ) → IsMapping w by handle offset size prot s rounded base → P (map_view_of_section handle offset size prot) (map_steps by (mapped_view s offset rounded prot base))
  pub of_unmap : (address : ℕ) (v : ViewRow) → view_holding w by.process address 1 ≡ Some v → P (unmap_view_of_section address) (unmap_steps by v)
  pub of_read : (address n : ℕ) (v : ViewRow) → memory_test w by address n ≡ Ok v → P (read_virtual_memory address n) (read_steps w.contents by address n v)
  pub of_write : (address : ℕ) (new : List ℕ) (v : ViewRow) → memory_test w by address (length new) ≡ Ok v → v.writable ≡ true → P (write_virtual_memory address new) (write_steps by address new v)
  pub of_read_range : (handle : ℕ) (bytes : List ℕ) (index n : ℕ) (d : Described) → described_test w by handle bytes index n ≡ Ok d → P (read_request_data handle bytes index n) (read_range_steps w.contents by n d)
  pub of_write_range : (handle : ℕ) (bytes : List ℕ) (index : ℕ) (new : List ℕ) (d : Described) → described_test w by handle bytes index (length new) ≡ Ok d → d.view.writable ≡ true → P (write_request_data handle bytes index new) (write_range_steps by new d)
  pub of_revert : (class : ℕ) → P (set_information_thread class) (revert_steps by)
  pub of_ask : (handle class : ℕ) (t : TokenRow) (field : Field) → token_test w by handle ≡ Ok t → told_of t class ≡ Some field → P (query_information_token handle class) (told_steps by field)

-- the view in which the bytes of a call lie
pub memory-held : (w : World) (by : ThreadRow) (address n : ℕ) → Holds (λ v. view_holding w by.process address n ≡ Some v) (memory_test w by address n)
memory-held w by address n =
    let P : ViewRow → Type 0 = λ v. view_holding w by.process address n ≡ Some v in
    bind_holds (refuse_if (not (is_transfer n)) INVALID_PARAMETER) _ P (λ _ _. found_holds P (view_holding w by.process address n) ACCESS_VIOLATION (λ v at. at))

-- what holds of each answer with such steps behind it holds of them
pub any-tame : {w : World} {by : ThreadRow} {P : ScriptCall → List Basic → Type 0} → ((call : ScriptCall) (name : CallName) (fields : List Field) (bs : List Basic) → is_tame call ≡ true → AreTame w by bs → P call (Tells (Answer by.number name SUCCESS fields) ∷ bs)) → Tames w by P
any-tame {w} {by} {P} all = record {
  of_register = λ handle port at. all (register_thread_terminate_port handle) NtRegisterThreadTerminatePort [] _ refl (at_most handle port at (not (is_registered port.birth by)));
  of_duplicate = λ handle access r at. all (duplicate_object handle access) NtDuplicateObject _ _ refl (more (gives _ r handle at refl) none);
  of_query = λ handle r fields at. all (query_object handle) NtQueryObject fields [] refl none;
  of_map = λ handle offset size prot s rounded base is. all (map_view_of_section handle offset size prot) NtMapViewOfSection _ _ refl (more (maps _ s (mapping_right prot) handle is.section refl refl) none);
  of_unmap = λ address v at. all (unmap_view_of_section address) NtUnmapViewOfSection [] _ refl (more (unmaps v.base) none);
  of_read = λ address n v at. all (read_virtual_memory address n) NtReadVirtualMemory _ [] refl none;
  of_write = λ address new v at may. all (write_virtual_memory address new) NtWriteVirtualMemory [] _ refl (more (writes _ _ _) none);
  of_read_range = λ handle bytes index n d at. all (read_request_data handle bytes index n) NtReadRequestData _ [] refl none;
  of_write_range = λ handle bytes index new d at may. all (write_request_data handle bytes index new) NtWriteRequestData [] _ refl (more (writes _ _ _) none);
  of_revert = λ class. all (set_information_thread class) NtSetInformationThread [] _ refl (more (acts None) none);
  of_ask = λ handle class t field at told. all (query_information_token handle class) NtQueryInformationToken (field ∷ []) [] refl none;
}
  where
    at_most : (handle : ℕ) (port : PortRow) → port_test w by handle ≡ Ok port → (new : Bool) → AreTame w by (when new (Registers by.number port.birth ∷ []))
    at_most handle port at true = more (registers port handle at) none
    at_most handle port at false = none

-- the steps behind those that make a port: whom it may be opened by
pub guarded : (P : List Basic → Type 0) (b : Birth) (name : List ℕ) (dacl : Option Dacl) → P [] → ((s : Security) → P (Secures b s ∷ [])) → P (guard_steps b (Some name) dacl)
guarded P b name None bare one = bare
guarded P b name (Some d) bare one = one (Guarded d)

-- What such calls of a thread come to in a world
pub record Deeds (w : World) (by : ThreadRow) (P : ScriptCall → List Basic → Type 0) : Type 0 where
  pub creates : (dacl : Option Dacl) → P (create_port None dacl) (create_steps by (unnamed_steps (next_birth by)) (free_handle w by.process))
  pub founds : (name : List ℕ) (dacl : Option Dacl) (path : Path) → free_name w name ≡ Ok path → P (create_port (Some name) dacl) (create_steps by (named_steps (next_birth by) path) (free_handle w by.process) ++ guard_steps (next_birth by) (Some name) dacl)
  pub connects : (name : List ℕ) (quality : Qos) (word : Option ViewWord) (bytes : List ℕ) (offer : Option Offer) (own : Option ViewRow) (connection : Birth) → IsConnecting w by name word offer own connection → P (connect_port name quality word bytes) (connect_steps by connection offer own (connection_request by offer bytes) w ++ allow_steps w by quality)
  pub listens : (handle : ℕ) (port : PortRow) (o : Option MessageRow) → port_test w by handle ≡ Ok port → first (is_queued_connect port.birth) w.messages ≡ o → P (listen_port handle) (listen_steps by port.birth o)
  pub refuses : (context : ℕ) (bytes : List ℕ) (word : Option ViewWord) (a : ConnectAnswer) → answer_test w by bytes ≡ Ok a → P (accept_connect_port context bytes false word) (refuse_steps by a)
  pub accepts : (context : ℕ) (bytes : List ℕ) (word : Option ViewWord) (offer : Option Offer) (a : ConnectAnswer) (views : SharedViews) → IsAccepting w by bytes word offer a views → P (accept_connect_port context bytes true word) (accept_steps by context (free_handle w by.process) a views)
  pub completes : (handle : ℕ) (r : Completable) → complete_test w by handle ≡ Ok r → P (complete_connect_port handle) (complete_steps by (free_handle w r.wait.process) r)
  pub sends : (handle : ℕ) (bytes : List ℕ) (s : Sendable) → datagram_send_test w by handle bytes ≡ Ok s → P (request_port handle bytes) (datagram_steps by s.port s.queue (sent_by by DATAGRAM s.message) w)
  pub asks : (handle : ℕ) (bytes : List ℕ) (s : Sendable) → send_test w by handle bytes ≡ Ok s → P (request_wait_reply_port handle bytes) (request_steps by s.port s.queue (sent_by by REQUEST s.message) w)
  pub replies : (handle : ℕ) (bytes : List ℕ) (port : PortRow) (m : Message) (x : WaitRow) → port_test w by handle ≡ Ok port → message_test bytes ≡ Ok m → reply_test w port m ≡ Ok x → P (reply_port handle bytes) (reply_steps by x m)
  pub receives : (handle : ℕ) (bytes : Option (List ℕ)) (a : Option Message) (port : PortRow) (queue : Birth) (replied : List Basic) (o : Option MessageRow) → IsReceiving w by handle bytes a port queue replied → first (is_queued queue) w.messages ≡ o → P (reply_wait_receive_port handle bytes) (receive_steps by port queue replied o)
  pub closes : (handle : ℕ) (r : HandleRow) → handle_at w by.process handle ≡ Some r → P (close handle) (close_steps by r w)
  pub makes_section : (size prot : ℕ) → P (create_section size prot) (section_steps by size prot (free_handle w by.process))
  pub impersonates : (handle : ℕ) (bytes : List ℕ) (own : Impersonation) → IsAllowed w by handle bytes own → P (impersonate_client_of_port handle bytes) (impersonate_steps by own)
  pub opens_own : (own : Impersonation) → own_test by ≡ Ok own → P open_thread_token (token_steps by NtOpenThreadToken (held_content own) (free_handle w by.process))
  pub opens_primary : P open_process_token (token_steps by NtOpenProcessToken (process_content w by) (free_handle w by.process))
  pub sets : (target : ProcArg) (class handle pid : ℕ) (port : PortRow) → process_target w by target ≡ Ok pid → port_test w by handle ≡ Ok port → is_live w pid ≡ true → P (set_information_process target class handle) (set_port_steps by class pid port.birth)
  pub handles : (code : ℕ) (handled : Bool) → P (raise code handled) (raise_steps by code handled Handled w)
  pub hears : (code : ℕ) (handled : Bool) (h : Hearing) → IsHearing w by.process h → P (raise code handled) (raise_steps by code handled (Heard h) w)
  pub fails : (code : ℕ) (handled : Bool) → P (raise code handled) (raise_steps by code handled Unhandled w)
  pub tames : Tames w by P
  pub ends : (call : EndCall) (name : CallName) (own : Bool) (pid : ℕ) (code : Status) (ts : List ThreadRow) → AreDoomed w by own pid ts → P (end_call call) (answered_end by name own pid code ts w)

-- what holds of each outcome, and of a query with any fields, holds of each call that is served
pub served-does : (w : World) (by : ThreadRow) (P : ScriptCall → List Basic → Type 0) → Outcomes w by P → ((handle : ℕ) (r : HandleRow) (fields : List Field) → handle_at w by.process handle ≡ Some r → P (query_object handle) (Tells (Answer by.number NtQueryObject SUCCESS fields) ∷ [])) → (call : ScriptCall) → Holds (P call) (served w by call)
served-does w by P o queries (query_object handle) = bind_holds (own_handle w by handle) _ (P (query_object handle)) (λ r at. queries handle r _ (found_ok (handle_at w by.process handle) INVALID_HANDLE r at))
served-does w by P o queries (create_section size prot) =
    let Q : List Basic → Type 0 = P (create_section size prot) in
    bind_holds (protection_test prot) _ Q (λ p protected.
    bind_holds (refuse_if (size == 0) INVALID_PARAMETER_4) _ Q (λ x some.
    bind_holds (refuse_if (nat_lt SECTION_LIMIT size) SECTION_TOO_BIG) _ Q (λ y most.
    bind_holds (standing_load_test w by.process (whole_pages size)) _ Q (λ _ _.
    bind_holds (handles_test w by.process 1) _ Q (λ _ _. o.makes_section size prot (record {
      protection = protected;
      some = not_refused _ INVALID_PARAMETER_4 x some;
      most = not_refused _ SECTION_TOO_BIG y most;
    }))))))
served-does w by P o queries call = service-does w by P o call

module _ (w : World) (by : ThreadRow) (P : ScriptCall → List Basic → Type 0) (d : Deeds w by P) where
  abbrev registering : Bool → PortRow → List Basic
  registering known port = Tells (Answer by.number NtRegisterThreadTerminatePort SUCCESS []) ∷ when (not known) (Registers by.number port.birth ∷ [])

  -- calls that are tame are so here, for all laws
  outcomes-of : Outcomes w by (λ call bs. is_calm call ≡ true → P call bs)
  outcomes-of = record {
    creates = λ dacl _. d.creates dacl;
    founds = λ name dacl path free _. d.founds name dacl path free;
    connects = λ name quality word bytes offer own connection is _. d.connects name quality word bytes offer own connection is;
    listens = λ handle port m l at _. d.listens handle port (Some m) l.port_found at;
    awaits_connect = λ handle port l at _. d.listens handle port None l.port_found at;
    refuses = λ context bytes word a at _. d.refuses context bytes word a at;
    accepts = λ context bytes word offer a views is _. d.accepts context bytes word offer a views is;
    completes = λ handle r at _. d.completes handle r at;
    sends = λ handle bytes s at _. d.sends handle bytes s at;
    asks = λ handle bytes s at _. d.asks handle bytes s at;
    replies = λ handle bytes port m x at read fits _. d.replies handle bytes port m x at read fits;
    receives = λ handle bytes a port queue replied m r at _. d.receives handle bytes a port queue replied (Some m) r at;
    awaits_message = λ handle bytes a port queue replied r at _. d.receives handle bytes a port queue replied None r at;
    registers = λ handle port at new few _. subst (λ known. P (register_thread_terminate_port handle) (registering known port)) new (d.tames.of_register handle port at);
    repeats = λ handle port at known _. subst (λ known. P (register_thread_terminate_port handle) (registering known port)) known (d.tames.of_register handle port at);
    closes = λ handle r at _. d.closes handle r at;
    duplicates = λ handle access r at _. d.tames.of_duplicate handle access r at;
    queries = λ handle r at _. d.tames.of_query handle r (counts_of w r) at;
    spawns = λ pid tid new unused off. absurd (cc);
    starts = λ target tid pid at live unused off. absurd (cc);
    makes_section = λ size prot asked _. d.makes_section size prot;
    maps_view = λ handle offset size prot s rounded base is _. d.tames.of_map handle offset size prot s rounded base is;
    unmaps_view = λ address v at _. d.tames.of_unmap address v at;
    reads_memory = λ address n v at _. d.tames.of_read address n v at;
    writes_memory = λ address new v at may _. d.tames.of_write address new v at may;
    reads_range = λ handle bytes index n x at _. d.tames.of_read_range handle bytes index n x at;
    writes_range = λ handle bytes index new x at may _. d.tames.of_write_range handle bytes index new x at may;
    impersonates = λ handle bytes own is _. d.impersonates handle bytes own is;
    reverts = λ class _. d.tames.of_revert class;
    opens_own = λ own at _. d.opens_own own at;
    opens_primary = λ _. d.opens_primary;
    asks_token = λ handle class t field at told _. d.tames.of_ask handle class t field at told;
    sets = λ target class handle pid port at found live _. d.sets target class handle pid port at found live;
    handles = λ code handled _. d.handles code handled;
    hears = λ code handled h is _. d.hears code handled h is;
    fails = λ code handled _. d.fails code handled;
    ends = λ call name own pid code ts doomed _. d.ends call name own pid code ts doomed;
  }

  pub deeds-do : (call : ScriptCall) → is_calm call ≡ true → Holds (P call) (served w by call)
  deeds-do call is =
      let Q : ScriptCall → List Basic → Type 0 = λ call bs. is_calm call ≡ true → P call bs in
      holds-more (Q call) (P call) (served w by call) (λ bs all. all is) (served-does w by Q outcomes-of (λ handle r fields at _. d.tames.of_query handle r fields at) call)
