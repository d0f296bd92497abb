-- Each service owes what its calls' lines need.
use Rattle.lpc_model.specs.Raise.{nt_set_information_process, raise_exception}
use Rattle.lpc_model.specs.Linked.{IsLinked}
use Rattle.lpc_base.specs.declared.status.Status.{Status}
use Rattle.lpc_model.specs.Message.{message_test}
use Rattle.lpc_model.specs.declared.entry.CallName.TheVariants.{NtOpenThreadToken, NtOpenProcessToken}
use Rattle.lpc_model.specs.Impersonation.{impersonate_steps, token_steps, held_content, process_content, own_test, revert_steps, is_served_by, allowed_by, nt_impersonate_client_of_port}
use Rattle.lpc_base.specs.declared.status.TheConstants.{NOT_MAPPED_VIEW, INVALID_PORT_HANDLE, REPLY_MESSAGE_MISMATCH}
use Rattle.lpc_model.specs.Refusal.{found_or, refuse_if}
use Rattle.lpc_model.specs.Memory.{nt_map_view_of_section, section_steps, unmap_steps}
use Rattle.std.proofs.Common.{◌≡◌, ℕ, List, [], true, false, Option, Some, None, not, ap, refl}
use Rattle.std.specs.Prelude.{Ok, Result, Err}
use Rattle.lpc_base.specs.Rows.{every, first, given}
use Rattle.lpc_model.specs.World.{Birth, Contents, ThreadRow, World, Impersonation}
use Rattle.lpc_model.specs.Found.{free_handle, live_thread, wait_of, view_holding, is_server_port}
use Rattle.lpc_model.specs.Basics.{Basic, world_after}
use Rattle.lpc_model.specs.Connect.{ConnectAnswer, answer_test}
use Rattle.lpc_model.specs.Tests.{own_handle, port_test, client_test}
use Rattle.lpc_model.specs.Lines.{ScriptCall, accept_connect_port, close, complete_connect_port, connect_port, create_port, duplicate_object, listen_port, query_object, reply_port, reply_wait_receive_port, request_port, request_wait_reply_port, register_thread_terminate_port, create_process, create_thread, terminate_thread, terminate_process, create_section, map_view_of_section, unmap_view_of_section, read_virtual_memory, write_virtual_memory, read_request_data, write_request_data, impersonate_client_of_port, open_process_token, open_thread_token, query_information_token, set_information_thread, raise, set_information_process}
use Rattle.lpc_model.specs.Close.{close_steps}
use Rattle.lpc_model.specs.Counts.{asked, duplicate_steps}
use Rattle.lpc_model.specs.Death.{terminate_thread_steps, code_status, terminate_process_steps}
use Rattle.lpc_model.specs.Register.{register_steps}
use Rattle.lpc_model.specs.Creation.{making_process, making_thread}
use Rattle.lpc_model.specs.Targets.{process_target, thread_target}
use Rattle.lpc_model.specs.declared.line.ProcArg.{ProcArg}
use Rattle.lpc_isolation.proofs.Gone.Served.{served}
use Rattle.lpc_model.specs.SoundWaits.{IsSoundWorld, HasShutConnects}
use Rattle.lpc_model.proofs.Calls.Holding.{Holds, holds-more, bind_holds}
use Rattle.lpc_model.specs.Circle.{Group, Whose, owner, given_in}
use Rattle.lpc_isolation.proofs.Views.Alone.{HasFineRows, HasFineRaisers}
use Rattle.lpc_isolation.proofs.Views.View.{view}
use Rattle.lpc_isolation.proofs.Views.Basics.{are_ours}
use Rattle.lpc_isolation.proofs.Rows.Fair.{Fair}
use Rattle.lpc_isolation.proofs.Views.Apart.{Owned}
use Rattle.lpc_isolation.proofs.Views.Callers.{Answered, Led, answered-same, led-same, on_ok}
use Rattle.lpc_isolation.proofs.Each.Enter.{sound-patient}
use Rattle.lpc_isolation.proofs.Each.Create.{led_create}
use Rattle.lpc_isolation.proofs.Each.Reply.{led_reply_port}
use Rattle.lpc_isolation.proofs.Views.Mine.{Ways}
use Rattle.lpc_isolation.proofs.Rows.Names.{SeenNames}
use Rattle.lpc_isolation.proofs.Rows.Bound.{OnceBound}
use Rattle.lpc_isolation.proofs.Rows.Paths.{Paths}
use Rattle.lpc_isolation.proofs.Rows.Asked.{Asked}
use Rattle.lpc_isolation.proofs.Each.Sends.{Caller, led_datagram}
use Rattle.lpc_isolation.proofs.Each.Requests.{led_request}
use Rattle.lpc_isolation.proofs.Each.Takes.{is_readable}
use Rattle.lpc_isolation.proofs.Each.Listens.{led_listen, own_entry}
use Rattle.lpc_isolation.proofs.Each.Receive.{led_receive}
use Rattle.lpc_isolation.proofs.Each.Connects.{led_connect}
use Rattle.lpc_isolation.proofs.Each.Completes.{led_complete}
use Rattle.lpc_isolation.proofs.Each.Accepts.{led_answer}
use Rattle.lpc_isolation.proofs.Plays.Lines.{Leads, seeing, own_given, IsGiven}
use Rattle.lpc_model.specs.declared.entry.Entry.{Entry}

-- by its answer alone
abbrev led_close : World → ThreadRow → ℕ → List Basic
led_close v by handle = on_ok (own_handle v by handle) (λ r. close_steps by r v)

abbrev led_duplicate : World → ThreadRow → ℕ → Option ℕ → List Basic
led_duplicate v by handle access = on_ok (own_handle v by handle) (λ r. duplicate_steps by (free_handle v by.process) r (asked r access))

abbrev led_register : World → ThreadRow → ℕ → List Basic
led_register v by handle = on_ok (port_test v by handle) (λ port. register_steps by port.birth)

abbrev led_thread : World → ThreadRow → ProcArg → ℕ → List Basic
led_thread v by target tid = on_ok (process_target v by target) (making_thread v by tid)

abbrev led_end : World → ThreadRow → ProcArg → ℕ → List Basic
led_end v by target code = on_ok (thread_target v by target) (λ t. terminate_thread_steps by (code_status code) t v)

abbrev led_ends : World → ThreadRow → ProcArg → ℕ → List Basic
led_ends v by target code = on_ok (process_target v by target) (λ pid. terminate_process_steps v by (code_status code) pid v)

abbrev led_map : World → ThreadRow → ℕ → ℕ → ℕ → ℕ → List Basic
led_map v by handle offset size prot = on_ok (nt_map_view_of_section v by handle offset size prot) (λ bs. bs)

abbrev led_unmap : World → ThreadRow → ℕ → List Basic
led_unmap v by address = on_ok (found_or (view_holding v by.process address 1) NOT_MAPPED_VIEW) (unmap_steps by)

-- what a member other than c does in a view, by what it was told; the queue of an outsider's connect is known from before
abbrev pub leads_by : Group → (List ℕ → Birth) → World → ThreadRow → ScriptCall → Entry → Option Impersonation → List Basic
leads_by m known v by (create_port name dacl) e o = led_create v by name dacl
leads_by m known v by (connect_port name quality word info) e o = led_connect v by name quality word info
leads_by m known v by (listen_port handle) e o = led_listen m v by handle e
leads_by m known v by (accept_connect_port context bytes accept word) e o = led_answer m v by context bytes accept word (known bytes) e
leads_by m known v by (complete_connect_port handle) e o = led_complete v by handle
leads_by m known v by (request_port handle bytes) e o = led_datagram v by handle bytes
leads_by m known v by (request_wait_reply_port handle bytes) e o = led_request v by handle bytes
leads_by m known v by (reply_port handle bytes) e o = led_reply_port v bytes
leads_by m known v by (reply_wait_receive_port handle bytes) e o = led_receive m v by handle bytes e
leads_by m known v by (close handle) e o = led_close v by handle
leads_by m known v by (duplicate_object handle access) e o = led_duplicate v by handle access
leads_by m known v by (query_object handle) e o = []
leads_by m known v by (register_thread_terminate_port handle) e o = led_register v by handle
leads_by m known v by (create_process pid tid) e o = making_process v by pid tid
leads_by m known v by (create_thread target tid) e o = led_thread v by target tid
leads_by m known v by (create_section size prot) e o = section_steps by size prot (free_handle v by.process)
leads_by m known v by (map_view_of_section handle offset size prot) e o = led_map v by handle offset size prot
leads_by m known v by (unmap_view_of_section address) e o = led_unmap v by address
leads_by m known v by (read_virtual_memory address n) e o = []
leads_by m known v by (write_virtual_memory address new) e o = []
leads_by m known v by (read_request_data handle bytes index n) e o = []
leads_by m known v by (write_request_data handle bytes index new) e o = []
leads_by m known v by (impersonate_client_of_port handle bytes) e o = given o (impersonate_steps by)
leads_by m known v by open_process_token e o = token_steps by NtOpenProcessToken (process_content v by) (free_handle v by.process)
leads_by m known v by open_thread_token e o = on_ok (own_test by) (λ own. token_steps by NtOpenThreadToken (held_content own) (free_handle v by.process))
leads_by m known v by (query_information_token handle class) e o = []
leads_by m known v by (set_information_thread class) e o = revert_steps by
leads_by m known v by (terminate_thread target code) e o = led_end v by target code
leads_by m known v by (terminate_process target code) e o = led_ends v by target code
leads_by m known v by (set_information_process target class handle) e o = on_ok (nt_set_information_process v by target class handle) (λ bs. bs)
leads_by m known v by (raise code handled) e o = on_ok (raise_exception v by code handled) (λ bs. bs)

abbrev pub leading : Group → (List ℕ → Birth) → Contents → Leads
leading m known k = record { lead = leads_by m known; bytes = k }

-- what holds where a thread that waits for nothing calls
pub record At (m : Group) (c : ℕ) (w : World) (by : ThreadRow) (known : List ℕ → Birth) : Type 0 where
  pub c_in : m c ≡ true
  pub fair : Fair m c w
  pub fine : HasFineRows m c w
  pub sound : IsSoundWorld w
  pub linked : IsLinked w
  pub shut : HasShutConnects w
  pub owned : Owned w w
  pub names : SeenNames m w.bindings
  pub ways : Ways m w
  pub readable : every is_readable w.messages ≡ true
  pub bound : OnceBound w.bindings
  pub paths : Paths w
  pub asked : Asked w
  pub unmarked : w.marks ≡ []
  pub raisers : HasFineRaisers m w
  pub live : live_thread w by.number ≡ Some by
  pub own : owner w by.number ≡ Some by.process
  pub idle : wait_of w by.number ≡ None
  pub knows : (bytes : List ℕ) (a : ConnectAnswer) → m by.process ≡ true → answer_test w by bytes ≡ Ok a → m a.wait.process ≡ false → known bytes ≡ a.wait.queue

pub caller : (m : Group) (c : ℕ) (w : World) (by : ThreadRow) (known : List ℕ → Birth) (u : World) → At m c w by known → u.used_threads ≡ w.used_threads → Caller m c u w by
caller m c w by known u a used = record {
  c_in = a.c_in;
  fair = a.fair;
  fine = a.fine;
  patient = sound-patient w a.sound.waits;
  owned = rw used a.owned;
  here = rw used a.own;
  own = a.own;
  idle = a.idle;
  once = a.sound.once;
  used = used;
  names = a.names;
  sound = a.sound;
  shut = a.shut;
  live = a.live;
  bound = a.bound;
  paths = a.paths;
  asked = a.asked;
  unmarked = a.unmarked;
  raisers = a.raisers;
}

-- of c: where the view answers as the world does, by members' steps, it changes as the world does
pub own-same : (m : Group) (c : ℕ) (u : World) (d : Whose) (w : World) (by : ThreadRow) (call : ScriptCall) (k : Contents) → served (seeing k (view m w) call) by call ≡ served w by call → Holds (λ bs. HasFineRows m c (world_after w bs) → are_ours m w bs ≡ true) (served w by call) → Answered (λ bs led. HasFineRows m c (world_after w bs) → Led m c u d w bs led) (served w by call) (served (seeing k (view m w) call) by call)
own-same m c u d w by call k same ours =
    answered-same (λ bs led. HasFineRows m c (world_after w bs) → Led m c u d w bs led) (served w by call) (served (seeing k (view m w) call) by call) same
    (holds-more (λ bs. HasFineRows m c (world_after w bs) → are_ours m w bs ≡ true) (λ bs. HasFineRows m c (world_after w bs) → Led m c u d w bs bs) (served w by call) (λ bs h fine. led-same m c u d w bs (h fine)) ours)

abbrev pub Leading : Group → ℕ → World → Whose → World → ThreadRow → (List ℕ → Birth) → ScriptCall → List Basic → Type 0
Leading m c u d w by known call bs = Led m c u d w bs (leads_by m known (view m w) by call (own_entry bs) (own_given bs))

-- the token that comes next is the one that a call gives; the other calls give none, and go by none
abbrev pub Gives : ScriptCall → List Basic → Type 0
Gives call bs = (m : Group) (known : List ℕ → Birth) (v : World) (by : ThreadRow) (e : Entry) (o : Option Impersonation) → IsGiven o (given_in bs) → leads_by m known v by call e o ≡ leads_by m known v by call e (own_given bs)

allowed-gives : (w : World) (by : ThreadRow) (handle : ℕ) (bytes : List ℕ) → Holds (Gives (impersonate_client_of_port handle bytes)) (served w by (impersonate_client_of_port handle bytes))
unfolding nt_impersonate_client_of_port
allowed-gives w by handle bytes =
    let P : List Basic → Type 0 = Gives (impersonate_client_of_port handle bytes) in
    bind_holds (port_test w by handle) _ P (λ port _.
    bind_holds (message_test bytes) _ P (λ a _.
    bind_holds (refuse_if (not (is_server_port port)) INVALID_PORT_HANDLE) _ P (λ _ _.
    bind_holds (client_test w a.header.client) _ P (λ _ _.
    bind_holds (found_or (first (is_served_by port a) w.waits) REPLY_MESSAGE_MISMATCH) _ P (λ x _.
    bind_holds (found_or (allowed_by w x) REPLY_MESSAGE_MISMATCH) _ P (λ own _. λ m known v by e o is. ap (λ o. given o (impersonate_steps by)) is))))))

pub gives-of : (w : World) (by : ThreadRow) (call : ScriptCall) → Holds (Gives call) (served w by call)
gives-of w by (impersonate_client_of_port handle bytes) = allowed-gives w by handle bytes
gives-of w by call = holds_all (served w by call)
  where
    holds_all : (r : Result (List Basic) Status) → Holds (Gives call) r
    holds_all (Ok bs) = λ m known v by e o is. refl
    holds_all (Err s) = tt
