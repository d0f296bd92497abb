-- raise and NtSetInformationProcess: in a view, and where rows have gone.
use Rattle.std.proofs.Common.{◌≡◌, ℕ, List, ◌∷◌, Bool, true, false, not, Option, Some, None, refl, ap, ◌∙◌, Result, Ok, Err}
use Rattle.std.specs.Prelude.{◌==◌, ◌||◌, is_some, option_and_then}
use Rattle.std.proofs.lemmas.Bool.{not-false}
use Rattle.lpc_base.specs.Rows.{first}
use Rattle.lpc_base.specs.declared.status.Status.{Status}
use Rattle.lpc_base.specs.declared.status.TheConstants.{INVALID_CID, INVALID_PARAMETER, PORT_ALREADY_SET}
use Rattle.lpc_base.proofs.RowMaps.{every-first}
use Rattle.lpc_model.specs.declared.line.ProcArg.{ProcArg}
use Rattle.lpc_model.specs.World.{Birth, Chance, FirstDebug, LastDebug, LastException, PortRow, ProcessRow, ThreadRow, World}
use Rattle.lpc_model.specs.Found.{is_live, is_process, live_thread}
use Rattle.lpc_model.specs.Basics.{Basic, world_after}
use Rattle.lpc_model.specs.Refusal.{refuse_if}
use Rattle.lpc_model.specs.Then.{◌>>=◌}
use Rattle.lpc_model.specs.Targets.{process_target}
use Rattle.lpc_model.specs.Tests.{live_test, port_test}
use Rattle.lpc_model.specs.Lines.{raise, set_information_process}
use Rattle.lpc_model.specs.Raise.{DEBUG_CLASS, EXCEPTION_CLASS, Handled, Heard, Hearing, Next, Unhandled, class_chance, class_test, event_port, event_port_of, from_exception, from_first, from_frames, from_last, heard_at, heard_on, heard_or, hearing_at, nt_set_information_process, raise_exception, raise_steps, raise_told, set_port_steps, unset_test, behind_chance}
use Rattle.lpc_model.specs.Circle.{Group, Whose}
use Rattle.lpc_model.proofs.Calls.Holding.{Holds, bind_holds, holds_ok, not_refused}
use Rattle.lpc_model.proofs.Calls.Raising.{WhereHeard, first-holds, set-passes}
use Rattle.lpc_isolation.proofs.Views.Alone.{HasFineRows}
use Rattle.lpc_isolation.proofs.Views.View.{seen_port, view}
use Rattle.lpc_isolation.proofs.Views.Basics.{are_ours}
use Rattle.lpc_isolation.proofs.Views.Callers.{Led, led-same, on_ok}
use Rattle.lpc_isolation.proofs.Views.Seen.{bind-same, port_test-view, result_map}
use Rattle.lpc_isolation.proofs.Rows.Fair.{Fair}
use Rattle.lpc_isolation.proofs.Endings.Threads.{lives-view}
use Rattle.lpc_isolation.proofs.Gone.Served.{served}
use Rattle.lpc_isolation.proofs.Gone.Thin.{Alive, Closed, hearer_closed, is_live-thin, live-home, thin}
use Rattle.lpc_isolation.proofs.Gone.ThinCalls.{caller-home, home-row, port-thin, row-thin}
use Rattle.lpc_isolation.proofs.Each.Sends.{Caller}
use Rattle.lpc_isolation.proofs.Each.Refuses.{Refuses, bind, if_refuses, port}
use Rattle.lpc_isolation.proofs.Each.Instances.{caller, own-same}
use Rattle.lpc_isolation.proofs.Each.Raises.{Told, first-view, hearing-set, raiser, seen_next, send-ours, send-view, set-holds, set-view, told-by}
use Rattle.lpc_isolation.proofs.Calls.Aims.{process-thin, process-view, process-whose, refuses-process}
use Rattle.lpc_isolation.proofs.Calls.Calm.{Calm, Leads, Own, ends_threads}

-- A call that answers in the view as in the world, by members' steps
led-by : (m : Group) (c : ℕ) (u : World) (d : Whose) (w : World) (r s : Result (List Basic) Status) → s ≡ r → Holds (λ bs. are_ours m w bs ≡ true) r → Holds (λ bs. HasFineRows m c (world_after w bs) → Led m c u d w bs (on_ok s (λ bs. bs))) r
led-by m c u d w (Ok bs) s same ours = λ fine. rw same (led-same m c u d w bs ours)
led-by m c u d w (Err e) s same ours = tt

fine-ours : (m : Group) (c : ℕ) (w : World) (r : Result (List Basic) Status) → Holds (λ bs. are_ours m w bs ≡ true) r → Holds (λ bs. HasFineRows m c (world_after w bs) → are_ours m w bs ≡ true) r
fine-ours m c w (Ok bs) ours = λ fine. ours
fine-ours m c w (Err e) ours = tt

-- raise
module _ (m : Group) (c : ℕ) (u w : World) (by : ThreadRow) (code : ℕ) (handled : Bool) (k : Caller m c u w by) (in_m : m by.process ≡ true) where
  told-all : WhereHeard (Told m c w by.process) (from_first w by.process handled)
  told-all = first-holds (Told m c w by.process) w by.process handled (λ chance h is. told-by m c w by.process chance h k.fair k.fine k.raisers (hearing-set w by.process chance h is))

  steps-as : (n : Next) → WhereHeard (Told m c w by.process) n → raise_steps by code handled (seen_next m n) (view m w) ≡ raise_steps by code handled n w
  steps-as Handled told = refl
  steps-as (Heard h) told = ap (λ bs. raise_told by ∷ bs) (send-view m c u w by code handled h (raiser m c u w by k) told in_m)
  steps-as Unhandled told = refl

  steps-ours : (n : Next) → WhereHeard (Told m c w by.process) n → are_ours m w (raise_steps by code handled n w) ≡ true
  steps-ours Handled told = refl
  steps-ours (Heard h) told = send-ours m c u w by code handled h (raiser m c u w by k) told in_m
  steps-ours Unhandled told = refl

  raise-same : raise_exception (view m w) by code handled ≡ raise_exception w by code handled
  unfolding raise_exception
  raise-same = ap (λ bs. Ok bs) (ap (λ n. raise_steps by code handled n (view m w)) (first-view m c w by.process in_m k.fair k.fine k.raisers handled) ∙ steps-as (from_first w by.process handled) told-all)

  raise-ours : Holds (λ bs. are_ours m w bs ≡ true) (raise_exception w by code handled)
  unfolding raise_exception
  raise-ours = steps-ours (from_first w by.process handled) told-all

refuses-raise : (w : World) (by : ThreadRow) (code : ℕ) (handled : Bool) → Refuses (served w by (raise code handled))
unfolding raise_exception
refuses-raise w by code handled = tt

-- where rows have gone
or-thin : (o p : Option Hearing) (later next : Next) → o ≡ p → later ≡ next → heard_or o later ≡ heard_or p next
or-thin o p later next one two = rw (one, two) refl

module _ (k : Alive) (u : World) (pid : ℕ) (home : k.homes pid ≡ true) (c : Closed k u) where
  set-thin : (chance : Chance) → event_port_of (thin k u) pid chance ≡ event_port_of u pid chance
  set-thin chance = ap (option_and_then (event_port chance)) (home-row k u pid home c)

  hearing-thin : (chance : Chance) → hearing_at (thin k u) pid chance ≡ hearing_at u pid chance
  hearing-thin chance = ap (option_and_then (heard_at (thin k u) chance)) (set-thin chance) ∙ by-process (first (is_process pid) u.processes) refl
    where
      by-set : (p : ProcessRow) → first (is_process pid) u.processes ≡ Some p → (o : Option Birth) → event_port chance p ≡ o → option_and_then (heard_at (thin k u) chance) o ≡ option_and_then (heard_at u chance) o
      by-set p row None set = refl
      by-set p row (Some b) set =
          let live : k.ports b ≡ true = set-holds k.ports chance p b set (every-first (hearer_closed k) (is_process pid) u.processes p c.events row) in
          ap (option_and_then (heard_on u chance)) (row-thin k u b live)

      by-process : (o : Option ProcessRow) → first (is_process pid) u.processes ≡ o → option_and_then (heard_at (thin k u) chance) (option_and_then (event_port chance) o) ≡ option_and_then (heard_at u chance) (option_and_then (event_port chance) o)
      by-process None row = refl
      by-process (Some p) row = by-set p row (event_port chance p) refl

  exception-thin : from_exception (thin k u) pid ≡ from_exception u pid
  exception-thin = or-thin _ _ _ _ (hearing-thin LastException) refl

  last-thin : from_last (thin k u) pid ≡ from_last u pid
  last-thin = or-thin _ _ _ _ (hearing-thin LastDebug) exception-thin

  frames-thin : (handled : Bool) → from_frames (thin k u) pid handled ≡ from_frames u pid handled
  frames-thin true = refl
  frames-thin false = last-thin

  pub behind-thin : (handled : Bool) (chance : Chance) → behind_chance (thin k u) pid handled chance ≡ behind_chance u pid handled chance
  behind-thin handled FirstDebug = frames-thin handled
  behind-thin handled LastDebug = exception-thin
  behind-thin handled LastException = refl

  pub first-thin : (handled : Bool) → from_first (thin k u) pid handled ≡ from_first u pid handled
  first-thin handled = or-thin _ _ _ _ (hearing-thin FirstDebug) (frames-thin handled)

alike-raise : (k : Alive) (u : World) (by : ThreadRow) (code : ℕ) (handled : Bool) → live_thread u by.number ≡ Some by → Closed k u → served (thin k u) by (raise code handled) ≡ served u by (raise code handled)
unfolding raise_exception
alike-raise k u by code handled live c =
    ap (λ bs. Ok bs) (ap (λ n. raise_steps by code handled n (thin k u)) (first-thin k u by.process (caller-home k u by live c) c handled) ∙ at (from_first u by.process handled))
  where
    at : (n : Next) → raise_steps by code handled n (thin k u) ≡ raise_steps by code handled n u
    at Handled = refl
    at (Heard h) = refl
    at Unhandled = refl

own-raise : (code : ℕ) (handled : Bool) → Own (raise code handled)
own-raise code handled m c u d w by known k a used mine fine right =
    let g : Caller m c u w by = caller m c w by known u a used in
    let in_m : m by.process ≡ true = ap m mine ∙ a.c_in in
    own-same m c u d w by (raise code handled) k (raise-same m c u w by code handled g in_m) (fine-ours m c w (raise_exception w by code handled) (raise-ours m c u w by code handled g in_m))

leads-raise : (code : ℕ) (handled : Bool) → Leads (raise code handled)
leads-raise code handled m c u d w by known a used by_in other =
    let g : Caller m c u w by = caller m c w by known u a used in
    led-by m c u d w (raise_exception w by code handled) (raise_exception (view m w) by code handled) (raise-same m c u w by code handled g by_in) (raise-ours m c u w by code handled g by_in)

pub raise-calm : (code : ℕ) (handled : Bool) → Calm (raise code handled)
raise-calm code handled = record {
  refuses = λ w by. refuses-raise w by code handled;
  members = ends_threads (own-raise code handled) (leads-raise code handled);
  alike = λ k u by live s ports c. alike-raise k u by code handled live c;
}

-- NtSetInformationProcess
module _ (by : ThreadRow) (target : ProcArg) (class handle : ℕ) where
  abbrev set_rest : World → ℕ → Birth → Result (List Basic) Status
  set_rest v pid b = live_test v pid >>= (λ _. class_test class >>= (λ _. unset_test v pid class >>= (λ _. Ok (set_port_steps by class pid b))))

  set-same : (m : Group) (c : ℕ) (w : World) → Fair m c w → m by.process ≡ true → nt_set_information_process (view m w) by target class handle ≡ nt_set_information_process w by target class handle
  unfolding nt_set_information_process
  set-same m c w f inside =
      rw (process-view m c w by target inside f) (bind-same (process_target w by target) _ _ (λ pid at.
      let pid_in : m pid ≡ true = holds_ok (λ pid. m pid ≡ m by.process) (process_target w by target) pid (process-whose m c w by target f) at ∙ inside in
      rw (port_test-view m c w by handle f inside) (by-port pid pid_in (port_test w by handle))))
    where
      by-port : (pid : ℕ) → m pid ≡ true → (r : Result PortRow Status) → (result_map (seen_port m) r >>= (λ (p : PortRow). set_rest (view m w) pid p.birth)) ≡ (r >>= (λ (p : PortRow). set_rest w pid p.birth))
      by-port pid pid_in (Err s) = refl
      by-port pid pid_in (Ok p) =
          ap (λ e. refuse_if (not e) INVALID_CID >>= (λ _. class_test class >>= (λ _. unset_test (view m w) pid class >>= (λ _. Ok (set_port_steps by class pid p.birth))))) (lives-view m w pid pid_in)
          ∙ ap (λ o. live_test w pid >>= (λ _. class_test class >>= (λ _. refuse_if (is_some o) PORT_ALREADY_SET >>= (λ _. Ok (set_port_steps by class pid p.birth))))) (set-view m w pid (class_chance class) pid_in)

  set-ours : (m : Group) (w : World) → Holds (λ bs. are_ours m w bs ≡ true) (nt_set_information_process w by target class handle)
  unfolding nt_set_information_process
  set-ours m w =
      let P : List Basic → Type 0 = λ bs. are_ours m w bs ≡ true in
      bind_holds (process_target w by target) _ P (λ pid _.
      bind_holds (port_test w by handle) _ P (λ p _.
      bind_holds (live_test w pid) _ P (λ _ _.
      bind_holds (class_test class) _ P (λ _ _.
      bind_holds (unset_test w pid class) _ P (λ _ _. set-passes P by class pid p.birth refl refl)))))

  refuses-set : (w : World) → Refuses (served w by (set_information_process target class handle))
  unfolding nt_set_information_process
  refuses-set w =
      bind (process_target w by target) _ (refuses-process w by target) (λ pid.
      bind (port_test w by handle) _ (port w by handle) (λ p.
      bind (live_test w pid) _ (if_refuses (not (is_live w pid)) INVALID_CID refl) (λ _.
      bind (class_test class) _ (if_refuses (not ((class == DEBUG_CLASS) || (class == EXCEPTION_CLASS))) INVALID_PARAMETER refl) (λ _.
      bind (unset_test w pid class) _ (if_refuses (is_some (event_port_of w pid (class_chance class))) PORT_ALREADY_SET refl) (λ _. tt)))))

  alike-set : (k : Alive) (u : World) → Closed k u → served (thin k u) by (set_information_process target class handle) ≡ served u by (set_information_process target class handle)
  unfolding nt_set_information_process
  alike-set k u c =
      rw (process-thin k u by target c) (bind-same (process_target u by target) _ _ (λ pid _.
      rw (port-thin k u by handle c) (bind-same (port_test u by handle) _ _ (λ p _.
      ap (λ e. refuse_if (not e) INVALID_CID >>= (λ _. class_test class >>= (λ _. unset_test (thin k u) pid class >>= (λ _. Ok (set_port_steps by class pid p.birth))))) (is_live-thin k u pid c)
      ∙ bind-same (live_test u pid) _ _ (λ v at.
      let home : k.homes pid ≡ true = live-home k u pid c (not-false (is_live u pid) (not_refused (not (is_live u pid)) INVALID_CID v at)) in
      ap (λ o. class_test class >>= (λ _. refuse_if (is_some o) PORT_ALREADY_SET >>= (λ _. Ok (set_port_steps by class pid p.birth)))) (set-thin k u pid home c (class_chance class)))))))

own-set : (target : ProcArg) (class handle : ℕ) → Own (set_information_process target class handle)
own-set target class handle m c u d w by known k a used mine fine right =
    own-same m c u d w by (set_information_process target class handle) k (set-same by target class handle m c w a.fair (ap m mine ∙ a.c_in)) (fine-ours m c w (nt_set_information_process w by target class handle) (set-ours by target class handle m w))

leads-set : (target : ProcArg) (class handle : ℕ) → Leads (set_information_process target class handle)
leads-set target class handle m c u d w by known a used by_in other =
    led-by m c u d w (nt_set_information_process w by target class handle) (nt_set_information_process (view m w) by target class handle) (set-same by target class handle m c w a.fair by_in) (set-ours by target class handle m w)

pub set-calm : (target : ProcArg) (class handle : ℕ) → Calm (set_information_process target class handle)
set-calm target class handle = record {
  refuses = λ w by. refuses-set by target class handle w;
  members = ends_threads (own-set target class handle) (leads-set target class handle);
  alike = λ k u by live s ports c. alike-set by target class handle k u c;
}
