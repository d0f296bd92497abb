-- NtCompleteConnectPort in a view.
use Rattle.std.proofs.Common.{◌≡◌, ℕ, List, [], ◌∷◌, Bool, true, false, cond, not, Option, Some, None, refl, ap, sym, subst, ◌∙◌, arith}
use Rattle.std.specs.Prelude.{◌&&◌, ◌==◌, Ok}
use Rattle.std.proofs.lemmas.Bool.{and_from, eqb-true, false_from_ne_true, not-false}
use Rattle.lpc_base.specs.Rows.{first, given, passes}
use Rattle.lpc_base.proofs.RowWords.{first-passes}
use Rattle.lpc_base.proofs.RowMaps.{every-first}
use Rattle.lpc_base.proofs.Bools.{first-true, same-number, second-true}
use Rattle.lpc_base.specs.declared.status.TheConstants.{INVALID_PARAMETER, INVALID_PORT_HANDLE, PORT_DISCONNECTED, SUCCESS}
use Rattle.lpc_model.specs.declared.entry.CallName.TheVariants.{NtCompleteConnectPort}
use Rattle.lpc_model.specs.Fields.{completion_fields}
use Rattle.lpc_model.specs.Refusal.{found_or, refuse_if}
use Rattle.lpc_model.specs.Then.{◌>>=◌}
use Rattle.lpc_model.specs.World.{Birth, PortRow, ThreadRow, WaitRow, World, Event, WaitKind}
use Rattle.lpc_model.specs.Found.{free_handle, is_connect, is_server_port, port_name, same_birth, is_event, is_accepted}
use Rattle.lpc_model.specs.Basics.{AddsHandle, Basic, Completes, basic}
use Rattle.lpc_model.specs.Connect.{Completable, acceptance_of, complete_steps, complete_test, completion_test, is_accepted_on, nt_complete_connect_port}
use Rattle.lpc_model.specs.Entering.{woken}
use Rattle.lpc_model.specs.Tests.{PORT_ACCESS, handle_row, port_test}
use Rattle.lpc_model.proofs.Calls.Holding.{Holds, bind_holds, found_ok, holds_ok, not_refused}
use Rattle.lpc_model.specs.Circle.{Group, Whose, owner}
use Rattle.lpc_isolation.proofs.Views.Filters.{first-kept, first-where}
use Rattle.lpc_isolation.proofs.Views.View.{of_birth, our_wait, view}
use Rattle.lpc_isolation.proofs.Views.Basics.{basic-ours, basic-unseen, sees_wait}
use Rattle.lpc_isolation.proofs.Rows.Fair.{Fair, all_of, are_fair, implies, is_fair_pair, is_fair_wait, is_home, port-home, port-side}
use Rattle.lpc_isolation.proofs.Views.Seen.{bind-same, free-view, port_test-view}
use Rattle.lpc_isolation.proofs.Views.Apart.{are_apart, end-apart, is_owned, owned-by, unseen-wait}
use Rattle.lpc_isolation.proofs.Views.Callers.{Led, led-same, on_ok}
use Rattle.lpc_isolation.proofs.Each.Reply.{not-c, wake-not-c}
use Rattle.lpc_isolation.proofs.Views.Mine.{c-port_test}
use Rattle.lpc_isolation.proofs.Each.Sends.{Caller, Named, found-port}

-- what a completion found
pub record IsCompletable (m : Group) (c : ℕ) (w : World) (by : ThreadRow) (handle : ℕ) (r : Completable) : Type 0 where
  pub port : PortRow
  pub from : port_test w by handle ≡ Ok port
  pub named : Named m c w by port
  pub server : is_server_port port ≡ true
  pub birth : r.server ≡ port.birth
  pub pair : port.pair ≡ Some r.client
  pub found : first (is_accepted_on r.client) w.waits ≡ Some r.wait

completion-found : (m : Group) (c : ℕ) (w : World) (by : ThreadRow) (handle : ℕ) (p : PortRow) → port_test w by handle ≡ Ok p → Named m c w by p → Holds (IsCompletable m c w by handle) (completion_test w p)
completion-found m c w by handle p at n =
    let P : Completable → Type 0 = IsCompletable m c w by handle in
    bind_holds (refuse_if (not (is_server_port p)) INVALID_PORT_HANDLE) _ P (λ a server.
    bind_holds (refuse_if p.completed INVALID_PARAMETER) _ P (λ _ _.
    bind_holds (found_or p.pair PORT_DISCONNECTED) _ P (λ client pair.
    bind_holds (found_or (first (is_accepted_on client) w.waits) PORT_DISCONNECTED) _ P (λ x found.
    record {
      port = p;
      from = at;
      named = n;
      server = not-false (is_server_port p) (not_refused (not (is_server_port p)) INVALID_PORT_HANDLE a server);
      birth = refl;
      pair = found_ok p.pair PORT_DISCONNECTED client pair;
      found = found_ok (first (is_accepted_on client) w.waits) PORT_DISCONNECTED x found;
    }))))

completable : (m : Group) (c : ℕ) (u w : World) (by : ThreadRow) (handle : ℕ) → Caller m c u w by → Holds (IsCompletable m c w by handle) (complete_test w by handle)
completable m c u w by handle k = bind_holds (port_test w by handle) _ (IsCompletable m c w by handle) (λ p at.
    completion-found m c w by handle p at (found-port m c u w by handle p k at))

pub found-completion : (m : Group) (c : ℕ) (u w : World) (by : ThreadRow) (handle : ℕ) (r : Completable) → Caller m c u w by → complete_test w by handle ≡ Ok r → IsCompletable m c w by handle r
found-completion m c u w by handle r k at = holds_ok (IsCompletable m c w by handle) (complete_test w by handle) r (completable m c u w by handle k) at

-- a connect is no event
accepted-event : (x : WaitRow) (k : WaitKind) → x.kind ≡ k → is_accepted x ≡ true → is_event x ≡ false
accepted-event x (Event r) k is = let off : false ≡ true = rw k at is in absurd (cc)
accepted-event x b k is = rw k refl

-- the client's process is that of its wait
wait-client : (m : Group) (c : ℕ) (w : World) (by : ThreadRow) (handle : ℕ) (r : Completable) → Fair m c w → IsCompletable m c w by handle r → r.wait.process ≡ r.client.process
wait-client m c w by handle r f is =
    let fair : is_fair_wait m c r.wait ≡ true = every-first (is_fair_wait m c) (is_accepted_on r.client) w.waits r.wait f.waits is.found in
    let here : same_birth r.wait.port r.client ≡ true = second-true _ _ (first-passes (is_accepted_on r.client) w.waits r.wait is.found) in
    let process : (r.wait.port.process == r.client.process) ≡ true = grind arith in
    sym (port-home m r.wait (accepted-event r.wait r.wait.kind refl (first-true _ _ (first-passes (is_accepted_on r.client) w.waits r.wait is.found))) (first-true _ _ fair)) ∙ eqb-true _ _ process

-- a server port's pair
server-pair : (m : Group) (c : ℕ) (p : PortRow) (o : Option Birth) (b : Birth) → o ≡ Some b → (is_home p && all_of o (is_fair_pair m c p)) ≡ true → is_server_port p ≡ true → (implies (m b.process) (m p.birth.process) && implies (p.birth.process == c) (m b.process)) ≡ true
server-pair m c p None b is fair kind = absurd (cc)
server-pair m c p (Some q) b is fair kind =
    let same : q ≡ b = cc in
    subst (λ (b : Birth). (implies (m b.process) (m p.birth.process) && implies (p.birth.process == c) (m b.process)) ≡ true) same (grind arith)

pair-of : (m : Group) (c : ℕ) (w : World) (by : ThreadRow) (handle : ℕ) (r : Completable) (is : IsCompletable m c w by handle r) → (implies (m r.client.process) (m is.port.birth.process) && implies (is.port.birth.process == c) (m r.client.process)) ≡ true
pair-of m c w by handle r is = server-pair m c is.port is.port.pair r.client is.pair is.named.right.fair is.server

client-out : (m : Group) (c : ℕ) (w : World) (by : ThreadRow) (handle : ℕ) (r : Completable) (is : IsCompletable m c w by handle r) → m by.process ≡ false → m r.client.process ≡ false
client-out m c w by handle r is out =
    let p_out : m is.port.birth.process ≡ false = ap m is.named.process ∙ out in
    let pair = pair-of m c w by handle r is in grind arith

-- fair
pub complete-fair : (m : Group) (c : ℕ) (w : World) (by : ThreadRow) (handle value : ℕ) (r : Completable) → Fair m c w → IsCompletable m c w by handle r → are_fair m c w (complete_steps by value r) ≡ true
complete-fair m c w by handle value r f is = rw (wait-client m c w by handle r f is, same-number r.client.process) refl

-- apart
pub out-other : (m : Group) (c p : ℕ) → m c ≡ true → m p ≡ false → (p == c) ≡ false
out-other m c p c_in out = false_from_ne_true (p == c) (λ is. let k : m p ≡ m c = ap m (eqb-true _ _ is) in cc)

pub complete-apart : (m : Group) (c : ℕ) (u : World) (d : Whose) (w : World) (by : ThreadRow) (handle value : ℕ) (r : Completable) → Caller m c u w by → IsCompletable m c w by handle r → m by.process ≡ false → are_apart m c u d w (complete_steps by value r) ≡ true
complete-apart m c u d w by handle value r k is out =
    let c_out : m r.client.process ≡ false = client-out m c w by handle r is out in
    let x_out : m r.wait.process ≡ false = ap m (wait-client m c w by handle r k.fair is) ∙ c_out in
    let s_out : m r.server.process ≡ false = ap (λ (b : Birth). m b.process) is.birth ∙ ap m is.named.process ∙ out in
    let v : World = basic (basic (basic w (Completes r.server)) (Completes r.client)) (AddsHandle r.wait.process (handle_row value (port_name r.client) PORT_ACCESS)) in
    rw (k.here, out, c_out, x_out, s_out) (and_from _ _ (and_from _ _ (end-apart m c u d v r.wait SUCCESS (completion_fields value (acceptance_of r.wait)) k.owned (every-first (is_owned u) (is_accepted_on r.client) w.waits r.wait k.owned is.found) (out-other m c r.wait.process k.c_in x_out)) refl) refl)

-- the wait of a member's client is in the view
accepted-connect : (x : WaitRow) (b : Birth) → is_accepted_on b x ≡ true → is_connect x ≡ true
accepted-connect x b is = grind arith

accepted-ours : (m : Group) (c : ℕ) (client : Birth) (x : WaitRow) → m client.process ≡ true → is_fair_wait m c x ≡ true → is_accepted_on client x ≡ true → our_wait m x ≡ true
accepted-ours m c client x c_in fair is =
    let port : m x.port.process ≡ true = of_birth m x.port client (second-true _ _ is) ∙ c_in in
    let process : m x.process ≡ true = sym (port-side m x (first-true _ _ fair)) ∙ port in
    let connect : is_connect x ≡ true = accepted-connect x client is in
    grind arith

-- of another member than c
abbrev pub led_completed : World → ThreadRow → Birth → Option Birth → List Basic
led_completed v by server None = Completes server ∷ []
led_completed v by server (Some client) = given (first (is_accepted_on client) v.waits) (λ x. complete_steps by (free_handle v x.process) (record { server = server; client = client; wait = x }))

abbrev pub led_complete : World → ThreadRow → ℕ → List Basic
led_complete v by handle = on_ok (port_test v by handle) (λ p. led_completed v by p.birth p.pair)

complete-lost : (m : Group) (c : ℕ) (u : World) (d : Whose) (w : World) (by : ThreadRow) (handle value : ℕ) (r : Completable) → Caller m c u w by → IsCompletable m c w by handle r → (by.process == c) ≡ false → m r.client.process ≡ false → Led m c u d w (complete_steps by value r) (Completes r.server ∷ [])
complete-lost m c u d w by handle value r k is other out =
    let x_out : m r.wait.process ≡ false = ap m (wait-client m c w by handle r k.fair is) ∙ out in
    let owned : is_owned u r.wait ≡ true = every-first (is_owned u) (is_accepted_on r.client) w.waits r.wait k.owned is.found in
    let w1 : World = basic w (Completes r.server) in
    let w2 : World = basic w1 (Completes r.client) in
    let w3 : World = basic w2 (AddsHandle r.wait.process (handle_row value (port_name r.client) PORT_ACCESS)) in
    record {
      world = basic-unseen m w3 (woken SUCCESS (completion_fields value (acceptance_of r.wait)) r.wait) (gone owned x_out) refl
          ∙ basic-unseen m w2 (AddsHandle r.wait.process (handle_row value (port_name r.client) PORT_ACCESS)) x_out refl
          ∙ basic-unseen m w1 (Completes r.client) out refl ∙ basic-ours m w (Completes r.server) refl refl;
      told = rw (not-c c u d by.number by.process NtCompleteConnectPort SUCCESS [] k.here other, wake-not-c m c u d r.wait r.wait.call SUCCESS (completion_fields value (acceptance_of r.wait)) owned (out-other m c r.wait.process k.c_in x_out)) refl;
    }
  where
    gone : is_owned u r.wait ≡ true → m r.wait.process ≡ false → sees_wait m w r.wait.thread ≡ false
    gone owned x_out = at (owner u r.wait.thread) refl
      where
        at : (o : Option ℕ) → owner u r.wait.thread ≡ o → sees_wait m w r.wait.thread ≡ false
        at None none = let none' : passes None (λ p. p == r.wait.process) ≡ true = rw none at owned in absurd (cc)
        at (Some pid) own = unseen-wait m u w r.wait.thread pid k.owned own (ap m (owned-by u r.wait pid own owned) ∙ x_out)

pub complete-led : (m : Group) (c : ℕ) (u : World) (d : Whose) (w : World) (by : ThreadRow) (handle : ℕ) (r : Completable) → Caller m c u w by → IsCompletable m c w by handle r → m by.process ≡ true → (by.process == c) ≡ false
    → Led m c u d w (complete_steps by (free_handle w r.wait.process) r) (led_complete (view m w) by handle)
complete-led m c u d w by handle r k is by_in other =
    rw (port_test-view m c w by handle k.fair by_in, is.from) (rw (is.pair, sym is.birth) (at (m r.client.process) refl))
  where
    at : (b : Bool) → m r.client.process ≡ b → Led m c u d w (complete_steps by (free_handle w r.wait.process) r) (led_completed (view m w) by r.server (cond b (Some r.client) None))
    at true c_in =
        let fair : is_fair_wait m c r.wait ≡ true = every-first (is_fair_wait m c) (is_accepted_on r.client) w.waits r.wait k.fair.waits is.found in
        let ours : our_wait m r.wait ≡ true = accepted-ours m c r.client r.wait c_in fair (first-passes (is_accepted_on r.client) w.waits r.wait is.found) in
        rw (first-kept (our_wait m) (is_accepted_on r.client) w.waits r.wait is.found ours, free-view m w r.wait.process (first-true _ _ ours))
        (led-same m c u d w (complete_steps by (free_handle w r.wait.process) r) refl)
    at false out = complete-lost m c u d w by handle (free_handle w r.wait.process) r k is other out

-- of c
c-accepted : (m : Group) (c : ℕ) (w : World) (client : Birth) → Fair m c w → m client.process ≡ true → first (is_accepted_on client) (view m w).waits ≡ first (is_accepted_on client) w.waits
c-accepted m c w client f c_in = first-where (is_fair_wait m c) (our_wait m) (is_accepted_on client) (λ x fair is. accepted-ours m c client x c_in fair is) w.waits f.waits

c-completion : (m : Group) (c : ℕ) (w : World) (by : ThreadRow) (p : PortRow) → m c ≡ true → by.process ≡ c → Fair m c w → Named m c w by p → completion_test (view m w) p ≡ completion_test w p
c-completion m c w by p c_in mine f n =
    bind-same (refuse_if (not (is_server_port p)) INVALID_PORT_HANDLE) _ _ (λ a server.
    bind-same (refuse_if p.completed INVALID_PARAMETER) _ _ (λ _ _.
    bind-same (found_or p.pair PORT_DISCONNECTED) _ _ (λ client pair.
    let p_c : (p.birth.process == c) ≡ true = ap (λ b. b == c) (n.process ∙ mine) ∙ same-number c in
    let kind : is_server_port p ≡ true = not-false (is_server_port p) (not_refused (not (is_server_port p)) INVALID_PORT_HANDLE a server) in
    let both_pairs = server-pair m c p p.pair client (found_ok p.pair PORT_DISCONNECTED client pair) n.right.fair kind in
    let c_in : m client.process ≡ true = grind arith in
    rw (c-accepted m c w client f c_in) refl)))

pub c-complete : (m : Group) (c : ℕ) (u w : World) (by : ThreadRow) (handle : ℕ) → Caller m c u w by → by.process ≡ c → nt_complete_connect_port (view m w) by handle ≡ nt_complete_connect_port w by handle
unfolding nt_complete_connect_port
c-complete m c u w by handle k mine =
    ap (λ r. r >>= (λ r. Ok (complete_steps by (free_handle (view m w) r.wait.process) r)))
    (ap (λ r. r >>= (λ p. completion_test (view m w) p)) (c-port_test m c w by handle k.c_in mine k.fair)
    ∙ bind-same (port_test w by handle) (λ p. completion_test (view m w) p) (λ p. completion_test w p) (λ p at. c-completion m c w by p k.c_in mine k.fair (found-port m c u w by handle p k at)))
    ∙ bind-same (complete_test w by handle) (λ r. Ok (complete_steps by (free_handle (view m w) r.wait.process) r)) (λ r. Ok (complete_steps by (free_handle w r.wait.process) r)) (λ r at.
    let is : IsCompletable m c w by handle r = found-completion m c u w by handle r k at in
    let p_c : (is.port.birth.process == c) ≡ true = ap (λ b. b == c) (is.named.process ∙ mine) ∙ same-number c in
    let both_pairs = pair-of m c w by handle r is in
    let c_in : m r.client.process ≡ true = grind arith in
    let x_in : m r.wait.process ≡ true = ap m (wait-client m c w by handle r k.fair is) ∙ c_in in
    rw (free-view m w r.wait.process x_in) refl)
