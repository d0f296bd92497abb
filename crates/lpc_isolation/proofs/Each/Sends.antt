-- NtRequestPort in a view, and what it shares with NtRequestWaitReplyPort.
use Rattle.std.proofs.Common.{◌≡◌, ℕ, ◌≤◌, List, ◌++◌, Bool, true, false, cond, Option, Some, None, refl, ap, sym, subst, ◌∙◌, arith, []}
use Rattle.std.specs.Prelude.{◌&&◌, ◌==◌, Ok}
use Rattle.std.proofs.lemmas.Bool.{and_from, eqb-true}
use Rattle.lpc_base.specs.Rows.{count, which}
use Rattle.lpc_base.specs.declared.status.TheConstants.{PORT_DISCONNECTED}
use Rattle.lpc_base.proofs.Bools.{first-true, same-number}
use Rattle.lpc_base.proofs.Births.{birth-same}
use Rattle.lpc_message.specs.declared.kind.TheConstants.{DATAGRAM}
use Rattle.lpc_model.specs.declared.message.Message.{Message}
use Rattle.lpc_model.specs.Message.{message_test}
use Rattle.lpc_model.specs.Then.{◌>>=◌}
use Rattle.lpc_model.specs.Refusal.{found_or}
use Rattle.lpc_model.specs.World.{Birth, PortRow, ThreadRow, World}
use Rattle.lpc_model.specs.Found.{is_datagram_of, live_thread, route, wait_of, waits_as}
use Rattle.lpc_model.specs.Basics.{Basic, DrawsIdentifier, world_after}
use Rattle.lpc_model.specs.Entering.{enter, row_of}
use Rattle.lpc_model.specs.Request.{Sendable, datagram_send_test, datagram_start, datagram_steps, datagram_test, nt_request_port, send_test, sent_by}
use Rattle.lpc_model.specs.Tests.{port_test}
use Rattle.lpc_model.specs.SoundWaits.{IsSoundWorld, HasShutConnects}
use Rattle.lpc_model.proofs.Calls.Holding.{Holds, bind_holds, found_ok, holds-more, holds_ok}
use Rattle.lpc_model.specs.Circle.{Group, Whose, owner}
use Rattle.lpc_isolation.proofs.Views.Alone.{HasFineRows, HasFineRaisers}
use Rattle.lpc_isolation.proofs.Views.Filters.{which-where}
use Rattle.lpc_isolation.proofs.Views.View.{our_message, seen_pair, seen_port, view}
use Rattle.lpc_isolation.proofs.Views.Basics.{are_ours, run-ours}
use Rattle.lpc_isolation.proofs.Rows.Fair.{Fair, are_fair, implies, is_fair_message, is_sent, keeps-fair, owner-sent, together-of}
use Rattle.lpc_isolation.proofs.Views.Seen.{bind-same, c-port, port-own, port_test-view}
use Rattle.lpc_isolation.proofs.Each.Enter.{Patient, enter-fair, enter-ours, enter-view}
use Rattle.lpc_isolation.proofs.Views.Apart.{Owned, are_apart, enter-apart, enter-gone, unseen-at, unseen-wait}
use Rattle.lpc_isolation.proofs.Views.Callers.{Led, led-same, on_ok, unseen-thread}
use Rattle.lpc_isolation.proofs.Views.Mine.{c-port_test}
use Rattle.lpc_isolation.proofs.Rows.Names.{SeenNames}
use Rattle.lpc_isolation.proofs.Rows.Bound.{OnceBound}
use Rattle.lpc_isolation.proofs.Rows.Paths.{Paths}
use Rattle.lpc_isolation.proofs.Rows.Asked.{Asked}
use Rattle.lpc_isolation.proofs.Each.Routes.{Right, context-view, right-row, route-view, routed-in, routed-out}

-- a call of a thread that waits for nothing, in a world of a run
pub record Caller (m : Group) (c : ℕ) (u w : World) (by : ThreadRow) : Type 0 where
  pub c_in : m c ≡ true
  pub fair : Fair m c w
  pub fine : HasFineRows m c w
  pub patient : Patient w
  pub owned : Owned u w
  pub here : owner u by.number ≡ Some by.process
  pub own : owner w by.number ≡ Some by.process
  pub idle : wait_of w by.number ≡ None
  pub once : (tid : ℕ) → count (waits_as tid) w.waits ≤ 1
  pub used : u.used_threads ≡ w.used_threads
  pub names : SeenNames m w.bindings
  pub sound : IsSoundWorld w
  pub shut : HasShutConnects w
  pub live : live_thread w by.number ≡ Some by
  pub bound : OnceBound w.bindings
  pub paths : Paths w
  pub asked : Asked w
  pub unmarked : w.marks ≡ []
  pub raisers : HasFineRaisers m w

-- what a port that a handle names is
pub record Named (m : Group) (c : ℕ) (w : World) (by : ThreadRow) (p : PortRow) : Type 0 where
  pub process : p.birth.process ≡ by.process
  pub right : Right m c w p

named-port : (m : Group) (c : ℕ) (u w : World) (by : ThreadRow) (handle : ℕ) → Caller m c u w by → Holds (Named m c w by) (port_test w by handle)
named-port m c u w by handle k = holds-more _ (Named m c w by) (port_test w by handle) (λ p h. record { process = h.0; right = right-row m c w p k.fair k.fine h.1 }) (port-own m c w by handle k.fair)

pub found-port : (m : Group) (c : ℕ) (u w : World) (by : ThreadRow) (handle : ℕ) (p : PortRow) → Caller m c u w by → port_test w by handle ≡ Ok p → Named m c w by p
found-port m c u w by handle p k at = holds_ok (Named m c w by) (port_test w by handle) p (named-port m c u w by handle k) at

-- what a message that may be sent is
pub record IsSendable (m : Group) (c : ℕ) (w : World) (by : ThreadRow) (handle : ℕ) (bytes : List ℕ) (s : Sendable) : Type 0 where
  pub from : port_test w by handle ≡ Ok s.port
  pub message : message_test bytes ≡ Ok s.message
  pub to : route w s.port ≡ Some s.queue
  pub named : Named m c w by s.port

sendable : (m : Group) (c : ℕ) (u w : World) (by : ThreadRow) (handle : ℕ) (bytes : List ℕ) → Caller m c u w by → Holds (IsSendable m c w by handle bytes) (send_test w by handle bytes)
sendable m c u w by handle bytes k =
    let P : Sendable → Type 0 = IsSendable m c w by handle bytes in
    bind_holds (port_test w by handle) _ P (λ port at.
    bind_holds (message_test bytes) _ P (λ a is.
    bind_holds (found_or (route w port) PORT_DISCONNECTED) _ P (λ q to.
    record { from = at; message = is; to = found_ok (route w port) PORT_DISCONNECTED q to; named = found-port m c u w by handle port k at })))

pub found-request : (m : Group) (c : ℕ) (u w : World) (by : ThreadRow) (handle : ℕ) (bytes : List ℕ) (s : Sendable) → Caller m c u w by → send_test w by handle bytes ≡ Ok s → IsSendable m c w by handle bytes s
found-request m c u w by handle bytes s k at = holds_ok (IsSendable m c w by handle bytes) (send_test w by handle bytes) s (sendable m c u w by handle bytes k) at

tested-sendable : (m : Group) (c : ℕ) (u w : World) (by : ThreadRow) (handle : ℕ) (bytes : List ℕ) → Caller m c u w by → Holds (IsSendable m c w by handle bytes) (datagram_send_test w by handle bytes)
tested-sendable m c u w by handle bytes k =
    let Q : Sendable → Type 0 = IsSendable m c w by handle bytes in
    bind_holds (send_test w by handle bytes) _ Q (λ s at. bind_holds (datagram_test w s.port) _ Q (λ _ _. holds_ok Q (send_test w by handle bytes) s (sendable m c u w by handle bytes k) at))

pub found-datagram : (m : Group) (c : ℕ) (u w : World) (by : ThreadRow) (handle : ℕ) (bytes : List ℕ) (s : Sendable) → Caller m c u w by → datagram_send_test w by handle bytes ≡ Ok s → IsSendable m c w by handle bytes s
found-datagram m c u w by handle bytes s k at = holds_ok (IsSendable m c w by handle bytes) (datagram_send_test w by handle bytes) s (tested-sendable m c u w by handle bytes k) at

-- the message's row is fair
pub row-fair : (m : Group) (c : ℕ) (w : World) (by : ThreadRow) (p : PortRow) (q : Birth) (kind : ℕ) (a : Message) → m c ≡ true → owner w by.number ≡ Some by.process → Named m c w by p → route w p ≡ Some q → (is_fair_message m c (row_of q p (sent_by by kind a)) && is_sent w.used_threads (row_of q p (sent_by by kind a))) ≡ true
row-fair m c w by p q kind a c_in own n to =
    and_from _ _ (and_from _ _ (together-of m by.process p.birth.process (sym (ap m n.process))) (and_from _ _ (at (m p.birth.process) refl) (mine (p.birth.process == c) refl))) (owner-sent w (row_of q p (sent_by by kind a)) by.process own refl)
  where
    at : (b : Bool) → m p.birth.process ≡ b → implies (q.process == c) b ≡ true
    at true is = grind arith
    at false out = rw (routed-out m c w p q n.right c_in out to) refl

    mine : (b : Bool) → (p.birth.process == c) ≡ b → implies b (m q.process) ≡ true
    mine true is = routed-in m c w p q n.right c_in is to
    mine false other = refl

-- NtRequestPort
-- behind its start the world is as fair, and as many wait
after-start : (m : Group) (c : ℕ) (u w : World) (by : ThreadRow) → Caller m c u w by → Fair m c (world_after w (datagram_start by))
after-start m c u w by k = keeps-fair m c w (DrawsIdentifier by.number) refl k.fair

pub datagram-fair : (m : Group) (c : ℕ) (w : World) (by : ThreadRow) (p : PortRow) (q : Birth) (a : Message) → m c ≡ true → owner w by.number ≡ Some by.process → Named m c w by p → route w p ≡ Some q → are_fair m c w (datagram_steps by p q (sent_by by DATAGRAM a) w) ≡ true
datagram-fair m c w by p q a c_in own n to = enter-fair m c (world_after w (datagram_start by)) (row_of q p (sent_by by DATAGRAM a)) (row-fair m c w by p q DATAGRAM a c_in own n to)

pub datagram-apart : (m : Group) (c : ℕ) (u : World) (d : Whose) (w : World) (by : ThreadRow) (p : PortRow) (q : Birth) (a : Message) → Caller m c u w by → Named m c w by p → route w p ≡ Some q → m by.process ≡ false → are_apart m c u d w (datagram_steps by p q (sent_by by DATAGRAM a) w) ≡ true
datagram-apart m c u d w by p q a k n to out =
    let p_out : m p.birth.process ≡ false = ap m n.process ∙ out in
    rw (k.here, out, unseen-thread m c w by.number by.process k.fair k.own out)
    (enter-apart m c u d (world_after w (datagram_start by)) (row_of q p (sent_by by DATAGRAM a)) (rw p_out refl) (routed-out m c w p q n.right k.c_in p_out to)
    (unseen-at m w by.number q (unseen-wait m u w by.number by.process k.owned k.here out)) k.owned (after-start m c u w by k) k.patient)

pub datagram-ours : (m : Group) (c : ℕ) (u w : World) (by : ThreadRow) (p : PortRow) (q : Birth) (a : Message) → Caller m c u w by → Named m c w by p → m by.process ≡ true → m q.process ≡ true → are_ours m w (datagram_steps by p q (sent_by by DATAGRAM a) w) ≡ true
datagram-ours m c u w by p q a k n is q_in =
    let p_in : m p.birth.process ≡ true = ap m n.process ∙ is in
    enter-ours m (world_after w (datagram_start by)) (row_of q p (sent_by by DATAGRAM a)) (and_from _ _ p_in q_in) k.patient

-- the same steps in the view
datagram-view : (m : Group) (c : ℕ) (u w : World) (by : ThreadRow) (p : PortRow) (q : Birth) (a : Message) → Caller m c u w by → Named m c w by p → m by.process ≡ true → m q.process ≡ true → datagram_steps by (seen_port m p) q (sent_by by DATAGRAM a) (view m w) ≡ datagram_steps by p q (sent_by by DATAGRAM a) w
datagram-view m c u w by p q a k n is q_in =
    let p_in : m p.birth.process ≡ true = ap m n.process ∙ is in
    ap (λ context. datagram_start by ++ enter (record { queue = q; sender = p.birth; context = context; message = sent_by by DATAGRAM a }) (world_after (view m w) (datagram_start by))) (context-view m c w p n.right p_in)
    ∙ ap (λ v. datagram_start by ++ enter (row_of q p (sent_by by DATAGRAM a)) v) (sym (run-ours m w (datagram_start by) refl))
    ∙ ap (λ bs. datagram_start by ++ bs) (enter-view m c (world_after w (datagram_start by)) (row_of q p (sent_by by DATAGRAM a)) (after-start m c u w by k) q_in)

-- of another member than c, by what it was told
abbrev pub sent_way : List Basic → (Birth → List Basic) → Option Birth → List Basic
sent_way gone f None = gone
sent_way gone f (Some q) = f q

abbrev pub led_send : World → ThreadRow → ℕ → List ℕ → List Basic → (PortRow → Birth → Message → List Basic) → List Basic
led_send v by handle bytes gone f =
    on_ok (port_test v by handle) (λ port. on_ok (message_test bytes) (λ a. sent_way gone (λ q. f port q a) (route v port)))

pub led-send : (m : Group) (c : ℕ) (w : World) (by : ThreadRow) (handle : ℕ) (bytes : List ℕ) (s : Sendable) (gone : List Basic) (f : PortRow → Birth → Message → List Basic) → Fair m c w → IsSendable m c w by handle bytes s → m by.process ≡ true
    → led_send (view m w) by handle bytes gone f ≡ sent_way gone (λ q. f (seen_port m s.port) q s.message) (seen_pair m (Some s.queue))
led-send m c w by handle bytes s gone f fair is by_in =
    rw (port_test-view m c w by handle fair by_in, is.from, is.message) (ap (sent_way gone (λ q. f (seen_port m s.port) q s.message)) (route-view m c w s.port fair is.named.right (ap m is.named.process ∙ by_in) ∙ ap (seen_pair m) is.to))

abbrev pub led_datagram : World → ThreadRow → ℕ → List ℕ → List Basic
led_datagram v by handle bytes = led_send v by handle bytes (datagram_start by) (λ port q a. datagram_steps by port q (sent_by by DATAGRAM a) v)

datagram-gone : (m : Group) (c : ℕ) (u : World) (d : Whose) (w : World) (by : ThreadRow) (p : PortRow) (q : Birth) (a : Message) → Caller m c u w by → m q.process ≡ false → Led m c u d w (datagram_steps by p q (sent_by by DATAGRAM a) w) (datagram_start by)
datagram-gone m c u d w by p q a k out =
    let w1 : World = world_after w (datagram_start by) in
    let gone = enter-gone m c u d w1 (row_of q p (sent_by by DATAGRAM a)) k.c_in out k.owned (after-start m c u w by k) k.patient in
    record { world = gone.0 ∙ run-ours m w (datagram_start by) refl; told = rw gone.1 refl }

pub datagram-led : (m : Group) (c : ℕ) (u : World) (d : Whose) (w : World) (by : ThreadRow) (handle : ℕ) (bytes : List ℕ) (s : Sendable) → Caller m c u w by → IsSendable m c w by handle bytes s → m by.process ≡ true
    → Led m c u d w (datagram_steps by s.port s.queue (sent_by by DATAGRAM s.message) w) (led_datagram (view m w) by handle bytes)
datagram-led m c u d w by handle bytes s k is by_in =
    subst (Led m c u d w (datagram_steps by s.port s.queue (sent_by by DATAGRAM s.message) w)) (sym (led-send m c w by handle bytes s (datagram_start by) (λ port q a. datagram_steps by port q (sent_by by DATAGRAM a) (view m w)) k.fair is by_in)) (at (m s.queue.process) refl)
  where
    at : (b : Bool) → m s.queue.process ≡ b → Led m c u d w (datagram_steps by s.port s.queue (sent_by by DATAGRAM s.message) w) (sent_way (datagram_start by) (λ q. datagram_steps by (seen_port m s.port) q (sent_by by DATAGRAM s.message) (view m w)) (cond b (Some s.queue) None))
    at true q_in = rw (datagram-view m c u w by s.port s.queue s.message k is.named by_in q_in) (led-same m c u d w _ (datagram-ours m c u w by s.port s.queue s.message k is.named by_in q_in))
    at false out = datagram-gone m c u d w by s.port s.queue s.message k out

-- of c
pub c-route : (m : Group) (c : ℕ) (w : World) (by : ThreadRow) (p : PortRow) → m c ≡ true → by.process ≡ c → Fair m c w → Named m c w by p → (seen_port m p ≡ p) × (route (view m w) p ≡ route w p)
c-route m c w by p c_in mine f n = (same, subst (λ r. route (view m w) r ≡ seen_pair m (route w p)) same (route-view m c w p f n.right p_in) ∙ at (route w p) refl)
  where
    p_in : m p.birth.process ≡ true
    p_in = ap m (n.process ∙ mine) ∙ c_in

    same : seen_port m p ≡ p
    same = c-port m c p c_in (n.process ∙ mine) n.right.fair

    at : (o : Option Birth) → route w p ≡ o → seen_pair m o ≡ o
    at None to = refl
    at (Some q) to = let q_in : m q.process ≡ true = routed-in m c w p q n.right c_in (ap (λ b. b == c) (n.process ∙ mine) ∙ same-number c) to in rw q_in refl

pub c-send_test : (m : Group) (c : ℕ) (u w : World) (by : ThreadRow) (handle : ℕ) (bytes : List ℕ) → Caller m c u w by → by.process ≡ c → send_test (view m w) by handle bytes ≡ send_test w by handle bytes
c-send_test m c u w by handle bytes k mine =
    rw (c-port_test m c w by handle k.c_in mine k.fair) (bind-same (port_test w by handle) _ _ (λ port at.
    bind-same (message_test bytes) _ _ (λ a is. rw (c-route m c w by port k.c_in mine k.fair (found-port m c u w by handle port k at)).1 refl)))

c-datagrams : (m : Group) (c : ℕ) (w : World) (b : Birth) → m c ≡ true → Fair m c w → (b.process == c) ≡ true → which (is_datagram_of b) (view m w).messages ≡ which (is_datagram_of b) w.messages
c-datagrams m c w b c_in f mine = which-where (is_fair_message m c) (our_message m) (is_datagram_of b) (λ x fair is.
    let same : x.sender ≡ b = birth-same x.sender b (first-true _ _ is) in
    let own : (x.sender.process == c) ≡ true = ap (λ (b : Birth). b.process == c) same ∙ mine in
    let own_in : m x.sender.process ≡ true = ap m (eqb-true _ _ own) ∙ c_in in
    grind arith) w.messages f.messages

c-datagram_test : (m : Group) (c : ℕ) (u w : World) (by : ThreadRow) (handle : ℕ) (bytes : List ℕ) → Caller m c u w by → by.process ≡ c → datagram_send_test (view m w) by handle bytes ≡ datagram_send_test w by handle bytes
c-datagram_test m c u w by handle bytes k mine =
    rw (c-send_test m c u w by handle bytes k mine) (bind-same (send_test w by handle bytes) _ _ (λ s at.
    let n : Named m c w by s.port = (found-request m c u w by handle bytes s k at).named in
    rw (c-datagrams m c w s.port.birth k.c_in k.fair (ap (λ b. b == c) (n.process ∙ mine) ∙ same-number c)) refl))

pub c-request_port : (m : Group) (c : ℕ) (u w : World) (by : ThreadRow) (handle : ℕ) (bytes : List ℕ) → Caller m c u w by → by.process ≡ c → nt_request_port (view m w) by handle bytes ≡ nt_request_port w by handle bytes
unfolding nt_request_port
c-request_port m c u w by handle bytes k mine =
    ap (λ r. r >>= (λ s. Ok (datagram_steps by s.port s.queue (sent_by by DATAGRAM s.message) (view m w)))) (c-datagram_test m c u w by handle bytes k mine)
    ∙ bind-same (datagram_send_test w by handle bytes) (λ s. Ok (datagram_steps by s.port s.queue (sent_by by DATAGRAM s.message) (view m w))) (λ s. Ok (datagram_steps by s.port s.queue (sent_by by DATAGRAM s.message) w)) (λ s at.
    let is : IsSendable m c w by handle bytes s = found-datagram m c u w by handle bytes s k at in
    let by_in : m by.process ≡ true = ap m mine ∙ k.c_in in
    let q_in : m s.queue.process ≡ true = routed-in m c w s.port s.queue is.named.right k.c_in (ap (λ b. b == c) (is.named.process ∙ mine) ∙ same-number c) is.to in
    let same : seen_port m s.port ≡ s.port = (c-route m c w by s.port k.c_in mine k.fair is.named).0 in
    ap (λ bs. Ok bs) (subst (λ p. datagram_steps by p s.queue (sent_by by DATAGRAM s.message) (view m w) ≡ datagram_steps by s.port s.queue (sent_by by DATAGRAM s.message) w) same (datagram-view m c u w by s.port s.queue s.message k is.named by_in q_in)))
