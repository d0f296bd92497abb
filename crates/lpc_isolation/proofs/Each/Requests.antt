-- NtRequestWaitReplyPort in a view.
use Rattle.std.proofs.Common.{◌≡◌, ℕ, List, [], ◌∷◌, ◌++◌, Bool, true, false, cond, Some, None, refl, ap, sym, subst, ◌∙◌, arith}
use Rattle.std.proofs.lemmas.Bool.{and_from}
use Rattle.std.specs.Prelude.{◌&&◌, ◌==◌, Ok}
use Rattle.lpc_base.proofs.RowWords.{every-push}
use Rattle.lpc_base.proofs.Bools.{same-number}
use Rattle.lpc_message.specs.declared.kind.TheConstants.{REQUEST}
use Rattle.lpc_model.specs.declared.message.Message.{Message}
use Rattle.lpc_model.specs.Then.{◌>>=◌}
use Rattle.lpc_model.specs.World.{Birth, MessageRow, PortRow, ThreadRow, WaitRow, World}
use Rattle.lpc_model.specs.Found.{route}
use Rattle.lpc_model.specs.Basics.{Awaits, Basic, DrawsIdentifier, Tells, basic, world_after}
use Rattle.lpc_model.specs.Entering.{enter, row_of}
use Rattle.lpc_model.specs.Request.{Sendable, nt_request_wait_reply_port, request_start, request_steps, request_wait, send_test, sent_by}
use Rattle.lpc_model.specs.declared.entry.CallName.TheVariants.{NtRequestWaitReplyPort}
use Rattle.lpc_model.specs.declared.entry.Entry.TheVariants.{Waits}
use Rattle.lpc_model.specs.Fields.{id}
use Rattle.lpc_model.specs.Circle.{Group, Whose}
use Rattle.lpc_isolation.proofs.Views.View.{our_wait, seen_port, view}
use Rattle.lpc_isolation.proofs.Views.Basics.{are_ours, basic-unseen, ours-append, run-ours}
use Rattle.lpc_isolation.proofs.Rows.Fair.{Fair, are_fair, implies, is_fair_wait, run-fair}
use Rattle.lpc_isolation.proofs.Views.Seen.{bind-same}
use Rattle.lpc_isolation.proofs.Each.Enter.{Patient, is_patient, enter-fair, enter-ours, enter-view}
use Rattle.lpc_isolation.proofs.Views.Apart.{Owned, are_apart, enter-apart, enter-gone, is_owned, unseen-at, unseen-wait}
use Rattle.lpc_isolation.proofs.Views.Callers.{Led, led-same, unseen-thread}
use Rattle.lpc_isolation.proofs.Each.Sends.{Caller, IsSendable, Named, c-route, c-send_test, led-send, led_send, row-fair, sent_way, found-request}
use Rattle.lpc_isolation.proofs.Each.Routes.{context-view, routed-in, routed-out}

-- the wait is fair
wait-fair : (m : Group) (c : ℕ) (w : World) (by : ThreadRow) (p : PortRow) (q : Birth) (a : Message) → m c ≡ true → Named m c w by p → route w p ≡ Some q → is_fair_wait m c (request_wait by p.birth q a) ≡ true
wait-fair m c w by p q a c_in n to =
    and_from _ _ (rw n.process (same-number by.process)) (and_from _ _ refl (and_from _ _ (at (m p.birth.process) refl) (and_from _ _ (mine (p.birth.process == c) refl) refl)))
  where
    at : (b : Bool) → m p.birth.process ≡ b → implies (q.process == c) (m by.process) ≡ true
    at true is = let by_in : m by.process ≡ true = ap m (sym n.process) ∙ is in grind arith
    at false out = rw (routed-out m c w p q n.right c_in out to) refl

    mine : (b : Bool) → (p.birth.process == c) ≡ b → implies (by.process == c) (m q.process) ≡ true
    mine true is = let q_in : m q.process ≡ true = routed-in m c w p q n.right c_in is to in grind arith
    mine false other = let by_other : (by.process == c) ≡ false = ap (λ b. b == c) (sym n.process) ∙ other in rw by_other refl

-- what the start leaves
pub record Started (m : Group) (c : ℕ) (u w : World) : Type 0 where
  pub fair : Fair m c w
  pub patient : Patient w
  pub owned : Owned u w

started : (m : Group) (c : ℕ) (u w : World) (by : ThreadRow) (p : PortRow) (q : Birth) (a : Message) → Caller m c u w by → Named m c w by p → route w p ≡ Some q → Started m c u (world_after w (request_start by p.birth q a))
started m c u w by p q a k n to = record {
  fair = run-fair m c w (request_start by p.birth q a) (rw (wait-fair m c w by p q a k.c_in n to) refl) k.fair;
  patient = every-push (is_patient w) w.waits (request_wait by p.birth q a) k.patient refl;
  owned = every-push (is_owned u) w.waits (request_wait by p.birth q a) k.owned (rw k.here (same-number by.process));
}

pub request-fair : (m : Group) (c : ℕ) (u w : World) (by : ThreadRow) (p : PortRow) (q : Birth) (a : Message) → Caller m c u w by → Named m c w by p → route w p ≡ Some q → are_fair m c w (request_steps by p q (sent_by by REQUEST a) w) ≡ true
request-fair m c u w by p q a k n to =
    rw (wait-fair m c w by p q (sent_by by REQUEST a) k.c_in n to) (enter-fair m c (world_after w (request_start by p.birth q (sent_by by REQUEST a))) (row_of q p (sent_by by REQUEST a)) (row-fair m c w by p q REQUEST a k.c_in k.own n to))

pub request-apart : (m : Group) (c : ℕ) (u : World) (d : Whose) (w : World) (by : ThreadRow) (p : PortRow) (q : Birth) (a : Message) → Caller m c u w by → Named m c w by p → route w p ≡ Some q → m by.process ≡ false → are_apart m c u d w (request_steps by p q (sent_by by REQUEST a) w) ≡ true
request-apart m c u d w by p q a k n to out =
    let p_out : m p.birth.process ≡ false = ap m n.process ∙ out in
    let s = started m c u w by p q (sent_by by REQUEST a) k n to in
    rw (k.here, out, unseen-thread m c w by.number by.process k.fair k.own out)
    (enter-apart m c u d (world_after w (request_start by p.birth q (sent_by by REQUEST a))) (row_of q p (sent_by by REQUEST a)) (rw p_out refl) (routed-out m c w p q n.right k.c_in p_out to)
    (unseen-at m (world_after w (request_start by p.birth q (sent_by by REQUEST a))) by.number q (unseen-wait m u (world_after w (request_start by p.birth q (sent_by by REQUEST a))) by.number by.process s.owned k.here out)) s.owned s.fair s.patient)

pub request-ours : (m : Group) (c : ℕ) (u w : World) (by : ThreadRow) (p : PortRow) (q : Birth) (a : Message) → Caller m c u w by → Named m c w by p → route w p ≡ Some q → m by.process ≡ true → m q.process ≡ true → are_ours m w (request_steps by p q (sent_by by REQUEST a) w) ≡ true
request-ours m c u w by p q a k n to is q_in =
    let p_in : m p.birth.process ≡ true = ap m n.process ∙ is in
    let bs : List Basic = request_start by p.birth q (sent_by by REQUEST a) in
    let x : MessageRow = row_of q p (sent_by by REQUEST a) in
    ours-append m w bs (enter x (world_after w bs)) (rw (is, q_in) refl) (enter-ours m (world_after w bs) x (and_from _ _ p_in q_in) (started m c u w by p q (sent_by by REQUEST a) k n to).patient)

request-view : (m : Group) (c : ℕ) (u w : World) (by : ThreadRow) (p : PortRow) (q : Birth) (a : Message) → Caller m c u w by → Named m c w by p → route w p ≡ Some q → m by.process ≡ true → m q.process ≡ true → request_steps by (seen_port m p) q (sent_by by REQUEST a) (view m w) ≡ request_steps by p q (sent_by by REQUEST a) w
request-view m c u w by p q a k n to is q_in =
    let p_in : m p.birth.process ≡ true = ap m n.process ∙ is in
    let bs : List Basic = request_start by p.birth q (sent_by by REQUEST a) in
    ap (λ context. bs ++ enter (record { queue = q; sender = p.birth; context = context; message = sent_by by REQUEST a }) (world_after (view m w) bs)) (context-view m c w p n.right p_in)
    ∙ ap (λ v. bs ++ enter (row_of q p (sent_by by REQUEST a)) v) (sym (run-ours m w bs (rw (is, q_in) refl)))
    ∙ ap (λ es. bs ++ es) (enter-view m c (world_after w bs) (row_of q p (sent_by by REQUEST a)) (started m c u w by p q (sent_by by REQUEST a) k n to).fair q_in)

-- of another member than c
abbrev pub request_gone : ThreadRow → List Basic
request_gone by = Tells (Waits by.number NtRequestWaitReplyPort (id by.next_identifier ∷ [])) ∷ DrawsIdentifier by.number ∷ []

abbrev pub led_request : World → ThreadRow → ℕ → List ℕ → List Basic
led_request v by handle bytes = led_send v by handle bytes (request_gone by) (λ port q a. request_steps by port q (sent_by by REQUEST a) v)

request-lost : (m : Group) (c : ℕ) (u : World) (d : Whose) (w : World) (by : ThreadRow) (p : PortRow) (q : Birth) (a : Message) → Caller m c u w by → Named m c w by p → route w p ≡ Some q → m q.process ≡ false → Led m c u d w (request_steps by p q (sent_by by REQUEST a) w) (request_gone by)
request-lost m c u d w by p q a k n to out =
    let bs : List Basic = request_start by p.birth q (sent_by by REQUEST a) in
    let s = started m c u w by p q (sent_by by REQUEST a) k n to in
    let x : WaitRow = request_wait by p.birth q (sent_by by REQUEST a) in
    let lost : our_wait m x ≡ false = off (m by.process) in
    let gone = enter-gone m c u d (world_after w bs) (row_of q p (sent_by by REQUEST a)) k.c_in out s.owned s.fair s.patient in
    record { world = gone.0 ∙ basic-unseen m (basic w (DrawsIdentifier by.number)) (Awaits x) lost refl ∙ run-ours m w (request_gone by) refl; told = rw gone.1 refl }
  where
    off : (b : Bool) → (b && m q.process) ≡ false
    off true = out
    off false = refl

pub request-led : (m : Group) (c : ℕ) (u : World) (d : Whose) (w : World) (by : ThreadRow) (handle : ℕ) (bytes : List ℕ) (s : Sendable) → Caller m c u w by → IsSendable m c w by handle bytes s → m by.process ≡ true
    → Led m c u d w (request_steps by s.port s.queue (sent_by by REQUEST s.message) w) (led_request (view m w) by handle bytes)
request-led m c u d w by handle bytes s k is by_in =
    subst (Led m c u d w (request_steps by s.port s.queue (sent_by by REQUEST s.message) w)) (sym (led-send m c w by handle bytes s (request_gone by) (λ port q a. request_steps by port q (sent_by by REQUEST a) (view m w)) k.fair is by_in)) (at (m s.queue.process) refl)
  where
    at : (b : Bool) → m s.queue.process ≡ b → Led m c u d w (request_steps by s.port s.queue (sent_by by REQUEST s.message) w) (sent_way (request_gone by) (λ q. request_steps by (seen_port m s.port) q (sent_by by REQUEST s.message) (view m w)) (cond b (Some s.queue) None))
    at true q_in = rw (request-view m c u w by s.port s.queue s.message k is.named is.to by_in q_in) (led-same m c u d w _ (request-ours m c u w by s.port s.queue s.message k is.named is.to by_in q_in))
    at false out = request-lost m c u d w by s.port s.queue s.message k is.named is.to out

-- of c
pub c-request : (m : Group) (c : ℕ) (u w : World) (by : ThreadRow) (handle : ℕ) (bytes : List ℕ) → Caller m c u w by → by.process ≡ c → nt_request_wait_reply_port (view m w) by handle bytes ≡ nt_request_wait_reply_port w by handle bytes
unfolding nt_request_wait_reply_port
c-request m c u w by handle bytes k mine =
    ap (λ r. r >>= (λ s. Ok (request_steps by s.port s.queue (sent_by by REQUEST s.message) (view m w)))) (c-send_test m c u w by handle bytes k mine)
    ∙ bind-same (send_test w by handle bytes) (λ s. Ok (request_steps by s.port s.queue (sent_by by REQUEST s.message) (view m w))) (λ s. Ok (request_steps by s.port s.queue (sent_by by REQUEST s.message) w)) (λ s at.
    let is : IsSendable m c w by handle bytes s = found-request m c u w by handle bytes s k at in
    let by_in : m by.process ≡ true = ap m mine ∙ k.c_in in
    let q_in : m s.queue.process ≡ true = routed-in m c w s.port s.queue is.named.right k.c_in (ap (λ b. b == c) (is.named.process ∙ mine) ∙ same-number c) is.to in
    let same : seen_port m s.port ≡ s.port = (c-route m c w by s.port k.c_in mine k.fair is.named).0 in
    ap (λ bs. Ok bs) (subst (λ p. request_steps by p s.queue (sent_by by REQUEST s.message) (view m w) ≡ request_steps by s.port s.queue (sent_by by REQUEST s.message) w) same (request-view m c u w by s.port s.queue s.message k is.named is.to by_in q_in)))
