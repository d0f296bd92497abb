-- NtReplyPort in a view.
use Rattle.lpc_base.specs.declared.port_kind.PortKind.TheVariants.{Client, Connection, Server, Unnamed}
use Rattle.lpc_model.specs.Entering.{woken}
use Rattle.lpc_model.proofs.Steps.Rows.{has-found}
use Rattle.lpc_model.specs.Settle.{is_event_of}
use Rattle.lpc_isolation.proofs.Views.Marks.{no-event}
use Rattle.lpc_model.proofs.Sound.Reply.{reply-cases}
use Rattle.lpc_isolation.proofs.Views.Mine.{fit-parts}
use Rattle.lpc_isolation.proofs.Rows.Paths.{Paths, is_path, leads}
use Rattle.std.proofs.Common.{◌≡◌, ℕ, ◌≤◌, List, [], ◌∷◌, Bool, true, false, Option, Some, None, refl, ap, sym, ◌∙◌, arith, not, subst}
use Rattle.std.specs.Prelude.{◌&&◌, ◌||◌, ◌==◌, Ok, option_and_then}
use Rattle.std.proofs.lemmas.Bool.{and_from, eqb-true, false_from_ne_true}
use Rattle.lpc_base.specs.Rows.{count, first, given, passes, which}
use Rattle.lpc_base.proofs.RowWords.{first-passes}
use Rattle.lpc_base.proofs.RowMaps.{every-first}
use Rattle.lpc_base.proofs.Bools.{first-true, same-number, second-true}
use Rattle.lpc_base.proofs.Births.{birth-same}
use Rattle.lpc_base.specs.declared.status.Status.{Status}
use Rattle.lpc_base.specs.declared.status.TheConstants.{REPLY_MESSAGE_MISMATCH, SUCCESS, DBG_CONTINUE}
use Rattle.lpc_model.specs.Fields.{msg}
use Rattle.lpc_model.specs.declared.entry.CallName.{CallName}
use Rattle.lpc_model.specs.declared.entry.CallName.TheVariants.{NtReplyPort}
use Rattle.lpc_model.specs.declared.entry.Entry.TheVariants.{Answer, Wakes}
use Rattle.lpc_model.specs.declared.entry.Field.{Field}
use Rattle.lpc_model.specs.declared.message.Message.{Message}
use Rattle.lpc_model.specs.Message.{as_reply, message_test}
use Rattle.lpc_model.specs.World.{Birth, PortRow, ThreadRow, WaitRow, World, PortKind}
use Rattle.lpc_model.specs.Found.{fits, fitted, is_port, is_the, pair_of, port_row, same_birth, wait_of, waits_as, is_event, is_server_port, is_receive, is_listen}
use Rattle.lpc_model.specs.Basics.{Basic, Marks, entries_of, basic, world_after}
use Rattle.lpc_model.specs.Request.{reply_test, reply, reply_steps}
use Rattle.lpc_model.specs.Tests.{client_test}
use Rattle.lpc_model.proofs.Calls.Holding.{Holds, bind_holds, found_holds, holds_ok}
use Rattle.lpc_model.specs.Circle.{Group, Whose, owner}
use Rattle.lpc_isolation.proofs.Views.Alone.{alone}
use Rattle.lpc_isolation.proofs.Views.Filters.{first-kept}
use Rattle.lpc_isolation.proofs.Views.View.{of_birth, our_wait, view, our_mark}
use Rattle.lpc_isolation.proofs.Views.Basics.{basic-unseen, run-ours, sees_wait, are_ours}
use Rattle.lpc_isolation.proofs.Rows.Fair.{Fair, all_of, is_fair_pair, is_fair_port, is_fair_wait, is_home, is_fair_raise, port-home, port-side, is_home_wait, implies}
use Rattle.lpc_isolation.proofs.Views.Apart.{Owned, are_apart, end-apart, is_heard, is_owned, owned-by, wait-gone, heard}
use Rattle.lpc_isolation.proofs.Views.Callers.{Led, c-wait, on_ok}

-- The pair of a port of c is a member's.
pair-in : (m : Group) (c : ℕ) (p : PortRow) (o : Option Birth) (b : Birth) → (is_home p && all_of o (is_fair_pair m c p)) ≡ true → is_the b o ≡ true → m p.birth.process ≡ true → (p.birth.process == c) ≡ true → m b.process ≡ true
pair-in m c p None b fair is own mine = absurd (cc)
pair-in m c p (Some q) b fair is own mine =
    let q_in : m q.process ≡ true = grind arith in of_birth m b q is ∙ q_in

pair-at : (m : Group) (c : ℕ) (w : World) (b port : Birth) (o : Option PortRow) → Fair m c w → m c ≡ true → port_row w b ≡ o → is_the port (option_and_then (λ p. p.pair) o) ≡ true → (b.process == c) ≡ true → m port.process ≡ true
pair-at m c w b port None f c_in at is mine = absurd (cc)
pair-at m c w b port (Some p) f c_in at is mine =
    let same : p.birth ≡ b = birth-same p.birth b (first-passes (is_port b) w.ports p at) in
    let its : (p.birth.process == c) ≡ true = ap (λ (b : Birth). b.process == c) same ∙ mine in
    pair-in m c p p.pair port (every-first (is_fair_port m c) (is_port b) w.ports p f.ports at) is (ap m (eqb-true _ _ its) ∙ c_in) its

pub c-pair : (m : Group) (c : ℕ) (w : World) (b port : Birth) → Fair m c w → m c ≡ true → is_the port (pair_of w b) ≡ true → (b.process == c) ≡ true → m port.process ≡ true
c-pair m c w b port f c_in is mine = pair-at m c w b port (port_row w b) f c_in refl is mine

-- and so is a port whose pair is c's
pair-inside : (m : Group) (c : ℕ) (p : PortRow) (b : Birth) → is_fair_pair m c p b ≡ true → m c ≡ true → b.process ≡ c → m p.birth.process ≡ true
pair-inside m c p b fair c_in mine = at (is_server_port p) refl
  where
    b_in : m b.process ≡ true
    b_in = ap m mine ∙ c_in

    b_c : (b.process == c) ≡ true
    b_c = ap (λ p. p == c) mine ∙ same-number c

    at : (e : Bool) → is_server_port p ≡ e → m p.birth.process ≡ true
    at true kind = let it : ((not true || m p.birth.process) && (not (p.birth.process == c) || true)) ≡ true = rw (kind, b_in) at fair in first-true _ _ it
    at false kind = let it : ((not (m p.birth.process) || true) && (not true || m p.birth.process)) ≡ true = rw (kind, b_in, b_c) at fair in second-true _ _ it

pair-back : (m : Group) (c : ℕ) (w : World) (b port : Birth) (o : Option PortRow) → port_row w b ≡ o → Fair m c w → m c ≡ true → port.process ≡ c → is_the port (option_and_then (λ p. p.pair) o) ≡ true → m b.process ≡ true
pair-back m c w b port None at f c_in mine is = absurd (cc)
pair-back m c w b port (Some p) at f c_in mine is =
    sym (ap (λ (b : Birth). m b.process) (birth-same p.birth b (first-passes (is_port b) w.ports p at)))
    ∙ by-pair p.pair (every-first (is_fair_port m c) (is_port b) w.ports p f.ports at) is
  where
    by-pair : (o : Option Birth) → (is_home p && all_of o (is_fair_pair m c p)) ≡ true → is_the port o ≡ true → m p.birth.process ≡ true
    by-pair None fair is = absurd (cc)
    by-pair (Some q) fair is =
        let same : port ≡ q = birth-same port q is in
        pair-inside m c p port (subst (λ q. is_fair_pair m c p q ≡ true) (sym same) (second-true (is_home p) _ fair)) c_in mine

-- what c waits for, a member alone answers
-- the other end of the port on which an event was sent is a member's, where the queue is
event-pair : (m : Group) (c : ℕ) (w : World) (port b : Birth) (q : Birth) (o : Option PortRow) → port_row w b ≡ o → Fair m c w → passes o (leads q) ≡ true → is_the port (option_and_then (λ p. p.pair) o) ≡ true → m b.process ≡ true → m q.process ≡ true → m port.process ≡ true
event-pair m c w port b q None at f lead is b_in q_in = absurd (cc)
event-pair m c w port b q (Some p) at f lead is b_in q_in = by-kind p.kind refl p.pair refl is
  where
    own : m p.birth.process ≡ true
    own = of_birth m p.birth b (first-passes (is_port b) w.ports p at) ∙ b_in

    fair : is_fair_port m c p ≡ true
    fair = every-first (is_fair_port m c) (is_port b) w.ports p f.ports at

    other : (d : Birth) → p.pair ≡ Some d → is_server_port p ≡ false → is_the port (Some d) ≡ true → m port.process ≡ true
    other d some off is =
        let pair : (is_home p && is_fair_pair m c p d) ≡ true = rw some at fair in
        let it : ((not true || m d.process) && (not (d.process == c) || true)) ≡ true = rw (off, own) at (second-true (is_home p) (is_fair_pair m c p d) pair) in
        of_birth m port d is ∙ first-true (not true || m d.process) _ it

    by-kind : (k : PortKind) → p.kind ≡ k → (o : Option Birth) → p.pair ≡ o → is_the port o ≡ true → m port.process ≡ true
    by-kind k kind None none is = absurd (cc)
    by-kind Server kind (Some d) some is = let there : same_birth q d ≡ true = rw (kind, some) at lead in of_birth m port d is ∙ sym (of_birth m q d there) ∙ q_in
    by-kind Client kind (Some d) some is = other d some (rw kind refl) is
    by-kind Connection kind (Some d) some is = other d some (rw kind refl) is
    by-kind Unnamed kind (Some d) some is = other d some (rw kind refl) is

fit-event : (m : Group) (c : ℕ) (w : World) (port : Birth) (x : WaitRow) → Fair m c w → is_path w x ≡ true → is_fair_wait m c x ≡ true → is_fair_raise m x ≡ true → is_event x ≡ true → is_the port (pair_of w x.port) ≡ true → m x.process ≡ true → m port.process ≡ true
fit-event m c w port x f path fair raise on is x_in =
    let q_in : m x.queue.process ≡ true = grind arith in
    let lead : passes (port_row w x.port) (leads x.queue) ≡ true = grind arith in
    event-pair m c w port x.port x.queue (port_row w x.port) refl f lead is (port-side m x (first-true _ _ fair) ∙ x_in) q_in

fit-member : (m : Group) (c : ℕ) (w : World) (port : Birth) (a : Message) (x : WaitRow) (q t : Bool) → same_birth x.queue port ≡ q → is_the port (pair_of w x.port) ≡ t → Fair m c w → is_path w x ≡ true → is_fair_raise m x ≡ true → m c ≡ true → is_fair_wait m c x ≡ true → (q || t) ≡ true → (x.process == c) ≡ true → m port.process ≡ true
fit-member m c w port a x true t here there f path raise c_in fair is mine =
    let queue : m x.queue.process ≡ true = grind arith in sym (of_birth m x.queue port here) ∙ queue
fit-member m c w port a x false true here there f path raise c_in fair is mine = by-kind (is_event x) refl
  where
    by-kind : (e : Bool) → is_event x ≡ e → m port.process ≡ true
    by-kind true on = fit-event m c w port x f path fair raise on there (ap m (eqb-true _ _ mine) ∙ c_in)
    by-kind false off =
        let process : x.port.process ≡ x.process = port-home m x off (first-true _ _ fair) in
        c-pair m c w x.port port f c_in there (ap (λ p. p == c) process ∙ mine)
fit-member m c w port a x false false here there f path raise c_in fair is mine = absurd (cc)

pub fit-other : (m : Group) (c : ℕ) (w : World) (port : Birth) (a : Message) (x : WaitRow) → Fair m c w → Paths w → m c ≡ true → m port.process ≡ false → fitted w port a ≡ Some x → (x.process == c) ≡ false
fit-other m c w port a x f paths c_in out at = other (x.process == c) refl
  where
    other : (b : Bool) → (x.process == c) ≡ b → b ≡ false
    other true mine =
        let is : fits w port a x ≡ true = first-passes (fits w port a) w.waits x at in
        let k : m port.process ≡ true = fit-member m c w port a x (same_birth x.queue port) (is_the port (pair_of w x.port)) refl refl f (every-first (is_path w) (fits w port a) w.waits x paths at) (every-first (is_fair_raise m) (fits w port a) w.waits x f.raised at) c_in (every-first (is_fair_wait m c) (fits w port a) w.waits x f.waits at) (fit-parts w port a x is) mine in absurd (cc)
    other false is = refl

-- the wait that is answered
pub answered-fits : (w : World) (port : PortRow) (a : Message) → Holds (λ x. fitted w port.birth a ≡ Some x) (reply_test w port a)
answered-fits w port a =
    let P : WaitRow → Type 0 = λ x. fitted w port.birth a ≡ Some x in
    bind_holds (client_test w a.header.client) _ P (λ _ _.
    found_holds P (fitted w port.birth a) REPLY_MESSAGE_MISMATCH (λ x at. at))

pub answered-fit : (w : World) (port : PortRow) (a : Message) (x : WaitRow) → reply_test w port a ≡ Ok x → fitted w port.birth a ≡ Some x
answered-fit w port a x is = holds_ok (λ x. fitted w port.birth a ≡ Some x) (reply_test w port a) x (answered-fits w port a) is

-- An outsider's reply
pub wakes-apart : (m : Group) (c : ℕ) (u : World) (d : Whose) (w : World) (port : PortRow) (a : Message) (x : WaitRow) → m c ≡ true → Fair m c w → Owned u w → Paths w → m port.birth.process ≡ false → reply_test w port a ≡ Ok x → are_apart m c u d w (reply x a ∷ []) ≡ true
wakes-apart m c u d w port a x c_in f owned paths out is =
    reply-cases (λ r. are_apart m c u d w (r ∷ []) ≡ true) x a (ends SUCCESS (msg (as_reply a) ∷ [])) (ends DBG_CONTINUE []) (λ on. rw (unmarked on) refl)
  where
    at : fitted w port.birth a ≡ Some x
    at = answered-fit w port a x is

    ends : (status : Status) (fields : List Field) → are_apart m c u d w (woken status fields x ∷ []) ≡ true
    ends status fields = and_from _ _ (and_from _ _ (end-apart m c u d w x status fields owned (every-first (is_owned u) (fits w port.birth a) w.waits x owned at) (fit-other m c w port.birth a x f paths c_in out at)) refl) refl

    fit : fits w port.birth a x ≡ true
    fit = first-passes (fits w port.birth a) w.waits x at

    fair : is_fair_wait m c x ≡ true
    fair = every-first (is_fair_wait m c) (fits w port.birth a) w.waits x f.waits at

    raise : is_fair_raise m x ≡ true
    raise = every-first (is_fair_raise m) (fits w port.birth a) w.waits x f.raised at

    outside : is_event x ≡ true → m x.process ≡ false
    outside on = false_from_ne_true (m x.process) (λ x_in. inside x_in (same_birth x.queue port.birth) (is_the port.birth (pair_of w x.port)) refl refl (fit-parts w port.birth a x fit))
      where
        inside : m x.process ≡ true → (q t : Bool) → same_birth x.queue port.birth ≡ q → is_the port.birth (pair_of w x.port) ≡ t → (q || t) ≡ true → ⊥
        inside x_in true t here there is =
            let q_in : (not true || (not true || m x.queue.process)) ≡ true = rw (on, x_in) at raise in
            let k : m port.birth.process ≡ true = sym (of_birth m x.queue port.birth here) ∙ q_in in cc
        inside x_in false true here there is =
            let k : m port.birth.process ≡ true = fit-event m c w port.birth x f (every-first (is_path w) (fits w port.birth a) w.waits x paths at) fair raise on there x_in in cc
        inside x_in false false here there is = absurd (cc)

    unmarked : is_event x ≡ true → our_mark m w x.thread ≡ false
    unmarked on = no-event x.thread (which (our_wait m) w.waits) (wait-gone m u w x owned (every-first (is_owned u) (fits w port.birth a) w.waits x owned at) (outside on))

-- It posts nothing
pub reply-messages : (w : World) (x : WaitRow) (a : Message) → (world_after w (reply x a ∷ [])).messages ≡ w.messages
reply-messages w x a = reply-cases (λ r. (world_after w (r ∷ [])).messages ≡ w.messages) x a refl refl (λ _. refl)

-- c's reply to an event: that is a member's
fit-inside : (m : Group) (c : ℕ) (w : World) (port : Birth) (x : WaitRow) (q t : Bool) → same_birth x.queue port ≡ q → is_the port (pair_of w x.port) ≡ t → Fair m c w → m c ≡ true → port.process ≡ c → is_fair_wait m c x ≡ true → (q || t) ≡ true → m x.process ≡ true
fit-inside m c w port x true t here there f c_in mine fair is =
    let queue : (x.queue.process == c) ≡ true = ap (λ (b : Birth). b.process == c) (birth-same x.queue port here) ∙ ap (λ n. n == c) mine ∙ same-number c in
    held (x.queue.process == c) (m x.process) queue (first-true (implies (x.queue.process == c) (m x.process)) _ (second-true (implies (is_receive x || is_listen x) (x.queue.process == x.process)) _ (second-true (is_home_wait m x) _ fair)))
  where
    held : (a b : Bool) → a ≡ true → implies a b ≡ true → b ≡ true
    held a b is ok = grind arith
fit-inside m c w port x false true here there f c_in mine fair is =
    sym (port-side m x (first-true (is_home_wait m x) _ fair)) ∙ pair-back m c w x.port port (port_row w x.port) refl f c_in mine there
fit-inside m c w port x false false here there f c_in mine fair is = absurd (cc)

pub event-mark : (m : Group) (c : ℕ) (w : World) (port : PortRow) (a : Message) (x : WaitRow) → m c ≡ true → Fair m c w → port.birth.process ≡ c → reply_test w port a ≡ Ok x → is_event x ≡ true → our_mark m w x.thread ≡ true
event-mark m c w port a x c_in f mine is on =
    let at : fitted w port.birth a ≡ Some x = answered-fit w port a x is in
    let fit : fits w port.birth a x ≡ true = first-passes (fits w port.birth a) w.waits x at in
    let fair : is_fair_wait m c x ≡ true = every-first (is_fair_wait m c) (fits w port.birth a) w.waits x f.waits at in
    let raise : is_fair_raise m x ≡ true = every-first (is_fair_raise m) (fits w port.birth a) w.waits x f.raised at in
    let inside : m x.process ≡ true = fit-inside m c w port.birth x (same_birth x.queue port.birth) (is_the port.birth (pair_of w x.port)) refl refl f c_in mine fair (fit-parts w port.birth a x fit) in
    let queue : (not true || (not true || m x.queue.process)) ≡ true = rw (on, inside) at raise in
    has-found (is_event_of x.thread) (fits w port.birth a) (which (our_wait m) w.waits) x (first-kept (our_wait m) (fits w port.birth a) w.waits x at (and_from _ _ inside queue)) (and_from _ _ (same-number x.thread) on)

-- A member's reply, by its answer alone: where it was accepted, the client's thread waits no longer
abbrev pub led_reply : World → Message → List Basic
led_reply v a = given (wait_of v a.header.client.thread) (λ x. reply x a ∷ [])

count-found : (p : WaitRow → Bool) (q : WaitRow → Bool) → ((y : WaitRow) → p y ≡ true → q y ≡ true) → (xs : List WaitRow) (x : WaitRow) → first p xs ≡ Some x → 1 ≤ count q xs
count-found p q more [] x at = absurd (cc)
count-found p q more (y ∷ ys) x at = grind (arith, more y, count-found p q more ys x)

pub once-first : (p : WaitRow → Bool) (q : WaitRow → Bool) → ((y : WaitRow) → p y ≡ true → q y ≡ true) → (xs : List WaitRow) (x : WaitRow) → count q xs ≤ 1 → first p xs ≡ Some x → first q xs ≡ Some x
once-first p q more [] x once at = absurd (cc)
once-first p q more (y ∷ ys) x once at = grind (arith, more y, count-found p q more ys x, once-first p q more ys x)

-- of the one wait of a thread, what the view has
none-left : (k q : WaitRow → Bool) (xs : List WaitRow) → count q xs ≤ 0 → first q (which k xs) ≡ None
none-left k q [] few = refl
none-left k q (y ∷ ys) few = grind (arith, none-left k q ys)

pub alone-out : (k q : WaitRow → Bool) (xs : List WaitRow) (x : WaitRow) → count q xs ≤ 1 → first q xs ≡ Some x → k x ≡ false → first q (which k xs) ≡ None
alone-out k q [] x once at out = refl
alone-out k q (y ∷ ys) x once at out = grind (arith, none-left k q ys, alone-out k q ys x)

fit-thread : (w : World) (port : Birth) (a : Message) (y : WaitRow) → fits w port a y ≡ true → waits_as a.header.client.thread y ≡ true
fit-thread w port a y is = first-true _ _ is

-- c's own entries: another member's isn't one, nor is the wake of one who isn't c
pub not-c : (c : ℕ) (u : World) (d : Whose) (tid pid : ℕ) (call : CallName) (status : Status) (fields : List Field) → owner u tid ≡ Some pid → (pid == c) ≡ false → is_heard (alone c) u d (Answer tid call status fields) ≡ false
not-c c u d tid pid call status fields own other = rw own other

pub wake-not-c : (m : Group) (c : ℕ) (u : World) (d : Whose) (x : WaitRow) (call : CallName) (status : Status) (fields : List Field) → is_owned u x ≡ true → (x.process == c) ≡ false → is_heard (alone c) u d (Wakes x.thread call status fields) ≡ false
wake-not-c m c u d x call status fields is other = at (owner u x.thread) refl
  where
    at : (o : Option ℕ) → owner u x.thread ≡ o → is_heard (alone c) u d (Wakes x.thread call status fields) ≡ false
    at None none = let k : passes None (λ p. p == x.process) ≡ true = rw none at is in absurd (cc)
    at (Some pid) own = rw (own, owned-by u x pid own is) other

pub wait-not-c : (m : Group) (c : ℕ) (x : WaitRow) → m c ≡ true → is_fair_wait m c x ≡ true → our_wait m x ≡ false → (x.process == c) ≡ false
wait-not-c m c x c_in fair out = false_from_ne_true (x.process == c) (λ is. let k : our_wait m x ≡ true = c-wait m c x c_in fair is in cc)

-- the reply of a member other than c
pub led-wakes : (m : Group) (c : ℕ) (u : World) (d : Whose) (w : World) (by : ThreadRow) (port : Birth) (a : Message) (x : WaitRow) → m c ≡ true → Fair m c w → Owned u w → ((tid : ℕ) → count (waits_as tid) w.waits ≤ 1) → owner u by.number ≡ Some by.process → (by.process == c) ≡ false → fitted w port a ≡ Some x
    → Led m c u d w (reply_steps by x a) (led_reply (view m w) a)
led-wakes m c u d w by port a x c_in f owned once here other fit = inside (our_wait m x) refl
  where
    at : first (waits_as a.header.client.thread) w.waits ≡ Some x
    at = once-first (fits w port a) (waits_as a.header.client.thread) (fit-thread w port a) w.waits x (once a.header.client.thread) fit

    marks : is_event x ≡ true → our_wait m x ≡ true → our_mark m w x.thread ≡ true
    marks on ours = has-found (is_event_of x.thread) (waits_as a.header.client.thread) (which (our_wait m) w.waits) x (first-kept (our_wait m) (waits_as a.header.client.thread) w.waits x at ours) (and_from _ _ (same-number x.thread) on)

    quiet : (status : Status) (fields : List Field) → our_wait m x ≡ false → is_heard (alone c) u d (Wakes x.thread x.call status fields) ≡ false
    quiet status fields out = wake-not-c m c u d x x.call status fields (every-first (is_owned u) (fits w port a) w.waits x owned fit) (wait-not-c m c x c_in (every-first (is_fair_wait m c) (fits w port a) w.waits x f.waits fit) out)

    inside : (b : Bool) → our_wait m x ≡ b → Led m c u d w (reply_steps by x a) (led_reply (view m w) a)
    inside true is =
        rw (first-kept (our_wait m) (waits_as a.header.client.thread) w.waits x at is) (record {
          world = run-ours m w (reply x a ∷ []) (reply-cases (λ r. are_ours m w (r ∷ []) ≡ true) x a refl refl (λ on. rw (marks on is) refl));
          told = rw (not-c c u d by.number by.process NtReplyPort SUCCESS [] here other) refl;
        })
    inside false out =
        let thread : x.thread ≡ a.header.client.thread = eqb-true _ _ (fit-thread w port a x (first-passes (fits w port a) w.waits x fit)) in
        let none : first (waits_as a.header.client.thread) (view m w).waits ≡ None = alone-out (our_wait m) (waits_as a.header.client.thread) w.waits x (once a.header.client.thread) at out in
        let none_x : sees_wait m w x.thread ≡ false = rw (thread, none) refl in
        rw none (record {
          world = reply-cases (λ r. view m (basic w r) ≡ view m w) x a (basic-unseen m w (woken SUCCESS (msg (as_reply a) ∷ []) x) none_x refl) (basic-unseen m w (woken DBG_CONTINUE [] x) none_x refl) (λ on. basic-unseen m w (Marks x.thread) (no-event x.thread (which (our_wait m) w.waits) none_x) refl);
          told = rw (not-c c u d by.number by.process NtReplyPort SUCCESS [] here other) (reply-cases (λ r. heard (alone c) u d (entries_of (r ∷ [])) ≡ []) x a (rw (quiet SUCCESS (msg (as_reply a) ∷ []) out) refl) (rw (quiet DBG_CONTINUE [] out) refl) (λ on. refl));
        })

-- by its answer alone
abbrev pub led_reply_port : World → List ℕ → List Basic
led_reply_port v bytes = on_ok (message_test bytes) (λ a. led_reply v a)
