-- NtReplyWaitReceivePort in a view.
use Rattle.lpc_model.proofs.Sound.Reply.{reply-cases}
use Rattle.std.proofs.Common.{◌≡◌, ℕ, List, [], ◌∷◌, ◌++◌, Bool, true, false, cond, Option, Some, None, refl, ap, sym, subst, ◌∙◌, arith}
use Rattle.std.specs.Prelude.{◌&&◌, ◌==◌, Result, Ok, Err}
use Rattle.std.proofs.lemmas.Bool.{and_from, eqb-true}
use Rattle.lpc_base.specs.Rows.{every, first, given, which}
use Rattle.lpc_base.proofs.RowWords.{every-without, first-passes}
use Rattle.lpc_base.proofs.RowMaps.{every-first}
use Rattle.lpc_base.proofs.Bools.{first-true, same-number, second-true}
use Rattle.lpc_base.proofs.Births.{birth-same}
use Rattle.lpc_base.specs.declared.status.Status.{Status}
use Rattle.lpc_base.specs.declared.status.TheConstants.{PORT_DISCONNECTED, SUCCESS, DBG_CONTINUE}
use Rattle.lpc_model.specs.declared.entry.CallName.TheVariants.{NtReplyPort, NtReplyWaitReceivePort}
use Rattle.lpc_model.specs.declared.entry.Entry.{Entry}
use Rattle.lpc_model.specs.declared.entry.Entry.TheVariants as entry
use Rattle.lpc_base.specs.declared.port_kind.PortKind.TheVariants.{Client, Server}
use Rattle.lpc_model.specs.declared.message.Message.{Message}
use Rattle.lpc_model.specs.Message.{message_test, as_reply}
use Rattle.lpc_model.specs.Fields.{receipt, msg}
use Rattle.lpc_model.specs.Refusal.{found_or}
use Rattle.lpc_model.specs.Then.{◌>>=◌}
use Rattle.lpc_model.specs.World.{Birth, MessageRow, PortKind, PortRow, ThreadRow, WaitRow, World}
use Rattle.lpc_model.specs.Found.{if_open, is_open, is_queued, is_server_port, queue_of, waits_as}
use Rattle.lpc_model.specs.Basics.{Awaits, Basic, Tells, basic, entries_of, world_after, Marks}
use Rattle.lpc_model.specs.Request.{reply_test, given_reply, is_spent, nt_reply_wait_receive_port, optional_message, receive_steps, receive_test, receive_wait, reply}
use Rattle.lpc_model.specs.Entering.{take_steps, woken}
use Rattle.lpc_model.specs.Tests.{port_test}
use Rattle.lpc_model.proofs.Calls.Outcomes.{IsReceiving}
use Rattle.lpc_model.proofs.Calls.Holding.{found_ok, holds_ok}
use Rattle.lpc_model.specs.Circle.{Group, Whose, names_no_outsider, owner}
use Rattle.lpc_isolation.proofs.Views.Alone.{alone}
use Rattle.lpc_isolation.proofs.Views.Filters.{first-kept}
use Rattle.lpc_isolation.proofs.Views.View.{our_message, seen_port, view}
use Rattle.lpc_isolation.proofs.Views.Basics.{are_ours, basic-ours, run-ours}
use Rattle.lpc_isolation.proofs.Rows.Fair.{Fair, all_of, are_fair, implies, is_fair_message, is_home, is_sent, together}
use Rattle.lpc_isolation.proofs.Views.Seen.{bind-same, c-port, open-view, port_test-view}
use Rattle.lpc_isolation.proofs.Views.Apart.{Owned, are_apart, heard, is_heard, is_owned}
use Rattle.std.proofs.lemmas.List.Elements.{filter-append}
use Rattle.lpc_model.proofs.Calls.Acts.{tested-queue}
use Rattle.lpc_model.proofs.Steps.InTurn.{after-append, entries-append}
use Rattle.lpc_isolation.proofs.Views.Callers.{Led, on_ok}
use Rattle.lpc_isolation.proofs.Each.Reply.{answered-fit, led_reply, led-wakes, not-c}
use Rattle.lpc_isolation.proofs.Views.Mine.{Ways, c-answered, c-port_test, message-names}
use Rattle.lpc_isolation.proofs.Each.Sends.{Caller, Named, found-port}
use Rattle.lpc_isolation.proofs.Each.Takes.{IsFirst, c-first, is_readable, shown_process, shows-receipt, take-apart, take-fair, take-gone, take-ours, take-silent}
use Rattle.lpc_isolation.proofs.Each.Listens.{own-wait-fair, own_entry}
use Rattle.lpc_isolation.proofs.Each.Routes.{Right}

-- The queue of a port is of the port's process, and is seen
home-queue : (p : PortRow) (o : Option Birth) → implies (is_server_port p) (all_of p.connection (λ q. q.process == p.birth.process)) ≡ true → is_server_port p ≡ true → p.connection ≡ o → all_of o (λ q. q.process == p.birth.process) ≡ true
home-queue p None home kind at = refl
home-queue p (Some q) home kind at = rw (kind, at) at home

open-at : (w : World) (o : Option Birth) (q : Birth) (pid : ℕ) → all_of o (λ b. b.process == pid) ≡ true → if_open w o ≡ Some q → q.process ≡ pid
open-at w None q pid is at = absurd (cc)
open-at w (Some b) q pid is at = opened (is_open w b) at
  where
    opened : (e : Bool) → cond e (Some b) None ≡ Some q → q.process ≡ pid
    opened true at = let same : b ≡ q = cc in subst (λ (b : Birth). b.process ≡ pid) same (eqb-true _ _ is)
    opened false at = absurd (cc)

queue-kind : (m : Group) (c : ℕ) (w : World) (p : PortRow) (q : Birth) (k : PortKind) → p.kind ≡ k → Right m c w p → queue_of w p ≡ Some q → q.process ≡ p.birth.process
queue-kind m c w p q Server k r at = open-at w p.connection q p.birth.process (home-queue p p.connection (first-true _ _ (first-true (is_home p) _ r.fair)) (rw k refl) refl) (rw k at at)
queue-kind m c w p q b k r at = open-at w (Some p.birth) q p.birth.process (same-number p.birth.process) (rw k at at)

pub queue-own : (m : Group) (c : ℕ) (w : World) (p : PortRow) (q : Birth) → Right m c w p → queue_of w p ≡ Some q → q.process ≡ p.birth.process
queue-own m c w p q r at = queue-kind m c w p q p.kind refl r at

member-open : (m : Group) (c : ℕ) (w : World) (pid : ℕ) (o : Option Birth) → Fair m c w → m pid ≡ true → all_of o (λ b. b.process == pid) ≡ true → if_open (view m w) o ≡ if_open w o
member-open m c w pid None f is own = refl
member-open m c w pid (Some b) f is own = rw (open-view m c w b f (ap m (eqb-true _ _ own) ∙ is)) refl

queue-view-kind : (m : Group) (c : ℕ) (w : World) (p : PortRow) (k : PortKind) → p.kind ≡ k → Fair m c w → Right m c w p → m p.birth.process ≡ true → queue_of (view m w) (seen_port m p) ≡ queue_of w p
queue-view-kind m c w p Server k f r is = rw k (member-open m c w p.birth.process p.connection f is (home-queue p p.connection (first-true _ _ (first-true (is_home p) _ r.fair)) (rw k refl) refl))
queue-view-kind m c w p b k f r is = rw k (member-open m c w p.birth.process (Some p.birth) f is (same-number p.birth.process))

pub queue-view : (m : Group) (c : ℕ) (w : World) (p : PortRow) → Fair m c w → Right m c w p → m p.birth.process ≡ true → queue_of (view m w) (seen_port m p) ≡ queue_of w p
queue-view m c w p f r is = queue-view-kind m c w p p.kind refl f r is

-- what the queue has, in the words of its first message
pub receive-queue : (q : Birth) (w : World) (x : MessageRow) → first (is_queued q) w.messages ≡ Some x → x.queue ≡ q
receive-queue q w x at = birth-same x.queue q (first-passes (is_queued q) w.messages x at)

first-own : (q : Birth) (w : World) (x : MessageRow) → first (is_queued q) w.messages ≡ Some x → IsFirst w (is_queued x.queue) x
first-own q w x at = subst (λ b. first (is_queued b) w.messages ≡ Some x) (sym (receive-queue q w x at)) at

-- what a receive found: its port, the reply that it makes, its queue
pub record Receivable (m : Group) (c : ℕ) (w : World) (by : ThreadRow) (handle : ℕ) (a : Option Message) (p : PortRow) (q : Birth) (replied : List Basic) : Type 0 where
  pub from : port_test w by handle ≡ Ok p
  pub named : Named m c w by p
  pub queue : queue_of w p ≡ Some q
  pub replies : given_reply w p a ≡ Ok replied

pub receivable : (m : Group) (c : ℕ) (u w : World) (by : ThreadRow) (handle : ℕ) (bytes : Option (List ℕ)) (a : Option Message) (p : PortRow) (q : Birth) (replied : List Basic) → Caller m c u w by → IsReceiving w by handle bytes a p q replied → Receivable m c w by handle a p q replied
receivable m c u w by handle bytes a p q replied k is = record {
  from = is.port_found;
  named = found-port m c u w by handle p k is.port_found;
  queue = holds_ok (λ q. queue_of w p ≡ Some q) (receive_test w p) q (tested-queue w p) is.queue_found;
  replies = is.reply_made;
}

-- what the reply is
pub replied-as : (P : List Basic → Type 0) (w : World) (p : PortRow) (a : Option Message) (replied : List Basic) → given_reply w p a ≡ Ok replied → (a ≡ None → P []) → ((b : Message) (x : WaitRow) → a ≡ Some b → reply_test w p b ≡ Ok x → P (reply x b ∷ [])) → P replied
replied-as P w p None replied is none some = let same : [] ≡ replied = cc in subst P same (none refl)
replied-as P w p (Some b) replied is none some = at (reply_test w p b) refl is
  where
    at : (r : Result WaitRow Status) → reply_test w p b ≡ r → (r >>= (λ x. Ok (reply x b ∷ []))) ≡ Ok replied → P replied
    at (Ok x) found is = let same : (reply x b ∷ []) ≡ replied = cc in subst P same (some b x refl found)
    at (Err s) found is = absurd (cc)

-- fair
pub received-fair : (m : Group) (c : ℕ) (w : World) (by : ThreadRow) (p : PortRow) (q : Birth) (o : Option MessageRow) → m c ≡ true → p.birth.process ≡ by.process → q.process ≡ by.process → are_fair m c w (receive_steps by p q [] o) ≡ true
received-fair m c w by p q (Some x) c_in own queue = take-fair m c w x
received-fair m c w by p q None c_in own queue = rw (own-wait-fair m c (receive_wait by p.birth q) c_in refl own queue) refl

pub replied-fair : (m : Group) (c : ℕ) (w : World) (by : ThreadRow) (p : PortRow) (q : Birth) (y : WaitRow) (b : Message) (o : Option MessageRow) → m c ≡ true → p.birth.process ≡ by.process → q.process ≡ by.process → are_fair m c w (receive_steps by p q (reply y b ∷ []) o) ≡ true
replied-fair m c w by p q y b (Some x) c_in own queue = reply-cases (λ r. are_fair m c w (receive_steps by p q (r ∷ []) (Some x)) ≡ true) y b (take-fair m c (basic w (woken SUCCESS (msg (as_reply b) ∷ []) y)) x) (take-fair m c (basic w (woken DBG_CONTINUE [] y)) x) (λ _. take-fair m c (basic w (Marks y.thread)) x)
replied-fair m c w by p q y b None c_in own queue =
    let fair = own-wait-fair m c (receive_wait by p.birth q) c_in refl own queue in
    reply-cases (λ r. are_fair m c w (receive_steps by p q (r ∷ []) None) ≡ true) y b (rw fair refl) (rw fair refl) (λ _. rw fair refl)

-- apart
pub received-apart : (m : Group) (c : ℕ) (u : World) (d : Whose) (w : World) (by : ThreadRow) (p : PortRow) (q : Birth) (o : Option MessageRow) → first (is_queued q) w.messages ≡ o → owner u by.number ≡ Some by.process → m q.process ≡ false → m by.process ≡ false → are_apart m c u d w (receive_steps by p q [] o) ≡ true
received-apart m c u d w by p q None at here q_out out = rw (here, out) refl
received-apart m c u d w by p q (Some x) at here q_out out = rw (here, out) (take-apart m c u d w x (first-own q w x at) (ap (λ (b : Birth). m b.process) (receive-queue q w x at) ∙ q_out))

pub replied-apart : (m : Group) (c : ℕ) (u : World) (d : Whose) (w : World) (by : ThreadRow) (p : PortRow) (q : Birth) (y : WaitRow) (b : Message) (o : Option MessageRow) → first (is_queued q) w.messages ≡ o → owner u by.number ≡ Some by.process → m q.process ≡ false → m by.process ≡ false → are_apart m c u d w (reply y b ∷ []) ≡ true → are_apart m c u d w (receive_steps by p q (reply y b ∷ []) o) ≡ true
replied-apart m c u d w by p q y b None at here q_out out woke = rw (here, out) (and_from _ _ (first-true _ _ woke) refl)
replied-apart m c u d w by p q y b (Some x) at here q_out out woke =
    reply-cases (λ r. are_apart m c u d w (r ∷ []) ≡ true → are_apart m c u d w (receive_steps by p q (r ∷ []) (Some x)) ≡ true) y b
    (λ woke. rw (here, out) (and_from _ _ (first-true _ _ woke) (take-apart m c u d (basic w (woken SUCCESS (msg (as_reply b) ∷ []) y)) x (first-own q w x at) (ap (λ (b : Birth). m b.process) (receive-queue q w x at) ∙ q_out))))
    (λ woke. rw (here, out) (and_from _ _ (first-true _ _ woke) (take-apart m c u d (basic w (woken DBG_CONTINUE [] y)) x (first-own q w x at) (ap (λ (b : Birth). m b.process) (receive-queue q w x at) ∙ q_out))))
    (λ _ woke. rw (here, out) (and_from _ _ (first-true _ _ woke) (take-apart m c u d (basic w (Marks y.thread)) x (first-own q w x at) (ap (λ (b : Birth). m b.process) (receive-queue q w x at) ∙ q_out)))) woke

-- of another member than c, by what it was told
abbrev pub led_replied : World → Option (List ℕ) → List Basic
led_replied v None = []
led_replied v (Some bytes) = on_ok (message_test bytes) (λ b. led_reply v b)

abbrev pub led_received : Group → World → ThreadRow → Birth → Birth → Entry → List Basic
led_received m v by port q (entry.Waits who call fields) = Awaits (receive_wait by port q) ∷ []
led_received m v by port q (entry.Answer who call status fields) = cond (m (shown_process fields)) (given (first (is_queued q) v.messages) take_steps) []
led_received m v by port q e = []

abbrev pub led_receive : Group → World → ThreadRow → ℕ → Option (List ℕ) → Entry → List Basic
led_receive m v by handle bytes e = on_ok (port_test v by handle) (λ p. given (queue_of v p) (λ q. led_replied v bytes ++ led_received m v by p.birth q e))

-- steps in turn
pub led-append : (m : Group) (c : ℕ) (u : World) (d : Whose) (w : World) (bs led cs led' : List Basic) → Led m c u d w bs led → Led m c u d (world_after w bs) cs led' → Led m c u d w (bs ++ cs) (led ++ led')
led-append m c u d w bs led cs led' one two = record {
  world = ap (view m) (after-append w bs cs) ∙ two.world ∙ ap (λ v. world_after v led') one.world ∙ sym (after-append (view m w) led led');
  told = ap (heard (alone c) u d) (entries-append bs cs) ∙ filter-append (is_heard (alone c) u d) (entries_of bs) (entries_of cs)
      ∙ ap (λ es. es ++ heard (alone c) u d (entries_of cs)) one.told ∙ ap (λ es. heard (alone c) u d (entries_of led) ++ es) two.told
      ∙ sym (filter-append (is_heard (alone c) u d) (entries_of led) (entries_of led')) ∙ sym (ap (heard (alone c) u d) (entries-append led led'));
}

pub led-tells : (m : Group) (c : ℕ) (u : World) (d : Whose) (w : World) (e : Entry) (bs led : List Basic) → is_heard (alone c) u d e ≡ false → Led m c u d w bs led → Led m c u d w (Tells e ∷ bs) led
led-tells m c u d w e bs led off l = record { world = l.world; told = rw off l.told }

-- the reply part
led-woken : (m : Group) (c : ℕ) (u : World) (d : Whose) (w : World) (by : ThreadRow) (p : PortRow) (b : Message) (y : WaitRow) → Caller m c u w by → (by.process == c) ≡ false → reply_test w p b ≡ Ok y → Led m c u d w (reply y b ∷ []) (led_reply (view m w) b)
led-woken m c u d w by p b y k other at =
    let l = led-wakes m c u d w by p.birth b y k.c_in k.fair k.owned k.once k.here other (answered-fit w p b y at) in
    record { world = l.world; told = sym (rw (not-c c u d by.number by.process NtReplyPort SUCCESS [] k.here other) refl) ∙ l.told }

-- the message part
abbrev rest : ThreadRow → Birth → Birth → Option MessageRow → List Basic
rest by port q None = Awaits (receive_wait by port q) ∷ []
rest by port q (Some x) = take_steps x

abbrev own : ThreadRow → Option MessageRow → Entry
own by None = entry.Waits by.number NtReplyWaitReceivePort []
own by (Some x) = entry.Answer by.number NtReplyWaitReceivePort SUCCESS (receipt x)

rest-led : (m : Group) (c : ℕ) (u : World) (d : Whose) (w : World) (by : ThreadRow) (port q : Birth) (o : Option MessageRow) → first (is_queued q) w.messages ≡ o → m by.process ≡ true → q.process ≡ by.process → Owned u w → ((x : MessageRow) → o ≡ Some x → (is_fair_message m c x && (is_readable x && is_sent u.used_threads x)) ≡ true)
    → Led m c u d w (rest by port q o) (led_received m (view m w) by port q (own by o))
rest-led m c u d w by port q None at by_in queue owned facts = record { world = basic-ours m w (Awaits (receive_wait by port q)) (and_from _ _ by_in (ap m queue ∙ by_in)) refl; told = refl }
rest-led m c u d w by port q (Some x) at by_in queue owned facts =
    let fair : is_fair_message m c x ≡ true = first-true _ _ (facts x refl) in
    let readable : is_readable x ≡ true = first-true _ _ (second-true (is_fair_message m c x) _ (facts x refl)) in
    let sent : is_sent u.used_threads x ≡ true = second-true (is_readable x) _ (second-true (is_fair_message m c x) _ (facts x refl)) in
    let sender : m (shown_process (receipt x)) ≡ m x.sender.process = ap m (shows-receipt x readable) ∙ together m _ _ (first-true _ _ fair) in
    rw sender (whose (m x.sender.process) refl fair sent)
  where
    q_in : m x.queue.process ≡ true
    q_in = ap (λ (b : Birth). m b.process) (receive-queue q w x at) ∙ ap m queue ∙ by_in

    whose : (b : Bool) → m x.sender.process ≡ b → is_fair_message m c x ≡ true → is_sent u.used_threads x ≡ true → Led m c u d w (take_steps x) (cond b (given (first (is_queued q) (view m w).messages) take_steps) [])
    whose true s_in fair sent =
        let ours : our_message m x ≡ true = and_from _ _ s_in q_in in
        rw (first-kept (our_message m) (is_queued q) w.messages x at ours) (record { world = run-ours m w (take_steps x) (take-ours m w x (first-own q w x at) ours); told = refl })
    whose false out fair sent = record { world = take-gone m c u w x owned sent fair (first-own q w x at) out; told = rw (take-silent x) refl }

-- both parts
received-led : (m : Group) (c : ℕ) (u : World) (d : Whose) (w : World) (by : ThreadRow) (p : PortRow) (q : Birth) (a : Option Message) (replied led : List Basic) (o : Option MessageRow) → first (is_queued q) w.messages ≡ o → Caller m c u w by → every is_readable w.messages ≡ true → m by.process ≡ true → (by.process == c) ≡ false → q.process ≡ by.process
    → Led m c u d w replied led → (world_after w replied).messages ≡ w.messages → (world_after w replied).messages ≡ w.messages → Owned u (world_after w replied)
    → Led m c u d w (Tells (own by o) ∷ replied ++ rest by p.birth q o) (led ++ led_received m (view m (world_after w replied)) by p.birth q (own by o))
received-led m c u d w by p q a replied led o at k readable by_in other queue l same again owned =
    led-tells m c u d w (own by o) (replied ++ rest by p.birth q o) (led ++ led_received m (view m (world_after w replied)) by p.birth q (own by o)) (off o)
    (led-append m c u d w replied led (rest by p.birth q o) (led_received m (view m (world_after w replied)) by p.birth q (own by o)) l
    (rest-led m c u d (world_after w replied) by p.birth q o (ap (first (is_queued q)) same ∙ at) by_in queue owned (λ x is.
    let found : first (is_queued q) w.messages ≡ Some x = at ∙ is in
    and_from _ _ (every-first (is_fair_message m c) (is_queued q) w.messages x k.fair.messages found) (and_from _ _ (every-first is_readable (is_queued q) w.messages x readable found) (rw k.used (every-first (is_sent w.used_threads) (is_queued q) w.messages x k.fair.senders found))))))
  where
    off : (o : Option MessageRow) → is_heard (alone c) u d (own by o) ≡ false
    off None = rw (k.here, other) refl
    off (Some x) = rw (k.here, other) refl

pub receive-as : (by : ThreadRow) (p : PortRow) (q : Birth) (replied : List Basic) (o : Option MessageRow) → receive_steps by p q replied o ≡ Tells (own by o) ∷ replied ++ rest by p.birth q o
receive-as by p q replied None = refl
receive-as by p q replied (Some x) = refl

entry-of : (by : ThreadRow) (p : PortRow) (q : Birth) (replied : List Basic) (o : Option MessageRow) → own_entry (receive_steps by p q replied o) ≡ own by o
entry-of by p q replied None = refl
entry-of by p q replied (Some x) = refl

woken-owned : (u w : World) (y : WaitRow) (b : Message) → Owned u w → Owned u (basic w (reply y b))
woken-owned u w y b owned = reply-cases (λ r. Owned u (basic w r)) y b (every-without (is_owned u) (waits_as y.thread) w.waits owned) (every-without (is_owned u) (waits_as y.thread) w.waits owned) (λ _. owned)

reply-messages : (w : World) (y : WaitRow) (b : Message) → (basic w (reply y b)).messages ≡ w.messages
reply-messages w y b = reply-cases (λ r. (basic w r).messages ≡ w.messages) y b refl refl (λ _. refl)

-- the messages stand while the reply is made
received-as : (m : Group) (v v' : World) (by : ThreadRow) (port q : Birth) (e : Entry) → v'.messages ≡ v.messages → led_received m v' by port q e ≡ led_received m v by port q e
received-as m v v' by port q (entry.Answer who call status fields) same = rw same refl
received-as m v v' by port q b same = refl

receive-led : (m : Group) (c : ℕ) (u : World) (d : Whose) (w : World) (by : ThreadRow) (handle : ℕ) (bytes : Option (List ℕ)) (a : Option Message) (p : PortRow) (q : Birth) (replied : List Basic) → Caller m c u w by → every is_readable w.messages ≡ true → m by.process ≡ true → (by.process == c) ≡ false
    → optional_message bytes ≡ Ok a → Receivable m c w by handle a p q replied → (o : Option MessageRow) → first (is_queued q) w.messages ≡ o
    → Led m c u d w (Tells (own by o) ∷ replied ++ rest by p.birth q o) (led_replied (view m w) bytes ++ led_received m (view m w) by p.birth q (own by o))
receive-led m c u d w by handle None a p q replied k readable by_in other is r o at =
    let none : None ≡ a = cc in
    let nothing : replied ≡ [] = silent a (sym none) r.replies in
    rw nothing (received-led m c u d w by p q None [] [] o at k readable by_in other (queue-own m c w p q r.named.right r.queue ∙ r.named.process) (record { world = refl; told = refl }) refl refl k.owned)
  where
    silent : (a : Option Message) → a ≡ None → given_reply w p a ≡ Ok replied → replied ≡ []
    silent None is re = cc
    silent (Some b) is re = absurd (cc)
receive-led m c u d w by handle (Some bs) a p q replied k readable by_in other is r o at = found (message_test bs) refl is
  where
    queue : q.process ≡ by.process
    queue = queue-own m c w p q r.named.right r.queue ∙ r.named.process

    found : (t : Result Message Status) → message_test bs ≡ t → (t >>= (λ b. Ok (Some b))) ≡ Ok a → Led m c u d w (Tells (own by o) ∷ replied ++ rest by p.birth q o) (on_ok t (λ b. led_reply (view m w) b) ++ led_received m (view m w) by p.birth q (own by o))
    found (Err s) t is = absurd (cc)
    found (Ok b) t is = answered (reply_test w p b) refl (subst (λ a. given_reply w p a ≡ Ok replied) (sym some) r.replies)
      where
        some : Some b ≡ a
        some = cc

        answered : (t : Result WaitRow Status) → reply_test w p b ≡ t → (t >>= (λ x. Ok (reply x b ∷ []))) ≡ Ok replied → Led m c u d w (Tells (own by o) ∷ replied ++ rest by p.birth q o) (led_reply (view m w) b ++ led_received m (view m w) by p.birth q (own by o))
        answered (Err s) t is = absurd (cc)
        answered (Ok y) t is =
            let same : replied ≡ reply y b ∷ [] = cc in
            rw (same, sym (received-as m (view m w) (view m (basic w (reply y b))) by p.birth q (own by o) (ap (which (our_message m)) (reply-messages w y b))))
            (received-led m c u d w by p q a (reply y b ∷ []) (led_reply (view m w) b) o at k readable by_in other queue (led-woken m c u d w by p b y k other t) (reply-messages w y b) (reply-messages w y b) (woken-owned u w y b k.owned))

pub received-as-led : (m : Group) (c : ℕ) (u : World) (d : Whose) (w : World) (by : ThreadRow) (handle : ℕ) (bytes : Option (List ℕ)) (a : Option Message) (p : PortRow) (q : Birth) (replied : List Basic) (o : Option MessageRow) → first (is_queued q) w.messages ≡ o → Caller m c u w by → every is_readable w.messages ≡ true → m by.process ≡ true → (by.process == c) ≡ false → IsReceiving w by handle bytes a p q replied
    → Led m c u d w (receive_steps by p q replied o) (led_receive m (view m w) by handle bytes (own_entry (receive_steps by p q replied o)))
received-as-led m c u d w by handle bytes a p q replied o first k readable by_in other is =
    let r = receivable m c u w by handle bytes a p q replied k is in
    let queue : queue_of (view m w) (seen_port m p) ≡ Some q = queue-view m c w p k.fair r.named.right (ap m r.named.process ∙ by_in) ∙ r.queue in
    rw (port_test-view m c w by handle k.fair by_in, r.from, queue, entry-of by p q replied o, receive-as by p q replied o)
    (receive-led m c u d w by handle bytes a p q replied k readable by_in other is.message_read r o first)

-- of c
c-spent : (m : Group) (c : ℕ) (w : World) (p : PortRow) (q : Birth) (k : PortKind) → p.kind ≡ k → first (is_queued q) (view m w).messages ≡ first (is_queued q) w.messages → is_spent (view m w) p q ≡ is_spent w p q
c-spent m c w p q Client k same = rw (k, same) refl
c-spent m c w p q b k same = rw k refl

c-messages : (m : Group) (c : ℕ) (w : World) (by : ThreadRow) (p : PortRow) (q : Birth) → m c ≡ true → by.process ≡ c → Fair m c w → Named m c w by p → queue_of w p ≡ Some q → first (is_queued q) (view m w).messages ≡ first (is_queued q) w.messages
c-messages m c w by p q c_in mine f n at =
    c-first m c w q (is_queued q) c_in f (ap (λ b. b == c) (queue-own m c w p q n.right at ∙ n.process ∙ mine) ∙ same-number c) (λ x is. is)

c-receive_test : (m : Group) (c : ℕ) (w : World) (by : ThreadRow) (p : PortRow) → m c ≡ true → by.process ≡ c → Fair m c w → Named m c w by p → receive_test (view m w) p ≡ receive_test w p
c-receive_test m c w by p c_in mine f n =
    let p_in : m p.birth.process ≡ true = ap m (n.process ∙ mine) ∙ c_in in
    let same : seen_port m p ≡ p = c-port m c p c_in (n.process ∙ mine) n.right.fair in
    let queue : queue_of (view m w) p ≡ queue_of w p = subst (λ r. queue_of (view m w) r ≡ queue_of w p) same (queue-view m c w p f n.right p_in) in
    rw queue (bind-same (found_or (queue_of w p) PORT_DISCONNECTED) _ _ (λ q at.
    rw (c-spent m c w p q p.kind refl (c-messages m c w by p q c_in mine f n (found_ok (queue_of w p) PORT_DISCONNECTED q at))) refl))

-- a reply of c's names no outsider
abbrev pub names_none : Group → World → Option (List ℕ) → Bool
names_none m w None = true
names_none m w (Some bytes) = names_no_outsider m w bytes

c-given : (m : Group) (c : ℕ) (w : World) (p : PortRow) (bytes : Option (List ℕ)) (a : Option Message) → Fair m c w → Ways m w → m p.birth.process ≡ true → names_none m w bytes ≡ true → optional_message bytes ≡ Ok a → given_reply (view m w) p a ≡ given_reply w p a
c-given m c w p None a f ways p_in inside is = let none : None ≡ a = cc in subst (λ a. given_reply (view m w) p a ≡ given_reply w p a) none refl
c-given m c w p (Some bs) a f ways p_in inside is = at (message_test bs) refl is
  where
    at : (t : Result Message Status) → message_test bs ≡ t → (t >>= (λ b. Ok (Some b))) ≡ Ok a → given_reply (view m w) p a ≡ given_reply w p a
    at (Err s) t is = absurd (cc)
    at (Ok b) t is =
        let some : Some b ≡ a = cc in
        subst (λ a. given_reply (view m w) p a ≡ given_reply w p a) some (rw (c-answered m c w p b f ways p_in (message-names m w bs b t inside)) refl)

pub c-receive : (m : Group) (c : ℕ) (u w : World) (by : ThreadRow) (handle : ℕ) (bytes : Option (List ℕ)) → Caller m c u w by → by.process ≡ c → Ways m w → names_none m w bytes ≡ true → nt_reply_wait_receive_port (view m w) by handle bytes ≡ nt_reply_wait_receive_port w by handle bytes
unfolding nt_reply_wait_receive_port
c-receive m c u w by handle bytes k mine ways inside =
    rw (c-port_test m c w by handle k.c_in mine k.fair) (bind-same (port_test w by handle) _ _ (λ p at.
    let n : Named m c w by p = found-port m c u w by handle p k at in
    let p_in : m p.birth.process ≡ true = ap m (n.process ∙ mine) ∙ k.c_in in
    bind-same (optional_message bytes) _ _ (λ a is.
    rw (c-receive_test m c w by p k.c_in mine k.fair n) (bind-same (receive_test w p) _ _ (λ q to.
    rw (c-given m c w p bytes a k.fair ways p_in inside is) (bind-same (given_reply w p a) _ _ (λ replied re.
    rw (c-messages m c w by p q k.c_in mine k.fair n (holds_ok (λ q. queue_of w p ≡ Some q) (receive_test w p) q (tested-queue w p) to)) refl)))))))

-- whose steps are members'
pub c-rest-ours : (m : Group) (c : ℕ) (w v : World) (by : ThreadRow) (port q : Birth) (o : Option MessageRow) → v.messages ≡ w.messages → first (is_queued q) w.messages ≡ o → m c ≡ true → Fair m c w → by.process ≡ c → q.process ≡ by.process → are_ours m v (rest by port q o) ≡ true
c-rest-ours m c w v by port q None same at c_in f mine queue = rw (ap m mine ∙ c_in, ap m (queue ∙ mine) ∙ c_in) refl
c-rest-ours m c w v by port q (Some x) same at c_in f mine queue =
    let own_q : x.queue.process ≡ c = ap (λ (b : Birth). b.process) (receive-queue q w x at) ∙ queue ∙ mine in
    let fair : is_fair_message m c x ≡ true = every-first (is_fair_message m c) (is_queued q) w.messages x f.messages at in
    let q_c : (x.queue.process == c) ≡ true = ap (λ b. b == c) own_q ∙ same-number c in
    let s_in : m x.sender.process ≡ true = grind arith in
    take-ours m v x (ap (first (is_queued x.queue)) same ∙ first-own q w x at) (and_from _ _ s_in (ap m own_q ∙ c_in))
