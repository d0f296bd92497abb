-- What is remembered of outsiders' connects stays right by what calls send, take and tell.
use Rattle.lpc_model.specs.Raise.{Hearing, event_begun, event_wait, raise_told}
use Rattle.lpc_isolation.proofs.Each.Raises.{event_row, event-sort}
use Rattle.lpc_model.proofs.Sound.Reply.{reply-cases, fits-asking}
use Rattle.std.proofs.Common.{◌≡◌, ◌≤◌, ℕ, List, [], ◌∷◌, ◌++◌, Bool, true, false, cond, not, Option, Some, None, refl, ap, sym, subst, ◌∙◌, arith}
use Rattle.std.specs.Prelude.{◌&&◌, ◌||◌, ◌==◌, Ok}
use Rattle.std.proofs.lemmas.Bool.{and_from}
use Rattle.lpc_base.specs.Rows.{count, every, first, given, passes, which, without}
use Rattle.lpc_base.proofs.RowWords.{every-append, every-more, every-push, every-which, every-without, first-passes}
use Rattle.lpc_base.proofs.RowMaps.{every-first, every-none}
use Rattle.lpc_base.proofs.Bools.{first-true, same-number, second-true}
use Rattle.lpc_base.proofs.Births.{birth-same, birth-self}
use Rattle.lpc_base.specs.declared.status.TheConstants.{SUCCESS}
use Rattle.lpc_message.specs.declared.kind.TheConstants.{DATAGRAM, REQUEST}
use Rattle.lpc_model.specs.declared.entry.Entry.TheVariants as entry
use Rattle.lpc_model.specs.declared.message.Message.{Message}
use Rattle.lpc_model.specs.Message.{asks}
use Rattle.lpc_model.specs.World.{Birth, Listen, MessageRow, PortRow, Receive, ThreadRow, WaitKind, WaitRow, World, Offer, ViewRow}
use Rattle.lpc_model.specs.Found.{fits, is_accepted, is_offered, is_asking, same_birth, wait_of, waits_as}
use Rattle.lpc_model.specs.Basics.{Awaits, Basic, entries_of, world_after}
use Rattle.lpc_model.specs.Entering.{enter, given_steps, row_of, shown, take_connect_steps, take_steps, takes, woken}
use Rattle.lpc_model.specs.Connect.{connect_wait, connection_request, listen_steps}
use Rattle.lpc_model.specs.Request.{reply_test, datagram_start, receive_steps, receive_wait, reply, request_start, request_wait, sent_by}
use Rattle.lpc_model.proofs.Steps.Rows.{lone}
use Rattle.lpc_model.specs.Circle.{Group, Whose, owner}
use Rattle.lpc_isolation.proofs.Views.Filters.{first-kept, first-push_off}
use Rattle.lpc_isolation.proofs.Views.View.{our_wait, view}
use Rattle.lpc_isolation.proofs.Rows.Fair.{is_fair_message, is_fair_wait, is_sent, together}
use Rattle.lpc_isolation.proofs.Each.Enter.{taker-process}
use Rattle.lpc_isolation.proofs.Views.Apart.{Owned, given-entries, is_owned, owned-by}
use Rattle.lpc_isolation.proofs.Plays.Play.{is_told_input, told_inputs}
use Rattle.lpc_isolation.proofs.Each.Reply.{answered-fit}
use Rattle.lpc_isolation.proofs.Each.Sends.{Caller}
use Rattle.lpc_isolation.proofs.Each.Connects.{row, starting}
use Rattle.lpc_isolation.proofs.Rows.Asked.{Asked, counted, is_sort, sender_of}
use Rattle.lpc_isolation.proofs.Memory.Heard.{Heard, Reads, entries_memo, entries-silent, heard-message, heard-receipt, is_silent, is_silent_step, note, noted_of, steps-silent, takes_any, woken_memo}
use Rattle.lpc_isolation.proofs.Memory.Knows.{AllKnown, are_known, is_told, run-known}
use Rattle.lpc_isolation.proofs.Memory.Receptions.{Fits, asker-by, asker-on, enter-known, is_by, is_on, known-append, note-known, take-known, take_connect-known, told-inside, told-noted, told-outside}

-- A wait that isn't for messages
not-taker : (x : WaitRow) (sort : WaitKind) → x.kind ≡ sort → (is_accepted x || (is_offered x || is_asking x)) ≡ true → takes_any x ≡ false
not-taker x Receive is on = let off : false ≡ true = rw is at on in absurd (cc)
not-taker x Listen is on = let off : false ≡ true = rw is at on in absurd (cc)
not-taker x b is on = rw is refl

pub none-takes : (k t f : WaitRow → Bool) (xs : List WaitRow) → every (λ y. not (t y) || not (f y)) xs ≡ true → not (passes (first t (which k xs)) f) ≡ true
none-takes k t f [] all = refl
none-takes k t f (x ∷ xs) all = grind (arith, none-takes k t f xs)

pub wake-silent : (m : Group) (w : World) (test : WaitRow → Bool) (x : WaitRow) → ((tid : ℕ) → count (waits_as tid) w.waits ≤ 1) → first test w.waits ≡ Some x → (is_accepted x || (is_offered x || is_asking x)) ≡ true → not (passes (wait_of (view m w) x.thread) takes_any) ≡ true
wake-silent m w test x once found on =
    let off : not (takes_any x) ≡ true = rw (not-taker x x.kind refl on) refl in
    none-takes (our_wait m) (waits_as x.thread) takes_any w.waits (lone (waits_as x.thread) (λ y. not (takes_any y)) test w.waits x (once x.thread) found (same-number x.thread) off)

-- Calls that take no message
-- such steps, and what they tell
abbrev pub Still : Group → List Heard → World → List Basic → Type 0
Still m memo w bs = (are_known m memo w bs ≡ true) × (every (is_silent_step (view m w)) bs ≡ true)

pub answer-silent : (m : Group) (c : ℕ) (u w : World) (by : ThreadRow) (p : PortRow) (b : Message) (x : WaitRow) → Caller m c u w by → reply_test w p b ≡ Ok x → not (passes (wait_of (view m w) x.thread) takes_any) ≡ true
answer-silent m c u w by p b x k at =
    let found = answered-fit w p b x at in
    let fit = first-passes (fits w p.birth b) w.waits x found in
    wake-silent m w (fits w p.birth b) x k.once found (asks-on (is_accepted x) (is_offered x) (is_asking x) (fits-asking w p.birth b x fit))
  where
    asks-on : (a o e : Bool) → e ≡ true → (a || (o || e)) ≡ true
    asks-on a o e is = grind arith

-- A message that is sent
-- a thread that waits for nothing has no wait
idle-by : (w : World) (who pid : ℕ) → wait_of w who ≡ None → every (is_by who pid) w.waits ≡ true
idle-by w who pid idle = every-more (λ x. not (waits_as who x)) (is_by who pid) (λ x off. grind arith) w.waits (every-none (waits_as who) w.waits idle)

idle-on : (w : World) (who : ℕ) (q : Birth) → wait_of w who ≡ None → every (is_on who q) w.waits ≡ true
idle-on w who q idle = every-more (λ x. not (waits_as who x)) (is_on who q) (λ x off. grind arith) w.waits (every-none (waits_as who) w.waits idle)

-- what a call sends: its steps before the message enters, and the wait that they begin, if any
pub record Sent (w : World) (by : ThreadRow) (start : List Basic) (y : MessageRow) : Type 0 where
  begins : (m : Group) (memo : List Heard) → are_known m memo w start ≡ true
  takers : first (takes y) (world_after w start).waits ≡ first (takes y) w.waits
  sender : y.message.header.client ≡ record { process = by.process; thread = by.number }
  sort : is_sort y ≡ true
  own : every (is_by by.number by.process) (world_after w start).waits ≡ true
  on : asks y.message ≡ true → every (is_on by.number y.queue) (world_after w start).waits ≡ true

-- by a member
pub sent-known : (m : Group) (w : World) (by : ThreadRow) (memo : List Heard) (start : List Basic) (y : MessageRow) → Sent w by start y → m by.process ≡ true → are_known m memo w (start ++ enter y (world_after w start)) ≡ true
sent-known m w by memo start y s by_in =
    known-append m memo w start (enter y (world_after w start)) (s.begins m memo)
    (enter-known m memo (world_after w start) y (λ z at asked. subst (λ n. every (is_told m memo n) (world_after w start).waits ≡ true) (sym (ap (λ c. c.thread) s.sender)) (told-inside m memo by.number by.process (world_after w start).waits by_in s.own)))

pub datagram-sent : (m : Group) (c : ℕ) (u w : World) (by : ThreadRow) (p : PortRow) (q : Birth) (a : Message) → Caller m c u w by → Sent w by (datagram_start by) (row_of q p (sent_by by DATAGRAM a))
datagram-sent m c u w by p q a k = record { begins = λ m memo. refl; takers = refl; sender = refl; sort = refl; own = idle-by w by.number by.process k.idle; on = λ asked. absurd (cc) }

pub request-sent : (m : Group) (c : ℕ) (u w : World) (by : ThreadRow) (p : PortRow) (q : Birth) (a : Message) → Caller m c u w by → Sent w by (request_start by p.birth q (sent_by by REQUEST a)) (row_of q p (sent_by by REQUEST a))
request-sent m c u w by p q a k = record {
  begins = λ m memo. refl;
  takers = first-push_off (takes (row_of q p (sent_by by REQUEST a))) w.waits (request_wait by p.birth q (sent_by by REQUEST a)) refl;
  sender = refl;
  sort = refl;
  own = every-push (is_by by.number by.process) w.waits (request_wait by p.birth q (sent_by by REQUEST a)) (idle-by w by.number by.process k.idle) (rw (same-number by.process) (grind arith));
  on = λ asked. every-push (is_on by.number q) w.waits (request_wait by p.birth q (sent_by by REQUEST a)) (idle-on w by.number q k.idle) (rw (birth-self q) (grind arith));
}

pub connect-sent : (m : Group) (c : ℕ) (u w : World) (by : ThreadRow) (q : Birth) (offer : Option Offer) (own : Option ViewRow) (bytes : List ℕ) → Caller m c u w by → Sent w by (starting by q offer own bytes) (row by q offer own bytes)
connect-sent m c u w by q offer own bytes k = record {
  begins = λ m memo. refl;
  takers = first-push_off (takes (row by q offer own bytes)) w.waits (connect_wait by q offer (connection_request by offer bytes)) refl;
  sender = refl;
  sort = refl;
  own = every-push (is_by by.number by.process) w.waits (connect_wait by q offer (connection_request by offer bytes)) (idle-by w by.number by.process k.idle) (rw (same-number by.process) (grind arith));
  on = λ asked. every-push (is_on by.number q) w.waits (connect_wait by q offer (connection_request by offer bytes)) (idle-on w by.number q k.idle) (rw (birth-self q) (grind arith));
}

pub event-sent : (m : Group) (c : ℕ) (u w : World) (by : ThreadRow) (code : ℕ) (handled : Bool) (h : Hearing) → Caller m c u w by → Sent w by (raise_told by ∷ event_begun by code handled h) (event_row by code h)
event-sent m c u w by code handled h k = record {
  begins = λ m memo. refl;
  takers = first-push_off (takes (event_row by code h)) w.waits (event_wait by code handled h) refl;
  sender = refl;
  sort = event-sort by code h;
  own = every-push (is_by by.number by.process) w.waits (event_wait by code handled h) (idle-by w by.number by.process k.idle) (rw (same-number by.process) (grind arith));
  on = λ asked. every-push (is_on by.number h.queue) w.waits (event_wait by code handled h) (idle-on w by.number h.queue k.idle) (rw (birth-self h.queue) (grind arith));
}

-- by an outsider: what is remembered once the line's wakes are told
abbrev pub Hears : Group → ℕ → World → Whose → World → List Heard → List Basic → Type 0
Hears m c u d w memo bs = AllKnown m (entries_memo m (view m w) memo (told_inputs m c u d (entries_of bs))) (world_after w bs)

-- where no entry shows a message, nothing is noted
pub still-hears : (m : Group) (c : ℕ) (u : World) (d : Whose) (w : World) (memo : List Heard) (bs : List Basic) → AllKnown m memo w → Still m memo w bs → Hears m c u d w memo bs
still-hears m c u d w memo bs all still =
    let silent : every (is_silent (view m w)) (told_inputs m c u d (entries_of bs)) ≡ true = every-which (is_silent (view m w)) (is_told_input m c u d) (entries_of bs) (steps-silent (view m w) bs still.1) in
    subst (λ memo. AllKnown m memo (world_after w bs)) (sym (entries-silent m (view m w) memo (told_inputs m c u d (entries_of bs)) silent)) (run-known m memo w bs still.0 all)

pub shown-heard : (m : Group) (y : MessageRow) (z : WaitRow) (sort : WaitKind) (memo : List Heard) → z.kind ≡ sort → takes y z ≡ true → Reads y → woken_memo m (Some z) (shown z y) memo ≡ noted_of m y z.queue memo
shown-heard m y z Receive memo is takes r = rw is (heard-receipt m y z.queue memo r)
shown-heard m y z Listen memo is takes r = rw is (heard-message m y z.queue memo r)
shown-heard m y z b memo is takes r = let off : (false && same_birth z.queue y.queue) ≡ true = rw is at takes in absurd (cc)

-- of the one wait of a thread
pub own-first : (p q : WaitRow → Bool) (xs : List WaitRow) (x : WaitRow) → count q xs ≤ 1 → first p xs ≡ Some x → q x ≡ true → first q xs ≡ Some x
own-first p q [] x few at is = absurd (cc)
own-first p q (z ∷ zs) x few at is = grind (arith, own-first p q zs x, counted q p zs x)

-- what is noted of a message, where it is an outsider's
module _ (m : Group) (c : ℕ) (u w : World) (by : ThreadRow) (d : Whose) (memo : List Heard) (start : List Basic) (y : MessageRow) (k : Caller m c u w by) (all : AllKnown m memo w) (s : Sent w by start y) (r : Reads y) (out : m by.process ≡ false) (other : (y.queue.process == c) ≡ false) where
  abbrev v : World
  v = world_after w start

  process : y.message.header.client.process ≡ by.process
  process = ap (λ c. c.process) s.sender

  thread : sender_of y ≡ by.number
  thread = ap (λ c. c.thread) s.sender

  -- the memory behind the line, and that it is right
  abbrev Right : List Heard → Type 0
  Right memo' = AllKnown m memo' (world_after w (start ++ enter y v))

  run : (memo' : List Heard) → AllKnown m memo' w → ((z : WaitRow) → first (takes y) v.waits ≡ Some z → Fits m memo' v y) → Right memo'
  run memo' known fits = run-known m memo' w (start ++ enter y v) (known-append m memo' w start (enter y v) (s.begins m memo') (enter-known m memo' v y fits)) known

  noted-as : asks y.message ≡ true → noted_of m y y.queue memo ≡ record { thread = by.number; queue = y.queue } ∷ memo
  noted-as asked =
      let y_out : m y.message.header.client.process ≡ false = ap m process ∙ out in
      let flag : (asks y.message && not (m y.message.header.client.process)) ≡ true = grind arith in
      ap (λ b. note b (sender_of y) y.queue memo) flag ∙ ap (λ n. record { thread = n; queue = y.queue } ∷ memo) thread

  noted-off : asks y.message ≡ false → noted_of m y y.queue memo ≡ memo
  noted-off asked =
      let flag : (asks y.message && not (m y.message.header.client.process)) ≡ false = grind arith in ap (λ b. note b (sender_of y) y.queue memo) flag

  told-thread : (memo' : List Heard) → every (is_told m memo' by.number) v.waits ≡ true → every (is_told m memo' (sender_of y)) v.waits ≡ true
  told-thread memo' is = subst (λ n. every (is_told m memo' n) v.waits ≡ true) (sym thread) is

  noted-right : (asked : Bool) → asks y.message ≡ asked → Right (noted_of m y y.queue memo)
  noted-right true asked =
      let memo' : List Heard = record { thread = by.number; queue = y.queue } ∷ memo in
      subst Right (sym (noted-as asked)) (run memo' (note-known m memo by.number y.queue w (idle-on w by.number y.queue k.idle) all) (λ z at _. told-thread memo' (told-noted m memo by.number y.queue v.waits (s.on asked))))
  noted-right false asked = subst Right (sym (noted-off asked)) (run memo all (λ z at on. absurd (off on)))
    where
      off : asks y.message ≡ true → ⊥
      off on = let never : false ≡ true = sym asked ∙ on in cc

  -- who takes it, and what the inputs tell of that
  taken : (z : WaitRow) → first (takes y) w.waits ≡ Some z → Right (entries_memo m (view m w) memo (told_inputs m c u d (entry.Wakes z.thread z.call SUCCESS (shown z y) ∷ [])))
  taken z at = by_owner (owner u z.thread) refl (every-first (is_owned u) (takes y) w.waits z k.owned at)
    where
      is : takes y z ≡ true
      is = first-passes (takes y) w.waits z at

      fair : is_fair_wait m c z ≡ true
      fair = every-first (is_fair_wait m c) (takes y) w.waits z k.fair.waits at

      of_queue : z.process ≡ y.queue.process
      of_queue = taker-process m c y z fair is

      inside : (b : Bool) → m y.queue.process ≡ b → Right (entries_memo m (view m w) memo (cond (b && true) (entry.Wakes z.thread z.call SUCCESS (shown z y) ∷ []) []))
      inside true q_in =
          let queue : z.queue ≡ y.queue = birth-same z.queue y.queue (second-true _ _ is) in
          let ours : our_wait m z ≡ true = and_from _ _ (ap m of_queue ∙ q_in) (ap (λ (b : Birth). m b.process) queue ∙ q_in) in
          let there : wait_of w z.thread ≡ Some z = own-first (takes y) (waits_as z.thread) w.waits z (k.once z.thread) at (same-number z.thread) in
          let seen : wait_of (view m w) z.thread ≡ Some z = first-kept (our_wait m) (waits_as z.thread) w.waits z there ours in
          subst Right (sym (ap (λ o. woken_memo m o (shown z y) memo) seen ∙ shown-heard m y z z.kind memo refl is r ∙ ap (λ q. noted_of m y q memo) queue)) (noted-right (asks y.message) refl)
      inside false q_out = run memo all (λ z at asked. told-thread memo (told-outside m memo by.number y.queue v.waits q_out (s.on asked)))

      by_owner : (o : Option ℕ) → owner u z.thread ≡ o → is_owned u z ≡ true → Right (entries_memo m (view m w) memo (told_inputs m c u d (entry.Wakes z.thread z.call SUCCESS (shown z y) ∷ [])))
      by_owner None none own = let off : false ≡ true = rw none at own in absurd (cc)
      by_owner (Some pid) own is =
          let same : pid ≡ y.queue.process = owned-by u z pid own is ∙ of_queue in
          rw (own, same, other) (inside (m y.queue.process) refl)

  entered : (o : Option WaitRow) → first (takes y) w.waits ≡ o → Right (entries_memo m (view m w) memo (told_inputs m c u d (entries_of (given o (λ z. given_steps z y ++ woken SUCCESS (shown z y) z ∷ [])))))
  entered None none = run memo all (λ z at. absurd (off z (sym s.takers ∙ at)))
    where
      off : (z : WaitRow) → first (takes y) w.waits ≡ Some z → ⊥
      off z at = let never = sym none ∙ at in cc
  entered (Some z) at = rw (given-entries y z z.kind (asks y.message) (woken SUCCESS (shown z y) z) refl refl) (taken z at)

  pub sent-hears : AllKnown m (entries_memo m (view m w) memo (told_inputs m c u d (entries_of (enter y v)))) (world_after w (start ++ enter y v))
  sent-hears = subst (λ o. Right (entries_memo m (view m w) memo (told_inputs m c u d (entries_of (given o (λ z. given_steps z y ++ woken SUCCESS (shown z y) z ∷ [])))))) (sym s.takers) (entered (first (takes y) w.waits) refl)

-- A message that is taken from a queue
-- by an outsider, from its own queue; and one that a member sent
pub fits-outside : (m : Group) (memo : List Heard) (w : World) (test : MessageRow → Bool) (y : MessageRow) → Asked w → ((tid : ℕ) → count (waits_as tid) w.waits ≤ 1) → first test w.messages ≡ Some y → m y.queue.process ≡ false → Fits m memo w y
fits-outside m memo w test y a once at out asked = told-outside m memo (sender_of y) y.queue w.waits out (asker-on w test y a once at asked)

fits-inside : (m : Group) (memo : List Heard) (w : World) (y : MessageRow) → Owned w w → is_sent w.used_threads y ≡ true → m y.message.header.client.process ≡ true → Fits m memo w y
fits-inside m memo w y owned sent inside asked = told-inside m memo (sender_of y) y.message.header.client.process w.waits inside (asker-by w y owned sent)

-- what c takes, members sent
pub fits-c : (m : Group) (c : ℕ) (u w : World) (by : ThreadRow) (memo : List Heard) (test : MessageRow → Bool) (y : MessageRow) → Caller m c u w by → Owned w w → first test w.messages ≡ Some y → y.queue.process ≡ c → Fits m memo w y
fits-c m c u w by memo test y k owned at mine =
    let fair : is_fair_message m c y ≡ true = every-first (is_fair_message m c) test w.messages y k.fair.messages at in
    let q_c : (y.queue.process == c) ≡ true = ap (λ p. p == c) mine ∙ same-number c in
    let s_in : m y.sender.process ≡ true = grind arith in
    let client : m y.message.header.client.process ≡ m y.sender.process = together m _ _ (first-true _ _ fair) in
    fits-inside m memo w y owned (every-first (is_sent w.used_threads) test w.messages y k.fair.senders at) (client ∙ s_in)

-- another member notes it
pub record Noted (m : Group) (w : World) (y : MessageRow) (memo : List Heard) : Type 0 where
  pub all : AllKnown m memo w
  pub fits : Fits m memo w y

pub noted : (m : Group) (c : ℕ) (u w : World) (by : ThreadRow) (memo : List Heard) (test : MessageRow → Bool) (y : MessageRow) → Caller m c u w by → Owned w w → Asked w → AllKnown m memo w → first test w.messages ≡ Some y → Noted m w y (noted_of m y y.queue memo)
noted m c u w by memo test y k owned a all at = on (asks y.message) refl (m y.message.header.client.process) refl
  where
    on : (asked : Bool) → asks y.message ≡ asked → (inside : Bool) → m y.message.header.client.process ≡ inside → Noted m w y (noted_of m y y.queue memo)
    on true asked false out =
        let flag : (asks y.message && not (m y.message.header.client.process)) ≡ true = grind arith in
        let here : every (is_on (sender_of y) y.queue) w.waits ≡ true = asker-on w test y a k.once at asked in
        subst (Noted m w y) (sym (ap (λ b. note b (sender_of y) y.queue memo) flag)) (record { all = note-known m memo (sender_of y) y.queue w here all; fits = λ _. told-noted m memo (sender_of y) y.queue w.waits here })
    on true asked true is =
        let flag : (asks y.message && not (m y.message.header.client.process)) ≡ false = grind arith in
        subst (Noted m w y) (sym (ap (λ b. note b (sender_of y) y.queue memo) flag)) (record { all = all; fits = fits-inside m memo w y owned (every-first (is_sent w.used_threads) test w.messages y k.fair.senders at) is })
    on false asked b is =
        let flag : (asks y.message && not (m y.message.header.client.process)) ≡ false = grind arith in
        subst (Noted m w y) (sym (ap (λ b. note b (sender_of y) y.queue memo) flag)) (record { all = all; fits = λ on. absurd (off on) })
      where
        off : asks y.message ≡ true → ⊥
        off on = let never : false ≡ true = sym asked ∙ on in cc

-- a taking tells nothing by itself
take-silent_steps : (v : World) (y : MessageRow) (asked : Bool) → asks y.message ≡ asked → (every (is_silent_step v) (take_steps y) ≡ true) × (every (is_silent_step v) (take_connect_steps y) ≡ true)
take-silent_steps v y true asked = (rw asked refl, rw asked refl)
take-silent_steps v y false asked = (rw asked refl, rw asked refl)

-- NtListenPort
pub listened-known : (m : Group) (w : World) (by : ThreadRow) (port : Birth) (memo : List Heard) (o : Option MessageRow) → ((y : MessageRow) → o ≡ Some y → Fits m memo w y) → are_known m memo w (listen_steps by port o) ≡ true
listened-known m w by port memo None fits = refl
listened-known m w by port memo (Some y) fits = take_connect-known m memo w y (fits y refl)

pub listened-silent : (v : World) (by : ThreadRow) (port : Birth) (o : Option MessageRow) → every (is_silent_step v) (listen_steps by port o) ≡ true
listened-silent v by port None = refl
listened-silent v by port (Some y) = (take-silent_steps v y (asks y.message) refl).1

-- NtReplyWaitReceivePort
-- its reply ends a wait, and no more
abbrev pub IsReply : List Basic → Type 0
IsReply rs = (m : Group) (memo : List Heard) (w : World) → (are_known m memo w rs ≡ true) × ((y : MessageRow) → Fits m memo w y → Fits m memo (world_after w rs) y)

pub no-reply : IsReply []
no-reply m memo w = (refl, λ y fits. fits)

pub one-reply : (x : WaitRow) (b : Message) → IsReply (reply x b ∷ [])
one-reply x b m memo w =
    let ended : (y : MessageRow) → Fits m memo w y → asks y.message ≡ true → every (is_told m memo (sender_of y)) (without (waits_as x.thread) w.waits) ≡ true = λ y fits asked. every-without (is_told m memo (sender_of y)) (waits_as x.thread) w.waits (fits asked) in (
      reply-cases (λ r. are_known m memo w (r ∷ []) ≡ true) x b refl refl (λ _. refl),
      λ y fits. reply-cases (λ r. Fits m memo (world_after w (r ∷ [])) y) x b (ended y fits) (ended y fits) (λ _. fits),
    )

pub received-known : (m : Group) (w : World) (by : ThreadRow) (p : PortRow) (q : Birth) (memo : List Heard) (rs : List Basic) (o : Option MessageRow) → IsReply rs → ((y : MessageRow) → o ≡ Some y → Fits m memo w y) → are_known m memo w (receive_steps by p q rs o) ≡ true
received-known m w by p q memo rs None r fits = known-append m memo w rs (Awaits (receive_wait by p.birth q) ∷ []) (r m memo w).0 refl
received-known m w by p q memo rs (Some y) r fits = known-append m memo w rs (take_steps y) (r m memo w).0 (take-known m memo (world_after w rs) y ((r m memo w).1 y (fits y refl)))

pub received-silent : (v : World) (by : ThreadRow) (p : PortRow) (q : Birth) (rs : List Basic) (o : Option MessageRow) → every (is_silent_step v) rs ≡ true → every (is_silent_step v) (receive_steps by p q rs o) ≡ true
received-silent v by p q rs None is = every-append (is_silent_step v) rs (Awaits (receive_wait by p.birth q) ∷ []) is refl
received-silent v by p q rs (Some y) is = every-append (is_silent_step v) rs (take_steps y) is (take-silent_steps v y (asks y.message) refl).0

-- where an answer shows no message, nothing is noted
pub unnoted : (m : Group) (memo : List Heard) (v : World) (b : Bool) → AllKnown m memo v → AllKnown m (cond b memo memo) v
unnoted m memo v true all = all
unnoted m memo v false all = all
