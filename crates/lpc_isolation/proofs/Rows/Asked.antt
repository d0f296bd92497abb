-- A queued message that asks is its thread's own, which waits for it: so in each world of a run.
use Rattle.std.proofs.Common.{◌≡◌, ◌≤◌, ◌+◌, ℕ, List, [], ◌∷◌, ◌++◌, Bool, true, false, cond, not, Option, Some, None, refl, sym, subst, arith, append-nil}
use Rattle.std.specs.Prelude.{◌&&◌, ◌||◌, ◌==◌}
use Rattle.std.proofs.lemmas.Bool.{and_from, eqb-true, not-true}
use Rattle.lpc_base.specs.Rows.{change, count, every, first, given, has, when, without, without_first}
use Rattle.lpc_base.proofs.RowWords.{count-fewer, count-none, count-push, every-push, every-without, first-passes, has-kept, has-off, has_none-more, has_none-without_first, none-counted, every-more, has_none-without}
use Rattle.lpc_base.proofs.RowMaps.{every-first, every-without_first}
use Rattle.lpc_base.proofs.Bools.{first-true, same-number, second-true}
use Rattle.lpc_base.specs.declared.status.TheConstants.{SUCCESS}
use Rattle.lpc_model.specs.declared.entry.CallName.{CallName}
use Rattle.lpc_model.specs.declared.entry.Field.{Field}
use Rattle.lpc_model.specs.Fields.{msg, receipt}
use Rattle.lpc_message.specs.declared.kind.TheConstants.{CLIENT_DIED, DATAGRAM, PORT_CLOSED}
use Rattle.lpc_model.specs.Message.{asks}
use Rattle.lpc_model.specs.World.{Accepted, Connect, Listen, MessageRow, Receive, Request, WaitKind, WaitRow, World, Event}
use Rattle.lpc_model.specs.Found.{is_offered, is_own_of, is_queued, is_queued_connect, is_asking, same_birth, wait_of, waits_as, waits_at, is_mark}
use Rattle.lpc_model.specs.Basics.{Accepts, Awaits, Basic, Empties, Enters, Frees, Receives, Takes, TakesConnect, Tells, Wakes, Withdraws, accepted, basic, received, world_after, Dies, Leaves, Marks}
use Rattle.lpc_model.specs.Entering.{enter, given_steps, shown, take_connect_steps, take_steps, takes, woken}
use Rattle.lpc_model.proofs.Steps.Rows.{count-less}
use Rattle.lpc_isolation.proofs.Each.Enter.{Patient, is_patient, listen-first, receive-first}

abbrev pub sender_of : MessageRow → ℕ
sender_of y = y.message.header.client.thread

-- a message of a thread that asks, and the wait for its answer, which isn't received yet
abbrev pub asks_of : ℕ → MessageRow → Bool
asks_of who y = asks y.message && (sender_of y == who)

abbrev pub is_own : MessageRow → WaitRow → Bool
is_own y x = waits_as (sender_of y) x && (same_birth x.queue y.queue && (not x.received && (is_asking x || is_offered x)))

abbrev pub has_own : List WaitRow → MessageRow → Bool
has_own waits y = not (asks y.message) || has (is_own y) waits

-- a message is a request, a connection request or a datagram, or tells of a closed port or of a thread that ended
abbrev pub is_sort : MessageRow → Bool
is_sort y =
    asks y.message || ((y.message.header.kind == DATAGRAM) || ((y.message.header.kind == PORT_CLOSED) || (y.message.header.kind == CLIENT_DIED)))

-- no message of the thread asks
abbrev pub is_quiet : List MessageRow → ℕ → Bool
is_quiet messages who = not (has (asks_of who) messages)

pub record Asked (w : World) : Type 0 where
  pub sorts : every is_sort w.messages ≡ true
  -- a message that asks has its wait, and a thread has one such message at most
  pub own : every (has_own w.waits) w.messages ≡ true
  pub one : (who : ℕ) → count (asks_of who) w.messages ≤ 1
  -- and one that is marked has none
  pub marked : every (is_quiet w.messages) w.marks ≡ true

-- a message that enters is the only one of its thread that asks, and that isn't marked
abbrev pub asks_rightly : World → MessageRow → Bool
asks_rightly w y = not (asks y.message) || ((is_quiet w.messages (sender_of y) && has (is_own y) w.waits) && not (has (is_mark (sender_of y)) w.marks))

-- what a step must be, so that it stays so
abbrev pub keeps_asked : World → Basic → Bool
keeps_asked w (Wakes who call status fields) = is_quiet w.messages who
keeps_asked w (Dies who status) = is_quiet w.messages who
keeps_asked w (Leaves who) = is_quiet w.messages who
keeps_asked w (Receives who q) = is_quiet w.messages who
keeps_asked w (Accepts who reply) = is_quiet w.messages who
keeps_asked w (Marks who) = is_quiet w.messages who
keeps_asked w (Enters y) = is_sort y && asks_rightly w y
keeps_asked w (Frees o) = false
keeps_asked w b = true

abbrev pub are_asked : World → List Basic → Bool
are_asked w [] = true
are_asked w (b ∷ bs) = keeps_asked w b && are_asked (basic w b) bs

-- Lists
has-changed : {X : Type 0} (p s : X → Bool) (f : X → X) → ((x : X) → p x ≡ true → s x ≡ false) → (xs : List X) → has p xs ≡ true → has p (change s f xs) ≡ true
has-changed p s f off [] is = is
has-changed p s f off (x ∷ xs) is = grind (arith, off x, has-changed p s f off xs)

every-quiet : (p q : MessageRow → Bool) (t : MessageRow → Bool) → ((y : MessageRow) → p y ≡ true → t y ≡ false → q y ≡ true) → (ys : List MessageRow) → every p ys ≡ true → has t ys ≡ false → every q ys ≡ true
every-quiet p q t f [] all none = refl
every-quiet p q t f (y ∷ ys) all none = grind (arith, f y, every-quiet p q t f ys)

fewer : {X : Type 0} (p t : X → Bool) (xs : List X) (n : ℕ) → count p xs ≤ n → count p (without_first t xs) ≤ n
fewer p t xs n few = let least = count-fewer p t xs in omega (arith, few, least)

pub counted : {X : Type 0} (p t : X → Bool) (xs : List X) (y : X) → first t xs ≡ Some y → p y ≡ true → count p xs ≤ 0 → ⊥
counted p t [] y at is few = cc
counted p t (x ∷ xs) y at is few = grind (arith, counted p t xs y)

gone : {X : Type 0} (p t : X → Bool) (xs : List X) (y : X) → first t xs ≡ Some y → p y ≡ true → count p xs ≤ 1 → has p (without_first t xs) ≡ false
gone p t [] y at is few = refl
gone p t (x ∷ xs) y at is few = grind (arith, gone p t xs y, counted p t xs y, none-counted p xs)

twice : {X : Type 0} (p q r : X → Bool) (xs : List X) (a b : X) → first p xs ≡ Some a → first q xs ≡ Some b → r a ≡ true → r b ≡ true → count r xs ≤ 1 → a ≡ b
twice p q r [] a b one two ra rb few = absurd (cc)
twice p q r (x ∷ xs) a b one two ra rb few = grind (arith, twice p q r xs a b, counted r p xs a, counted r q xs b)

-- Basic steps
other-sender : (who : ℕ) (y : MessageRow) (x : WaitRow) → asks y.message ≡ true → asks_of who y ≡ false → is_own y x ≡ true → (x.thread == who) ≡ false
other-sender who y x asked off own =
    let same : x.thread ≡ sender_of y = eqb-true _ _ (first-true _ _ own) in
    let other : (sender_of y == who) ≡ false = grind arith in subst (λ t. (t == who) ≡ false) (sym same) other

pub still-own : (who : ℕ) (ws vs : List WaitRow) → ((y : MessageRow) → ((x : WaitRow) → is_own y x ≡ true → (x.thread == who) ≡ false) → has (is_own y) ws ≡ true → has (is_own y) vs ≡ true) → (ys : List MessageRow) → every (has_own ws) ys ≡ true → is_quiet ys who ≡ true → every (has_own vs) ys ≡ true
still-own who ws vs keeps ys all quiet = every-quiet (has_own ws) (has_own vs) (asks_of who) (λ y own off. at y (asks y.message) refl own off) ys all (not-true _ quiet)
  where
    at : (y : MessageRow) (b : Bool) → asks y.message ≡ b → has_own ws y ≡ true → asks_of who y ≡ false → has_own vs y ≡ true
    at y true asked own off = let there : has (is_own y) ws ≡ true = grind arith in rw (keeps y (λ x is. other-sender who y x asked off is) there) (grind arith)
    at y false asked own off = rw asked refl

every-more_own : (ws vs : List WaitRow) → ((y : MessageRow) → has (is_own y) ws ≡ true → has (is_own y) vs ≡ true) → (ys : List MessageRow) → every (has_own ws) ys ≡ true → every (has_own vs) ys ≡ true
every-more_own ws vs more [] all = refl
every-more_own ws vs more (y ∷ ys) all = grind (arith, more y, every-more_own ws vs more ys)

entered-one : (who : ℕ) (ys : List MessageRow) (y : MessageRow) → (not (asks y.message) || is_quiet ys (sender_of y)) ≡ true → count (asks_of who) ys ≤ 1 → count (asks_of who) (ys ++ y ∷ []) ≤ 1
entered-one who ys y ok few = rw (count-push (asks_of who) ys y) (at (asks_of who y) refl)
  where
    at : (b : Bool) → asks_of who y ≡ b → count (asks_of who) ys + cond b 1 0 ≤ 1
    at true is =
        let same : sender_of y ≡ who = eqb-true _ _ (second-true _ _ is) in
        let quiet : is_quiet ys (sender_of y) ≡ true = grind arith in
        let none : has (asks_of who) ys ≡ false = subst (λ n. has (asks_of n) ys ≡ false) same (not-true _ quiet) in
        rw (count-none (asks_of who) ys none) (omega arith)
    at false off = omega (arith, few)

-- those that are marked stay quiet
pub still-quiet : (xs ys : List MessageRow) (marks : List ℕ) → ((n : ℕ) → has (asks_of n) xs ≡ false → has (asks_of n) ys ≡ false) → every (is_quiet xs) marks ≡ true → every (is_quiet ys) marks ≡ true
still-quiet xs ys marks less all = every-more (is_quiet xs) (is_quiet ys) (λ n is. rw (less n (not-true _ is)) refl) marks all

has-last : {X : Type 0} (p : X → Bool) (xs : List X) (y : X) → has p xs ≡ false → p y ≡ false → has p (xs ++ y ∷ []) ≡ false
has-last p [] y none off = grind arith
has-last p (x ∷ xs) y none off = grind (arith, has-last p xs y)

entered-marked : (ms : List MessageRow) (y : MessageRow) (marks : List ℕ) → (not (asks y.message) || not (has (is_mark (sender_of y)) marks)) ≡ true → every (is_quiet ms) marks ≡ true → every (is_quiet (ms ++ y ∷ [])) marks ≡ true
entered-marked ms y [] ok all = refl
entered-marked ms y (n ∷ ns) ok all = and_from _ _ (rw (has-last (asks_of n) ms y (not-true (has (asks_of n) ms) (first-true (is_quiet ms n) (every (is_quiet ms) ns) all)) (off (asks y.message) (sender_of y == n) refl refl)) refl) (entered-marked ms y ns less (second-true _ _ all))
  where
    less : (not (asks y.message) || not (has (is_mark (sender_of y)) ns)) ≡ true
    less = grind arith

    off : (a e : Bool) → asks y.message ≡ a → (sender_of y == n) ≡ e → (asks y.message && (sender_of y == n)) ≡ false
    off false e is it = rw is refl
    off true false is it = rw (is, it) refl
    off true true is it =
        let same : sender_of y ≡ n = eqb-true _ _ it in
        let here : (n == sender_of y) ≡ true = subst (λ k. (k == sender_of y) ≡ true) same (same-number (sender_of y)) in
        absurd (grind arith)

pub basic-asked : (w : World) (b : Basic) → keeps_asked w b ≡ true → Asked w → Asked (basic w b)
basic-asked w (Wakes who call status fields) ok a = record { sorts = a.sorts; own = still-own who w.waits (without (waits_as who) w.waits) (λ y other. has-off (is_own y) (waits_as who) other w.waits) w.messages a.own ok; one = a.one; marked = every-without (is_quiet w.messages) (is_mark who) w.marks a.marked }
basic-asked w (Dies who status) ok a = record { sorts = a.sorts; own = still-own who w.waits (without (waits_as who) w.waits) (λ y other. has-off (is_own y) (waits_as who) other w.waits) w.messages a.own ok; one = a.one; marked = every-without (is_quiet w.messages) (is_mark who) w.marks a.marked }
basic-asked w (Leaves who) ok a = record { sorts = a.sorts; own = still-own who w.waits (without (waits_as who) w.waits) (λ y other. has-off (is_own y) (waits_as who) other w.waits) w.messages a.own ok; one = a.one; marked = every-without (is_quiet w.messages) (is_mark who) w.marks a.marked }
basic-asked w (Receives who q) ok a = record { sorts = a.sorts; own = still-own who w.waits (change (waits_at who q) received w.waits) (λ y other. has-changed (is_own y) (waits_at who q) received (λ x is. let off = other x is in grind arith) w.waits) w.messages a.own ok; one = a.one; marked = a.marked }
basic-asked w (Accepts who reply) ok a = record { sorts = a.sorts; own = still-own who w.waits (change (waits_as who) (accepted reply) w.waits) (λ y other. has-changed (is_own y) (waits_as who) (accepted reply) other w.waits) w.messages a.own ok; one = a.one; marked = a.marked }
basic-asked w (Enters y) ok a = record { sorts = every-push is_sort w.messages y a.sorts (first-true (is_sort y) (asks_rightly w y) ok); own = every-push (has_own w.waits) w.messages y a.own (let rest = second-true (is_sort y) (asks_rightly w y) ok in grind arith); one = λ who. entered-one who w.messages y (let rest = second-true (is_sort y) (asks_rightly w y) ok in grind arith) (a.one who); marked = entered-marked w.messages y w.marks (let rest = second-true (is_sort y) (asks_rightly w y) ok in grind arith) a.marked }
basic-asked w (Awaits x) ok a = record { sorts = a.sorts; own = every-more_own w.waits (w.waits ++ x ∷ []) (λ y is. has-kept (is_own y) w.waits x is) w.messages a.own; one = a.one; marked = a.marked }
basic-asked w (Takes q) ok a = record { sorts = every-without_first is_sort (is_queued q) w.messages a.sorts; own = every-without_first (has_own w.waits) (is_queued q) w.messages a.own; one = λ who. fewer (asks_of who) (is_queued q) w.messages 1 (a.one who); marked = still-quiet w.messages (without_first (is_queued q) w.messages) w.marks (λ n none. has_none-without_first (asks_of n) (is_queued q) w.messages none) a.marked }
basic-asked w (TakesConnect q) ok a = record { sorts = every-without_first is_sort (is_queued_connect q) w.messages a.sorts; own = every-without_first (has_own w.waits) (is_queued_connect q) w.messages a.own; one = λ who. fewer (asks_of who) (is_queued_connect q) w.messages 1 (a.one who); marked = still-quiet w.messages (without_first (is_queued_connect q) w.messages) w.marks (λ n none. has_none-without_first (asks_of n) (is_queued_connect q) w.messages none) a.marked }
basic-asked w (Frees o) ok a = absurd (cc)
basic-asked w (Withdraws who) ok a = record { sorts = every-without is_sort (is_own_of who) w.messages a.sorts; own = every-without (has_own w.waits) (is_own_of who) w.messages a.own; one = λ tid. count-less (asks_of tid) (is_own_of who) w.messages 1 (a.one tid); marked = still-quiet w.messages (without (is_own_of who) w.messages) w.marks (λ n none. has_none-without (asks_of n) (is_own_of who) w.messages none) a.marked }
basic-asked w (Empties q) ok a = record { sorts = every-without is_sort (is_queued q) w.messages a.sorts; own = every-without (has_own w.waits) (is_queued q) w.messages a.own; one = λ tid. count-less (asks_of tid) (is_queued q) w.messages 1 (a.one tid); marked = still-quiet w.messages (without (is_queued q) w.messages) w.marks (λ n none. has_none-without (asks_of n) (is_queued q) w.messages none) a.marked }
basic-asked w (Tells e) ok a = a
basic-asked w (Marks who) ok a = record { sorts = a.sorts; own = a.own; one = a.one; marked = every-push (is_quiet w.messages) w.marks who a.marked ok }
basic-asked w b ok a = record { sorts = a.sorts; own = a.own; one = a.one; marked = a.marked }

pub run-asked : (w : World) (bs : List Basic) → are_asked w bs ≡ true → Asked w → Asked (world_after w bs)
run-asked w [] ok a = a
run-asked w (b ∷ bs) ok a = run-asked (basic w b) bs (second-true _ _ ok) (basic-asked w b (first-true _ _ ok) a)

pub append-asked : (w : World) (bs cs : List Basic) → are_asked w bs ≡ true → are_asked (world_after w bs) cs ≡ true → are_asked w (bs ++ cs) ≡ true
append-asked w [] cs one two = two
append-asked w (b ∷ bs) cs one two = and_from _ _ (first-true _ _ one) (append-asked (basic w b) bs cs (second-true _ _ one) two)

-- who waits for nothing, or no longer for a message to be received, has no message that asks
abbrev pub is_settled : WaitRow → Bool
is_settled x = x.received || not (is_asking x || is_offered x)

pub found-some : {X : Type 0} (p : X → Bool) (xs : List X) → (o : Option X) → first p xs ≡ o → ((y : X) → first p xs ≡ Some y → ⊥) → not (has p xs) ≡ true
found-some p xs None at never = rw at refl
found-some p xs (Some y) at never = absurd (never y at)

own-wait : (w : World) (y : MessageRow) → Asked w → (who : ℕ) → first (asks_of who) w.messages ≡ Some y → has (is_own y) w.waits ≡ true
own-wait w y a who at =
    let passes = first-passes (asks_of who) w.messages y at in
    let own : has_own w.waits y ≡ true = every-first (has_own w.waits) (asks_of who) w.messages y a.own at in grind arith

pub idle-quiet : (w : World) (who : ℕ) → Asked w → wait_of w who ≡ None → is_quiet w.messages who ≡ true
idle-quiet w who a idle = found-some (asks_of who) w.messages (first (asks_of who) w.messages) refl (λ y at.
    let same : sender_of y ≡ who = eqb-true _ _ (second-true _ _ (first-passes (asks_of who) w.messages y at)) in
    let none : has (waits_as (sender_of y)) w.waits ≡ false = subst (λ t. has (waits_as t) w.waits ≡ false) (sym same) (rw idle refl) in
    let off : has (is_own y) w.waits ≡ false = has_none-more (waits_as (sender_of y)) (is_own y) (λ x out. rw out refl) w.waits none in
    let on = own-wait w y a who at in cc)

pub settled-quiet : (w : World) (test : WaitRow → Bool) (x : WaitRow) → Asked w → count (waits_as x.thread) w.waits ≤ 1 → first test w.waits ≡ Some x → is_settled x ≡ true → is_quiet w.messages x.thread ≡ true
settled-quiet w test x a once found settled = found-some (asks_of x.thread) w.messages (first (asks_of x.thread) w.messages) refl (λ y at. own y (first (is_own y) w.waits) refl at)
  where
    own : (y : MessageRow) → (o : Option WaitRow) → first (is_own y) w.waits ≡ o → first (asks_of x.thread) w.messages ≡ Some y → ⊥
    own y None none at = let on = own-wait w y a x.thread at in cc
    own y (Some z) some at =
        let passes = first-passes (is_own y) w.waits z some in
        let sender : sender_of y ≡ x.thread = eqb-true _ _ (second-true _ _ (first-passes (asks_of x.thread) w.messages y at)) in
        let zs : (z.thread == x.thread) ≡ true = subst (λ t. (z.thread == t) ≡ true) sender (first-true _ _ passes) in
        let same : x ≡ z = twice test (is_own y) (waits_as x.thread) w.waits x z found some (same-number x.thread) zs once in
        let bad : is_own y x ≡ true = subst (λ z. is_own y z ≡ true) (sym same) passes in grind arith

-- what is taken and what enters
when-asked : (v : World) (y : MessageRow) (asked : Bool) (rest : List Basic) → asks y.message ≡ asked → (asks y.message ≡ true → is_quiet v.messages (sender_of y) ≡ true) → ((u : World) → u.messages ≡ v.messages → are_asked u rest ≡ true) → are_asked v (when asked (Receives (sender_of y) y.queue ∷ []) ++ rest) ≡ true
when-asked v y true rest is quiet each = and_from _ _ (quiet is) (each (basic v (Receives (sender_of y) y.queue)) refl)
when-asked v y false rest is quiet each = each v refl

taken-quiet : (v : World) (test : MessageRow → Bool) (y : MessageRow) → ((who : ℕ) → count (asks_of who) v.messages ≤ 1) → first test v.messages ≡ Some y → asks y.message ≡ true → is_quiet (without_first test v.messages) (sender_of y) ≡ true
taken-quiet v test y one at is = rw (gone (asks_of (sender_of y)) test v.messages y at (and_from _ _ is (same-number (sender_of y))) (one (sender_of y))) refl

pub take-asked : (v : World) (y : MessageRow) → ((who : ℕ) → count (asks_of who) v.messages ≤ 1) → first (is_queued y.queue) v.messages ≡ Some y → are_asked v (take_steps y) ≡ true
take-asked v y one at = subst (λ bs. are_asked (basic v (Takes y.queue)) bs ≡ true) (append-nil (when (asks y.message) (Receives (sender_of y) y.queue ∷ []))) (when-asked (basic v (Takes y.queue)) y (asks y.message) [] refl (λ is. taken-quiet v (is_queued y.queue) y one at is) (λ u same. refl))

pub take_connect-asked : (v : World) (y : MessageRow) → ((who : ℕ) → count (asks_of who) v.messages ≤ 1) → first (is_queued_connect y.queue) v.messages ≡ Some y → are_asked v (take_connect_steps y) ≡ true
take_connect-asked v y one at = subst (λ bs. are_asked (basic v (TakesConnect y.queue)) bs ≡ true) (append-nil (when (asks y.message) (Receives (sender_of y) y.queue ∷ []))) (when-asked (basic v (TakesConnect y.queue)) y (asks y.message) [] refl (λ is. taken-quiet v (is_queued_connect y.queue) y one at is) (λ u same. refl))

-- a waiter takes what entered
waking-asked : (u v : World) (z : WaitRow) (call : CallName) (fields : List Field) → u.messages ≡ v.messages → is_quiet v.messages z.thread ≡ true → are_asked u (Wakes z.thread call SUCCESS fields ∷ []) ≡ true
waking-asked u v z call fields same quiet = rw (same, quiet) refl

given-asked : (v : World) (y : MessageRow) (z : WaitRow) (sort : WaitKind) → z.kind ≡ sort → takes y z ≡ true → is_patient v z ≡ true → Asked (basic v (Enters y)) → is_quiet (v.messages ++ y ∷ []) z.thread ≡ true → are_asked (basic v (Enters y)) (given_steps z y ++ woken SUCCESS (shown z y) z ∷ []) ≡ true
given-asked v y z (Request b) k is patient a quiet = let off : (false && same_birth z.queue y.queue) ≡ true = rw k at is in absurd (cc)
given-asked v y z (Event e) k is patient a quiet = let off : (false && same_birth z.queue y.queue) ≡ true = rw k at is in absurd (cc)
given-asked v y z (Connect b offer) k is patient a quiet = let off : (false && same_birth z.queue y.queue) ≡ true = rw k at is in absurd (cc)
given-asked v y z (Accepted b r) k is patient a quiet = let off : (false && same_birth z.queue y.queue) ≡ true = rw k at is in absurd (cc)
given-asked v y z Receive k is patient a quiet =
    let u : World = basic (basic v (Enters y)) (Takes y.queue) in
    let still : is_quiet u.messages z.thread ≡ true = rw (has_none-without_first (asks_of z.thread) (is_queued y.queue) (v.messages ++ y ∷ []) (not-true _ quiet)) refl in
    rw k (when-asked u y (asks y.message) (Wakes z.thread z.call SUCCESS (receipt y) ∷ []) refl (λ on. taken-quiet (basic v (Enters y)) (is_queued y.queue) y a.one (receive-first v y z is (rw k refl) patient) on)
    (λ t same. waking-asked t u z z.call (receipt y) same still))
given-asked v y z Listen k is patient a quiet =
    let u : World = basic (basic v (Enters y)) (TakesConnect y.queue) in
    let still : is_quiet u.messages z.thread ≡ true = rw (has_none-without_first (asks_of z.thread) (is_queued_connect y.queue) (v.messages ++ y ∷ []) (not-true _ quiet)) refl in
    rw k (when-asked u y (asks y.message) (Wakes z.thread z.call SUCCESS (msg y.message ∷ []) ∷ []) refl (λ on. taken-quiet (basic v (Enters y)) (is_queued_connect y.queue) y a.one (listen-first v y z is (rw k refl) (rw k refl) patient) on)
    (λ t same. waking-asked t u z z.call (msg y.message ∷ []) same still))

taker-settled : (y : MessageRow) (z : WaitRow) (sort : WaitKind) → z.kind ≡ sort → takes y z ≡ true → is_settled z ≡ true
taker-settled y z (Request b) k is = let off : (false && same_birth z.queue y.queue) ≡ true = rw k at is in absurd (cc)
taker-settled y z (Event e) k is = let off : (false && same_birth z.queue y.queue) ≡ true = rw k at is in absurd (cc)
taker-settled y z (Connect b offer) k is = let off : (false && same_birth z.queue y.queue) ≡ true = rw k at is in absurd (cc)
taker-settled y z (Accepted b r) k is = let off : (false && same_birth z.queue y.queue) ≡ true = rw k at is in absurd (cc)
taker-settled y z Receive k is = rw k (grind arith)
taker-settled y z Listen k is = rw k (grind arith)

pub enter-asked : (v : World) (y : MessageRow) → Asked v → Patient v → ((tid : ℕ) → count (waits_as tid) v.waits ≤ 1) → keeps_asked v (Enters y) ≡ true → are_asked v (enter y v) ≡ true
enter-asked v y a patient once ok = and_from _ _ ok (at (first (takes y) v.waits) refl)
  where
    after : Asked (basic v (Enters y))
    after = basic-asked v (Enters y) ok a

    at : (o : Option WaitRow) → first (takes y) v.waits ≡ o → are_asked (basic v (Enters y)) (given o (λ z. given_steps z y ++ woken SUCCESS (shown z y) z ∷ [])) ≡ true
    at None none = refl
    at (Some z) some =
        let is = first-passes (takes y) v.waits z some in
        given-asked v y z z.kind refl is (every-first (is_patient v) (takes y) v.waits z patient some) after (settled-quiet (basic v (Enters y)) (takes y) z after (once z.thread) some (taker-settled y z z.kind refl is))
