-- A thread's own messages in queues, which are no more than its pending waits.
use Rattle.std.proofs.Common.{◌≡◌, ℕ, ◌+◌, ◌≤◌, List, [], ◌∷◌, ◌++◌, Bool, true, false, cond, None, Option, Some, IfSome, refl, subst, sym, arith}
use Rattle.std.specs.Prelude.{◌==◌, ◌&&◌, not}
use Rattle.std.proofs.lemmas.Bool.{and_parts, eqb-true}
use Rattle.std.proofs.lemmas.Bool.Decides.{nat_tests}
use Rattle.lpc_base.specs.Rows.{change, count, first, has, without, without_first}
use Rattle.lpc_base.proofs.Differ.{one-row}
use Rattle.lpc_base.proofs.RowWords.{count-fewer, count-has, count-left, count-none, count-push, has-push, has_none-more, none-counted}
use Rattle.lpc_model.specs.World.{MessageRow, WaitRow, World}
use Rattle.lpc_model.specs.Found.{is_mark, is_own_of, waits_as}
use Rattle.lpc_rows.specs.Clauses.{HasLeft}
use Rattle.lpc_rows.specs.Kept.{StaysUnqueued, has_queued, is_asking, is_pending, is_pending_in, is_unsent, pends_as}
use Rattle.lpc_rows.specs.Lawful.{are_single}

-- the first that passes is one less
pub count-less : {X : Type 0} (p : X → Bool) (n : ℕ) (xs : List X) → count p xs ≤ n + 1 → count p (without_first p xs) ≤ n
count-less p n [] few = grind arith
count-less p n (x ∷ xs) few = elim (p x) as (λ b. p x ≡ b → count p (without_first p (x ∷ xs)) ≤ n) [
  | true ↦ λ here. grind (arith, here)
  | false ↦ λ off. grind (arith, off, count-less p n xs)
] refl

pub count-one_less : {X : Type 0} (p q : X → Bool) (xs : List X) → count p xs ≤ count p (without_first q xs) + 1
count-one_less p q [] = grind arith
count-one_less p q (x ∷ xs) = grind (arith, count-one_less p q xs)

-- and one less where the one that is taken passes
pub count-taken_by : {X : Type 0} (p q : X → Bool) (xs : List X) (x : X) → first q xs ≡ Some x → count p (without_first q xs) + cond (p x) 1 0 ≡ count p xs
count-taken_by p q [] y is = grind arith
count-taken_by p q (x ∷ xs) y is = grind (arith, count-taken_by p q xs y)

-- Waits of other threads
module _ (tid who : ℕ) (other : (tid == who) ≡ false) where
  off : (x : WaitRow) → waits_as who x ≡ true → waits_as tid x ≡ false
  off x own = grind (arith, nat_tests)

  pub others-end : (xs : List WaitRow) → count (pends_as tid) (without (waits_as who) xs) ≡ count (pends_as tid) xs
  others-end [] = refl
  others-end (x ∷ xs) = grind (arith, off x, others-end xs)

  pub others-change : (g : WaitRow → WaitRow) → ((x : WaitRow) → (g x).thread ≡ x.thread) → (xs : List WaitRow)
      → count (pends_as tid) (change (waits_as who) g xs) ≡ count (pends_as tid) xs
  others-change g same [] = refl
  others-change g same (x ∷ xs) = grind (arith, off x, same x, others-change g same xs)

-- rows count alike of which the first do, and the others
counted-both : {X : Type 0} (p : X → Bool) (x y : X) (xs ys : List X) → p y ≡ p x → count p ys ≡ count p xs → count p (y ∷ ys) ≡ count p (x ∷ xs)
counted-both p x y xs ys one rest = grind (arith, one, rest)

-- a change that keeps threads and what pends
pub pending-kept : (tid who : ℕ) (g : WaitRow → WaitRow) → ((x : WaitRow) → (g x).thread ≡ x.thread) → ((x : WaitRow) → is_pending (g x) ≡ is_pending x) → (xs : List WaitRow)
    → count (pends_as tid) (change (waits_as who) g xs) ≡ count (pends_as tid) xs
pending-kept tid who g same pends [] = refl
pending-kept tid who g same pends (x ∷ xs) = counted-both (pends_as tid) x (cond (waits_as who x) (g x) x) xs (change (waits_as who) g xs) one (pending-kept tid who g same pends xs)
  where
    one : pends_as tid (cond (waits_as who x) (g x) x) ≡ pends_as tid x
    one = elim (waits_as who x) as (λ b. pends_as tid (cond b (g x) x) ≡ pends_as tid x) [ true ↦ rw (same x, pends x) refl | false ↦ refl ]

pub pends-once : (tid : ℕ) (xs : List WaitRow) → are_single xs ≡ true → count (pends_as tid) xs ≤ 1
pends-once tid xs one = grind (arith, fewer xs, one-row (λ (x : WaitRow). x.thread) tid xs one)
  where
    fewer : (ys : List WaitRow) → count (pends_as tid) ys ≤ count (waits_as tid) ys
    fewer [] = grind arith
    fewer (y ∷ ys) = grind (arith, fewer ys)

-- What each change of the messages and waits leaves: each thread's own messages are no more than its pending waits
abbrev pub AreOwn : List MessageRow → List WaitRow → Type 0
AreOwn ms xs = (tid : ℕ) → count (is_own_of tid) ms ≤ count (pends_as tid) xs

pub own-wait : (ms : List MessageRow) (xs : List WaitRow) (x : WaitRow) → AreOwn ms xs → AreOwn ms (xs ++ x ∷ [])
own-wait ms xs x own = λ tid. grind (arith, own tid, count-push (pends_as tid) xs x)

pub own-end : (who : ℕ) (ms : List MessageRow) (xs : List WaitRow) → has (is_own_of who) ms ≡ false → AreOwn ms xs → AreOwn ms (without (waits_as who) xs)
own-end who ms xs none own = λ tid. elim (tid == who) as (λ b. (tid == who) ≡ b → count (is_own_of tid) ms ≤ count (pends_as tid) (without (waits_as who) xs)) [
  | true ↦ λ here. subst (λ n. count (is_own_of n) ms ≤ count (pends_as n) (without (waits_as who) xs)) (sym (eqb-true tid who here)) (grind (arith, count-none (is_own_of who) ms none))
  | false ↦ λ other. grind (arith, own tid, others-end tid who other xs)
] refl

pub own-change : (who : ℕ) (g : WaitRow → WaitRow) → ((x : WaitRow) → (g x).thread ≡ x.thread) → (ms : List MessageRow) (xs : List WaitRow) → has (is_own_of who) ms ≡ false
    → AreOwn ms xs → AreOwn ms (change (waits_as who) g xs)
own-change who g same ms xs none own = λ tid. elim (tid == who) as (λ b. (tid == who) ≡ b → count (is_own_of tid) ms ≤ count (pends_as tid) (change (waits_as who) g xs)) [
  | true ↦ λ here. subst (λ n. count (is_own_of n) ms ≤ count (pends_as n) (change (waits_as who) g xs)) (sym (eqb-true tid who here)) (grind (arith, count-none (is_own_of who) ms none))
  | false ↦ λ other. grind (arith, own tid, others-change tid who other g same xs)
] refl

pub own-keep : (who : ℕ) (g : WaitRow → WaitRow) → ((x : WaitRow) → (g x).thread ≡ x.thread) → ((x : WaitRow) → is_pending (g x) ≡ is_pending x) → (ms : List MessageRow) (xs : List WaitRow)
    → AreOwn ms xs → AreOwn ms (change (waits_as who) g xs)
own-keep who g same pends ms xs own = λ tid. grind (arith, own tid, pending-kept tid who g same pends xs)

pub own-take : (q : MessageRow → Bool) (ms : List MessageRow) (xs : List WaitRow) → AreOwn ms xs → AreOwn (without_first q ms) xs
own-take q ms xs own = λ tid. grind (arith, own tid, count-fewer (is_own_of tid) q ms)

pub own-withdraw : (q : MessageRow → Bool) (ms : List MessageRow) (xs : List WaitRow) → AreOwn ms xs → AreOwn (without q ms) xs
own-withdraw q ms xs own = λ tid. grind (arith, own tid, count-left (is_own_of tid) q ms)

-- a message enters that its sender awaits
pub own-enter : (m : MessageRow) (ms : List MessageRow) (xs : List WaitRow)
    → (is_asking m ≡ true → (has (pends_as m.message.header.client.thread) xs && not (has (is_own_of m.message.header.client.thread) ms)) ≡ true)
    → AreOwn ms xs → AreOwn (ms ++ m ∷ []) xs
own-enter m ms xs asks own = λ tid. elim (is_own_of tid m) as (λ b. is_own_of tid m ≡ b → count (is_own_of tid) (ms ++ m ∷ []) ≤ count (pends_as tid) xs) [
  | true ↦ λ here.
      let e : m.message.header.client.thread ≡ tid = eqb-true m.message.header.client.thread tid (and_parts (is_asking m) (m.message.header.client.thread == tid) here).1 in
      let unsent : (has (pends_as tid) xs && not (has (is_own_of tid) ms)) ≡ true =
      subst (λ n. (has (pends_as n) xs && not (has (is_own_of n) ms)) ≡ true) e (asks (and_parts (is_asking m) (m.message.header.client.thread == tid) here).0) in
      grind (arith, here, and_parts (has (pends_as tid) xs) (not (has (is_own_of tid) ms)) unsent, count-has (pends_as tid) xs, count-none (is_own_of tid) ms, count-push (is_own_of tid) ms m)
  | false ↦ λ off. grind (arith, off, own tid, count-push (is_own_of tid) ms m)
] refl

-- what is unsent pends, and stands in no queue; and its thread isn't marked
pub unsent-left : (w : World) (tid : ℕ) → is_unsent w tid ≡ true → (is_pending_in w tid && not (has_queued w tid)) ≡ true
unsent-left w tid h = by (is_pending_in w tid) (has_queued w tid) (has (is_mark tid) w.marks) h
  where
    by : (a b c : Bool) → (a && not b && not c) ≡ true → (a && not b) ≡ true
    by true true c h = absurd (cc)
    by true false c h = refl
    by false b c h = absurd (cc)

pub unsent-unmarked : (w : World) (tid : ℕ) → is_unsent w tid ≡ true → has (is_mark tid) w.marks ≡ false
unsent-unmarked w tid h = by (is_pending_in w tid) (has_queued w tid) (has (is_mark tid) w.marks) h
  where
    by : (a b c : Bool) → (a && not b && not c) ≡ true → c ≡ false
    by true true c h = absurd (cc)
    by true false true h = absurd (cc)
    by true false false h = refl
    by false b c h = absurd (cc)

-- so the sender of a message that enters isn't marked
pub unmarked-sender : (w : World) (m : MessageRow) (who : ℕ) → (is_asking m ≡ true → is_unsent w m.message.header.client.thread ≡ true) → is_own_of who m ≡ true → has (is_mark who) w.marks ≡ false
unmarked-sender w m who asks own =
    let parts = and_parts (is_asking m) (m.message.header.client.thread == who) own in
    subst (λ n. has (is_mark n) w.marks ≡ false) (eqb-true m.message.header.client.thread who parts.1) (unsent-unmarked w m.message.header.client.thread (asks parts.0))

-- What follows
-- a thread that doesn't pend has no message of its own in a queue
pub none-queued : (w : World) (tid : ℕ) → AreOwn w.messages w.waits → is_pending_in w tid ≡ false → has_queued w tid ≡ false
none-queued w tid own idle = grind (arith, own tid, count-none (pends_as tid) w.waits, none-counted (is_own_of tid) w.messages)

-- of a message that is taken, no other of its thread stands
pub own-left : (q : MessageRow → Bool) (tid : ℕ) (m : MessageRow) (ms : List MessageRow) → first q ms ≡ Some m → is_own_of tid m ≡ true → count (is_own_of tid) ms ≤ 1
    → has (is_own_of tid) (without_first q ms) ≡ false
own-left q tid m ms at own few = none-counted (is_own_of tid) (without_first q ms)
    (let less : count (is_own_of tid) (without_first q ms) + 1 ≡ count (is_own_of tid) ms = rw (← count-taken_by (is_own_of tid) q ms m at, own) refl in
    omega (arith, less, few))

-- the messages that ask are no more than the waits that pend
pub asking-pending : (xs : List WaitRow) (ms : List MessageRow) → AreOwn ms xs → count is_asking ms ≤ count is_pending xs
asking-pending [] ms own = none ms own
  where
    none : (ys : List MessageRow) → AreOwn ys [] → count is_asking ys ≤ 0
    none [] all = grind arith
    none (y ∷ ys) all =
        let self : (y.message.header.client.thread == y.message.header.client.thread) ≡ true = grind (arith, nat_tests) in
        grind (arith, self, all y.message.header.client.thread, none ys (λ tid. grind (arith, all tid)))
asking-pending (x ∷ xs) ms own = elim (is_pending x) as (λ b. is_pending x ≡ b → count is_asking ms ≤ count is_pending (x ∷ xs)) [
  | true ↦ λ pends. grind (arith, pends, asking-pending xs (without_first (is_own_of x.thread) ms) (rest pends), count-one_less is_asking (is_own_of x.thread) ms)
  | false ↦ λ off. grind (arith, off, asking-pending xs ms (λ tid. grind (arith, off, own tid)))
] refl
  where
    rest : is_pending x ≡ true → AreOwn (without_first (is_own_of x.thread) ms) xs
    rest pends = λ tid. elim (x.thread == tid) as (λ b. (x.thread == tid) ≡ b → count (is_own_of tid) (without_first (is_own_of x.thread) ms) ≤ count (pends_as tid) xs) [
      | true ↦ λ here. subst (λ n. count (is_own_of n) (without_first (is_own_of x.thread) ms) ≤ count (pends_as n) xs) (eqb-true x.thread tid here)
          (count-less (is_own_of x.thread) (count (pends_as x.thread) xs) ms (at_own pends))
      | false ↦ λ other. grind (arith, other, own tid, count-fewer (is_own_of tid) (is_own_of x.thread) ms)
    ] refl
      where
        at_own : is_pending x ≡ true → count (is_own_of x.thread) ms ≤ count (pends_as x.thread) xs + 1
        at_own is = let self : (x.thread == x.thread) ≡ true = grind (arith, nat_tests) in grind (arith, is, self, own x.thread)

-- and where a message was taken by a test
pub left-pulled : (q : MessageRow → Bool) (w : World) (m : MessageRow) → AreOwn w.messages w.waits → are_single w.waits ≡ true → first q w.messages ≡ Some m
    → HasLeft (record w { messages = without_first q w.messages }) m.message
left-pulled q w m own one at = λ asks. own-left q m.message.header.client.thread m w.messages at (mine asks)
    (let once = pends-once m.message.header.client.thread w.waits one in let few = own m.message.header.client.thread in omega (arith, once, few))
  where
    mine : is_asking m ≡ true → is_own_of m.message.header.client.thread m ≡ true
    mine is = let self : (m.message.header.client.thread == m.message.header.client.thread) ≡ true = grind (arith, nat_tests) in grind (arith, is, self)

pub unqueued-pulled : (q : MessageRow → Bool) (w : World) → StaysUnqueued w (record w { messages = without_first q w.messages })
unqueued-pulled q w = record { unqueued = λ tid none. gone tid w.messages none }
  where
    gone : (tid : ℕ) (ms : List MessageRow) → has (is_own_of tid) ms ≡ false → has (is_own_of tid) (without_first q ms) ≡ false
    gone tid [] none = refl
    gone tid (m ∷ ms) none = grind (arith, gone tid ms)

-- a wait that begins for a request or connect, whose message doesn't stand yet
pub unsent-begun : (w : World) (x : WaitRow) → AreOwn w.messages w.waits → has (waits_as x.thread) w.waits ≡ false → has (is_mark x.thread) w.marks ≡ false → is_pending x ≡ true
    → is_unsent (record w { waits = w.waits ++ x ∷ [] }) x.thread ≡ true
unsent-begun w x own ready unmarked pends =
    let idle : is_pending_in w x.thread ≡ false = has_none-more (waits_as x.thread) (pends_as x.thread) (λ y none. grind arith) w.waits ready in
    let self : (x.thread == x.thread) ≡ true = grind (arith, nat_tests) in
    let there : has (pends_as x.thread) (w.waits ++ x ∷ []) ≡ true = has-push (pends_as x.thread) w.waits x (grind (arith, self, pends)) in
    let none : has_queued w x.thread ≡ false = none-queued w x.thread own idle in
    grind (arith, there, none, unmarked)

-- a thread that is found and doesn't pend has no message of its own in a queue
pub none-queued_if : (w : World) (r : Option ℕ) → AreOwn w.messages w.waits → IfSome r (λ tid. is_pending_in w tid ≡ false) → IfSome r (λ tid. has_queued w tid ≡ false)
none-queued_if w None own idle = tt
none-queued_if w (Some tid) own idle = none-queued w tid own idle
