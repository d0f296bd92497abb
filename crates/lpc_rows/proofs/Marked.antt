-- Marked events: what each change of threads, waits and marks leaves of the marks, and that each finds its place.
use Rattle.std.proofs.Common.{◌≡◌, ◌+◌, ◌<◌, ◌≤◌, ℕ, List, [], ◌∷◌, ◌++◌, Bool, true, false, length, refl, sym, subst, arith}
use Rattle.std.specs.Prelude.{◌==◌, not}
use Rattle.std.proofs.lemmas.Bool.{eqb-true}
use Rattle.std.proofs.lemmas.Bool.Decides.{nat_tests}
use Rattle.std.proofs.lemmas.List.{length_push}
use Rattle.lpc_base.specs.Rows.{change, count, every, has, without, without_first}
use Rattle.lpc_base.proofs.RowWords.{count-fewer, count-has, count-left, count-none, count-push, every-more, every-push, every-without, has_none-push}
use Rattle.lpc_ports.specs.Table.{QueuedMessage, is_own_of}
use Rattle.lpc_slots.specs.declared.Key.{Key}
use Rattle.lpc_waits.specs.Table.{WaitingThread, is_event, is_mark, is_of}
use Rattle.lpc_procs.specs.Procs.{is_thread}
use Rattle.lpc_procs.specs.declared.rows.ThreadRow.{ThreadRow}
use Rattle.lpc_rows.specs.Lawful.{AreMarked, is_event_of, is_living}
use Rattle.lpc_rows.specs.Shown.{MarkTable, with_mark, without_mark}
use Rattle.lpc_rows.proofs.OwnMessages.{count-less}

-- no mark is left of a thread whose marks go
pub none-left : {X : Type 0} (p : X → Bool) (xs : List X) → count p (without p xs) ≡ 0
none-left p [] = refl
none-left p (x ∷ xs) = grind (arith, none-left p xs)

one-less : {X : Type 0} (p : X → Bool) (xs : List X) → length xs ≤ length (without_first p xs) + 1
one-less p [] = omega arith
one-less p (x ∷ xs) = grind (arith, one-less p xs)

-- Waits of other threads
module _ (tid who : ℕ) (other : (tid == who) ≡ false) where
  off : (x : WaitingThread) → is_of who x ≡ true → is_of tid x ≡ false
  off x own = grind (arith, nat_tests)

  others-end : (xs : List WaitingThread) → count (is_event_of tid) (without (is_of who) xs) ≡ count (is_event_of tid) xs
  others-end [] = refl
  others-end (x ∷ xs) = grind (arith, off x, others-end xs)

-- a wait begins
pub marked-wait : (ts : List ThreadRow) (xs : List WaitingThread) (qs : List (Key × QueuedMessage)) (m : MarkTable) (x : WaitingThread) → AreMarked ts xs qs m → AreMarked ts (xs ++ x ∷ []) qs m
marked-wait ts xs qs m x h = record {
  marked = λ tid. let n = h.marked tid in let more = count-push (is_event_of tid) xs x in omega (arith, n, more);
  left = h.left;
  places = h.places;
}

-- a wait ends, and its mark goes
pub marked-end : (ts : List ThreadRow) (xs : List WaitingThread) (qs : List (Key × QueuedMessage)) (m : MarkTable) (who : ℕ) → AreMarked ts xs qs m → AreMarked ts (without (is_of who) xs) qs (without_mark who m)
marked-end ts xs qs m who h = record {
  marked = λ tid. elim (tid == who) as (λ b. (tid == who) ≡ b → count (is_mark tid) (without (is_mark who) m.rows) ≤ count (is_event_of tid) (without (is_of who) xs)) [
    | true ↦ λ here. subst (λ n. count (is_mark n) (without (is_mark who) m.rows) ≤ count (is_event_of n) (without (is_of who) xs)) (sym (eqb-true tid who here)) (let none = none-left (is_mark who) m.rows in omega (arith, none))
    | false ↦ λ other. let n = h.marked tid in let less = count-left (is_mark tid) (is_mark who) m.rows in let same = others-end tid who other xs in omega (arith, n, less, same)
  ] refl;
  left = every-without (λ n. not (has (is_own_of n) qs)) (is_mark who) m.rows h.left;
  places = h.places;
}

-- a wait changes, and waits for the same
pub marked-change : (ts : List ThreadRow) (xs : List WaitingThread) (qs : List (Key × QueuedMessage)) (m : MarkTable) (who : ℕ) (g : WaitingThread → WaitingThread) → ((x : WaitingThread) → (g x).thread ≡ x.thread) → ((x : WaitingThread) → is_event (g x).wait.kind ≡ is_event x.wait.kind)
    → AreMarked ts xs qs m → AreMarked ts (change (is_of who) g xs) qs m
marked-change ts xs qs m who g same kinds h = record {
  marked = λ tid. let n = h.marked tid in let kept = counted tid xs in omega (arith, n, kept);
  left = h.left;
  places = h.places;
}
  where
    counted : (tid : ℕ) (ys : List WaitingThread) → count (is_event_of tid) (change (is_of who) g ys) ≡ count (is_event_of tid) ys
    counted tid [] = refl
    counted tid (y ∷ ys) = grind (arith, same y, kinds y, counted tid ys)

-- threads come and go: no more live than have a place
pub marked-threads : (ts us : List ThreadRow) (xs : List WaitingThread) (qs : List (Key × QueuedMessage)) (m : MarkTable) → count is_living us ≤ count is_living ts → AreMarked ts xs qs m → AreMarked us xs qs m
marked-threads ts us xs qs m fewer h = record { marked = h.marked; left = h.left; places = let fit = h.places in omega (arith, fewer, fit) }

pub living-change : (f : ThreadRow → ThreadRow) → ((t : ThreadRow) → (f t).live ≡ t.live) → (who : ℕ) (ts : List ThreadRow) → count is_living (change (is_thread who) f ts) ≡ count is_living ts
living-change f lives who [] = refl
living-change f lives who (t ∷ ts) = grind (arith, lives t, living-change f lives who ts)

pub marked-thread : (f : ThreadRow → ThreadRow) → ((t : ThreadRow) → (f t).live ≡ t.live) → (who : ℕ) (ts : List ThreadRow) (xs : List WaitingThread) (qs : List (Key × QueuedMessage)) (m : MarkTable) → AreMarked ts xs qs m → AreMarked (change (is_thread who) f ts) xs qs m
marked-thread f lives who ts xs qs m h = marked-threads ts (change (is_thread who) f ts) xs qs m (let same = living-change f lives who ts in omega (arith, same)) h

pub fewer-living : (f : ThreadRow → ThreadRow) → ((t : ThreadRow) → (f t).live ≡ false) → (who : ℕ) (ts : List ThreadRow) → count is_living (change (is_thread who) f ts) ≤ count is_living ts
fewer-living f dead who [] = omega arith
fewer-living f dead who (t ∷ ts) = grind (arith, dead t, fewer-living f dead who ts)

pub marked-born : (ts : List ThreadRow) (t : ThreadRow) (xs : List WaitingThread) (qs : List (Key × QueuedMessage)) (m : MarkTable) → count is_living ts < m.places → AreMarked ts xs qs m → AreMarked (ts ++ t ∷ []) xs qs m
marked-born ts t xs qs m place h = record {
  marked = h.marked;
  left = h.left;
  places = let more = count-push is_living ts t in grind (arith, more);
}

-- a message enters of a thread that isn't marked, and messages leave their queues
entered-left : (qs : List (Key × QueuedMessage)) (q : Key × QueuedMessage) (ms : List ℕ) → ((n : ℕ) → is_own_of n q ≡ true → has (is_mark n) ms ≡ false) → every (λ n. not (has (is_own_of n) qs)) ms ≡ true → every (λ n. not (has (is_own_of n) (qs ++ q ∷ []))) ms ≡ true
entered-left qs q [] off all = refl
entered-left qs q (n ∷ ms) off all = by (entered-left qs q ms (λ k own. let none = off k own in grind (arith, none)) (grind arith)) (is_own_of n q) refl
  where
    by : every (λ k. not (has (is_own_of k) (qs ++ q ∷ []))) ms ≡ true → (b : Bool) → is_own_of n q ≡ b → every (λ k. not (has (is_own_of k) (qs ++ q ∷ []))) (n ∷ ms) ≡ true
    by later true own = let none = off n own in let self : (n == n) ≡ true = grind (arith, nat_tests) in absurd (grind (arith, none, self))
    by later false other =
        let before : has (is_own_of n) qs ≡ false = grind arith in
        let none = has_none-push (is_own_of n) qs q before other in
        rw (none, later) refl

pub marked-enter : (ts : List ThreadRow) (xs : List WaitingThread) (qs : List (Key × QueuedMessage)) (m : MarkTable) (q : Key × QueuedMessage) → ((n : ℕ) → is_own_of n q ≡ true → has (is_mark n) m.rows ≡ false) → AreMarked ts xs qs m → AreMarked ts xs (qs ++ q ∷ []) m
marked-enter ts xs qs m q off h = record { marked = h.marked; left = entered-left qs q m.rows off h.left; places = h.places }

pub marked-fewer : (ts : List ThreadRow) (xs : List WaitingThread) (qs rs : List (Key × QueuedMessage)) (m : MarkTable) → ((n : ℕ) → has (is_own_of n) qs ≡ false → has (is_own_of n) rs ≡ false) → AreMarked ts xs qs m → AreMarked ts xs rs m
marked-fewer ts xs qs rs m fewer h = record {
  marked = h.marked;
  left = every-more (λ n. not (has (is_own_of n) qs)) (λ n. not (has (is_own_of n) rs)) (λ n off. by n (has (is_own_of n) qs) refl off) m.rows h.left;
  places = h.places;
}
  where
    by : (n : ℕ) (b : Bool) → has (is_own_of n) qs ≡ b → not b ≡ true → not (has (is_own_of n) rs) ≡ true
    by n true at off = absurd (cc)
    by n false at off = rw (fewer n at) refl

-- more places
pub marked-roomed : (ts : List ThreadRow) (xs : List WaitingThread) (qs : List (Key × QueuedMessage)) (m : MarkTable) (places : ℕ) → m.places ≤ places → AreMarked ts xs qs m → AreMarked ts xs qs (record m { places = places })
marked-roomed ts xs qs m places more h = record { marked = h.marked; left = h.left; places = let fit = h.places in omega (arith, more, fit) }

-- an event is marked that isn't yet
pub marked-more : (ts : List ThreadRow) (xs : List WaitingThread) (qs : List (Key × QueuedMessage)) (m : MarkTable) (who : ℕ) → has (is_event_of who) xs ≡ true → has (is_mark who) m.rows ≡ false → has (is_own_of who) qs ≡ false → AreMarked ts xs qs m → AreMarked ts xs qs (with_mark who m)
marked-more ts xs qs m who event none quiet h = record {
  marked = λ tid. elim (who == tid) as (λ b. (who == tid) ≡ b → count (is_mark tid) (m.rows ++ who ∷ []) ≤ count (is_event_of tid) xs) [
    | true ↦ λ here. subst (λ n. count (is_mark n) (m.rows ++ who ∷ []) ≤ count (is_event_of n) xs) (eqb-true who tid here) own
    | false ↦ λ other. let n = h.marked tid in let more = count-push (is_mark tid) m.rows who in grind (arith, n, more, other)
  ] refl;
  left = every-push (λ n. not (has (is_own_of n) qs)) m.rows who h.left (rw quiet refl);
  places = h.places;
}
  where
    own : count (is_mark who) (m.rows ++ who ∷ []) ≤ count (is_event_of who) xs
    own =
        let self : (who == who) ≡ true = grind (arith, nat_tests) in
        grind (arith, self, count-push (is_mark who) m.rows who, count-none (is_mark who) m.rows none, count-has (is_event_of who) xs event)

-- marks are no more than waits
pub marks-few : (ms : List ℕ) (xs : List WaitingThread) → ((tid : ℕ) → count (is_mark tid) ms ≤ count (is_event_of tid) xs) → length ms ≤ length xs
marks-few [] [] all = omega arith
marks-few (m ∷ ms) [] all = let self : (m == m) ≡ true = grind (arith, nat_tests) in grind (arith, self, all m)
marks-few ms (x ∷ xs) all =
    let rest = marks-few (without_first (is_mark x.thread) ms) xs left in
    let one = one-less (is_mark x.thread) ms in
    omega (arith, rest, one)
  where
    left : (tid : ℕ) → count (is_mark tid) (without_first (is_mark x.thread) ms) ≤ count (is_event_of tid) xs
    left tid = elim (x.thread == tid) as (λ b. (x.thread == tid) ≡ b → count (is_mark tid) (without_first (is_mark x.thread) ms) ≤ count (is_event_of tid) xs) [
      | true ↦ λ here. subst (λ n. count (is_mark n) (without_first (is_mark x.thread) ms) ≤ count (is_event_of n) xs) (eqb-true x.thread tid here)
          (count-less (is_mark x.thread) (count (is_event_of x.thread) xs) ms (grind (arith, all x.thread)))
      | false ↦ λ other. grind (arith, other, all tid, count-fewer (is_mark tid) (is_mark x.thread) ms)
    ] refl

-- so a mark more finds its place, where no more threads wait than live
pub mark-place : (ts : List ThreadRow) (xs : List WaitingThread) (qs : List (Key × QueuedMessage)) (m : MarkTable) (who : ℕ) → length xs ≤ count is_living ts → has (is_event_of who) xs ≡ true → has (is_mark who) m.rows ≡ false → has (is_own_of who) qs ≡ false → AreMarked ts xs qs m → length m.rows < m.places
mark-place ts xs qs m who few event none quiet h =
    let more = marked-more ts xs qs m who event none quiet h in
    let all = marks-few (m.rows ++ who ∷ []) xs more.marked in
    let long = length_push m.rows who in
    let fit = h.places in
    omega (arith, all, long, few, fit)

-- marks are no more than live threads
pub marks-fit : (ts : List ThreadRow) (xs : List WaitingThread) (qs : List (Key × QueuedMessage)) (m : MarkTable) → length xs ≤ count is_living ts → AreMarked ts xs qs m → length m.rows ≤ count is_living ts
marks-fit ts xs qs m few h = let all = marks-few m.rows xs h.marked in omega (arith, all, few)
