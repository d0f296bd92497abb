-- Which marks a group sees: those of threads whose event is in its view.
use Rattle.std.proofs.lemmas.Bool.Decides.{nat_tests}
use Rattle.std.proofs.Common.{◌≡◌, ℕ, List, [], ◌∷◌, ◌++◌, Bool, true, false, refl, arith}
use Rattle.std.specs.Prelude.{◌==◌, ◌||◌, not}
use Rattle.lpc_base.specs.Rows.{change, has, which, without}
use Rattle.lpc_base.proofs.RowWords.{has-change}
use Rattle.lpc_model.specs.World.{Acceptance, Birth, WaitRow, World}
use Rattle.lpc_model.specs.Found.{is_event, is_mark, waits_as, waits_at}
use Rattle.lpc_model.specs.Basics.{accepted, received}
use Rattle.lpc_model.specs.Settle.{is_event_of}
use Rattle.lpc_model.proofs.Sound.Worlds.{by_kind}

-- two changes of a world at once
pub both-changed : (v : World) (xs ys : List WaitRow) (ms ns : List ℕ) → xs ≡ ys → ms ≡ ns → record v { waits = xs; marks = ms } ≡ record v { waits = ys; marks = ns }
both-changed v xs ys ms ns one two = rw (one, two) refl

pub same-marks : (p q : ℕ → Bool) → ((n : ℕ) → p n ≡ q n) → (ns : List ℕ) → which p ns ≡ which q ns
same-marks p q same [] = refl
same-marks p q same (n ∷ ns) = grind (arith, same n, same-marks p q same ns)

-- a wait that goes takes the mark of its own thread along alone
other-event : (who n : ℕ) → (n == who) ≡ false → (xs : List WaitRow) → has (is_event_of n) (without (waits_as who) xs) ≡ has (is_event_of n) xs
other-event who n other [] = refl
other-event who n other (x ∷ xs) = grind (arith, nat_tests, other-event who n other xs)

pub left-seen : (who : ℕ) (xs : List WaitRow) (ns : List ℕ) → which (λ n. has (is_event_of n) (without (waits_as who) xs)) (without (is_mark who) ns) ≡ without (is_mark who) (which (λ n. has (is_event_of n) xs) ns)
left-seen who xs [] = refl
left-seen who xs (n ∷ ns) = at (n == who) refl (left-seen who xs ns)
  where
    at : (b : Bool) → (n == who) ≡ b → which (λ n. has (is_event_of n) (without (waits_as who) xs)) (without (is_mark who) ns) ≡ without (is_mark who) (which (λ n. has (is_event_of n) xs) ns)
        → which (λ n. has (is_event_of n) (without (waits_as who) xs)) (without (is_mark who) (n ∷ ns)) ≡ without (is_mark who) (which (λ n. has (is_event_of n) xs) (n ∷ ns))
    at true is rest = grind (arith, is, rest)
    at false is rest = let same = other-event who n is xs in grind (arith, is, same, rest)

pub no-event : (n : ℕ) (xs : List WaitRow) → has (waits_as n) xs ≡ false → has (is_event_of n) xs ≡ false
no-event n [] none = refl
no-event n (x ∷ xs) none = grind (arith, no-event n xs)

-- a thread without a wait there has no mark there
pub unmarked-seen : (who : ℕ) (xs : List WaitRow) → has (waits_as who) xs ≡ false → (ns : List ℕ) → has (is_mark who) (which (λ n. has (is_event_of n) xs) ns) ≡ false
unmarked-seen who xs none ns = at ns
  where
    events : (xs : List WaitRow) → has (waits_as who) xs ≡ false → has (is_event_of who) xs ≡ false
    events [] none = refl
    events (x ∷ xs) none = grind (arith, events xs)

    at : (ns : List ℕ) → has (is_mark who) (which (λ n. has (is_event_of n) xs) ns) ≡ false
    at [] = refl
    at (n ∷ ns) = let off = events xs none in grind (arith, nat_tests, off, at ns)

-- a wait that changes stays the same event
pub received-seen : (who : ℕ) (q : Birth) (xs : List WaitRow) (ns : List ℕ) → which (λ n. has (is_event_of n) (change (waits_at who q) received xs)) ns ≡ which (λ n. has (is_event_of n) xs) ns
received-seen who q xs ns = same-marks _ _ (λ n. has-change (is_event_of n) (waits_at who q) received (λ x. refl) xs) ns

accepted-event : (n : ℕ) (reply : Acceptance) (x : WaitRow) → is_event_of n (accepted reply x) ≡ is_event_of n x
accepted-event n reply = by_kind (λ x. is_event_of n (accepted reply x) ≡ is_event_of n x) (λ x m. refl) (λ x. refl) (λ x. refl) (λ x m offer. refl) (λ x m r. refl) (λ x r. refl)

pub accepted-seen : (who : ℕ) (reply : Acceptance) (xs : List WaitRow) (ns : List ℕ) → which (λ n. has (is_event_of n) (change (waits_as who) (accepted reply) xs)) ns ≡ which (λ n. has (is_event_of n) xs) ns
accepted-seen who reply xs ns = same-marks _ _ (λ n. has-change (is_event_of n) (waits_as who) (accepted reply) (accepted-event n reply) xs) ns

-- a wait that begins is no event, or its thread isn't marked
pub begun-seen : (x : WaitRow) (xs : List WaitRow) (ns : List ℕ) → (not (is_event x) || not (has (is_mark x.thread) ns)) ≡ true → which (λ n. has (is_event_of n) (xs ++ x ∷ [])) ns ≡ which (λ n. has (is_event_of n) xs) ns
begun-seen x xs [] is = refl
begun-seen x xs (n ∷ ns) is = let more = pushed n xs in grind (arith, nat_tests, more, begun-seen x xs ns)
  where
    pushed : (n : ℕ) (xs : List WaitRow) → has (is_event_of n) (xs ++ x ∷ []) ≡ (has (is_event_of n) xs || is_event_of n x)
    pushed n [] = grind arith
    pushed n (y ∷ ys) = grind (arith, pushed n ys)
