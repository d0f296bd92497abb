-- The threads that a call ends: each is found by its number, lives, and is of the process; no two have one number.
use Rattle.std.proofs.Common.{◌≡◌, ℕ, ◌≤◌, List, [], ◌∷◌, ◌++◌, Bool, true, false, cond, not, Some, refl, sym, subst, arith, append_assoc}
use Rattle.std.specs.Prelude.{◌&&◌, ◌||◌, ◌==◌, Ok}
use Rattle.std.proofs.lemmas.Bool.Decides.{nat_tests}
use Rattle.lpc_base.specs.Rows.{change, count, every, first, which}
use Rattle.lpc_base.specs.declared.status.TheConstants.{INVALID_HANDLE}
use Rattle.lpc_base.proofs.RowWords.{every-change, every-more, every-which, first-passes}
use Rattle.lpc_base.proofs.Bools.{first-true, same-number, second-true}
use Rattle.lpc_model.specs.declared.entry.ObjectKind.TheVariants as kind
use Rattle.lpc_model.specs.declared.line.ProcArg.TheVariants.{By, Current}
use Rattle.lpc_model.specs.World.{ThreadRow, World}
use Rattle.lpc_model.specs.Found.{is_live_thread, is_thread, live_threads, lives_in, same_birth}
use Rattle.lpc_model.specs.Basics.{ended, doomed}
use Rattle.lpc_model.specs.Lawful.{HasThreadsOnce}
use Rattle.lpc_model.specs.Lines.{ProcArg}
use Rattle.lpc_model.specs.Targets.{LIFE_RIGHT, thread_target}
use Rattle.lpc_model.specs.Tests.{object_test}
use Rattle.lpc_model.proofs.Calls.Holding.{Holds, bind_holds, found_holds, holds_ok}
use Rattle.lpc_model.proofs.Calls.Outcomes as outcome
use Rattle.lpc_model.proofs.Calls.Outcomes.{AreDoomed}
use Rattle.lpc_model.proofs.Steps.Rows.{first-change, lone}
use Rattle.lpc_model.proofs.Sound.Frees.{none-pass, which-all}
use Rattle.lpc_model.proofs.Calls.Usable.{CanCall}

-- Threads that are found
-- each is found by its number, and lives; no two have one number
abbrev pub AreFound : List ThreadRow → List ThreadRow → Type 0
AreFound all [] = Unit {0}
AreFound all (t ∷ ts) = (first (is_thread t.number) all ≡ Some t) × (t.live ≡ true) × (every (λ u. not (is_thread t.number u)) ts ≡ true) × AreFound all ts

pub found-live : (ts : List ThreadRow) (n : ℕ) (t : ThreadRow) → first (is_thread n) ts ≡ Some t → t.live ≡ true → first (is_live_thread n) ts ≡ Some t
found-live [] n t at live = absurd (cc)
found-live (u ∷ us) n t at live = grind (arith, found-live us n t)

-- the others are found once one has ended
pub found-other : (all : List ThreadRow) (n : ℕ) (ts : List ThreadRow) → every (λ u. not (is_thread n u)) ts ≡ true → AreFound all ts → AreFound (change (is_thread n) ended all) ts
found-other all n [] apart found = tt
found-other all n (u ∷ us) apart found = (
  rw (first-change (is_thread u.number) (is_thread n) ended (λ t. refl) all, found.0) (same (is_thread n u) (off (is_thread n u) _ apart)),
  found.1,
  found.2,
  found-other all n us (second-true _ _ apart) found.3,
)
  where
    off : (a b : Bool) → (not a && b) ≡ true → a ≡ false
    off a b is = grind arith

    same : (c : Bool) → c ≡ false → Some (cond c (ended u) u) ≡ Some u
    same true is = absurd (cc)
    same false is = refl

-- a row that some test finds is the one of its number, where a number has one row
unique-row : (q : ThreadRow → Bool) (ts : List ThreadRow) (t : ThreadRow) → count (is_thread t.number) ts ≤ 1 → first q ts ≡ Some t → first (is_thread t.number) ts ≡ Some t
unique-row q [] t once at = absurd (cc)
unique-row q (u ∷ us) t once at = by_test (q u) refl (is_thread t.number u) refl (unique-row q us t)
  where
    fewer : count (is_thread t.number) us ≤ 1
    fewer = grind arith

    self : is_thread t.number t ≡ true
    self = grind (arith, nat_tests)

    there : (us : List ThreadRow) → first q us ≡ Some t → 1 ≤ count (is_thread t.number) us
    there [] at = absurd (cc)
    there (v ∷ vs) at = grind (arith, nat_tests, there vs)

    by_test : (c : Bool) → q u ≡ c → (d : Bool) → is_thread t.number u ≡ d → (count (is_thread t.number) us ≤ 1 → first q us ≡ Some t → first (is_thread t.number) us ≡ Some t) → first (is_thread t.number) (u ∷ us) ≡ Some t
    by_test true is d same later =
        let its : u ≡ t = let one : Some u ≡ Some t = rw is at at in cc in
        subst (λ v. first (is_thread t.number) (v ∷ us) ≡ Some t) (sym its) (rw self refl)
    by_test false off true same later =
        let later_at : first q us ≡ Some t = rw off at at in
        let some = there us later_at in
        let few : count (is_thread t.number) (u ∷ us) ≤ 1 = once in absurd (grind (arith, some, same))
    by_test false off false other later =
        let later_at : first q us ≡ Some t = rw off at at in rw other (later fewer later_at)

-- the live threads of a process
middle-first : (front ts : List ThreadRow) (t : ThreadRow) → count (is_thread t.number) (front ++ t ∷ ts) ≤ 1 → first (is_thread t.number) (front ++ t ∷ ts) ≡ Some t
middle-first [] ts t once = let self : is_thread t.number t ≡ true = grind (arith, nat_tests) in rw self refl
middle-first (u ∷ us) ts t once = at (is_thread t.number u) refl (middle-first us ts t)
  where
    there : (us : List ThreadRow) → 1 ≤ count (is_thread t.number) (us ++ t ∷ ts)
    there [] = grind (arith, nat_tests)
    there (v ∷ vs) = grind (arith, nat_tests, there vs)

    at : (c : Bool) → is_thread t.number u ≡ c → (count (is_thread t.number) (us ++ t ∷ ts) ≤ 1 → first (is_thread t.number) (us ++ t ∷ ts) ≡ Some t) → first (is_thread t.number) (u ∷ (us ++ t ∷ ts)) ≡ Some t
    at true same later = let some = there us in absurd (grind (arith, some, same))
    at false other later = rw other (later (grind arith))

after-none : (front ts : List ThreadRow) (t : ThreadRow) → count (is_thread t.number) (front ++ t ∷ ts) ≤ 1 → count (is_thread t.number) ts ≤ 0
after-none [] ts t once = let self : is_thread t.number t ≡ true = grind (arith, nat_tests) in grind arith
after-none (u ∷ us) ts t once = after-none us ts t (grind arith)

one-more : (front ts : List ThreadRow) (t : ThreadRow) → front ++ t ∷ ts ≡ (front ++ t ∷ []) ++ ts
one-more front ts t = sym (append_assoc front (t ∷ []) ts)

pub live-found : (pid : ℕ) (front ts : List ThreadRow) → ((n : ℕ) → count (is_thread n) (front ++ ts) ≤ 1) → AreFound (front ++ ts) (which (lives_in pid) ts)
live-found pid front [] once = tt
live-found pid front (t ∷ ts) once = at (lives_in pid t) refl (live-found pid (front ++ t ∷ []) ts)
  where
    later : ((n : ℕ) → count (is_thread n) ((front ++ t ∷ []) ++ ts) ≤ 1)
    later n = subst (λ all. count (is_thread n) all ≤ 1) (one-more front ts t) (once n)

    back : AreFound ((front ++ t ∷ []) ++ ts) (which (lives_in pid) ts) → AreFound (front ++ t ∷ ts) (which (lives_in pid) ts)
    back found = subst (λ all. AreFound all (which (lives_in pid) ts)) (sym (one-more front ts t)) found

    at : (c : Bool) → lives_in pid t ≡ c → (((n : ℕ) → count (is_thread n) ((front ++ t ∷ []) ++ ts) ≤ 1) → AreFound ((front ++ t ∷ []) ++ ts) (which (lives_in pid) ts)) → AreFound (front ++ t ∷ ts) (which (lives_in pid) (t ∷ ts))
    at true is rest =
        rw is (middle-first front ts t (once t.number), second-true (t.process == pid) t.live is, every-which (λ u. not (is_thread t.number u)) (lives_in pid) ts (none-pass (is_thread t.number) ts (after-none front ts t (once t.number))), back (rest later))
    at false is rest = rw is (back (rest later))

-- a thread that a call is to end is the one of its number
target-found : (w : World) (by : ThreadRow) (target : ProcArg) (t : ThreadRow) → HasThreadsOnce w → CanCall w by → thread_target w by target ≡ Ok t → first (is_thread t.number) w.threads ≡ Some t
target-found w by target t once c at = holds_ok (λ t. first (is_thread t.number) w.threads ≡ Some t) (thread_target w by target) t (of target) at
  where
    of : (target : ProcArg) → Holds (λ t. first (is_thread t.number) w.threads ≡ Some t) (thread_target w by target)
    of Current = unique-row (is_live_thread by.number) w.threads by (once by.number) c.lives
    of (By handle) =
        bind_holds (object_test w by kind.Thread LIFE_RIGHT handle) _ (λ t. first (is_thread t.number) w.threads ≡ Some t) (λ b _.
        found_holds (λ t. first (is_thread t.number) w.threads ≡ Some t) (first (λ t. same_birth t.birth b) w.threads) INVALID_HANDLE (λ t at. unique-row (λ t. same_birth t.birth b) w.threads t (once t.number) at))

-- Threads of a process
-- a row of a thread number is of the process
abbrev pub IsOf : ℕ → ℕ → List ThreadRow → Type 0
IsOf pid n ts = every (λ u. not (is_thread n u) || (u.process == pid)) ts ≡ true

abbrev pub AreOf : ℕ → List ThreadRow → List ThreadRow → Type 0
AreOf pid all [] = Unit {0}
AreOf pid all (t ∷ ts) = IsOf pid t.number all × AreOf pid all ts

-- so they are once one has ended
pub of-ended : (pid n : ℕ) (all ts : List ThreadRow) → AreOf pid all ts → AreOf pid (change (is_thread n) ended all) ts
of-ended pid n all [] of = tt
of-ended pid n all (t ∷ ts) of = (every-change (λ u. not (is_thread t.number u) || (u.process == pid)) (is_thread n) ended (λ u is. is) all of.0, of-ended pid n all ts of.1)

pub are-of : (pid : ℕ) (all ts : List ThreadRow) → ((n : ℕ) → count (is_thread n) all ≤ 1) → AreFound all ts → every (λ t. t.process == pid) ts ≡ true → AreOf pid all ts
are-of pid all [] once found of = tt
are-of pid all (t ∷ ts) once found of = (
  lone (is_thread t.number) (λ u. u.process == pid) (is_thread t.number) all t (once t.number) found.0 (first-passes (is_thread t.number) all t found.0) (first-true _ _ of),
  are-of pid all ts once found.3 (second-true _ _ of),
)

-- What a call ends
pub doomed-found : (w : World) (by : ThreadRow) (own : Bool) (pid : ℕ) (ts : List ThreadRow) → AreDoomed w by own pid ts → HasThreadsOnce w → CanCall w by → AreFound w.threads ts
doomed-found w by own pid ts (outcome.one target t at live) once c = (target-found w by target t once c at, live, refl, tt)
doomed-found w by own pid ts (outcome.all target process found live) once c = live-found process [] w.threads once

doomed-process : (w : World) (by : ThreadRow) (own : Bool) (pid : ℕ) (ts : List ThreadRow) → AreDoomed w by own pid ts → every (λ t. t.process == pid) ts ≡ true
doomed-process w by own pid ts (outcome.one target t at live) = rw (same-number t.process) refl
doomed-process w by own pid ts (outcome.all target process found live) = every-more (lives_in process) (λ t. t.process == process) (λ t is. first-true _ _ is) (live_threads w process) (which-all (lives_in process) w.threads)

pub doomed-of : (w : World) (by : ThreadRow) (own : Bool) (pid : ℕ) (ts : List ThreadRow) → AreDoomed w by own pid ts → HasThreadsOnce w → CanCall w by → AreOf pid w.threads ts
doomed-of w by own pid ts doomed once c = are-of pid w.threads ts once (doomed-found w by own pid ts doomed once c) (doomed-process w by own pid ts doomed)

-- the live threads of a process
pub live-of : (w : World) (pid : ℕ) → HasThreadsOnce w → AreOf pid w.threads (live_threads w pid)
live-of w pid once = are-of pid w.threads (live_threads w pid) once (live-found pid [] w.threads once) (every-more (lives_in pid) (λ t. t.process == pid) (λ t is. first-true _ _ is) (live_threads w pid) (which-all (lives_in pid) w.threads))
