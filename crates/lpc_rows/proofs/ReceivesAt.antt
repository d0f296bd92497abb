-- The wait of a thread on a queue is its one wait, where that is on the queue.
use Rattle.std.proofs.Common.{◌≡◌, ℕ, List, [], ◌∷◌, Bool, true, false, refl, ap, arith}
use Rattle.std.specs.Prelude.{◌==◌}
use Rattle.std.proofs.lemmas.Bool.{eqb-true}
use Rattle.lpc_base.specs.Rows.{change, first, has}
use Rattle.lpc_base.proofs.RowWords.{change-none}
use Rattle.lpc_base.proofs.Differ.{rest-differ, rest-none}
use Rattle.lpc_model.specs.World.{Birth, WaitRow, World}
use Rattle.lpc_model.specs.Basics.{Receives, basic, received}
use Rattle.lpc_model.specs.Found.{same_birth, waits_as, waits_at}
use Rattle.lpc_rows.specs.Lawful.{are_single}
use Rattle.lpc_rows.specs.Ready.{wait_in, waiter}

thread : WaitRow → ℕ
thread x = x.thread

-- where a thread doesn't wait, it doesn't wait on a queue
pub none_at : (tid : ℕ) (q : Birth) (xs : List WaitRow) → has (waits_as tid) xs ≡ false → has (waits_at tid q) xs ≡ false
none_at tid q [] none = refl
none_at tid q (x ∷ xs) none = grind (arith, none_at tid q xs)

tail_none : (tid : ℕ) (x : WaitRow) (xs : List WaitRow) → are_single (x ∷ xs) ≡ true → (x.thread == tid) ≡ true → has (waits_as tid) xs ≡ false
tail_none tid x xs one here = rest-none (λ (y : WaitRow). y.thread) x xs tid one (eqb-true x.thread tid here)

tail_single : (x : WaitRow) (xs : List WaitRow) → are_single (x ∷ xs) ≡ true → are_single xs ≡ true
tail_single x xs one = rest-differ (λ (y : WaitRow). y.thread) x xs one

-- the queue of the first is the queue of the thread's wait
list_at : (tid : ℕ) (q : Birth) (xs : List WaitRow) → are_single xs ≡ true → has (waits_as tid) xs ≡ true → has (waits_at tid q) xs ≡ same_birth (let x = wait_in (first (waits_as tid) xs) in x.queue) q
list_at tid q [] one there = absurd (cc)
list_at tid q (x ∷ xs) one there = at (list_at tid q xs (tail_single x xs one)) (x.thread == tid) refl
  where
    at : (has (waits_as tid) xs ≡ true → has (waits_at tid q) xs ≡ same_birth (let y = wait_in (first (waits_as tid) xs) in y.queue) q) → (b : Bool) → (x.thread == tid) ≡ b → has (waits_at tid q) (x ∷ xs) ≡ same_birth (let y = wait_in (first (waits_as tid) (x ∷ xs)) in y.queue) q
    at later true here = let none = none_at tid q xs (tail_none tid x xs one here) in grind arith
    at later false off = grind (arith, later)

pub at_queue : (w : World) (tid : ℕ) (q : Birth) → are_single w.waits ≡ true → has (waits_as tid) w.waits ≡ true → has (waits_at tid q) w.waits ≡ same_birth (let x = waiter w tid in x.queue) q
unfolding waiter
at_queue w tid q one there = list_at tid q w.waits one there

-- so the change of the one is the change of the other
pub received_at : (tid : ℕ) (q : Birth) (xs : List WaitRow) → are_single xs ≡ true → has (waits_at tid q) xs ≡ true → change (waits_as tid) received xs ≡ change (waits_at tid q) received xs
received_at tid q [] one there = refl
received_at tid q (x ∷ xs) one there = at (received_at tid q xs (tail_single x xs one)) (x.thread == tid) refl
  where
    at : (has (waits_at tid q) xs ≡ true → change (waits_as tid) received xs ≡ change (waits_at tid q) received xs) → (b : Bool) → (x.thread == tid) ≡ b → change (waits_as tid) received (x ∷ xs) ≡ change (waits_at tid q) received (x ∷ xs)
    at later true here =
        let none = tail_none tid x xs one here in
        let off = none_at tid q xs none in
        let mine : same_birth x.queue q ≡ true = grind arith in
        grind (arith, change-none (waits_as tid) received xs none, change-none (waits_at tid q) received xs off)
    at later false off = grind (arith, later)

pub receives_there : (w : World) (tid : ℕ) (q : Birth) → are_single w.waits ≡ true → has (waits_at tid q) w.waits ≡ true → record w { waits = change (waits_as tid) received w.waits } ≡ basic w (Receives tid q)
receives_there w tid q one there = ap (λ (xs : List WaitRow). record w { waits = xs }) (received_at tid q w.waits one there)

pub receives_none : (w : World) (tid : ℕ) (q : Birth) → has (waits_at tid q) w.waits ≡ false → basic w (Receives tid q) ≡ w
receives_none w tid q none = ap (λ (xs : List WaitRow). record w { waits = xs }) (change-none (waits_at tid q) received w.waits none)

-- a thread that waits on the queue waits
pub waits_somewhere : (tid : ℕ) (q : Birth) (xs : List WaitRow) → has (waits_at tid q) xs ≡ true → has (waits_as tid) xs ≡ true
waits_somewhere tid q [] there = absurd (cc)
waits_somewhere tid q (x ∷ xs) there = grind (arith, waits_somewhere tid q xs)
