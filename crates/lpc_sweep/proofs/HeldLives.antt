-- What holds a thread or a process: a live thread, or a handle. The row at a place tells whether a live thread does.
use Rattle.std.proofs.Common.{◌≡◌, ℕ, ◌+◌, ◌≤◌, zero, suc, List, [], ◌∷◌, Bool, true, false, map, not, slice_get, Option, Some, None, option_map, refl, ap, sym, subst, ◌∙◌, arith}
use Rattle.std.specs.Prelude.{◌==◌, ◌&&◌, ◌||◌}
use Rattle.std.proofs.lemmas.Bool.Decides.{nat_tests}
use Rattle.lpc_base.specs.declared.birth.Birth.{Birth}
use Rattle.lpc_base.specs.Rows.{count, has}
use Rattle.lpc_base.proofs.Births.{birth-self}
use Rattle.lpc_model.specs.World.{ObjectName, ProcessRow, ThreadRow, World}
use Rattle.lpc_model.specs.Found.{handle_count, holders, is_life, lives_by, lives_in, process_name, same_birth, thread_name}
use Rattle.lpc_model.specs.Sweep.{is_unheld}
use Rattle.lpc_procs.specs.Procs as procs
use Rattle.lpc_procs.specs.declared.rows.Life.{Life}
use Rattle.lpc_procs.specs.declared.rows.ProcessRow as process_row
use Rattle.lpc_procs.specs.declared.rows.ThreadRow as thread_row
use Rattle.lpc_rows.specs.Held.{has_handles, has_holders}
use Rattle.lpc_rows.specs.Lawful.{AreBornIn}
use Rattle.lpc_rows.specs.Shown.{shown_process, shown_thread}
use Rattle.lpc_rows.proofs.Counted.{zero_has}
use Rattle.lpc_rows.proofs.Readings.{has-shown}
use Rattle.lpc_sweep.proofs.Places.{mapped_at}

-- What holds an object: a handle, or another row that counts for it
sums : (a b : ℕ) → not ((a + b) == 0) ≡ (not (b == 0) || not (a == 0))
sums a b = grind (arith, nat_tests)

pub none-hold : (w : World) (o : ObjectName) → is_unheld w o ≡ true → has_holders w o ≡ false
none-hold w o none = parts (handle_count w o) (holders w o.kind o.birth) none
  where
    parts : (a b : ℕ) → ((a + b) == 0) ≡ true → not (b == 0) ≡ false
    parts a b is = grind (arith, nat_tests)

pub none-handle : (w : World) (o : ObjectName) → is_unheld w o ≡ true → has_handles w o ≡ false
none-handle w o none = parts (handle_count w o) (holders w o.kind o.birth) none
  where
    parts : (a b : ℕ) → ((a + b) == 0) ≡ true → not (a == 0) ≡ false
    parts a b is = grind (arith, nat_tests)

held-by : (w : World) (o : ObjectName) → not (is_unheld w o) ≡ (has_holders w o || has_handles w o)
held-by w o = sums (handle_count w o) (holders w o.kind o.birth)

-- so where something lives no handle is asked for
pub held-living : (w : World) (o : ObjectName) → has_holders w o ≡ true → true ≡ not (is_unheld w o)
held-living w o lives = sym (held-by w o ∙ ap (λ c. c || has_handles w o) lives)

-- and else a handle is all that may hold the object
pub held-handled : (w : World) (o : ObjectName) → has_holders w o ≡ false → has_handles w o ≡ not (is_unheld w o)
held-handled w o none = sym (held-by w o ∙ ap (λ c. c || has_handles w o) none)

-- Rows at a place, of which no two have one birth
has-front : {X : Type 0} (q : X → Bool) (y : X) (ys : List X) → has q ys ≡ false → has q (y ∷ ys) ≡ q y
has-front q y ys none = grind (arith, none)

has-back : {X : Type 0} (q : X → Bool) (y : X) (ys : List X) → q y ≡ false → has q (y ∷ ys) ≡ has q ys
has-back q y ys off = rw off refl

module _ {X : Type 0} (birth : X → Birth) (live q : X → Bool) where
  none-other : (b : Birth) → ((x : X) → q x ≡ (same_birth (birth x) b && live x)) → (xs : List X) → count (λ x. same_birth (birth x) b) xs ≤ 0 → has q xs ≡ false
  none-other b is [] few = refl
  none-other b is (x ∷ xs) few = grind (arith, is x, none-other b is xs)

  some-there : (xs : List X) (place : ℕ) (x : X) → slice_get xs place ≡ Some x → 1 ≤ count (λ y. same_birth (birth y) (birth x)) xs
  some-there [] place x at = absurd (cc)
  some-there (y ∷ ys) zero x at =
      let own : same_birth (birth x) (birth x) ≡ true = birth-self (birth x) in
      let is : y ≡ x = cc in
      subst (λ z. 1 ≤ count (λ v. same_birth (birth v) (birth x)) (z ∷ ys)) (sym is) (grind (arith, own))
  some-there (y ∷ ys) (suc place) x at = grind (arith, some-there ys place x at)

  -- the row itself tells what one of its birth does
  pub alone-at : (xs : List X) (place : ℕ) (x : X) → slice_get xs place ≡ Some x → ((y : X) → q y ≡ (same_birth (birth y) (birth x) && live y)) → count (λ y. same_birth (birth y) (birth x)) xs ≤ 1 → has q xs ≡ live x
  alone-at [] place x at is few = absurd (cc)
  alone-at (y ∷ ys) zero x at is few =
      let same : y ≡ x = cc in
      let own : same_birth (birth y) (birth x) ≡ true = subst (λ z. same_birth (birth z) (birth x) ≡ true) (sym same) (birth-self (birth x)) in
      let rest : count (λ v. same_birth (birth v) (birth x)) ys ≤ 0 = grind (arith, own, few) in
      let none = none-other (birth x) is ys rest in
      let here : q y ≡ live y = rw own at (is y) in
      has-front q y ys none ∙ here ∙ ap live same
  alone-at (y ∷ ys) (suc place) x at is few =
      let some = some-there ys place x at in
      let off : same_birth (birth y) (birth x) ≡ false = grind (arith, some, few) in
      let here : q y ≡ false = rw off at (is y) in
      let rest : count (λ v. same_birth (birth v) (birth x)) ys ≤ 1 = grind (arith, off, few) in
      has-back q y ys here ∙ alone-at ys place x at is rest

-- A thread at a place, and a process at one
module _ (w : World) (it : procs.Table) (threads : w.threads ≡ map shown_thread it.threads) (processes : w.processes ≡ map shown_process it.processes) (born : AreBornIn w) where
  -- it has this birth, and tells whether a live thread counts for it
  pub record IsThreadAt (place : ℕ) (life : Life) : Type 0 where
    pub birth : option_map (λ (t : ThreadRow). t.birth) (slice_get w.threads place) ≡ Some life.birth
    pub live : life.live ≡ has_holders w (thread_name life.birth)

  swapped : (a b : Bool) → (a && b) ≡ (b && a)
  swapped a b = grind arith

  pub thread-at : (place : ℕ) (life : Life) → option_map procs.thread_life (slice_get it.threads place) ≡ Some life → IsThreadAt place life
  thread-at place life at = by_row (slice_get it.threads place) refl at
    where
      same : (a b : Life) → let x : Option Life = Some a in let y : Option Life = Some b in x ≡ y → a ≡ b
      same a b e = cc

      by_row : (o : Option thread_row.ThreadRow) → slice_get it.threads place ≡ o → option_map procs.thread_life o ≡ Some life → IsThreadAt place life
      by_row None here at = absurd (cc)
      by_row (Some row) here at =
          let t = shown_thread row in
          let its : slice_get w.threads place ≡ Some t = ap (λ ts. slice_get ts place) threads ∙ (mapped_at shown_thread it.threads place ∙ ap (option_map shown_thread) here) in
          let lives = alone-at (λ (x : ThreadRow). x.birth) (λ x. x.live) (is_life t.birth) w.threads place t its (λ y. swapped y.live (same_birth y.birth t.birth)) (born.thread_births t.birth) in
          subst (IsThreadAt place) (same (procs.thread_life row) life at) (record {
            birth = ap (option_map (λ (x : ThreadRow). x.birth)) its;
            live = sym (zero_has (is_life t.birth) w.threads ∙ lives);
          })

  pub record IsProcessAt (place : ℕ) (life : Life) : Type 0 where
    pub birth : option_map (λ (p : ProcessRow). p.birth) (slice_get w.processes place) ≡ Some life.birth
    pub live : life.live ≡ has_holders w (process_name life.birth)

  pub process-at : (place : ℕ) (life : Life) → option_map (procs.process_life it.threads) (slice_get it.processes place) ≡ Some life → IsProcessAt place life
  process-at place life at = by_row (slice_get it.processes place) refl at
    where
      same : (a b : Life) → let x : Option Life = Some a in let y : Option Life = Some b in x ≡ y → a ≡ b
      same a b e = cc

      turned : (l : Bool) (n m : ℕ) → (l && (n == m)) ≡ ((m == n) && l)
      turned l n m = grind (arith, nat_tests)

      by_row : (o : Option process_row.ProcessRow) → slice_get it.processes place ≡ o → option_map (procs.process_life it.threads) o ≡ Some life → IsProcessAt place life
      by_row None here at = absurd (cc)
      by_row (Some row) here at =
          let p = shown_process row in
          let its : slice_get w.processes place ≡ Some p = ap (λ ps. slice_get ps place) processes ∙ (mapped_at shown_process it.processes place ∙ ap (option_map shown_process) here) in
          let home = λ (t : ThreadRow). alone-at (λ (x : ProcessRow). x.birth) (λ x. x.number == t.process) (λ x. same_birth x.birth p.birth && (x.number == t.process)) w.processes place p its (λ y. refl) (born.process_births p.birth) in
          let lives : has (lives_by w p.birth) w.threads ≡ has (lives_in p.number) w.threads = λ i. has (λ (t : ThreadRow). (ap (λ c. t.live && c) (home t) ∙ turned t.live p.number t.process) i) w.threads in
          let told : has (procs.lives_in row.number) it.threads ≡ has (lives_in p.number) w.threads = sym (ap (has (lives_in p.number)) threads ∙ has-shown shown_thread (procs.lives_in row.number) (lives_in p.number) (λ t. refl) it.threads) in
          subst (IsProcessAt place) (same (procs.process_life it.threads row) life at) (record {
            birth = ap (option_map (λ (x : ProcessRow). x.birth)) its;
            live = told ∙ sym (zero_has (lives_by w p.birth) w.threads ∙ lives);
          })
