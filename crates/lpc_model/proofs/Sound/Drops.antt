-- A handle that goes leaves every other handle, and the ports open that it or another one keeps open.
use Rattle.std.proofs.Common.{◌≡◌, ℕ, ◌+◌, ◌≤◌, List, [], ◌∷◌, Bool, true, false, cond, Some, refl, arith}
use Rattle.std.specs.Prelude.{◌==◌}
use Rattle.std.proofs.lemmas.Bool.Decides.{nat_tests}
use Rattle.lpc_base.specs.Rows.{change, count, first, has, without_first}
use Rattle.lpc_base.proofs.RowWords.{change-none, count-append, none-counted}
use Rattle.lpc_model.specs.World.{Birth, HandleRow, HandleTable, World}
use Rattle.lpc_model.specs.Found.{all_handles, handle_at, handles_in, has_value, is_open, is_table, names_port, rows_in}
use Rattle.lpc_model.specs.Basics.{DropsHandle, basic, without_handle}
use Rattle.lpc_model.proofs.Steps.Handles.{has-each, open-count}

-- a row counts where it passes
abbrev pub one_if : Bool → ℕ
one_if b = cond b 1 0

-- one row less
pub count-first : {X : Type 0} (p test : X → Bool) (xs : List X) (r : X) → first test xs ≡ Some r → count p (without_first test xs) + one_if (p r) ≡ count p xs
count-first p test [] r at = absurd (cc)
count-first p test (x ∷ xs) r at = grind (arith, count-first p test xs r)

apart-sum : (a b c d : ℕ) → a + c ≡ b → (a + d) + c ≡ b + d
apart-sum a b c d is = omega (arith, is)

later-sum : (a b c d : ℕ) → a + c ≡ b → (d + a) + c ≡ d + b
later-sum a b c d is = omega (arith, is)

pub drop-count : (p : HandleRow → Bool) (pid value : ℕ) (ts : List HandleTable) (r : HandleRow) → count (is_table pid) ts ≤ 1 → first (has_value value) (rows_in (first (is_table pid) ts)) ≡ Some r
    → count p (handles_in (change (is_table pid) (without_handle value) ts)) + one_if (p r) ≡ count p (handles_in ts)
drop-count p pid value [] r one at = absurd (cc)
drop-count p pid value (t ∷ ts) r one here = at (is_table pid t) refl (drop-count p pid value ts r)
  where
    at : (b : Bool) → is_table pid t ≡ b → (count (is_table pid) ts ≤ 1 → first (has_value value) (rows_in (first (is_table pid) ts)) ≡ Some r → count p (handles_in (change (is_table pid) (without_handle value) ts)) + one_if (p r) ≡ count p (handles_in ts))
        → count p (handles_in (change (is_table pid) (without_handle value) (t ∷ ts))) + one_if (p r) ≡ count p (handles_in (t ∷ ts))
    at true is later =
        let none : has (is_table pid) ts ≡ false = none-counted (is_table pid) ts (grind arith) in
        let rest = change-none (is_table pid) (without_handle value) ts none in
        let row : first (has_value value) t.rows ≡ Some r = rw is at here in
        rw (is, rest, count-append p (without_first (has_value value) t.rows) (handles_in ts), count-append p t.rows (handles_in ts))
        (apart-sum (count p (without_first (has_value value) t.rows)) (count p t.rows) (one_if (p r)) (count p (handles_in ts)) (count-first p (has_value value) t.rows r row))
    at false off later =
        let few : count (is_table pid) ts ≤ 1 = grind arith in
        let row : first (has_value value) (rows_in (first (is_table pid) ts)) ≡ Some r = rw off at here in
        rw (off, count-append p t.rows (handles_in (change (is_table pid) (without_handle value) ts)), count-append p t.rows (handles_in ts))
        (later-sum (count p (handles_in (change (is_table pid) (without_handle value) ts))) (count p (handles_in ts)) (one_if (p r)) (count p t.rows) (later few row))

has-count : {X : Type 0} (p : X → Bool) (xs : List X) → 1 ≤ count p xs → has p xs ≡ true
has-count p [] few = absurd (omega (arith, few))
has-count p (x ∷ xs) few = grind (arith, has-count p xs)

-- Ports that stay open
pub count-open : (w : World) (b : Birth) → 1 ≤ count (λ h. names_port b h.object) (all_handles w) → is_open w b ≡ true
count-open w b few = let is = has-count (λ h. names_port b h.object) (all_handles w) few in rw (has-each (λ h. names_port b h.object) (λ t. t.rows) w.handles) at is

-- where the handle that goes names another object
pub open-dropped : (w : World) (pid value : ℕ) (r : HandleRow) (b : Birth) → count (is_table pid) w.handles ≤ 1 → handle_at w pid value ≡ Some r → names_port b r.object ≡ false → is_open w b ≡ true → is_open (basic w (DropsHandle pid value)) b ≡ true
open-dropped w pid value r b one at off is =
    let counts = drop-count (λ h. names_port b h.object) pid value w.handles r one at in
    let before = open-count w b is in
    count-open (basic w (DropsHandle pid value)) b (at-least _ _ _ off counts before)
  where
    at-least : (n m : ℕ) (c : Bool) → c ≡ false → n + one_if c ≡ m → 1 ≤ m → 1 ≤ n
    at-least n m false is counts few = omega (arith, counts, few)
    at-least n m true is counts few = absurd (cc)

-- or isn't the last one
pub open-kept : (w : World) (pid value : ℕ) (r : HandleRow) (b : Birth) → count (is_table pid) w.handles ≤ 1 → handle_at w pid value ≡ Some r → (count (λ h. names_port b h.object) (all_handles w) == 1) ≡ false → is_open w b ≡ true → is_open (basic w (DropsHandle pid value)) b ≡ true
open-kept w pid value r b one at more is =
    let counts = drop-count (λ h. names_port b h.object) pid value w.handles r one at in
    let before = open-count w b is in
    count-open (basic w (DropsHandle pid value)) b (at-least (names_port b r.object) _ _ counts before more)
  where
    at-least : (c : Bool) (n m : ℕ) → n + one_if c ≡ m → 1 ≤ m → (m == 1) ≡ false → 1 ≤ n
    at-least true n m counts few more = let apart : (n == 0) ≡ false = grind (arith, nat_tests) in grind (arith, nat_tests)
    at-least false n m counts few more = omega (arith, counts, few)
