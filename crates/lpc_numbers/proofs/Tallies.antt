-- The counts of numbers by look-ups: what a write, and what a removal, makes of them.
use Rattle.std.proofs.Common.{◌≡◌, ◌+◌, ℕ, Bool, true, false, cond, List, Option, nat_eq, refl, ap, ◌∙◌, arith}
use Rattle.std.specs.Prelude.{Err, Ok, OnOk, Result, ◌==◌, if◌then◌else◌, is_ok, unwrap_or}
use Rattle.std.specs.Map.{lookup}
use Rattle.std.proofs.lemmas.Bool.{eqb-true}
use Rattle.lpc_base.proofs.Bools.{number-turned}
use Rattle.lpc_numbers.specs.Tally.{count_in, one_for}

-- what holds where a call succeeds, once it did
pub from_ok : {A B P : Type 0} (r : Result A B) → is_ok r ≡ true → OnOk r P → P
from_ok (Ok a) ok p = p
from_ok (Err e) ok p = absurd (cc)

module _ (old new : List (ℕ × ℕ)) (number : ℕ) where
  -- the counts after a write or a removal
  pub updated : (w : Option ℕ) → ((n : ℕ) → lookup (nat_eq n) new ≡ cond (nat_eq number n) w (lookup (nat_eq n) old))
      → (n : ℕ) → count_in new n ≡ (if n == number then unwrap_or w 0 else count_in old n)
  updated w updates n =
      ap (λ r. unwrap_or r 0) (updates n ∙ ap (λ b. cond b w (lookup (nat_eq n) old)) (number-turned number n)) ∙ by (n == number)
    where
      by : (b : Bool) → unwrap_or (cond b w (lookup (nat_eq n) old)) 0 ≡ (if b then unwrap_or w 0 else count_in old n)
      by true = refl
      by false = refl

  module _ (k count : ℕ) (is : k ≡ count_in old number) (after : (n : ℕ) → count_in new n ≡ (if n == number then count else count_in old n)) where
    -- one more
    pub one_more : count ≡ k + 1 → (n : ℕ) → count_in new n ≡ count_in old n + one_for n number
    one_more more n = after n ∙ by (n == number) refl
      where
        by : (b : Bool) → (n == number) ≡ b → (if b then count else count_in old n) ≡ count_in old n + (if b then 1 else 0)
        by true same = let e : count_in old n ≡ count_in old number = ap (count_in old) (eqb-true n number same) in omega (arith, is, more, e)
        by false off = omega arith
