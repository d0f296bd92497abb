-- No two rows have one number, and numbers are below a limit: so rows are few.
use Rattle.std.proofs.Common.{◌≡◌, ◌<◌, ◌≤◌, ℕ, List, [], ◌∷◌, Bool, true, false, length, map, refl, arith}
use Rattle.std.specs.Prelude.{nat_lt, ◌==◌}
use Rattle.std.specs.List.{AllByRecursion, IsDistinct, list_any}
use Rattle.std.proofs.lemmas.Bool.Decides.{nat_tests}
use Rattle.std.proofs.lemmas.List.{length-map}
use Rattle.std.proofs.lemmas.Map.Keys.{IsDistinct-cons}
use Rattle.std.proofs.lemmas.Map.Steps.{length-le_from_distinct_below}
use Rattle.lpc_base.specs.Rows.{differ_by, every, has}
use Rattle.lpc_procs.specs.declared.rows.Counted.{Counted}
use Rattle.lpc_procs.specs.declared.rows.ThreadRow.{ThreadRow}
use Rattle.lpc_procs.specs.Kept.{are_apart, are_single, is_below, is_low}

module _ {X : Type 0} (number : X → ℕ) where
  abbrev numbers : List X → List ℕ
  numbers xs = map number xs

  apart : (n : ℕ) (xs : List X) → has (λ x. number x == n) xs ≡ false → AllByRecursion (λ m. (n == m) ≡ false) (numbers xs)
  apart n [] none = tt
  apart n (x ∷ xs) none = (grind (arith, nat_tests), apart n xs (grind arith))

  distinct : (xs : List X) → differ_by number xs ≡ true → IsDistinct ◌==◌ (numbers xs)
  unfolding IsDistinct
  distinct [] single = tt
  distinct (x ∷ xs) single = IsDistinct-cons ◌==◌ (number x) (numbers xs) (apart (number x) xs (grind arith)) (distinct xs (grind arith))

  below : (n : ℕ) (xs : List X) → every (λ x. nat_lt (number x) n) xs ≡ true → (q : ℕ) → list_any (λ m. q == m) (numbers xs) ≡ true → q < n
  below n [] all q any = absurd (cc)
  below n (x ∷ xs) all q any = step (q == number x) refl (below n xs (grind arith) q)
    where
      step : (b : Bool) → (q == number x) ≡ b → (list_any (λ m. q == m) (numbers xs) ≡ true → q < n) → q < n
      step true is rest = grind (arith, nat_tests)
      step false off rest = rest (grind arith)

  pub few_by : (n : ℕ) (xs : List X) → differ_by number xs ≡ true → every (λ x. nat_lt (number x) n) xs ≡ true → length xs ≤ n
  few_by n xs single all = rw (length-map xs number) at (length-le_from_distinct_below (numbers xs) n (distinct xs single) (below n xs all))

pub few : (n : ℕ) (ts : List ThreadRow) → are_single ts ≡ true → every (is_below n) ts ≡ true → length ts ≤ n
few = few_by (λ t. t.number)

pub few_processes : (n : ℕ) (ps : List Counted) → are_apart ps ≡ true → every (is_low n) ps ≡ true → length ps ≤ n
few_processes = few_by (λ p. p.row.number)
