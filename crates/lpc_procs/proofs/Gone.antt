-- Rows of which the first that passes a test goes.
use Rattle.std.proofs.Common.{◌≡◌, ◌+◌, ◌≤◌, ℕ, List, [], ◌∷◌, Bool, true, false, cond, length, Some, refl, arith}
use Rattle.std.specs.Prelude.{◌==◌}
use Rattle.lpc_base.specs.Rows.{count, differ_by, first, has, without, without_first}
use Rattle.lpc_base.proofs.RowWords.{has_none-without_first, none-counted, without-none}

module _ {X : Type 0} (test : X → Bool) where
  pub differ-without_first : (number : X → ℕ) (xs : List X) → differ_by number xs ≡ true → differ_by number (without_first test xs) ≡ true
  differ-without_first number [] one = refl
  differ-without_first number (x ∷ xs) one = grind (arith, has_none-without_first (λ y. number y == number x) test xs, differ-without_first number xs)

  -- how many pass another test
  pub count-gone : (p : X → Bool) (xs : List X) (x : X) → first test xs ≡ Some x → count p (without_first test xs) + cond (p x) 1 0 ≡ count p xs
  count-gone p [] x is = absurd (cc)
  count-gone p (y ∷ xs) x is = by (test y) refl (count-gone p xs x)
    where
      by : (b : Bool) → test y ≡ b → (first test xs ≡ Some x → count p (without_first test xs) + cond (p x) 1 0 ≡ count p xs) → count p (without_first test (y ∷ xs)) + cond (p x) 1 0 ≡ count p (y ∷ xs)
      by true on rest =
          let found : Some y ≡ Some x = rw on at is in
          let same : y ≡ x = cc in
          rw (on, ← same) (grind arith)
      by false off rest =
          let later = rest (rw off at is) in
          rw off (grind (arith, later))

  -- where no other passes, none is left that does
  pub without-one : (xs : List X) → count test xs ≤ 1 → without_first test xs ≡ without test xs
  without-one [] few = refl
  without-one (x ∷ xs) few = by (test x) refl (without-one xs)
    where
      by : (b : Bool) → test x ≡ b → (count test xs ≤ 1 → without_first test xs ≡ without test xs) → without_first test (x ∷ xs) ≡ without test (x ∷ xs)
      by true on rest =
          let none = none-counted test xs (grind (arith, on, few)) in
          let left = without-none test xs none in
          grind (arith, on, left)
      by false off rest =
          let later = rest (grind (arith, off, few)) in
          grind (arith, off, later)

  -- what passes goes with all the others that do
  pub without-again : (xs : List X) → without test (without_first test xs) ≡ without test xs
  without-again [] = refl
  without-again (x ∷ xs) = grind (arith, without-again xs)

  pub fewer-first : (xs : List X) → has test xs ≡ true → length (without_first test xs) + 1 ≡ length xs
  fewer-first [] some = absurd (cc)
  fewer-first (x ∷ xs) some = grind (arith, fewer-first xs)

  pub unfound-first : (xs : List X) → has test xs ≡ false → without_first test xs ≡ xs
  unfound-first [] none = refl
  unfound-first (x ∷ xs) none = grind (arith, unfound-first xs)
