-- What stays of the views of a process where one is made or goes.
use Rattle.std.proofs.Common.{◌≡◌, ℕ, ◌+◌, ◌<◌, ◌≤◌, List, [], ◌∷◌, ◌++◌, Bool, true, false, cond, length, length-append, refl, sym, ap, arith}
use Rattle.std.specs.Prelude.{Option, Some, None, ◌==◌, leb, not}
use Rattle.std.proofs.lemmas.Bool.Decides.{nat_tests}
use Rattle.lpc_base.specs.Rows.{count, differ_by, every, first, has, which, without, without_first}
use Rattle.lpc_base.specs.Views.{bases, is_free_base, least_base, meets}
use Rattle.lpc_base.specs.declared.limits.TheConstants.{VIEW_LIMIT}
use Rattle.lpc_base.proofs.Differ.{differ-push, differ-without, length-ended, rest-differ, rest-none}
use Rattle.lpc_base.proofs.RowWords.{first-passes, every-push, every-without, without-none}
use Rattle.lpc_base.proofs.Bools.{first-true, second-true}
use Rattle.lpc_views.specs.Mapping.{new_base}
use Rattle.lpc_views.specs.Views.{is_placed, lies_at, lower_of, lowest, ranges, IsSpace}
use Rattle.lpc_views.specs.declared.view.View.{View}

shorter : {X : Type 0} (test : X → Bool) (xs : List X) → length (without test xs) ≤ length xs
shorter test [] = omega arith
shorter test (x ∷ xs) = grind (arith, shorter test xs)

-- those that go and those that stay are all
pub gone-and-left : {X : Type 0} (test : X → Bool) (xs : List X) → length (without test xs) + count test xs ≡ length xs
gone-and-left test [] = refl
gone-and-left test (x ∷ xs) = grind (arith, gone-and-left test xs)

not-met : (b : Bool) → not b ≡ true → b ≡ false
not-met true is = sym is
not-met false is = refl

module _ {P : Type 0} where
  abbrev base_of : View P → ℕ
  base_of view = view.base

  pub space-without : (test : View P → Bool) (views : List (View P)) → IsSpace views → IsSpace (without test views)
  space-without test views s = record {
    few = omega (arith, s.few, shorter test views);
    placed = every-without is_placed test views s.placed;
    bases = differ-without base_of test views s.bases;
  }

  -- a view that stands is the only one at its base
  first-base : (test : View P → Bool) (views : List (View P)) (view : View P) → first test views ≡ Some view → has (lies_at view.base) views ≡ true
  first-base test [] view is = absurd (cc)
  first-base test (v ∷ vs) view is = grind (arith, nat_tests, first-base test vs view)

  pub one-goes : (test : View P → Bool) (views : List (View P)) (view : View P) → differ_by base_of views ≡ true → first test views ≡ Some view → without (lies_at view.base) views ≡ without_first test views
  one-goes test [] view differ is = refl
  one-goes test (v ∷ vs) view differ is = elim (test v) as (λ b. test v ≡ b → without (lies_at view.base) (v ∷ vs) ≡ without_first test (v ∷ vs)) [
    | true ↦ λ here.
        let same : v ≡ view = grind (arith) in
        let none : has (lies_at view.base) vs ≡ false = rest-none base_of v vs view.base differ (ap base_of same) in
        grind (arith, nat_tests, without-none (lies_at view.base) vs)
    | false ↦ λ off.
        let there : first test vs ≡ Some view = grind (arith) in
        let stands = first-base test vs view there in
        let none : v.base ≡ view.base → has (lies_at view.base) vs ≡ false = λ same. rest-none base_of v vs view.base differ same in
        let next = one-goes test vs view (rest-differ base_of v vs differ) there in
        grind (arith, nat_tests)
  ] refl

  pub one-less : (base : ℕ) (views : List (View P)) → differ_by base_of views ≡ true → has (lies_at base) views ≡ true → length (without (lies_at base) views) + 1 ≡ length views
  one-less base views differ stands = let ended = length-ended base_of base views differ in grind (arith)

  pub first-less : (test : View P → Bool) (views : List (View P)) (view : View P) → differ_by base_of views ≡ true → first test views ≡ Some view → length (without (lies_at view.base) views) + 1 ≡ length views
  first-less test views view differ is = one-less view.base views differ (first-base test views view is)

  -- the lowest view stands
  lowest-of : (v : View P) (vs : List (View P)) (view : View P) (o : Option (View P)) → ((other : View P) → o ≡ Some other → has (lies_at other.base) vs ≡ true) → lower_of (Some v) o ≡ Some view → has (lies_at view.base) (v ∷ vs) ≡ true
  lowest-of v vs view None next is = grind (arith, nat_tests)
  lowest-of v vs view (Some other) next is = let there = next other refl in grind (arith, nat_tests)

  lowest-base : (views : List (View P)) (view : View P) → lowest views ≡ Some view → has (lies_at view.base) views ≡ true
  lowest-base [] view is = absurd (cc)
  lowest-base (v ∷ vs) view is = lowest-of v vs view (lowest vs) (λ other some. lowest-base vs other some) is

  which-has : (p test : View P → Bool) (views : List (View P)) → has p (which test views) ≡ true → has p views ≡ true
  which-has p test [] is = is
  which-has p test (v ∷ vs) is = grind (arith, which-has p test vs)

  pub lowest-less : (test : View P → Bool) (views : List (View P)) (view : View P) → differ_by base_of views ≡ true → lowest (which test views) ≡ Some view → length (without (lies_at view.base) views) + 1 ≡ length views
  lowest-less test views view differ is = one-less view.base views differ (which-has (lies_at view.base) test views (lowest-base (which test views) view is))

  -- the lowest of some views, one after the other
  pub lower-next : (lowest-so-far : Option (View P)) (view : View P) (rest : Option (View P)) → lower_of (lower_of lowest-so-far (Some view)) rest ≡ lower_of lowest-so-far (lower_of (Some view) rest)
  lower-next None view rest = refl
  lower-next (Some low) view None = grind (arith, nat_tests)
  lower-next (Some low) view (Some other) = grind (arith, nat_tests)

  pub lower-none : (o : Option (View P)) → lower_of o None ≡ o
  lower-none None = refl
  lower-none (Some view) = refl

  -- a new view
  free-apart : (size base : ℕ) (views : List (View P)) → 0 < size → every is_placed views ≡ true → has (meets base size) (ranges views) ≡ false → has (lies_at base) views ≡ false
  free-apart size base [] some placed free = refl
  free-apart size base (v ∷ vs) some placed free = grind (arith, nat_tests, free-apart size base vs)

  placed-new : (view : View P) → 0 < view.size → leb (view.base + view.size) 2147418112 ≡ true → view.offset + view.size ≤ 4194304 → is_placed view ≡ true
  placed-new view some end part = grind (arith, nat_tests)

  pub space-push : (views : List (View P)) (view : View P) → IsSpace views → length views < VIEW_LIMIT → 0 < view.size → view.offset + view.size ≤ 4194304 → is_free_base (ranges views) view.size view.base ≡ true → IsSpace (views ++ view ∷ [])
  space-push views view s room some part free =
      let placed : is_placed view ≡ true = placed-new view some (second-true (not (has (meets view.base view.size) (ranges views))) _ free) part in
      let unmet : has (meets view.base view.size) (ranges views) ≡ false = not-met _ (first-true _ _ free) in
      record {
        few = omega (arith, room, length-append views (view ∷ []));
        placed = every-push is_placed views view s.placed placed;
        bases = differ-push base_of views view s.bases (free-apart view.size view.base views some s.placed unmet);
      }

  -- a view at the base that it gets leaves a space
  pub space-added : (views : List (View P)) (view : View P) → IsSpace views → is_placed view ≡ true → new_base views view.size ≡ Some view.base → IsSpace (views ++ view ∷ [])
  space-added views view s placed based = at (length views == 128) refl based
    where
      at : (c : Bool) → (length views == 128) ≡ c → cond c None (least_base (ranges views) view.size) ≡ Some view.base → IsSpace (views ++ view ∷ [])
      at true full none = absurd (cc)
      at false more found =
          let few = s.few in
          let room : length views < 128 = grind (arith, nat_tests, few, more) in
          let some : 0 < view.size = grind (arith, nat_tests, placed) in
          let part : view.offset + view.size ≤ 4194304 = grind (arith, nat_tests, placed) in
          space-push views view s room some part (first-passes (is_free_base (ranges views) view.size) bases view.base found)
