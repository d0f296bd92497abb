-- The search for a free base, which leaves behind what meets a view.
use Rattle.std.proofs.Common.{◌≡◌, ℕ, ◌+◌, ◌-◌, ◌/◌, ◌%◌, ◌<◌, ◌≤◌, List, [], ◌∷◌, ◌++◌, Bool, true, false, map, refl, sym, ap, subst, ◌∙◌, arith}
use Rattle.std.specs.Prelude.{Option, Some, None, is_some, nat_lt}
use Rattle.std.proofs.lemmas.Bool.Decides.{nat_tests}
use Rattle.lpc_base.specs.Rows.{every, first, has}
use Rattle.lpc_base.proofs.RowMaps.{every-first}
use Rattle.lpc_base.proofs.RowWords.{first-passes}
use Rattle.lpc_base.specs.Views.{is_free_base, least_base, meets}
use Rattle.lpc_base.proofs.Bases.{base_at, least-is, none-is, NoneBefore}
use Rattle.lpc_views.specs.Views.{holds, is_placed, offset_of, range_of, ranges}
use Rattle.lpc_views.specs.declared.view.View.{View}

-- a row that is found passes what it passes
found-has : {X : Type 0} (p q : X → Bool) (xs : List X) (x : X) → first p xs ≡ Some x → q x ≡ true → has q xs ≡ true
found-has p q [] x is passes = absurd (cc)
found-has p q (y ∷ ys) x is passes = grind (arith, found-has p q ys x)

has-map : {X Y : Type 0} (p : Y → Bool) (f : X → Y) (xs : List X) → has p (map f xs) ≡ has (λ x. p (f x)) xs
has-map p f [] = refl
has-map p f (x ∷ xs) = grind (arith, has-map p f xs)

-- the first of two lists, one behind the other
pub first_beside : {X : Type 0} (p : X → Bool) (xs ys : List X) → first p (xs ++ ys) ≡ (elim (first p xs) [ Some x ↦ Some x | None ↦ first p ys ])
first_beside p [] ys = refl
first_beside p (x ∷ xs) ys = at (p x) refl (first_beside p xs ys)
  where
    at : (c : Bool) → p x ≡ c → first p (xs ++ ys) ≡ (elim (first p xs) [ Some x ↦ Some x | None ↦ first p ys ]) → first p (x ∷ (xs ++ ys)) ≡ (elim (first p (x ∷ xs)) [ Some x ↦ Some x | None ↦ first p ys ])
    at true here later = rw here refl
    at false off later = rw off later

pub front-beside : {X : Type 0} (p : X → Bool) (xs ys : List X) (x : X) → first p xs ≡ Some x → Some x ≡ first p (xs ++ ys)
front-beside p xs ys x is = sym (first_beside p xs ys ∙ rw is refl)

pub back-beside : {X : Type 0} (p : X → Bool) (xs ys : List X) (r : Option X) → first p xs ≡ None → r ≡ first p ys → r ≡ first p (xs ++ ys)
back-beside p xs ys r none is = is ∙ sym (first_beside p xs ys ∙ rw none refl)

-- the bases before this one aren't free
pub record Searched (taken : List (ℕ × ℕ)) (size base : ℕ) : Type 0 where
  pub number : ℕ
  pub is : base ≡ base_at 65536 number
  pub none : NoneBefore (is_free_base taken size) 65536 number

pub searched-first : (taken : List (ℕ × ℕ)) (size : ℕ) → Searched taken size 65536
searched-first taken size = record { number = 0; is = omega arith; none = λ i lt. absurd (omega arith) }

taken-base : (taken : List (ℕ × ℕ)) (size base : ℕ) → has (meets base size) taken ≡ true → is_free_base taken size base ≡ false
taken-base taken size base met = rw met refl

high-base : (taken : List (ℕ × ℕ)) (size base : ℕ) → 2147418112 < base + size → is_free_base taken size base ≡ false
high-base taken size base high = grind (arith, nat_tests)

module _ {P : Type 0} where
  met-there : (views : List (View P)) (base other size : ℕ) (view : View P) → first (λ v. meets base size (range_of v)) views ≡ Some view → meets other size (range_of view) ≡ true → has (meets other size) (ranges views) ≡ true
  met-there views base other size view is met = has-map (meets other size) range_of views ∙ found-has (λ v. meets base size (range_of v)) (λ v. meets other size (range_of v)) views view is met

  -- the bases before the end of a view that is met meet it too
  between : (base other size : ℕ) (view : View P) → meets base size (range_of view) ≡ true → base ≤ other → other < view.base + view.size → meets other size (range_of view) ≡ true
  between base other size view met le lt = grind (arith, nat_tests)

  met-end : (base size : ℕ) (view : View P) → meets base size (range_of view) ≡ true → base < view.base + view.size
  met-end base size view met = grind (arith, nat_tests)

  first-met : (views : List (View P)) (base size : ℕ) (view : View P) → first (λ v. meets base size (range_of v)) views ≡ Some view → meets base size (range_of view) ≡ true
  first-met [] base size view is = absurd (cc)
  first-met (v ∷ vs) base size view is = grind (arith, first-met vs base size view)

  pub met-behind : (views : List (View P)) (base size : ℕ) (view : View P) → first (λ v. meets base size (range_of v)) views ≡ Some view → base < view.base + view.size
  met-behind views base size view is = met-end base size view (first-met views base size view is)

  passed : (views : List (View P)) (base size i : ℕ) (view : View P) → (s : Searched (ranges views) size base) → first (λ v. meets base size (range_of v)) views ≡ Some view → base_at 65536 i < view.base + view.size → (b : Bool) → nat_lt i s.number ≡ b
      → is_free_base (ranges views) size (base_at 65536 i) ≡ false
  passed views base size i view s is lt true before = s.none i (grind (arith, nat_tests))
  passed views base size i view s is lt false behind =
      let after : s.number ≤ i = grind (arith, nat_tests) in
      let le : base ≤ base_at 65536 i = omega (arith, s.is) in
      taken-base (ranges views) size (base_at 65536 i) (met-there views base (base_at 65536 i) size view is (between base (base_at 65536 i) size view (first-met views base size view is) le lt))

  pub searched-next : (views : List (View P)) (base size next : ℕ) (view : View P) → Searched (ranges views) size base → first (λ v. meets base size (range_of v)) views ≡ Some view → next % 65536 ≡ 0 → view.base + view.size ≤ next → next < view.base + view.size + 65536
      → Searched (ranges views) size next
  searched-next views base size next view s is multiple least near =
      let behind = met-behind views base size view is in
      record {
        number = (next - 65536) / 65536;
        is = omega (arith, s.is, behind);
        none = λ i lt. passed views base size i view s is (omega (arith, s.is, behind)) (nat_lt i s.number) refl;
      }

  no-map : (views : List (View P)) (base size : ℕ) → first (λ v. meets base size (range_of v)) views ≡ None → has (meets base size) (ranges views) ≡ false
  no-map views base size none = has-map (meets base size) range_of views ∙ ap is_some none

  pub free-here : (views : List (View P)) (base size : ℕ) → base ≤ 2147418112 → size ≤ 2147418112 - base → first (λ v. meets base size (range_of v)) views ≡ None → is_free_base (ranges views) size base ≡ true
  free-here views base size within fits none = rw (no-map views base size none) (grind (arith, nat_tests))

  pub found-here : (views : List (View P)) (base size : ℕ) → 0 < size → base ≤ 2147418112 → size ≤ 2147418112 - base → Searched (ranges views) size base → first (λ v. meets base size (range_of v)) views ≡ None → Some base ≡ least_base (ranges views) size
  found-here views base size some within fits s none =
      let free = free-here views base size within fits none in
      let free' : is_free_base (ranges views) size (base_at 65536 s.number) ≡ true = subst (λ b. is_free_base (ranges views) size b ≡ true) s.is free in
      ap Some s.is ∙ sym (least-is (ranges views) size s.number some free' s.none)

  above : (views : List (View P)) (base size i : ℕ) → (s : Searched (ranges views) size base) → 2147418112 < base + size → (b : Bool) → nat_lt i s.number ≡ b → is_free_base (ranges views) size (base_at 65536 i) ≡ false
  above views base size i s high true before = s.none i (grind (arith, nat_tests))
  above views base size i s high false behind =
      let after : s.number ≤ i = grind (arith, nat_tests) in
      high-base (ranges views) size (base_at 65536 i) (omega (arith, s.is))

  pub none-left : (views : List (View P)) (base size : ℕ) → Searched (ranges views) size base → 2147418112 < base + size → None ≡ least_base (ranges views) size
  none-left views base size s high = sym (none-is (ranges views) size (λ i lt. above views base size i s high (nat_lt i s.number) refl))

-- what a view that is found holds
module _ {P : Type 0} where
  pub placed-end : (view : View P) → is_placed view ≡ true → view.base + view.size ≤ 2147418112
  placed-end view placed = grind (arith, nat_tests)

  pub placed-part : (view : View P) → is_placed view ≡ true → view.offset + view.size ≤ 4194304
  placed-part view placed = grind (arith, nat_tests)

  pub first-placed : (test : View P → Bool) (views : List (View P)) (view : View P) → every is_placed views ≡ true → first test views ≡ Some view → is_placed view ≡ true
  first-placed test views view placed is = every-first is_placed test views view placed is

  pub first-end : (test : View P → Bool) (views : List (View P)) (view : View P) → every is_placed views ≡ true → first test views ≡ Some view → view.base + view.size ≤ 2147418112
  first-end test views view placed is = placed-end view (first-placed test views view placed is)

  pub held-low : (address len : ℕ) (views : List (View P)) (view : View P) → first (holds address len) views ≡ Some view → view.base ≤ address
  held-low address len views view is = let held = first-passes (holds address len) views view is in grind (arith, nat_tests)

  pub held-within : (address len : ℕ) (views : List (View P)) (view : View P) → first (holds address len) views ≡ Some view → offset_of view address + len ≤ view.offset + view.size
  held-within address len views view is = let held = first-passes (holds address len) views view is in grind (arith, nat_tests)
