-- The search for a free base finds the least one.
use Rattle.std.proofs.Common.{◌≡◌, ℕ, zero, suc, ◌+◌, ◌*◌, ◌<◌, ◌≤◌, List, Bool, true, false, cond, refl, sym, ap, subst, ◌∙◌, arith, add-zero}
use Rattle.std.specs.Prelude.{Option, Some, None, IfSome, IfNone, leb, nat_lt, not}
use Rattle.std.proofs.lemmas.Bool.Decides.{nat_tests}
use Rattle.lpc_base.specs.Rows.{first, has}
use Rattle.lpc_base.specs.Views.{bases_from, least_base, is_free_base, meets, IsLeastBase, HasNoBase, NewBasesAreLeast}
use Rattle.lpc_base.proofs.Bools.{second-true}

-- the base of a number, from one on
abbrev pub base_at : ℕ → ℕ → ℕ
base_at v j = v + 65536 * j

next-base : (v j : ℕ) → base_at (v + 65536) j ≡ base_at v (suc j)
next-base v j = omega arith

module _ (test : ℕ → Bool) where
  -- the bases of lesser numbers don't pass
  abbrev pub NoneBefore : ℕ → ℕ → Type 0
  NoneBefore v n = (i : ℕ) → i < n → test (base_at v i) ≡ false

  none-next : (v n : ℕ) → NoneBefore v (suc n) → NoneBefore (v + 65536) n
  none-next v n none i lt = subst (λ b. test b ≡ false) (sym (next-base v i)) (none (suc i) (omega arith))

  none-more : (v n : ℕ) → test v ≡ false → NoneBefore (v + 65536) n → NoneBefore v (suc n)
  none-more v n here none zero lt = subst (λ b. test b ≡ false) (sym (add-zero v)) here
  none-more v n here none (suc i) lt = subst (λ b. test b ≡ false) (next-base v i) (none i (omega arith))

  first-here : (v n : ℕ) → NoneBefore v (suc n) → test v ≡ false
  first-here v n none = subst (λ b. test b ≡ false) (add-zero v) (none 0 (omega arith))

  pub base-found : (n v j : ℕ) → j < n → test (base_at v j) ≡ true → NoneBefore v j → first test (bases_from n v) ≡ Some (base_at v j)
  unfolding bases_from
  base-found zero v j lt passes none = absurd (omega arith)
  base-found (suc n) v zero lt passes none =
      let here : test v ≡ true = subst (λ b. test b ≡ true) (add-zero v) passes in
      rw here (ap Some (sym (add-zero v)))
  base-found (suc n) v (suc j) lt passes none =
      rw (first-here v j none) (base-found n (v + 65536) j (omega arith) (subst (λ b. test b ≡ true) (sym (next-base v j)) passes) (none-next v j none) ∙ ap Some (next-base v j))

  pub none-found : (n v : ℕ) → NoneBefore v n → first test (bases_from n v) ≡ None
  unfolding bases_from
  none-found zero v none = refl
  none-found (suc n) v none = rw (first-here v n none) (none-found n (v + 65536) (none-next v n none))

  -- what the search finds
  pub record Finds (v base : ℕ) : Type 0 where
    pub number : ℕ
    pub is : base ≡ base_at v number
    pub passes : test base ≡ true
    pub none : NoneBefore v number

  found-step : (b : Bool) (n v base : ℕ) → test v ≡ b → cond b (Some v) (first test (bases_from n (v + 65536))) ≡ Some base → (first test (bases_from n (v + 65536)) ≡ Some base → Finds (v + 65536) base) → Finds v base
  found-step true n v base passes is next =
      let same : v ≡ base = grind (arith, is) in
      record { number = 0; is = omega (arith, same); passes = subst (λ b. test b ≡ true) same passes; none = λ i lt. absurd (omega arith) }
  found-step false n v base off is next =
      let f = next is in record { number = suc f.number; is = f.is ∙ next-base v f.number; passes = f.passes; none = none-more v f.number off f.none }

  pub finds : (n v base : ℕ) → first test (bases_from n v) ≡ Some base → Finds v base
  unfolding bases_from
  finds zero v base is = absurd (cc)
  finds (suc n) v base is = found-step (test v) n v base refl is (finds n (v + 65536) base)

  none-step : (b : Bool) (n v : ℕ) → test v ≡ b → cond b (Some v) (first test (bases_from n (v + 65536))) ≡ None → (first test (bases_from n (v + 65536)) ≡ None → NoneBefore (v + 65536) n) → NoneBefore v (suc n)
  none-step true n v passes is next = absurd (cc)
  none-step false n v off is next = none-more v n off (next is)

  pub finds_none : (n v : ℕ) → first test (bases_from n v) ≡ None → NoneBefore v n
  unfolding bases_from
  finds_none zero v is = λ i lt. absurd (omega arith)
  finds_none (suc n) v is = none-step (test v) n v refl is (finds_none n (v + 65536))

-- bases from 00010000 on, by their numbers
from-first : (k : ℕ) → base_at 65536 k ≡ 65536 * (k + 1)
from-first k = omega arith

-- a base that passes ends at or below the end of user addresses, so it is among the bases
within : (ranges : List (ℕ × ℕ)) (size k : ℕ) → 0 < size → is_free_base ranges size (base_at 65536 k) ≡ true → k < 32766
within ranges size k some free =
    let fits : leb (base_at 65536 k + size) 2147418112 ≡ true = second-true (not (has (meets (base_at 65536 k) size) ranges)) _ free in grind (arith, nat_tests)

beyond : (ranges : List (ℕ × ℕ)) (size k : ℕ) → 0 < size → 32766 ≤ k → is_free_base ranges size (base_at 65536 k) ≡ false
beyond ranges size k some le = elim (is_free_base ranges size (base_at 65536 k)) as (λ b. is_free_base ranges size (base_at 65536 k) ≡ b → is_free_base ranges size (base_at 65536 k) ≡ false) [
  | true ↦ λ e. absurd (omega (arith, within ranges size k some e))
  | false ↦ λ e. e
] refl

all-none : (ranges : List (ℕ × ℕ)) (size : ℕ) → 0 < size → NoneBefore (is_free_base ranges size) 65536 32766 → HasNoBase ranges size
all-none ranges size some none k = elim (nat_lt k 32766) as (λ b. nat_lt k 32766 ≡ b → is_free_base ranges size (65536 * (k + 1)) ≡ false) [
  | true ↦ λ e. subst (λ b. is_free_base ranges size b ≡ false) (from-first k) (none k (grind (arith, nat_tests)))
  | false ↦ λ e. subst (λ b. is_free_base ranges size b ≡ false) (from-first k) (beyond ranges size k some (grind (arith, nat_tests)))
] refl

least-of : (ranges : List (ℕ × ℕ)) (size : ℕ) (o : Option ℕ) → least_base ranges size ≡ o → IfSome o (λ base. IsLeastBase ranges size base)
least-of ranges size None is = tt
least-of ranges size (Some base) is =
    let f = finds (is_free_base ranges size) 32766 65536 base is in
    record {
      free = f.passes;
      place = (f.number, f.is ∙ from-first f.number);
      least = λ k lt. subst (λ b. is_free_base ranges size b ≡ false) (from-first k) (f.none k (omega (arith, f.is)));
    }

none-of : (ranges : List (ℕ × ℕ)) (size : ℕ) (o : Option ℕ) → 0 < size → least_base ranges size ≡ o → IfNone o (HasNoBase ranges size)
none-of ranges size None some is = all-none ranges size some (finds_none (is_free_base ranges size) 32766 65536 is)
none-of ranges size (Some base) some is = tt

pub new_bases_are_least : NewBasesAreLeast
new_bases_are_least = record {
  least = λ ranges size. least-of ranges size (least_base ranges size) refl;
  none = λ ranges size some. none-of ranges size (least_base ranges size) some refl;
}

-- the search ends at a base that is free, behind bases that aren't
pub least-is : (ranges : List (ℕ × ℕ)) (size k : ℕ) → 0 < size → is_free_base ranges size (base_at 65536 k) ≡ true → NoneBefore (is_free_base ranges size) 65536 k → least_base ranges size ≡ Some (base_at 65536 k)
least-is ranges size k some free none = base-found (is_free_base ranges size) 32766 65536 k (within ranges size k some free) free none

pub none-is : (ranges : List (ℕ × ℕ)) (size : ℕ) → NoneBefore (is_free_base ranges size) 65536 32766 → least_base ranges size ≡ None
none-is ranges size none = none-found (is_free_base ranges size) 32766 65536 none
