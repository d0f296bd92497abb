-- Bytes that agree up to a place have the same numbers before it.
use Rattle.std.proofs.Common.{◌≡◌, refl, sym, ◌∙◌, ℕ, zero, suc, ◌+◌, ◌<◌, ◌≤◌, List, arith, drop, get_or}
use Rattle.std.proofs.lemmas.List.{get_or-drop}
use Rattle.byteorder.specs.Endian.{little_from, little_number}

little_same : (n i : ℕ) (xs ys : List ℕ) → ((k : ℕ) → k < i + n → get_or xs k 0 ≡ get_or ys k 0) → little_from i n xs ≡ little_from i n ys
little_same zero i xs ys same = refl
little_same (suc n) i xs ys same =
    let byte = same i (omega arith) in
    let rest = little_same n (suc i) xs ys (λ k lt. same k (omega (arith, lt))) in
    rw (byte, rest) refl

-- a number of n bytes at a place
pub number_same : (n at : ℕ) (xs ys : List ℕ) → ((k : ℕ) → k < 24 → get_or xs k 0 ≡ get_or ys k 0) → at + n ≤ 24 → little_number n (drop at xs) ≡ little_number n (drop at ys)
number_same n at xs ys same within =
    little_same n 0 (drop at xs) (drop at ys)
    (λ k lt. get_or-drop at xs k 0 ∙ (same (at + k) (omega (arith, lt, within)) ∙ sym (get_or-drop at ys k 0)))
