-- Rights as the bits of a mask.
use Rattle.std.proofs.Common.{◌≡◌, ℕ, zero, suc, ◌+◌, ◌-◌, ◌/◌, ◌%◌, ◌^◌, ◌<◌, ◌≤◌, ◌≢◌, true, false, ◌⊎◌, inl, inr, refl, arith}
use Rattle.std.specs.Prelude.{◌==◌, bit_and, min}
use Rattle.std.specs.Int.{bit_at, bit_not, w32}
use Rattle.std.proofs.lemmas.Bool.Decides.{nat_tests}
use Rattle.std.proofs.lemmas.Nat.Bits.{bit_at_lowest, bit_at-suc, bit_at-zero, bit_at_and, bit_at_xor, bit_at_not, bit_at-lt, same_from_bits_below}
use Rattle.std.proofs.lemmas.Nat.{and_le_l, xor_lt}
use Rattle.lpc_sid.specs.Access.{has_right, rights_without}

-- a right that a mask has
pub record SomeRight (mask : ℕ) : Type 0 where
  pub right : ℕ
  pub is : has_right mask right ≡ true

odd_or_even : (n : ℕ) → (n % 2 ≡ 1) ⊎ (n % 2 ≡ 0)
odd_or_even n = elim (n % 2 == 1) as (λ b. ((n % 2 == 1) ≡ b) → (n % 2 ≡ 1) ⊎ (n % 2 ≡ 0)) [ true ↦ λ e. inl (grind (arith, nat_tests)) | false ↦ λ e. inr (grind (arith, nat_tests)) ] refl

right_below : (most n : ℕ) → n ≤ most → n ≢ 0 → SomeRight n
right_below zero n h some = absurd (omega arith)
right_below (suc most) n h some =
    elim (odd_or_even n) [
      | inl odd ↦ record { right = 0; is = rw bit_at_lowest (grind (arith, nat_tests)) }
      | inr even ↦
          let next : SomeRight (n / 2) = right_below most (n / 2) (omega arith) (λ e. some (omega arith)) in
          record { right = suc next.right; is = rw bit_at-suc next.is }
    ]

-- a mask that isn't 0 has a right
pub some_right : (mask : ℕ) → mask ≢ 0 → SomeRight mask
some_right mask some = right_below mask mask (omega arith) some

-- no mask, no right
pub no_right : (right : ℕ) → has_right 0 right ≡ false
no_right right = rw bit_at-zero refl

-- a right of two masks is a right of each
pub right_of_both : (a b right : ℕ) → has_right (bit_and a b) right ≡ true → (has_right a right ≡ true) × (has_right b right ≡ true)
right_of_both a b right h =
    let both = bit_at_and a b right in
    let low = bit_at-lt a right in
    let low' = bit_at-lt b right in
    (grind (arith, nat_tests), grind (arith, nat_tests))

pub both_have_right : (a b right : ℕ) → has_right a right ≡ true → has_right b right ≡ true → has_right (bit_and a b) right ≡ true
both_have_right a b right h h' =
    let both = bit_at_and a b right in
    grind (arith, nat_tests)

-- what is left of rights without those of a mask
pub right_left : (left mask right : ℕ) → has_right left right ≡ true → has_right mask right ≡ false → has_right (rights_without left mask) right ≡ true
right_left left mask right h off =
    let both = bit_at_and left mask right in
    let less = bit_at_xor left (bit_and left mask) right in
    let low = bit_at-lt mask right in
    grind (arith, nat_tests)

pub right_was : (left mask right : ℕ) → has_right (rights_without left mask) right ≡ true → (has_right left right ≡ true) × (has_right mask right ≡ false)
right_was left mask right h =
    let both = bit_at_and left mask right in
    let less = bit_at_xor left (bit_and left mask) right in
    let low = bit_at-lt mask right in
    let low' = bit_at-lt left right in
    (grind (arith, nat_tests), grind (arith, nat_tests))

one_bit : (l m : ℕ) → l < 2 → m < 2 → min l (1 - m) ≡ (l + min l m) % 2
one_bit l m h h' = grind arith

-- `left & !mask`
pub and_not_is : (left mask : ℕ) → left < 2 ^ 32 → mask < 2 ^ 32 → bit_and left (bit_not w32 mask) ≡ rights_without left mask
and_not_is left mask h h' =
    same_from_bits_below 32 _ _ (omega (arith, and_le_l left (bit_not w32 mask))) (xor_lt 32 left (bit_and left mask) h (omega (arith, and_le_l left mask))) (λ i below.
    rw (bit_at_and, bit_at_not w32 mask i h' below, bit_at_xor, bit_at_and) (one_bit (bit_at left i) (bit_at mask i) (bit_at-lt left i) (bit_at-lt mask i)))
