-- Numbers in decimal, and what stands between dashes.
use Rattle.std.proofs.Common.{◌≡◌, ℕ, zero, suc, ◌^◌, ◌<◌, ◌≤◌, Bool, true, false, List, [], ◌∷◌, ◌++◌, length, map, get_or, refl, sym, ◌∙◌, ap, arith, length-append, append-nil}
use Rattle.std.specs.Prelude.{◌==◌, nat_lt, nat_le, All, decimal}
use Rattle.std.specs.Int.{IsInRange}
use Rattle.std.specs.List.{flat_map, join_with_byte}
use Rattle.std.specs.Str.Parse.{AllDigits, digits_value}
use Rattle.std.proofs.lemmas.Bool.Decides.{nat_tests}
use Rattle.std.proofs.lemmas.Fmt.{decimal_is_IsNumeral}
use Rattle.std.proofs.lemmas.List.{length-map}
use Rattle.std.proofs.lemmas.List.Elements.{All-nil, All-cons}
use Rattle.std.proofs.lemmas.List.Splits.{slice_split_at, slice_split_none}
use Rattle.std.proofs.lemmas.Str.Parse.{digit_from_value}
use Rattle.lpc_base.proofs.Bools.{first-true, second-true}
use Rattle.lpc_base.proofs.RowWords.{every-push}
use Rattle.lpc_base.specs.Rows.{every}
use Rattle.lpc_sid.specs.Spelling.{are_words, dashed, parts}

-- a list of numbers of 32 bits
abbrev pub are_small : List ℕ → Bool
are_small ns = every (λ n. nat_lt n (2 ^ 32)) ns

pub small_head : (n : ℕ) (ns : List ℕ) → are_small (n ∷ ns) ≡ true → n < 2 ^ 32
small_head n ns all = let h = first-true (nat_lt n (2 ^ 32)) (are_small ns) all in grind (arith, nat_tests)

pub small_tail : (n : ℕ) (ns : List ℕ) → are_small (n ∷ ns) ≡ true → are_small ns ≡ true
small_tail n ns all = second-true (nat_lt n (2 ^ 32)) (are_small ns) all

digit_no_dash : (d : ℕ) → IsInRange 48 57 d → (d == 45) ≡ false
digit_no_dash d h = grind (arith, nat_tests)

no_dash : (ds : List ℕ) → AllDigits 10 ds → All (λ b. (b == 45) ≡ false) ds
no_dash [] all = All-nil (λ b. (b == 45) ≡ false)
no_dash (d ∷ ds) all = All-cons (λ b. (b == 45) ≡ false) d ds (digit_no_dash d (digit_from_value d all.0)) (no_dash ds all.1)

-- a number in decimal has no dash
pub decimal_no_dash : (n : ℕ) → n < 2 ^ 64 → All (λ b. (b == 45) ≡ false) (decimal n)
decimal_no_dash n h = no_dash (decimal n) (decimal_is_IsNumeral n h).0.1

-- numbers between dashes are cut at these
pub parts_dashed : (n : ℕ) (ns : List ℕ) → n < 2 ^ 64 → are_small ns ≡ true → parts (decimal n ++ flat_map dashed ns) ≡ decimal n ∷ map decimal ns
parts_dashed n [] h all = rw append-nil (slice_split_none (λ b. b == 45) (decimal n) (decimal_no_dash n h))
parts_dashed n (m ∷ ns) h all =
    slice_split_at (λ b. b == 45) (decimal n) 45 (decimal m ++ flat_map dashed ns) (decimal_no_dash n h) refl
    ∙ ap (λ ps. decimal n ∷ ps) (parts_dashed m ns (let small = small_head m ns all in omega arith) (small_tail m ns all))

-- numbers, joined by dashes
pub joined_dashed : (text : List ℕ) (ns : List ℕ) → join_with_byte 45 (text ∷ map decimal ns) ≡ text ++ flat_map dashed ns
joined_dashed text [] = rw append-nil refl
joined_dashed text (n ∷ ns) = ap (λ rest. text ++ 45 ∷ rest) (joined_dashed (decimal n) ns)

-- the numbers are read back from their digits
pub values_back : (ns : List ℕ) → are_small ns ≡ true → map (digits_value 10) (map decimal ns) ≡ ns
values_back [] all = refl
values_back (n ∷ ns) all =
    let small = small_head n ns all in
    rw ((decimal_is_IsNumeral n (omega arith)).1, values_back ns (small_tail n ns all)) refl

-- one more number
pub words_push : (ns : List ℕ) (n : ℕ) → are_words ns ≡ true → length ns < 15 → n < 2 ^ 32 → are_words (ns ++ n ∷ []) ≡ true
words_push ns n all room small =
    let few : nat_le (length (ns ++ n ∷ [])) 15 ≡ true = let more = length-append ns (n ∷ []) in grind (arith, nat_tests) in
    let each = every-push (λ n. nat_lt n (2 ^ 32)) ns n (second-true (nat_le (length ns) 15) (are_small ns) all) (grind (arith, nat_tests)) in
    rw (few, each) refl

-- a number that stands among others in decimal
pub record Among (text : List ℕ) : Type 0 where
  pub number : ℕ
  pub small : number < 2 ^ 32
  pub is : decimal number ≡ text

pub number_among : (ns : List ℕ) (k : ℕ) (text d : List ℕ) → are_small ns ≡ true → k < length (map decimal ns) → text ≡ get_or (map decimal ns) k d → Among text
number_among [] k text d all below is = absurd (omega arith)
number_among (n ∷ ns) zero text d all below is = record { number = n; small = small_head n ns all; is = sym is }
number_among (n ∷ ns) (suc k) text d all below is = number_among ns k text d (small_tail n ns all) (omega arith) is

-- what stands at a place between dashes is a number, where all that stands there are
pub no_other : (ns : List ℕ) (all : List (List ℕ)) (k : ℕ) (text : List ℕ) → are_words ns ≡ true → map decimal ns ≡ all → (k < length all) × (text ≡ get_or all k text) → ((n : ℕ) → n < 2 ^ 32 → decimal n ≡ text → ⊥) → ⊥
no_other ns all k text words is at none =
    let here = rw (sym is) at at in
    let found = number_among ns k text text (second-true (nat_le (length ns) 15) (are_small ns) words) here.0 here.1 in
    none found.number found.small found.is

-- more than 15 of them are too many
pub too_many : (ns list : List ℕ) (all seen : List (List ℕ)) → are_words ns ≡ true → map decimal ns ≡ all → map decimal list ≡ seen → length seen < length all → length list ≡ 15 → ⊥
too_many ns list all seen words is same below full =
    let few = first-true (nat_le (length ns) 15) (are_small ns) words in
    let most : length ns ≤ 15 = grind (arith, nat_tests) in
    let a = ap length is in
    let b = ap length same in
    let c = simp length-map at a in
    let d = simp length-map at b in
    omega arith
