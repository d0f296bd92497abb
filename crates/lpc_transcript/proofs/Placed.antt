-- How long numbers are in decimal, and what stands in a buffer behind a write.
use Rattle.std.proofs.Common.{◌≡◌, ℕ, suc, ◌+◌, ◌/◌, ◌^◌, ◌<◌, ◌≤◌, List, [], ◌∷◌, ◌++◌, length, take, drop, set, sym, ap, ◌∙◌, append_assoc, length-append, length-take-le, length-set, take_at, vec_capacity, arith}
use Rattle.std.specs.Prelude.{Err, Ok, OnErr, Result, Vec, decimal, vec_items}
use Rattle.std.proofs.lemmas.Fmt.{decimal_digit, decimal_step, length-decimal-le}
use Rattle.std.proofs.lemmas.List.{take-append-drop, take-append-le, take_more_set}
use borrow.Rule.Slice.PartMut.{post_of, put_mid}
use Rattle.lpc_transcript.specs.Printing.{LacksRoom}

pub one_digit : (n : ℕ) → n < 10 → length (decimal n) ≡ 1
one_digit n h = ap length (decimal_digit n h)

pub one_digit_more : (n : ℕ) → 10 ≤ n → n < 2 ^ 64 → length (decimal n) ≡ length (decimal (n / 10)) + 1
one_digit_more n low high = ap length (decimal_step n low high) ∙ length-append _ _

pub twenty_digits : (n : ℕ) → n < 2 ^ 64 → length (decimal n) ≤ 20
twenty_digits n h = length-decimal-le 20 n (omega arith) (omega arith) h

-- two bytes behind a front
pub two_more : (xs : List ℕ) (at a b : ℕ) → at + 2 ≤ length xs → take (at + 2) (set (set xs at a) (at + 1) b) ≡ take at xs ++ (a ∷ b ∷ [])
two_more xs at a b h =
    let on : at + 2 ≡ at + 1 + 1 = omega arith in
    ap (λ (n : ℕ). take n (set (set xs at a) (at + 1) b)) on
    ∙ take_more_set (set xs at a) (at + 1) b (omega (arith, length-set xs at a))
    ∙ ap (λ (front : List ℕ). front ++ (b ∷ [])) (take_more_set xs at a (omega arith))
    ∙ append_assoc (take at xs) (a ∷ []) (b ∷ [])

take_past : (front rest : List ℕ) (count : ℕ) → take (length front + count) (front ++ rest) ≡ front ++ take count rest
take_past [] rest count = let same : 0 + count ≡ count = omega arith in ap (λ (n : ℕ). take n rest) same
take_past (x ∷ front) rest count =
    let same : length (x ∷ front) + count ≡ suc (length front + count) = omega arith in
    ap (λ (n : ℕ). take n (x ∷ (front ++ rest))) same ∙ ap (λ (text : List ℕ). x ∷ text) (take_past front rest count)

-- the first of a row that was written behind a front
pub row_placed : (xs row : List ℕ) (at size count : ℕ) → at ≤ length xs → count ≤ length row → take (at + count) (put_mid at size xs row) ≡ take at xs ++ take count row
row_placed xs row at size count within few =
    let long : length (take at xs) ≡ at = length-take-le at xs within in
    let same : at + count ≡ length (take at xs) + count = omega arith in
    ap (λ (n : ℕ). take n (put_mid at size xs row)) same
    ∙ take_past (take at xs) (row ++ post_of at size xs) count
    ∙ ap (λ (text : List ℕ). take at xs ++ text) (take-append-le count row (post_of at size xs) few)

-- a text that was written so that it ends where it would end behind a front
pub placed : (old new : List ℕ) (at start end : ℕ) (text : List ℕ) → start + length text ≡ end → end ≡ at + length text → end ≤ length old → drop start new ≡ text ++ drop end old → take start new ≡ take start old → take end new ≡ take at old ++ text
placed old new at start end text ends is fits behind before =
    let same : start ≡ at = omega arith in
    let whole = sym (take-append-drop start new)
    ∙ ap (λ (front : List ℕ). front ++ drop start new) before
    ∙ ap (λ (rest : List ℕ). take start old ++ rest) behind
    ∙ sym (append_assoc (take start old) text (drop end old))
    ∙ ap (λ (n : ℕ). (take n old ++ text) ++ drop end old) same in
    let long : length (take at old ++ text) ≡ end = omega (arith, length-append (take at old) text, length-take-le at old (omega arith)) in
    ap (take end) whole ∙ take_at (take at old ++ text) (drop end old) end long

-- where there is no room for a part, there is none for the whole
pub part_lacks : (capacity least : ℕ) (now before done more all : List ℕ) → now ≡ before ++ done → least ≤ capacity → capacity < length now + length more → length done + length more ≤ length all → least < length before + length all
part_lacks capacity least now before done more all is h lacks within =
    let long = ap length is ∙ length-append before done in omega arith

pub whole_lacks : {T E Z : Type 0} (before between : Vec ℕ Z) (rest all : List ℕ) (result : Result T E) → vec_items between ++ rest ≡ vec_items before ++ all → vec_capacity before ≤ vec_capacity between → OnErr result (LacksRoom between rest) → OnErr result (LacksRoom before all)
whole_lacks before between rest all (Ok x) is grows lacks = tt
whole_lacks before between rest all (Err e) is grows lacks =
    let long = sym (length-append (vec_items between) rest) ∙ ap length is ∙ length-append (vec_items before) all in omega arith
