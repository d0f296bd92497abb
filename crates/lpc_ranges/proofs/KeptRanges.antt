-- The ranges of the message that bytes are kept as are those of the bytes.
use Rattle.std.proofs.Common.{◌≡◌, ◌≤◌, ◌<◌, ◌+◌, ◌*◌, ◌-◌, ◌==◌, ◌&&◌, ◌||◌, ℕ, Bool, true, false, not, cond, List, ◌++◌, length, drop, Option, Some, None, refl, ap, sym, ◌∙◌, arith}
use Rattle.std.specs.Prelude.{is_some, nat_le, nat_lt}
use Rattle.std.proofs.lemmas.Bool.Decides.{nat_tests}
use Rattle.std.proofs.lemmas.List.{drop-drop, length-drop}
use Rattle.lpc_message.specs.Laws.{FitsWidths, WrittenHeaderIsReadBack}
use Rattle.lpc_message.specs.Layout.{fault_of, half_at, header_bytes, header_of, range_at, range_place, word_at}
use Rattle.lpc_message.specs.declared.message.Header.{Header}
use Rattle.lpc_message.specs.declared.message.Range.{Range}
use Rattle.lpc_message.specs.declared.message.Shape.{Shape}
use Rattle.lpc_message.specs.declared.message.Shape.TheVariants.{Ranges, Short, Sizes}
use Rattle.lpc_model.specs.Message.{bytes_of, message_of}
use Rattle.lpc_model.specs.Ranges.{range_in}

-- What a range is found by: the tests of the shape, whether there is no table, whether it lies inside, whether the range
-- is one of its entries, and the entry
abbrev found : Bool → Bool → Bool → Bool → Bool → Range → Option Range
found short sizes bare inside less r =
    cond (is_some (cond short (Some Short) (cond (not sizes) (Some Sizes) (cond (not (bare || inside)) (Some Ranges) None)))) None (cond less (Some r) None)

none : (short sizes bare inside less : Bool) (r : Range) → inside ≡ false → (bare ≡ true → less ≡ false) → found short sizes bare inside less r ≡ None
none true sizes bare inside less r out off = refl
none false false bare inside less r out off = refl
none false true true inside less r out off = ap (λ b. cond b (Some r) None) (off refl)
none false true false true less r out off = absurd (cc)
none false true false false less r out off = refl

-- the same by numbers: both sizes, where the table is, how many bytes there are, and what the table holds
abbrev by_numbers : ℕ → ℕ → ℕ → ℕ → ℕ → Range → ℕ → Option Range
by_numbers body whole at n count r i =
    found (nat_lt n 24) (nat_le (body + 24) whole && (24 + body == n)) (not (not (at == 0)))
    (nat_le 24 at && nat_le (at + 4 + 8 * cond (not (at == 0)) count 0) n) (nat_lt i (cond (not (at == 0)) count 0)) r

-- without a place for the table behind the header there is no range
no_entry : (at count i : ℕ) → not (not (at == 0)) ≡ true → nat_lt i (cond (not (at == 0)) count 0) ≡ false
no_entry at count i bare = grind (arith, nat_tests)

outside : (body whole at n count : ℕ) (r : Range) (i : ℕ) → nat_le 24 at && nat_le (at + 4 + 8 * cond (not (at == 0)) count 0) n ≡ false → by_numbers body whole at n count r i ≡ None
outside body whole at n count r i out =
    none (nat_lt n 24) (nat_le (body + 24) whole && (24 + body == n)) (not (not (at == 0))) (nat_le 24 at && nat_le (at + 4 + 8 * cond (not (at == 0)) count 0) n) (nat_lt i (cond (not (at == 0)) count 0)) r out (no_entry at count i)

abbrev entry_of : List ℕ → ℕ → Range
entry_of bytes i = record { base = word_at bytes (range_place bytes i); size = word_at bytes (range_place bytes i + 4) }

is_by_numbers : (bytes : List ℕ) (i : ℕ) → range_in bytes i ≡ by_numbers (half_at bytes 0) (half_at bytes 2) (half_at bytes 6) (length bytes) (word_at bytes (half_at bytes 6)) (entry_of bytes i) i
is_by_numbers bytes i = refl

-- a number in the data is one of the data alone
in_data : (xs ys : List ℕ) → drop 24 xs ≡ drop 24 ys → (at : ℕ) → 24 ≤ at → word_at xs at ≡ word_at ys at
in_data xs ys same at far =
    let split : at ≡ 24 + (at - 24) = omega (arith, far) in
    ap (λ a. word_at xs a) split
    ∙ ap (λ (ds : List ℕ). word_at ds 0) (sym (drop-drop (at - 24) 24 xs) ∙ ap (drop (at - 24)) same ∙ drop-drop (at - 24) 24 ys)
    ∙ sym (ap (λ a. word_at ys a) split)

-- so bytes with one header and the same data have the same ranges
same_ranges : (xs ys : List ℕ) (i : ℕ) → header_of xs ≡ header_of ys → drop 24 xs ≡ drop 24 ys → length xs ≡ length ys → range_in xs i ≡ range_in ys i
same_ranges xs ys i head rest long = elim (nat_le 24 (half_at ys 6)) as (λ b. nat_le 24 (half_at ys 6) ≡ b → range_in xs i ≡ range_in ys i) [
  | true ↦ λ behind.
      let far : 24 ≤ half_at ys 6 = grind (arith, nat_tests, behind) in
      let count : word_at xs (half_at xs 6) ≡ word_at ys (half_at ys 6) = ap (λ a. word_at xs a) at ∙ in_data xs ys rest (half_at ys 6) far in
      let base : word_at xs (range_place xs i) ≡ word_at ys (range_place ys i) =
      ap (λ a. word_at xs (a + 4 + 8 * i)) at ∙ in_data xs ys rest (range_place ys i) (omega (arith, far)) in
      let size : word_at xs (range_place xs i + 4) ≡ word_at ys (range_place ys i + 4) =
      ap (λ a. word_at xs (a + 4 + 8 * i + 4)) at ∙ in_data xs ys rest (range_place ys i + 4) (omega (arith, far)) in
      is_by_numbers xs i
      ∙ (λ k. by_numbers (body k) (whole k) (at k) (long k) (count k) (record { base = base k; size = size k }) i)
      ∙ sym (is_by_numbers ys i)
  | false ↦ λ before.
      let out : nat_le 24 (half_at xs 6) ≡ false = ap (λ a. nat_le 24 a) at ∙ before in
      no_range xs out ∙ sym (no_range ys before)
] refl
  where
    body : half_at xs 0 ≡ half_at ys 0
    body = ap (λ (h : Header). h.data_size) head

    whole : half_at xs 2 ≡ half_at ys 2
    whole = ap (λ (h : Header). h.message_size) head

    at : half_at xs 6 ≡ half_at ys 6
    at = ap (λ (h : Header). h.ranges_offset) head

    no_range : (zs : List ℕ) → nat_le 24 (half_at zs 6) ≡ false → range_in zs i ≡ None
    no_range zs out =
        is_by_numbers zs i
        ∙ outside (half_at zs 0) (half_at zs 2) (half_at zs 6) (length zs) (word_at zs (half_at zs 6)) (entry_of zs i) i (ap (λ b. b && nat_le (half_at zs 6 + 4 + 8 * cond (not (half_at zs 6 == 0)) (word_at zs (half_at zs 6)) 0) (length zs)) out)

-- a message without data has no table
tight : (at n count : ℕ) → n ≤ 24 → nat_le 24 at && nat_le (at + 4 + 8 * count) n ≡ false
tight at n count few = grind (arith, nat_tests)

module _ (bytes : List ℕ) (i : ℕ) where
  front : length (bytes_of (message_of bytes)) ≡ 24 + (length bytes - 24)
  unfolding bytes_of
  front = let cut = length-drop 24 bytes in omega (arith, cut)

  -- The bytes of the message that bytes are kept as: no range where they were too few for a header, else the ranges of the
  -- bytes, whose header has numbers of its widths
  pub too_few : length bytes < 24 → range_in (bytes_of (message_of bytes)) i ≡ None
  too_few few =
      let xs : List ℕ = bytes_of (message_of bytes) in
      is_by_numbers xs i
      ∙ outside (half_at xs 0) (half_at xs 2) (half_at xs 6) (length xs) (word_at xs (half_at xs 6)) (entry_of xs i) i
      (tight (half_at xs 6) (length xs) (cond (not (half_at xs 6 == 0)) (word_at xs (half_at xs 6)) 0) (omega (arith, front, few)))

  kept : WrittenHeaderIsReadBack → FitsWidths (header_of bytes) → 24 ≤ length bytes → range_in (bytes_of (message_of bytes)) i ≡ range_in bytes i
  unfolding bytes_of
  kept law fits long = same_ranges (header_bytes (header_of bytes) ++ drop 24 bytes) bytes i (law (header_of bytes) (drop 24 bytes) fits) refl (omega (arith, front, long))

  pub lawful : WrittenHeaderIsReadBack → FitsWidths (header_of bytes) → 24 ≤ length bytes → fault_of bytes ≡ None → range_at bytes i ≡ range_in (bytes_of (message_of bytes)) i
  lawful law fits long is = sym (kept law fits long ∙ ap (λ f. cond (is_some f) None (range_at bytes i)) is)

  pub faulty : WrittenHeaderIsReadBack → FitsWidths (header_of bytes) → 24 ≤ length bytes → (fault : Shape) → fault_of bytes ≡ Some fault → None ≡ range_in (bytes_of (message_of bytes)) i
  faulty law fits long fault is = sym (kept law fits long ∙ ap (λ f. cond (is_some f) None (range_at bytes i)) is)
