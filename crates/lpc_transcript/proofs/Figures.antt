-- Numbers and bytes can be read back from their digits, and no digit ends a word.
use Rattle.std.proofs.Common.{◌≡◌, refl, sym, ap, ◌∙◌, ℕ, suc, zero, ◌/◌, ◌%◌, ◌^◌, ◌<◌, ◌≤◌, Bool, true, false, nat_lt, not, ◌&&◌, List, [], ◌∷◌, arith, w32}
use Rattle.std.specs.Prelude.{decimal, slice_index, is_some}
use Rattle.std.specs.Int.{to_be_bytes, from_be_bytes, byte_at, bytes_high_first}
use Rattle.std.specs.Str.Parse.{AllDigits}
use Rattle.std.proofs.lemmas.Bool.{and_parts}
use Rattle.std.proofs.lemmas.Bool.Decides.{nat_tests}
use Rattle.std.specs.Prelude.{◌≢◌}
use Rattle.std.proofs.lemmas.Fmt.{decimal_is_IsNumeral}
use Rattle.std.proofs.lemmas.Nat.{from_be_bytes-to_be_bytes_4}
use Rattle.std.proofs.lemmas.Str.Parse.{digit_from_value}
use Rattle.hex.specs.Hex.{IsBytes, decode_of, encode_lower, encode_with, is_hex_digit, lower_digits}
use Rattle.hex.proofs.HexLemmas.{IsDigits-lower_digits, decode_of-encode_lower}
use Rattle.lpc_base.specs.Rows.{every}
use Rattle.lpc_model.specs.Text.{eight_digits}
use Rattle.lpc_transcript.proofs.Parts.{is_stop, is_plain}
use borrow.Author.Tests.{ltb-true}

-- a text of hexadecimal digits
abbrev pub are_figures : List ℕ → Bool
are_figures text = every is_hex_digit text

pub both_true : {a b : Bool} → a ≡ true → b ≡ true → (a && b) ≡ true
both_true {a} {b} e h = cc

figure_is_not : (c n : ℕ) → is_hex_digit c ≡ true → is_hex_digit n ≡ false → c ≡ n → ⊥
figure_is_not c n e other is = let both : true ≡ false = sym e ∙ ap is_hex_digit is ∙ other in cc

figure_stays : (c : ℕ) → is_hex_digit c ≡ true → not (is_stop c) ≡ true
figure_stays c e =
    let end = figure_is_not c 10 e refl in
    let space = figure_is_not c 32 e refl in
    let equals = figure_is_not c 61 e refl in
    grind (arith, nat_tests)

-- digits have no byte that ends a word
pub figures_plain : (text : List ℕ) → are_figures text ≡ true → is_plain text ≡ true
figures_plain [] h = refl
figures_plain (c ∷ text) h =
    let parts = and_parts (is_hex_digit c) (are_figures text) h in
    both_true (figure_stays c parts.0) (figures_plain text parts.1)

-- the first byte of a text, 0 where it has none
abbrev pub first : List ℕ → ℕ
first [] = 0
first (c ∷ text) = c

-- a text of digits doesn't begin with another byte
pub figures_begin : (text : List ℕ) (n : ℕ) → are_figures text ≡ true → is_hex_digit n ≡ false → 0 ≢ n → first text ≢ n
figures_begin [] n h other some e = some e
figures_begin (c ∷ text) n h other some e = figure_is_not c n (and_parts (is_hex_digit c) (are_figures text) h).0 other e

decimal_digit_figure : (c : ℕ) → 48 ≤ c → c ≤ 57 → is_hex_digit c ≡ true
decimal_digit_figure c low high = grind (arith, nat_tests)

digits_figures : (text : List ℕ) → AllDigits 10 text → are_figures text ≡ true
digits_figures [] h = refl
digits_figures (c ∷ text) h =
    let range = digit_from_value c h.0 in
    both_true (decimal_digit_figure c (omega arith) (omega arith)) (digits_figures text h.1)

pub decimal_figures : (n : ℕ) → n < 2 ^ 64 → are_figures (decimal n) ≡ true
decimal_figures n h = digits_figures (decimal n) (decimal_is_IsNumeral n h).0.1

place_figure : (d : ℕ) → d < 16 → is_hex_digit (slice_index lower_digits d) ≡ true
place_figure d h = ap is_some (IsDigits-lower_digits d h)

pub encode_figures : (bytes : List ℕ) → IsBytes bytes → are_figures (encode_lower bytes) ≡ true
unfolding encode_with
encode_figures [] h = refl
encode_figures (b ∷ rest) h =
    let fits : b < 256 = h 0 in
    both_true (place_figure (b / 16) (omega arith)) (both_true (place_figure (b % 16) (omega arith)) (encode_figures rest (λ k. h (suc k))))

pub encode_unique : (xs ys : List ℕ) → IsBytes xs → IsBytes ys → encode_lower xs ≡ encode_lower ys → xs ≡ ys
encode_unique xs ys p q e =
    let both = sym (decode_of-encode_lower xs p) ∙ ap decode_of e ∙ decode_of-encode_lower ys q in cc

-- bytes by the test that each is below 256
pub bytes_from_every : (xs : List ℕ) → every (λ byte. nat_lt byte 256) xs ≡ true → IsBytes xs
bytes_from_every [] h i = omega arith
bytes_from_every (x ∷ xs) h zero = ltb-true x 256 (and_parts (nat_lt x 256) (every (λ byte. nat_lt byte 256) xs) h).0
bytes_from_every (x ∷ xs) h (suc i) = bytes_from_every xs (and_parts (nat_lt x 256) (every (λ byte. nat_lt byte 256) xs) h).1 i

byte_fits : (i n : ℕ) → byte_at i n < 256
byte_fits zero n = omega arith
byte_fits (suc i) n = omega arith

high_first_bytes : (k n : ℕ) → IsBytes (bytes_high_first k n)
high_first_bytes zero n i = omega arith
high_first_bytes (suc k) n zero = byte_fits k n
high_first_bytes (suc k) n (suc i) = high_first_bytes k n i

word_bytes : (n : ℕ) → IsBytes (to_be_bytes w32 n)
word_bytes n = high_first_bytes 4 n

pub word_figures : (n : ℕ) → are_figures (eight_digits n) ≡ true
word_figures n = encode_figures (to_be_bytes w32 n) (word_bytes n)

pub word_unique : (m n : ℕ) → m < 2 ^ 32 → n < 2 ^ 32 → eight_digits m ≡ eight_digits n → m ≡ n
word_unique m n p q e =
    let bytes = encode_unique (to_be_bytes w32 m) (to_be_bytes w32 n) (word_bytes m) (word_bytes n) e in
    sym (from_be_bytes-to_be_bytes_4 m p) ∙ ap (from_be_bytes w32) bytes ∙ from_be_bytes-to_be_bytes_4 n q
