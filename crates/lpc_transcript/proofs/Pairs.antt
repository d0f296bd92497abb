-- Bytes as pairs of hexadecimal digits, by a table.
use Rattle.std.proofs.Common.{◌≡◌, refl, ap, ℕ, suc, zero, ◌+◌, ◌*◌, ◌/◌, ◌%◌, ◌-◌, ◌<◌, Bool, true, ◌&&◌, List, [], ◌∷◌, ◌++◌, get_or, length, take, arith, inl, inr, eq-zero-or-pos, T, eqb, eqb→eq}
use Rattle.std.proofs.lemmas.List.{take_more}
use Rattle.std.specs.Prelude.{codes}
use Rattle.hex.specs.Hex.{encode_lower, encode_with, lower_digits}
use lib.Ieee.Fits.{and_l, and_r}
use Rattle.lpc_model.specs.Text.{eight_digits}
use Rattle.lpc_transcript.specs.Printing.{pair_of}
use Rattle.lpc_transcript.specs.declared.spell.TheConstants.{PAIRS}

abbrev are_pairs : ℕ → Bool
are_pairs zero = true
are_pairs (suc byte) = (eqb (get_or PAIRS (byte * 2) 0) (get_or lower_digits (byte / 16) 0) && eqb (get_or PAIRS (byte * 2 + 1) 0) (get_or lower_digits (byte % 16) 0)) && are_pairs byte

below : (n byte : ℕ) → T (are_pairs n) → byte < n → (get_or PAIRS (byte * 2) 0 ≡ get_or lower_digits (byte / 16) 0) × (get_or PAIRS (byte * 2 + 1) 0 ≡ get_or lower_digits (byte % 16) 0)
below zero byte t h = absurd (omega arith)
below (suc n) byte t h =
    elim (eq-zero-or-pos (n - byte)) [
      | inl z ↦ let e : byte ≡ n = omega arith in let a = and_l _ (are_pairs n) t in rw e (eqb→eq _ _ (and_l _ _ a), eqb→eq _ _ (and_r _ _ a))
      | inr g ↦ below n byte (and_r _ (are_pairs n) t) (omega arith)
    ]

pub pairs_at : (byte : ℕ) → byte < 256 → (get_or PAIRS (byte * 2) 0 ≡ get_or lower_digits (byte / 16) 0) × (get_or PAIRS (byte * 2 + 1) 0 ≡ get_or lower_digits (byte % 16) 0)
pairs_at byte h = below 256 byte tt h

encode_push : (bytes : List ℕ) (byte : ℕ) → encode_lower (bytes ++ byte ∷ []) ≡ encode_lower bytes ++ pair_of byte
unfolding encode_with
encode_push [] byte = refl
encode_push (b ∷ bytes) byte = ap (λ (text : List ℕ). get_or lower_digits (b / 16) 0 ∷ get_or lower_digits (b % 16) 0 ∷ text) (encode_push bytes byte)

-- the digits of one more byte
pub encode_more : (bytes : List ℕ) (at : ℕ) → at < length bytes → encode_lower (take (at + 1) bytes) ≡ encode_lower (take at bytes) ++ pair_of (get_or bytes at 0)
encode_more bytes at h = rw (take_more bytes at 0 h) (encode_push (take at bytes) (get_or bytes at 0))

-- the digits of a status that most answers have
pub zero_digits : (n : ℕ) → n ≡ 0 → eight_digits n ≡ codes "00000000"
unfolding encode_with
zero_digits n e = ap eight_digits e
