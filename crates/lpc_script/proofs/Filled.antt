-- Bytes that digits stand for, behind a front.
use Rattle.std.proofs.Common.{◌≡◌, ℕ, ◌+◌, ◌*◌, ◌/◌, ◌%◌, List, ◌++◌, length, take, cond, eqb, refl, arith, append_assoc, length-append}
use Rattle.std.specs.Prelude.{Bool, true, false, Result, Ok, Err}
use Rattle.std.proofs.Math.Seq.{take-append_seam}
use Rattle.hex.specs.Hex.{decode_pairs}
use Rattle.hex.specs.declared.error.FromHexError.{FromHexError}
use Rattle.hex.specs.declared.error.FromHexError.TheVariants.{OddLength}
use Rattle.hex.proofs.HexLemmas.{decode_pairs-ok}
use Rattle.lpc_model.specs.Words.{hex_word, hex_or_fault}
use Rattle.lpc_script.specs.Front.{behind}

pairs_same : (read : Result (List ℕ) FromHexError) (bytes : List ℕ) → hex_or_fault read ≡ Ok bytes → read ≡ Ok bytes
pairs_same (Ok found) bytes h = cc h
pairs_same (Err e) bytes h = cc h

pairs_length : (digits bytes : List ℕ) (odd : Bool) → hex_or_fault (cond odd (Err OddLength) (decode_pairs 0 digits)) ≡ Ok bytes → length digits ≡ 2 * length bytes
pairs_length digits bytes true h = cc h
pairs_length digits bytes false h = (decode_pairs-ok 0 digits bytes (pairs_same _ _ h)).1

hex_length : (digits bytes : List ℕ) → hex_word digits ≡ Ok bytes → length bytes ≡ length digits / 2
unfolding hex_word
hex_length digits bytes h = let twice = pairs_length digits bytes (eqb (length digits % 2) 1) h in omega arith

-- what lies in the room is the front and the bytes
pub filled : (front digits head bytes rest : List ℕ) → hex_word digits ≡ Ok bytes → head ≡ front → behind front (hex_word digits) ≡ Ok (take (length front + length digits / 2) (head ++ (bytes ++ rest)))
filled front digits head bytes rest read is =
    let long = hex_length digits bytes read in
    let whole : length front + length digits / 2 ≡ length (front ++ bytes) = rw length-append (omega arith) in
    rw (read, is, whole, ← append_assoc, take-append_seam) refl
