-- Zeros at the end of bytes.
use Rattle.std.proofs.Common.{◌≡◌, ◌≢◌, refl, ap, ◌∙◌, ℕ, suc, ◌<◌, false, List, [], ◌∷◌, ◌++◌, arith, get_or, length, take}
use Rattle.std.proofs.lemmas.Bool.Decides.{nat_tests}
use Rattle.std.proofs.Math.Seq.{take-suc}
use Rattle.std.specs.Prelude.{◌==◌}
use Rattle.lpc_states.specs.Rows.{unless_zero, without_last_zeros}

-- one zero at the end counts for nothing
zero_last : (bytes : List ℕ) → without_last_zeros (bytes ++ 0 ∷ []) ≡ without_last_zeros bytes
unfolding without_last_zeros
zero_last [] = refl
zero_last (b ∷ bytes) = ap (unless_zero b) (zero_last bytes)

some_behind : (x : ℕ) (bytes : List ℕ) (b : ℕ) → unless_zero x (bytes ++ b ∷ []) ≡ x ∷ bytes ++ b ∷ []
some_behind x [] b = refl
some_behind x (y ∷ bytes) b = refl

-- where the last byte is none, all stay
no_zero_last : (bytes : List ℕ) (b : ℕ) → b ≢ 0 → without_last_zeros (bytes ++ b ∷ []) ≡ bytes ++ b ∷ []
unfolding without_last_zeros
no_zero_last [] b some =
    let off : (b == 0) ≡ false = grind (arith, nat_tests, some) in
    rw off refl
no_zero_last (x ∷ bytes) b some = ap (unless_zero x) (no_zero_last bytes b some) ∙ some_behind x bytes b

-- the same up to a place
pub zero_at : (bytes : List ℕ) (place : ℕ) → place < length bytes → get_or bytes place 0 ≡ 0 → without_last_zeros (take (suc place) bytes) ≡ without_last_zeros (take place bytes)
zero_at bytes place within is = rw (take-suc bytes place 0 within, is) (zero_last (take place bytes))

pub no_zero_at : (bytes : List ℕ) (place : ℕ) → place < length bytes → get_or bytes place 0 ≢ 0 → without_last_zeros (take (suc place) bytes) ≡ take (suc place) bytes
no_zero_at bytes place within some = rw (take-suc bytes place 0 within) (no_zero_last (take place bytes) (get_or bytes place 0) some)

pub none_left : without_last_zeros [] ≡ []
unfolding without_last_zeros
none_left = refl
