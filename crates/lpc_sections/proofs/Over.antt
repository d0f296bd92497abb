-- A part that is lent, or none.
use Rattle.std.proofs.Common.{◌≡◌, ℕ, Bool, true, false, List, [], ◌∷◌, length, take, refl, ap, ◌∙◌, subst}
use Rattle.std.specs.Prelude.{if◌then◌else◌, Some, None}
use lib.Dec.{T}
use mathlib.Core.Bool.{not}
use Rattle.lpc_sections.specs.Sections.{SectionRow, with_part}

take_all : (bytes : List ℕ) → take (length bytes) bytes ≡ bytes
take_all [] = refl
take_all (b ∷ bytes) = ap (λ (l : List ℕ). b ∷ l) (take_all bytes)

-- no byte written over leaves the bytes
pub nothing_over : (s : SectionRow) → with_part s 0 [] ≡ s
nothing_over s = ap (λ (l : List ℕ). record s { bytes = l }) (take_all s.bytes)

pub place_there : (b within : Bool) (at : ℕ) → b ≡ within → T b → (if within then at else 0) ≡ at
place_there b true at e t = refl
place_there b false at e t = absurd (subst T e t)

pub value_there : (b within : Bool) (xs there : List ℕ) → b ≡ within → T b → xs ≡ (if within then there else []) → Some xs ≡ (if within then Some there else None)
value_there b true xs there e t is = ap Some is
value_there b false xs there e t is = absurd (subst T e t)

pub same_there : (s : SectionRow) (b within : Bool) (at : ℕ) (xs there : List ℕ) → b ≡ within → T (not b) → xs ≡ (if within then there else []) → with_part s (if within then at else 0) xs ≡ s
same_there s b true at xs there e t is = absurd (subst (λ (x : Bool). T (not x)) e t)
same_there s b false at xs there e t is = ap (with_part s 0) is ∙ nothing_over s

pub none_there : (b within : Bool) (there : List ℕ) → b ≡ within → T (not b) → None ≡ (if within then Some there else None)
none_there b true there e t = absurd (subst (λ (x : Bool). T (not x)) e t)
none_there b false there e t = refl
