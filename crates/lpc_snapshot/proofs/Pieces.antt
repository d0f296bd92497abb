-- What is put piece by piece, where a piece is told in other words.
use Rattle.std.proofs.Common.{◌≡◌, refl, ap, ℕ, ◌-◌, ◌≤◌, List, [], ◌∷◌, arith, codes, drop, get_or, length, map, take}
use Rattle.std.proofs.Math.Seq.{take-length}
use Rattle.std.proofs.lemmas.List.{take_all}
use Rattle.std.specs.List.{flat_map}
use Rattle.lpc_sections.specs.Sections.{SectionRow, part}
use Rattle.lpc_states.specs.Values.{behind_comma, joined, listed}

-- the text of a list of shown values is that of the first, and behind it that of the others, in brackets
pub record IsListed {A B : Type 0} (show : B → List ℕ) (f : A → B) (xs : List A) : Type 0 where
  pub first : A
  pub at : (other : A) → get_or xs 0 other ≡ first
  pub text : joined (codes "[" ∷ show (f first) ∷ flat_map (behind_comma show) (map f (take (length xs - 1) (drop 1 xs))) ∷ codes "]" ∷ []) ≡ listed show (map f xs)

pub listed_map : {A B : Type 0} (show : B → List ℕ) (f : A → B) (xs : List A) → 1 ≤ length xs → IsListed show f xs
listed_map show f [] some = absurd (omega arith)
listed_map {A} show f (x ∷ xs) some =
    let count : length (x ∷ xs) - 1 ≡ length xs = omega arith in
    let others : take (length (x ∷ xs) - 1) (drop 1 (x ∷ xs)) ≡ xs = rw count (take_all _ _ (omega arith)) in
    record {
      first = x;
      at = λ other. refl;
      text = ap (λ (ys : List A). joined (codes "[" ∷ show (f x) ∷ flat_map (behind_comma show) (map f ys) ∷ codes "]" ∷ [])) others;
    }

-- all bytes of a section
pub whole_part : (s : SectionRow) (len : ℕ) → len ≡ length s.bytes → part s 0 len ≡ s.bytes
whole_part s len is = rw is (take-length s.bytes)
