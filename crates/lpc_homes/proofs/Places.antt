-- The part at a place: what a change of it leaves, and a walk that changes each part in its place.
use Rattle.std.proofs.Common.{◌≡◌, ◌+◌, ◌<◌, ◌≤◌, ℕ, zero, suc, true, List, [], ◌∷◌, ◌++◌, length, map, take, drop, set, slice_get, Some, refl, ap, sym, ◌∙◌, arith}
use Rattle.std.specs.List.{position}
use Rattle.std.proofs.lemmas.Bool.{eqb-true}
use Rattle.lpc_base.specs.Rows.{change}
use Rattle.lpc_base.proofs.Differ.{set-change}
use Rattle.lpc_base.proofs.Positions.{first_at, read_at}
use Rattle.lpc_base.proofs.RowWords.{first-passes}
use Rattle.lpc_homes.specs.Parts.{are_single_parts, change_at, is_part}
use Rattle.lpc_homes.specs.declared.parts.Part.{Part}

abbrev process : Part → ℕ
process part = part.process

module _ (f : Part → Part) where
  -- a part that is written at its place
  pub set_at : (parts : List Part) (i : ℕ) (part : Part) → slice_get parts i ≡ Some part → set parts i (f part) ≡ change_at i f parts
  set_at [] i part here = absurd (cc)
  set_at (x ∷ parts) zero part here = let is : x ≡ part = cc in ap (λ p. f p ∷ parts) (sym is)
  set_at (x ∷ parts) (suc i) part here = ap (λ ps. x ∷ ps) (set_at parts i part here)

  -- the place of a process's part is that of the part which is changed for it
  pub change_here : (parts : List Part) (pid i : ℕ) → are_single_parts parts ≡ true → position (is_part pid) parts ≡ Some i → change_at i f parts ≡ change (is_part pid) f parts
  change_here parts pid i one at =
      let found = first_at (is_part pid) parts i at in
      let own = eqb-true (process found.element) pid (first-passes (is_part pid) parts found.element found.is_first) in
      sym (set_at parts i found.element found.here) ∙ set-change process f parts i pid found.element one found.here own

  -- so many parts are changed
  abbrev pub walked : ℕ → List Part → List Part
  walked i parts = map f (take i parts) ++ drop i parts

  pub walked-next : (parts : List Part) (i : ℕ) → i < length parts → change_at i f (walked i parts) ≡ walked (i + 1) parts
  walked-next parts i lt =
      let more : suc i ≡ i + 1 = omega arith in
      next parts i lt ∙ ap (λ k. walked k parts) more
    where
      next : (ps : List Part) (k : ℕ) → k < length ps → change_at k f (walked k ps) ≡ walked (suc k) ps
      next [] k lt = absurd (omega arith)
      next (x ∷ ps) zero lt = refl
      next (x ∷ ps) (suc k) lt = ap (λ qs. f x ∷ qs) (next ps k (omega arith))

  pub walked-all : (parts : List Part) (i : ℕ) → length parts ≤ i → walked i parts ≡ map f parts
  walked-all [] zero le = refl
  walked-all [] (suc i) le = refl
  walked-all (x ∷ parts) zero le = absurd (omega arith)
  walked-all (x ∷ parts) (suc i) le = ap (λ ps. f x ∷ ps) (walked-all parts i (omega arith))

  pub walked-length : (parts : List Part) (i : ℕ) → length (walked i parts) ≡ length parts
  walked-length [] zero = refl
  walked-length [] (suc i) = refl
  walked-length (x ∷ parts) zero = refl
  walked-length (x ∷ parts) (suc i) = ap suc (walked-length parts i)

  module _ (twice : (part : Part) → f (f part) ≡ f part) where
    -- what was changed before is changed no further
    pub walked-again : (parts : List Part) (i : ℕ) → map f (walked i parts) ≡ map f parts
    walked-again [] zero = refl
    walked-again [] (suc i) = refl
    walked-again (x ∷ parts) zero = refl
    walked-again (x ∷ parts) (suc i) = λ j. twice x j ∷ walked-again parts i j

    pub change-again : (parts : List Part) (i : ℕ) → map f (change_at i f parts) ≡ map f parts
    change-again [] zero = refl
    change-again [] (suc i) = refl
    change-again (x ∷ parts) zero = λ j. twice x j ∷ map f parts
    change-again (x ∷ parts) (suc i) = λ j. f x ∷ change-again parts i j

-- a process that has a part has a place
pub place_below : (parts : List Part) (pid i : ℕ) → position (is_part pid) parts ≡ Some i → i < length parts
place_below parts pid i at =
    let found = first_at (is_part pid) parts i at in
    (read_at parts i found.element found.element found.here).0
