-- The text of a path is that of the bytes behind its first backslash, with two backslashes for each.
use Rattle.std.proofs.Common.{◌≡◌, refl, ap, ◌∙◌, ℕ, Bool, true, false, cond, arith, List, [], ◌∷◌, ◌++◌, codes, append_assoc, append-nil}
use Rattle.std.proofs.lemmas.Bool.Decides.{nat_tests}
use Rattle.std.specs.List.{flat_map}
use Rattle.std.specs.Prelude.{◌==◌}
use Rattle.lpc_names.specs.Path.{Path, onto_first, parts_of}
use Rattle.lpc_names.proofs.Paths.{parts-some}
use Rattle.lpc_states.specs.Values.{component_text, path_text, spelled, spelled_byte}

-- the text of components without the first backslash
abbrev joined : Path → List ℕ
joined [] = []
joined (part ∷ parts) = spelled part ++ flat_map component_text parts

onto_text : (b : ℕ) (parts : Path) → joined (onto_first b parts) ≡ spelled_byte b ++ joined parts
onto_text b [] = append-nil (spelled_byte b ++ [])
onto_text b (part ∷ parts) = append_assoc (spelled_byte b) (spelled part) (flat_map component_text parts)

joined_parts : (bytes : List ℕ) → joined (parts_of bytes) ≡ spelled bytes
joined_parts [] = refl
joined_parts (b ∷ bs) = by (joined_parts bs) (b == 92) refl
  where
    some : ((p : List ℕ) × (ps : Path) × (parts_of bs ≡ p ∷ ps)) → flat_map component_text (parts_of bs) ≡ codes "\\\\" ++ joined (parts_of bs)
    some s = rw s.2 refl

    by : joined (parts_of bs) ≡ spelled bs → (t : Bool) → (b == 92) ≡ t → joined (cond t ([] ∷ parts_of bs) (onto_first b (parts_of bs))) ≡ spelled_byte b ++ spelled bs
    by more true here =
        let backslash : b ≡ 92 = grind (arith, nat_tests, here) in
        rw backslash (some (parts-some bs) ∙ ap (λ text. codes "\\\\" ++ text) more)
    by more false off = onto_text b (parts_of bs) ∙ ap (λ text. spelled_byte b ++ text) more

pub parts_text : (bytes : List ℕ) → path_text (parts_of bytes) ≡ codes "\\\\" ++ spelled bytes
parts_text bytes = by (parts-some bytes) (joined_parts bytes)
  where
    by : ((p : List ℕ) × (ps : Path) × (parts_of bytes ≡ p ∷ ps)) → joined (parts_of bytes) ≡ spelled bytes → path_text (parts_of bytes) ≡ codes "\\\\" ++ spelled bytes
    by s more = rw s.2 (ap (λ text. codes "\\\\" ++ text) (rw s.2 at more))
