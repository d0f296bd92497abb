-- The first field that passes a test, from a place on.
use Rattle.std.proofs.Common.{◌≡◌, Bool, true, false, cond, ℕ, zero, suc, ◌+◌, ◌≤◌, add-one, length, List, [], ◌∷◌, Some, None, ap, sym, ◌∙◌, drop, refl}
use Rattle.std.specs.Option.{option_map}
use Rattle.std.specs.List.{slice_get}
use Rattle.std.proofs.lemmas.List.{drop_all}
use Rattle.lpc_base.specs.Rows.{first}
use Rattle.lpc_model.specs.Slots.{field_lent, value_lent}
use Rattle.lpc_model.specs.declared.entry.Field.{Field}
use Rattle.lpc_model.specs.declared.entry.FieldName.{FieldName}
use Rattle.lpc_model.specs.declared.entry.Lent.{Lent}

first-from : (p : Field → Bool) (fields : List Field) (at : ℕ) (name : FieldName) (value : Lent) → option_map (λ f. f.name) (slice_get fields at) ≡ Some name → option_map (λ f. f.value) (slice_get fields at) ≡ Some (value_lent value) → first p (drop at fields) ≡ cond (p (field_lent name value)) (Some (field_lent name value)) (first p (drop (suc at) fields))
first-from p [] at name value n v = absurd (cc)
first-from p (f ∷ fs) zero name value n v =
    let same_name : f.name ≡ name = cc in
    let same_value : f.value ≡ value_lent value = cc in
    rw (sym same_name, sym same_value) refl
first-from p (f ∷ fs) (suc at) name value n v = first-from p fs at name value n v

-- the field there passes, and doesn't
pub first-here : (p : Field → Bool) (fields : List Field) (at : ℕ) (name : FieldName) (value : Lent) → option_map (λ f. f.name) (slice_get fields at) ≡ Some name → option_map (λ f. f.value) (slice_get fields at) ≡ Some (value_lent value) → first p (drop at fields) ≡ first p fields → p (field_lent name value) ≡ true → Some (field_lent name value) ≡ first p fields
first-here p fields at name value n v from passes =
    sym (ap (λ b. cond b (Some (field_lent name value)) (first p (drop (suc at) fields))) passes) ∙ sym (first-from p fields at name value n v) ∙ from

pub first-past : (p : Field → Bool) (fields : List Field) (at : ℕ) (name : FieldName) (value : Lent) → option_map (λ f. f.name) (slice_get fields at) ≡ Some name → option_map (λ f. f.value) (slice_get fields at) ≡ Some (value_lent value) → first p (drop at fields) ≡ first p fields → p (field_lent name value) ≡ false → first p (drop (at + 1) fields) ≡ first p fields
first-past p fields at name value n v from fails =
    ap (λ n. first p (drop n fields)) (add-one at) ∙ sym (ap (λ b. cond b (Some (field_lent name value)) (first p (drop (suc at) fields))) fails) ∙ sym (first-from p fields at name value n v) ∙ from

-- none passes
pub first-none : (p : Field → Bool) (fields : List Field) (at : ℕ) → length fields ≤ at → first p (drop at fields) ≡ first p fields → None ≡ first p fields
first-none p fields at end from = sym (ap (first p) (drop_all at fields end)) ∙ from
