-- Fields in their places, with the large value aside.
use Rattle.std.proofs.Common.{◌≡◌, refl, ap, sym, ◌∙◌, false, true, cond, List, [], ◌∷◌, ◌++◌, map}
use Rattle.std.proofs.lemmas.List.{map-append}
use Rattle.std.proofs.lemmas.Bool.{or_parts}
use Rattle.lpc_model.specs.declared.entry.Field.{Field}
use Rattle.lpc_model.specs.declared.entry.FieldName.{FieldName}
use Rattle.lpc_model.specs.declared.entry.Short.{Short}
use Rattle.lpc_model.specs.declared.entry.Short.TheVariants as short
use Rattle.lpc_model.specs.declared.entry.Slot.{Slot}
use Rattle.lpc_model.specs.declared.entry.Value.{Value}
use Rattle.lpc_model.specs.declared.entry.Value.TheVariants as value
use Rattle.lpc_model.specs.Slots.{field_in, fields_in, has_large, is_large, is_mark, large_of, short_of, slot_of, small_value, value_in}

-- a value that isn't large stands in its place, whatever lies aside
value-back : (aside v : Value) → is_large v ≡ false → value_in aside (short_of v) ≡ v
value-back aside (value.Bytes b) e = absurd (cc)
value-back aside (value.Sids s) e = absurd (cc)
value-back aside v e = refl

field-back : (aside : Value) (field : Field) → is_large field.value ≡ false → field_in aside (slot_of field) ≡ field
field-back aside field e = ap (λ v. let f : Field = record { name = field.name; value = v } in f) (value-back aside field.value e)

fields-back : (aside : Value) (fields : List Field) → has_large fields ≡ false → fields_in aside (map slot_of fields) ≡ fields
fields-back aside [] e = refl
fields-back aside (field ∷ fields) e =
    let both = or_parts (is_large field.value) _ e in
    let head = field-back aside field both.0 in
    let tail = fields-back aside fields both.1 in cc

-- what lies aside of fields and one more
large-behind : (fields : List Field) (field : Field) → is_large field.value ≡ false → large_of (fields ++ field ∷ []) ≡ large_of fields
large-behind [] field e = ap (λ b. cond b field.value (value.Number 0)) e
large-behind (first ∷ fields) field e = ap (λ v. cond (is_large first.value) first.value v) (large-behind fields field e)

large-first : (fields : List Field) (field : Field) → has_large fields ≡ false → is_large field.value ≡ true → large_of (fields ++ field ∷ []) ≡ field.value
large-first [] field none e = ap (λ b. cond b field.value (value.Number 0)) e
large-first (first ∷ fields) field none e =
    let both = or_parts (is_large first.value) _ none in
    ap (λ b. cond b first.value (large_of (fields ++ field ∷ []))) both.0 ∙ large-first fields field both.1 e

-- fields stand so in places, with this aside
pub record Stand (aside : Value) (slots : List Slot) (fields : List Field) : Type 0 where
  pub shows : fields_in aside slots ≡ fields
  pub places : map slot_of (fields_in aside slots) ≡ slots
  pub large : large_of (fields_in aside slots) ≡ aside

stand : (aside : Value) (slots : List Slot) (fields : List Field) → fields_in aside slots ≡ fields → map slot_of fields ≡ slots → large_of fields ≡ aside → Stand aside slots fields
stand aside slots fields shows places large = record { shows = shows; places = ap (map slot_of) shows ∙ places; large = ap large_of shows ∙ large }

next-place : (fields : List Field) (slots : List Slot) (field : Field) → map slot_of fields ≡ slots → map slot_of (fields ++ field ∷ []) ≡ slots ++ slot_of field ∷ []
next-place fields slots field is = map-append slot_of fields (field ∷ []) ∙ ap (λ xs. xs ++ slot_of field ∷ []) is

-- one more field that isn't large, and one that is where none was
add-small : (aside : Value) (slots : List Slot) (field : Field) → is_large field.value ≡ false → map slot_of (fields_in aside slots) ≡ slots → large_of (fields_in aside slots) ≡ aside → Stand aside (slots ++ slot_of field ∷ []) (fields_in aside slots ++ field ∷ [])
add-small aside slots field e places large =
    stand aside (slots ++ slot_of field ∷ []) (fields_in aside slots ++ field ∷ [])
    (map-append (field_in aside) slots (slot_of field ∷ []) ∙ ap (λ x. fields_in aside slots ++ x ∷ []) (field-back aside field e))
    (next-place (fields_in aside slots) slots field places)
    (large-behind (fields_in aside slots) field e ∙ large)

small-is : (s : Short) → is_mark s ≡ false → short_of (small_value s) ≡ s
small-is short.Aside e = absurd (cc)
small-is s e = refl

small-plain : (s : Short) → is_mark s ≡ false → is_large (small_value s) ≡ false
small-plain short.Aside e = absurd (cc)
small-plain s e = refl

pub small-added : (aside : Value) (slots : List Slot) (name : FieldName) (s : Short) → is_mark s ≡ false → map slot_of (fields_in aside slots) ≡ slots → large_of (fields_in aside slots) ≡ aside → Stand aside (slots ++ record { name = name; value = s } ∷ []) (fields_in aside slots ++ record { name = name; value = small_value s } ∷ [])
small-added aside slots name s e places large =
    rw (small-is s e) at (add-small aside slots (record { name = name; value = small_value s }) (small-plain s e) places large)

large-is : (v : Value) → is_large v ≡ true → short_of v ≡ short.Aside
large-is (value.Bytes b) e = refl
large-is (value.Sids s) e = refl
large-is v e = absurd (cc)

pub large-added : (was : Value) (slots : List Slot) (name : FieldName) (v : Value) → is_large v ≡ true → has_large (fields_in was slots) ≡ false → map slot_of (fields_in was slots) ≡ slots → Stand v (slots ++ record { name = name; value = short.Aside } ∷ []) (fields_in was slots ++ record { name = name; value = v } ∷ [])
large-added was slots name v e none places =
    let field : Field = record { name = name; value = v } in
    let slot : Slot = record { name = name; value = short.Aside } in
    stand v (slots ++ slot ∷ []) (fields_in was slots ++ field ∷ [])
    (map-append (field_in v) slots (slot ∷ []) ∙ ap (λ xs. xs ++ field ∷ []) (ap (fields_in v) (sym places) ∙ fields-back v (fields_in was slots) none))
    (next-place (fields_in was slots) slots field places ∙ ap (λ x. let one : Slot = record { name = name; value = x } in slots ++ one ∷ []) (large-is v e))
    (large-first (fields_in was slots) field none e)
