-- How the fields of an entry lie in memory: a value with bytes or SIDs lies aside, and its place has a mark.
use Rattle.std.specs.Prelude.{Bool, true, false, List, [], ◌∷◌, map, if◌then◌else◌}
use Rattle.std.specs.List.{list_any}
use Rattle.lpc_model.specs.declared.entry.Field.{Field}
use Rattle.lpc_model.specs.declared.entry.FieldName.{FieldName}
use Rattle.lpc_model.specs.declared.entry.Lent.{Lent}
use Rattle.lpc_model.specs.declared.entry.Lent.TheVariants as lent
use Rattle.lpc_model.specs.declared.entry.Short.{Short}
use Rattle.lpc_model.specs.declared.entry.Short.TheVariants as short
use Rattle.lpc_model.specs.declared.entry.Slot.{Slot}
use Rattle.lpc_model.specs.declared.entry.Value.{Value}
use Rattle.lpc_model.specs.declared.entry.Value.TheVariants as value

-- the value that is lent, and the field that has it
abbrev pub value_lent : Lent → Value
value_lent (lent.Number n) = value.Number n
value_lent (lent.Hex n) = value.Hex n
value_lent (lent.Kind kind) = value.Kind kind
value_lent (lent.Bytes bytes) = value.Bytes (record { items = bytes.now })
value_lent lent.Read = value.Read
value_lent (lent.Sids sids) = value.Sids (record { items = sids.now })
value_lent lent.TokenGroups = value.TokenGroups

abbrev pub field_lent : FieldName → Lent → Field
field_lent name lent = record { name = name; value = value_lent lent }

-- a value has bytes or SIDs; a field of these has such a value
abbrev pub is_large : Value → Bool
is_large (value.Number n) = false
is_large (value.Hex n) = false
is_large (value.Kind kind) = false
is_large (value.Bytes bytes) = true
is_large value.Read = false
is_large (value.Sids sids) = true
is_large value.TokenGroups = false

abbrev pub has_large : List Field → Bool
has_large fields = list_any (λ (field : Field). is_large field.value) fields

-- the value in a place, with this one for the mark; the field there, and all fields in their places
abbrev pub value_in : Value → Short → Value
value_in aside (short.Number n) = value.Number n
value_in aside (short.Hex n) = value.Hex n
value_in aside (short.Kind kind) = value.Kind kind
value_in aside short.Read = value.Read
value_in aside short.TokenGroups = value.TokenGroups
value_in aside short.Aside = aside

abbrev pub field_in : Value → Slot → Field
field_in aside slot = record { name = slot.name; value = value_in aside slot.value }

abbrev pub fields_in : Value → List Slot → List Field
fields_in aside slots = map (field_in aside) slots

-- a mark, and what any other place has, whatever lies aside
abbrev pub is_mark : Short → Bool
is_mark (short.Number n) = false
is_mark (short.Hex n) = false
is_mark (short.Kind kind) = false
is_mark short.Read = false
is_mark short.TokenGroups = false
is_mark short.Aside = true

abbrev pub small_value : Short → Value
small_value s = value_in (value.Number 0) s

-- the place of a value, of a field, and what lies aside of fields: 0 where none is large
abbrev pub short_of : Value → Short
short_of (value.Number n) = short.Number n
short_of (value.Hex n) = short.Hex n
short_of (value.Kind kind) = short.Kind kind
short_of (value.Bytes bytes) = short.Aside
short_of value.Read = short.Read
short_of (value.Sids sids) = short.Aside
short_of value.TokenGroups = short.TokenGroups

abbrev pub slot_of : Field → Slot
slot_of field = record { name = field.name; value = short_of field.value }

abbrev pub large_of : List Field → Value
large_of [] = value.Number 0
large_of (field ∷ fields) = if is_large field.value then field.value else large_of fields
