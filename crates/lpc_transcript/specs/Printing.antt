-- What is printed, and what stands of a text while more of it is printed.
use Rattle.std.specs.Prelude.{◌≡◌, ℕ, ◌+◌, ◌/◌, ◌%◌, ◌<◌, List, [], ◌∷◌, ◌++◌, codes, decimal, length, map, OnOk, Result, slice_index, take, Vec, vec_capacity, vec_items}
use Rattle.hex.specs.Hex.{lower_digits}
use Rattle.lpc_base.specs.declared.status.Status.{Status}
use Rattle.lpc_sid.specs.Spelling.{spelling}
use Rattle.lpc_sid.specs.declared.sid.Sid.{Sid}
use Rattle.lpc_model.specs.Listed.{Aside, shown_entry, shown_field, shown_value}
use Rattle.lpc_model.specs.Text.{by_text, entries_text, entry_text, field_text, fields_text, name_text, rest_text, status_text, value_text, word_text}
use Rattle.lpc_model.specs.declared.entry.CallName.{CallName}
use Rattle.lpc_model.specs.declared.entry.Entry.{Entry}
use Rattle.lpc_model.specs.declared.entry.Field.{Field}
use Rattle.lpc_model.specs.declared.entry.FieldName.{FieldName}
use Rattle.lpc_model.specs.declared.entry.Value.{Value}
use Rattle.lpc_model.specs.declared.entry.Word.{Word}

-- a text begins with another, so that what was printed first stands as it was
pub record BeginsWith (text front : List ℕ) : Type 0 where
  pub same : take (length front) text ≡ front

-- where it succeeds, more stands behind the text
abbrev pub Puts : {T E : Type 0} → List ℕ → List ℕ → List ℕ → Result T E → Type 0
Puts before now more result = OnOk result (now ≡ before ++ more)

-- there is no room for so much behind the text
abbrev pub LacksRoom : {Z : Type 0} → Vec ℕ Z → List ℕ → Type 0
LacksRoom into more = vec_capacity into < length (vec_items into) + length more

-- what was gathered so far: the text, and behind it what a buffer has up to this place
abbrev pub gathered : {Z : Type 0} → Vec ℕ Z → List ℕ → ℕ → List ℕ
gathered into buffer at = vec_items into ++ take at buffer

-- there is no room for what was gathered and so much behind it
abbrev pub Overfills : {Z : Type 0} → Vec ℕ Z → List ℕ → ℕ → List ℕ → Type 0
Overfills into buffer at more = vec_capacity into < length (gathered into buffer at) + length more

-- a byte as two hexadecimal digits
abbrev pub pair_of : ℕ → List ℕ
pair_of byte = slice_index lower_digits (byte / 16) ∷ slice_index lower_digits (byte % 16) ∷ []

-- what stands in place of marks: these bytes where a memory read stands, and these groups where those of a token do
abbrev pub aside_of : List ℕ → List Sid → Aside
aside_of read groups = record { read = read; groups = groups }

-- the text of a value, of a field, of fields, of what stands behind a line's number, of an entry and of entries, with
-- this in place of the marks
abbrev pub value_of : Aside → Value → List ℕ
value_of aside value = value_text (shown_value aside value)

abbrev pub field_of : Aside → FieldName → Value → List ℕ
field_of aside name value = field_text (shown_field aside (record { name = name; value = value }))

abbrev pub fields_of : Aside → List Field → List ℕ
fields_of aside fields = fields_text (map (shown_field aside) fields)

abbrev pub rest_of : Aside → Entry → List ℕ
rest_of aside entry = rest_text (shown_entry aside entry)

abbrev pub line_of : ℕ → Aside → Entry → List ℕ
line_of line aside entry = entry_text line (shown_entry aside entry)

abbrev pub lines_of : ℕ → Aside → List Entry → List ℕ
lines_of line aside entries = entries_text line (map (shown_entry aside) entries)

-- the text of a SID behind another: a comma comes first
abbrev pub further_text : Sid → List ℕ
further_text sid = codes "," ++ spelling sid

-- what a field begins with: a space, its name and an equals sign
abbrev pub front_of : FieldName → List ℕ
front_of name = codes " " ++ name_text name ++ codes "="

-- a thread, its call and the status with which the call ended; a thread that died; a directive and its status
abbrev pub ended_text : ℕ → CallName → Status → List ℕ
ended_text tid call status = by_text tid call ++ status_text status

abbrev pub died_text : ℕ → Status → List ℕ
died_text tid status = codes "~" ++ decimal tid ++ codes " died" ++ status_text status

abbrev pub directive_text : Word → Status → List ℕ
directive_text word status = codes "- " ++ word_text word ++ status_text status
