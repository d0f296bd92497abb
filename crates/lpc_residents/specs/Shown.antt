-- What marks stand for: fields and entries with these bytes of a memory read and these groups of a token in place of the marks,
-- and a field that shows a message, with the mark for the bytes or without.
use Rattle.std.specs.Prelude.{ℕ, List, map, ◌&&◌, Bool, true, false}
use Rattle.lpc_sid.specs.declared.sid.Sid.{Sid}
use Rattle.lpc_model.specs.Listed.{shown_entry, shown_field}
use Rattle.lpc_model.specs.declared.entry.Entry.{Entry}
use Rattle.lpc_model.specs.declared.entry.Field.{Field}
use Rattle.lpc_model.specs.declared.entry.Value.{Value}
use Rattle.lpc_model.specs.declared.entry.Value.TheVariants.{Bytes, Read}
use Rattle.lpc_model.specs.Residents.{is_message_name}

abbrev pub fields_with : List ℕ → List Sid → List Field → List Field
fields_with read groups fields = map (shown_field (record { read = read; groups = groups })) fields

abbrev pub entry_with : List ℕ → List Sid → Entry → Entry
entry_with read groups entry = shown_entry (record { read = read; groups = groups }) entry

abbrev pub shows_bytes : Value → Bool
shows_bytes (Bytes bytes) = true
shows_bytes Read = true
shows_bytes value = false

abbrev pub is_message : Field → Bool
is_message field = is_message_name field.name && shows_bytes field.value
