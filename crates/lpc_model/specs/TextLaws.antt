-- When entries can be read back from their text.
use Rattle.std.specs.Prelude.{◌≡◌, ℕ, ◌^◌, nat_lt, Bool, true, false, ◌&&◌, List}
use Rattle.lpc_base.specs.Rows.{every}
use Rattle.lpc_sid.specs.Spelling.{is_well_formed}
use Rattle.lpc_model.specs.Text.{entries_text}
use Rattle.lpc_model.specs.declared.entry.Entry.{Entry}
use Rattle.lpc_model.specs.declared.entry.Entry.TheVariants.{Answer, Waits, Wakes, Busy, NoThread, Died, Directive}
use Rattle.lpc_model.specs.declared.entry.Field.{Field}
use Rattle.lpc_model.specs.declared.entry.FieldName.{FieldName}
use Rattle.lpc_model.specs.declared.entry.FieldName.TheVariants.{H, FirstThread, Id, Ctx, Msg, Data, Max, Info, ObjectType, Access, Handles, Pointers, Base, Size, Target, ViewBase, ViewSize, User, Groups, Level}
use Rattle.lpc_model.specs.declared.entry.Value.{Value}
use Rattle.lpc_model.specs.declared.entry.Value.TheVariants.{Number, Hex, Kind, Bytes, Sids}

-- how the values under a name are printed
pub data Sort : Type 0 where
  in_decimal : Sort
  in_hexadecimal : Sort
  as_kind : Sort
  as_bytes : Sort
  as_sids : Sort

-- handles, message identifiers, lengths and counts are printed in decimal, contexts, rights and bases in hexadecimal, the kind
-- of an object by its name, messages, what was read and what came with a connect as bytes, users and groups as SIDs
abbrev pub sort_of : FieldName → Sort
sort_of H = in_decimal
sort_of FirstThread = in_decimal
sort_of Id = in_decimal
sort_of Ctx = in_hexadecimal
sort_of Msg = as_bytes
sort_of Data = as_bytes
sort_of Max = in_decimal
sort_of Info = as_bytes
sort_of ObjectType = as_kind
sort_of Access = in_hexadecimal
sort_of Handles = in_decimal
sort_of Pointers = in_decimal
sort_of Base = in_hexadecimal
sort_of Size = in_decimal
sort_of Target = in_hexadecimal
sort_of ViewBase = in_hexadecimal
sort_of ViewSize = in_decimal
sort_of User = as_sids
sort_of Groups = as_sids
sort_of Level = in_decimal

-- a number of 32 bits
abbrev pub is_word : ℕ → Bool
is_word n = nat_lt n (2 ^ 32)

-- a value that is printed so, within its type
abbrev pub is_of_sort : Sort → Value → Bool
is_of_sort in_decimal (Number n) = nat_lt n (2 ^ 64)
is_of_sort in_hexadecimal (Hex n) = is_word n
is_of_sort as_kind (Kind kind) = true
is_of_sort as_bytes (Bytes bytes) = every (λ byte. nat_lt byte 256) bytes.items
is_of_sort as_sids (Sids sids) = every is_well_formed sids.items
is_of_sort sort value = false

-- a field whose value is of the sort that its name has
abbrev pub is_sorted_field : Field → Bool
is_sorted_field field = is_of_sort (sort_of field.name) field.value

-- the thread's number and the status of an entry, and its fields, are within their types and of their sorts
abbrev pub is_regular : Entry → Bool
is_regular (Answer tid call status fields) = is_word tid && is_word status.0 && every is_sorted_field fields
is_regular (Waits tid call fields) = is_word tid && every is_sorted_field fields
is_regular (Wakes tid call status fields) = is_word tid && is_word status.0 && every is_sorted_field fields
is_regular (Busy tid) = is_word tid
is_regular (NoThread tid) = is_word tid
is_regular (Died tid status) = is_word tid && is_word status.0
is_regular (Directive word status) = is_word status.0

-- regular entries of one line that have the same text are the same entries
abbrev pub TextIsUnique : Type 0
TextIsUnique = (line : ℕ) (xs ys : List Entry) → every is_regular xs ≡ true → every is_regular ys ≡ true → entries_text line xs ≡ entries_text line ys → xs ≡ ys
