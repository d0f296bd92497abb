-- What a client asks of the server: which arguments each api takes, and what they mean. The formats are this project's
-- own.
use Rattle.std.specs.Prelude.{ℕ, ◌+◌, ◌≤◌, ⊤, ◌==◌, ◌&&◌, Bool, nat_le, nat_lt, List, drop, length, take, Option, None, Some, option_map, if◌then◌else◌}
use Rattle.lpc_message.specs.Layout.{word_at}
use Rattle.lpc_subsys.specs.declared.ask.Ask.{Ask}
use Rattle.lpc_subsys.specs.declared.ask.Ask.TheVariants as ask
use Rattle.lpc_subsys.specs.declared.profile.TheConstants.{CONSOLE_LIMIT, LEVEL_LIMIT, READ_LIMIT, TEXT_LIMIT, WRITE_LIMIT}

-- a request: its data, and the bytes of the client's view at the turn that answers it, where there is a view
pub record Request : Type 0 where
  pub data_bytes : List ℕ
  pub view_bytes : Option (List ℕ)

abbrev pub request_of : List ℕ → Option (List ℕ) → Request
request_of bytes view = record { data_bytes = bytes; view_bytes = view }

-- what a request asks for
pub data Asked : Type 0 where
  -- the atom of a text; the text of an atom
  atom_of : List ℕ → Asked
  text_of : ℕ → Asked
  -- bytes to be put behind those in the console; the console's bytes from a place on, so many at most
  writing : List ℕ → Asked
  reading : ℕ → ℕ → Asked
  -- another shutdown level; the shutdown level
  setting : ℕ → Asked
  telling : Asked

-- something where a test holds
abbrev pub where_holds : Bool → Asked → Option Asked
where_holds holds what = if holds then Some what else None

-- the bytes of a view from an offset: none where there is no view, where they are none or more than a console holds, or
-- where the view ends before them
abbrev pub part_of_view : Option (List ℕ) → ℕ → ℕ → Option (List ℕ)
part_of_view None offset size = None
part_of_view (Some bytes) offset size =
    if nat_le 1 size && (nat_le size CONSOLE_LIMIT && nat_le (offset + size) (length bytes))
    then Some (take size (drop offset bytes)) else None

-- What each api asks for by its arguments: nothing where they are of another length, or a number among them is out of
-- bounds.
-- 1: the atom of a text of 1 to 64 bytes
unfoldable pub asked_atom : List ℕ → Option Asked
asked_atom arguments = where_holds (nat_le 1 (length arguments) && nat_le (length arguments) TEXT_LIMIT) (atom_of arguments)

-- 2: the text of an atom
unfoldable pub asked_text : List ℕ → Option Asked
asked_text arguments = where_holds (length arguments == 4) (text_of (word_at arguments 0))

-- 3: that the arguments be put into the console
unfoldable pub asked_write : List ℕ → Option Asked
asked_write arguments = where_holds (nat_le (length arguments) WRITE_LIMIT) (writing arguments)

-- 4: that a part of the client's view be put there, by its offset and its size
unfoldable pub asked_view : List ℕ → Option (List ℕ) → Option Asked
asked_view arguments view =
    if length arguments == 8 then option_map writing (part_of_view view (word_at arguments 0) (word_at arguments 4)) else None

-- 5: bytes of the console, by a place and a count
unfoldable pub asked_read : List ℕ → Option Asked
asked_read arguments =
    where_holds (length arguments == 8 && nat_le (word_at arguments 4) READ_LIMIT) (reading (word_at arguments 0) (word_at arguments 4))

-- 6: another level
unfoldable pub asked_level : List ℕ → Option Asked
asked_level arguments =
    where_holds (length arguments == 4 && nat_le (word_at arguments 0) LEVEL_LIMIT) (setting (word_at arguments 0))

-- 7: the level
unfoldable pub asked_telling : List ℕ → Option Asked
asked_telling arguments = where_holds (length arguments == 0) telling

-- what the api of a number asks for; there is no other
unfoldable pub asked_by : ℕ → List ℕ → Option (List ℕ) → Option Asked
asked_by api arguments view =
    if api == 1 then asked_atom arguments
    else (if api == 2 then asked_text arguments
    else (if api == 3 then asked_write arguments
    else (if api == 4 then asked_view arguments view
    else (if api == 5 then asked_read arguments
    else (if api == 6 then asked_level arguments
    else (if api == 7 then asked_telling arguments
    else None))))))

-- what a request asks for: its data are the number of an api, and then arguments
unfoldable pub asked : Request → Option Asked
asked request =
    if nat_lt (length request.data_bytes) 4 then None
    else asked_by (word_at request.data_bytes 0) (drop 4 request.data_bytes) request.view_bytes

-- what the code reads off a request, without the bytes that it is lent
abbrev pub asked_of : Ask → Asked
asked_of (ask.AtomOf text) = atom_of text.now
asked_of (ask.TextOf atom) = text_of atom
asked_of (ask.Write bytes) = writing bytes.now
asked_of (ask.Read from count) = reading from count
asked_of (ask.SetLevel level) = setting level
asked_of ask.Level = telling

-- a text isn't longer than one that has an atom, and no more bytes are read than a reply carries
abbrev pub IsInBounds : Ask → Type 0
IsInBounds (ask.AtomOf text) = length text.now ≤ TEXT_LIMIT
IsInBounds (ask.Read from count) = count ≤ READ_LIMIT
IsInBounds other = ⊤
