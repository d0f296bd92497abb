-- The reply to a request of a client, over the list of the client's requests before it. No state: what the server knows
-- of a client is found in the list.
use Rattle.std.specs.Prelude.{ℕ, ◌+◌, ◌-◌, ◌≡◌, nat_le, nat_lt, List, [], ◌∷◌, ◌++◌, drop, fold, length, position, slice_get, take, option_map, Option, None, Some, if◌then◌else◌}
use Rattle.std.specs.List.{filter_map}
use Rattle.std.specs.Option.{option_and_then}
use Rattle.std.specs.Str.{bytes_eq}
use Rattle.byteorder.specs.Endian.{little_bytes}
use Rattle.lpc_base.specs.Rows.{without}
use Rattle.lpc_base.specs.declared.Status.{Status}
use Rattle.lpc_base.specs.declared.status.TheConstants.{INVALID_PARAMETER, OBJECT_NAME_NOT_FOUND, QUOTA_EXCEEDED, SUCCESS}
use Rattle.lpc_subsys.specs.Requests.{Asked, Request, asked, atom_of, reading, setting, telling, text_of, writing}
use Rattle.lpc_subsys.specs.declared.profile.TheConstants.{ATOM_LIMIT, CONSOLE_LIMIT, FIRST_ATOM, FIRST_LEVEL}

-- Atoms
-- the text whose atom is asked for
abbrev pub named_text : Asked → Option (List ℕ)
named_text (atom_of text) = Some text
named_text other = None

-- each text once, where it comes first
abbrev pub different : List (List ℕ) → List (List ℕ)
different [] = []
different (text ∷ texts) = text ∷ without (bytes_eq text) (different texts)

-- the texts whose atoms requests ask for, in their order
abbrev pub named_in : List Request → List (List ℕ)
named_in requests = filter_map (λ request. option_and_then named_text (asked request)) requests

-- the texts that have atoms after requests: the first 64 different ones
abbrev pub texts_after : List Request → List (List ℕ)
texts_after requests = take ATOM_LIMIT (different (named_in requests))

-- The console
-- the bytes that are to be put into the console
abbrev pub written_bytes : Asked → Option (List ℕ)
written_bytes (writing bytes) = Some bytes
written_bytes other = None

abbrev pub written_in : List Request → List (List ℕ)
written_in requests = filter_map (λ request. option_and_then written_bytes (asked request)) requests

-- a console with further bytes behind its own, where it holds them all
abbrev pub with_bytes : List ℕ → List ℕ → List ℕ
with_bytes console bytes = if nat_le (length console + length bytes) CONSOLE_LIMIT then console ++ bytes else console

-- what stands in the console after requests
abbrev pub console_after : List Request → List ℕ
console_after requests = fold with_bytes [] (written_in requests)

-- The shutdown level
abbrev pub set_level : Asked → Option ℕ
set_level (setting level) = Some level
set_level other = None

-- the last of some numbers, or this one where there is none
abbrev pub last_of : ℕ → List ℕ → ℕ
last_of number [] = number
last_of number (other ∷ others) = last_of other others

-- the level after requests: the last one that was set, 640 at first
abbrev pub level_after : List Request → ℕ
level_after requests = last_of FIRST_LEVEL (filter_map (λ request. option_and_then set_level (asked request)) requests)

-- Replies
-- a refusal is its status; what is granted is success and then the results
unfoldable pub refused : Status → List ℕ
refused status = little_bytes 4 status.0

unfoldable pub granted : List ℕ → List ℕ
granted results = little_bytes 4 SUCCESS.0 ++ results

-- a reply begins with success
abbrev pub IsGranted : List ℕ → Type 0
IsGranted reply = take 4 reply ≡ little_bytes 4 SUCCESS.0

-- results, or a refusal where there are none
abbrev pub granted_or : Status → Option (List ℕ) → List ℕ
granted_or status None = refused status
granted_or status (Some results) = granted results

-- the atom of a text, where the texts that have atoms hold it; the text of an atom
abbrev pub atom_in : List (List ℕ) → List ℕ → Option ℕ
atom_in texts text = option_map (λ place. FIRST_ATOM + place) (position (bytes_eq text) texts)

abbrev pub text_in : List (List ℕ) → ℕ → Option (List ℕ)
text_in texts atom = if nat_lt atom FIRST_ATOM then None else slice_get texts (atom - FIRST_ATOM)

-- how many bytes stand in the console with further ones, where it holds them
abbrev pub size_with : List ℕ → List ℕ → Option ℕ
size_with console bytes =
    if nat_le (length console + length bytes) CONSOLE_LIMIT then Some (length console + length bytes) else None

-- the console's bytes from a place that isn't past its end, so many at most
abbrev pub read_from : List ℕ → ℕ → ℕ → Option (List ℕ)
read_from console from count = if nat_le from (length console) then Some (take count (drop from console)) else None

-- a number as a result
unfoldable pub number_bytes : ℕ → List ℕ
number_bytes number = little_bytes 4 number

-- the reply to what a request asks for, by the texts that have atoms with this request, and by the texts, the console and
-- the level before it
abbrev pub reply_by : List (List ℕ) → List (List ℕ) → List ℕ → ℕ → Asked → List ℕ
reply_by known texts console level (atom_of text) = granted_or QUOTA_EXCEEDED (option_map number_bytes (atom_in known text))
reply_by known texts console level (text_of atom) = granted_or OBJECT_NAME_NOT_FOUND (text_in texts atom)
reply_by known texts console level (writing bytes) = granted_or QUOTA_EXCEEDED (option_map number_bytes (size_with console bytes))
reply_by known texts console level (reading from count) = granted_or INVALID_PARAMETER (read_from console from count)
reply_by known texts console level (setting other) = granted []
reply_by known texts console level telling = granted (number_bytes level)

abbrev pub reply_where : Option Asked → (Asked → List ℕ) → List ℕ
reply_where None reply = refused INVALID_PARAMETER
reply_where (Some what) reply = reply what

-- the reply to a request behind others of the same client
abbrev pub reply_to : List Request → Request → List ℕ
reply_to before request =
    reply_where (asked request) (reply_by (texts_after (before ++ request ∷ [])) (texts_after before) (console_after before) (level_after before))
