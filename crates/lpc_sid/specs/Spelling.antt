-- The text of a SID.
use Rattle.std.specs.Prelude.{ℕ, ◌^◌, ◌==◌, nat_lt, nat_le, Bool, ◌&&◌, List, [], ◌∷◌, ◌++◌, codes, decimal, drop, length, map, Option, Some, None, option_and_then, if◌then◌else◌}
use Rattle.std.specs.List.{flat_map, slice_split}
use Rattle.std.specs.Str.{bytes_eq}
use Rattle.std.specs.Str.Parse.{digits_value}
use Rattle.lpc_base.specs.Rows.{every}
use Rattle.lpc_sid.specs.declared.sid.Sid.{Sid}

-- a number behind a dash
abbrev pub dashed : ℕ → List ℕ
dashed n = codes "-" ++ decimal n

-- the spelling of a SID: `S-1-`, the authority, and each number preceded by `-`, in decimal without leading zeros
unfoldable pub spelling : Sid → List ℕ
spelling sid = codes "S-1-" ++ decimal sid.authority ++ flat_map dashed sid.subs.items

-- at most 15 numbers of 32 bits
abbrev pub are_words : List ℕ → Bool
are_words ns = nat_le (length ns) 15 && every (λ n. nat_lt n (2 ^ 32)) ns

-- a SID in the published form: an authority of 48 bits, and 1 to 15 numbers of 32 bits
abbrev pub is_well_formed : Sid → Bool
is_well_formed sid = nat_lt sid.authority (2 ^ 48) && nat_le 1 (length sid.subs.items) && are_words sid.subs.items

-- what stands between the dashes of a text
abbrev pub parts : List ℕ → List (List ℕ)
parts text = slice_split (λ b. b == 45) text

-- the numbers between the dashes of a text, behind its first two parts
abbrev pub numbers_of : List ℕ → List ℕ
numbers_of text = map (digits_value 10) (drop 2 (parts text))

-- the SID that has these numbers, its authority first
abbrev pub sid_from : List ℕ → Option Sid
sid_from [] = None
sid_from (authority ∷ subs) = Some (record { authority = authority; subs = record { items = subs } })

-- a SID where the text is its spelling
abbrev pub if_spelled : List ℕ → Sid → Option Sid
if_spelled text sid = if is_well_formed sid && bytes_eq (spelling sid) text then Some sid else None

-- the SID that a text spells, none where it is the spelling of none: it can only be the one that has the text's numbers
unfoldable pub sid_of : List ℕ → Option Sid
sid_of text = option_and_then (if_spelled text) (sid_from (numbers_of text))
