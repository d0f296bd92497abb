-- The names of tokens.
use Rattle.std.specs.Prelude.{ℕ, nat_le, Bool, List, length, Option, option_map}
use Rattle.std.specs.Str.{bytes_eq}
use Rattle.arrayvec.specs.ArrayVec.{ArrayVec}
use Rattle.lpc_base.specs.Rows.{first}
use Rattle.lpc_sid.specs.declared.token.Token.{Token}
use Rattle.lpc_tokens.specs.declared.names.TheConstants.{TOKEN_NAME_LIMIT}

-- a token and its name
pub record TokenName : Type 0 where
  pub name : List ℕ
  pub token : Token

-- the tokens that have names, in the order in which they got them, and how many more go in without memory
pub record TokenNames : Type 0 where
  pub rows : List TokenName
  pub spare : ℕ

-- a token's name is this
abbrev pub is_named : List ℕ → TokenName → Bool
is_named name row = bytes_eq row.name name

-- the token that has a name
abbrev pub named : List TokenName → List ℕ → Option Token
named rows name = option_map (λ (row : TokenName). row.token) (first (is_named name) rows)

-- a token's name has no more bytes than a name may have
abbrev pub is_short : TokenName → Bool
is_short row = nat_le (length row.name) TOKEN_NAME_LIMIT

-- an entry of the table that keeps them
abbrev pub shown_name : ArrayVec ℕ × Token → TokenName
shown_name entry = record { name = entry.0.items; token = entry.1 }
