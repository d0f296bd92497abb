-- What feeding a piece of a script to a line does.
use Rattle.std.specs.Prelude.{◌≡◌, ℕ, ◌+◌, ◌-◌, ◌==◌, nat_lt, Bool, true, false, List, [], ◌∷◌, ◌++◌, length, take, if◌then◌else◌}
use Rattle.std.specs.List.{before_first, list_any}
use Rattle.lpc_base.specs.declared.limits.TheConstants.{LINE_LIMIT}
use Rattle.lpc_script.specs.declared.line_buffer.Fed.{Fed}
use Rattle.lpc_script.specs.declared.line_buffer.Fed.TheVariants.{More, Line, Long}

-- a line as far as it came, and whether more of it may come: it neither ended nor is too long
pub record Gathered : Type 0 where
  pub line : List ℕ
  pub is_open : Bool

-- a byte 10 is among the bytes
abbrev pub has_end : List ℕ → Bool
has_end bytes = list_any (λ b. b == 10) bytes

-- the bytes before the first byte 10, or all where there is none
abbrev pub before_end : List ℕ → List ℕ
before_end bytes = before_first (λ b. b == 10) bytes

-- What comes of a piece: with its bytes before its first byte 10 the line is too long; or it ends by that byte; or
-- there is more of it to come.
abbrev pub what_comes : List ℕ → List ℕ → Fed
what_comes line piece =
    if nat_lt LINE_LIMIT (length line + length (before_end piece)) then Long
    else (if has_end piece then Line else More)

-- How many bytes of the piece's front are taken: up to and with its first byte 10; up to and with the byte that is one
-- too many of the line; or all.
abbrev pub taken_by : Fed → List ℕ → List ℕ → ℕ
taken_by Line line piece = length (before_end piece) + 1
taken_by Long line piece = LINE_LIMIT - length line + 1
taken_by More line piece = length piece

-- the line behind it: the bytes taken, but no byte 10, and at most 16,384
abbrev pub line_behind : List ℕ → List ℕ → List ℕ
line_behind line piece = take LINE_LIMIT (line ++ before_end piece)

-- more of the line is to come
abbrev pub is_more : Fed → Bool
is_more More = true
is_more Line = false
is_more Long = false

-- The line so far and a piece are the line behind it, the byte that was taken last and is no part of it, and the rest of
-- the piece. A line that is too long is full.
pub record IsOverrun (bytes line rest : List ℕ) : Type 0 where
  pub byte : ℕ
  pub other : (byte == 10) ≡ false
  pub parts : bytes ≡ line ++ byte ∷ rest
  pub full : length line ≡ LINE_LIMIT

abbrev pub IsParted : Fed → List ℕ → List ℕ → List ℕ → Type 0
IsParted Line bytes line rest = bytes ≡ line ++ 10 ∷ rest
IsParted Long bytes line rest = IsOverrun bytes line rest
IsParted More bytes line rest = (bytes ≡ line) × (rest ≡ [])
