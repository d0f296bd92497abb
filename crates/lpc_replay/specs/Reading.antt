-- How much of a script is read.
use Rattle.std.specs.Prelude.{◌≡◌, ℕ, ◌+◌, ◌<◌, ◌≤◌, ◌==◌, length, max, nat_le, Bool, true, false, not, ◌||◌, List, [], ◌∷◌, ◌++◌, Option, Some, None, is_none, option_and_then, if◌then◌else◌}
use Rattle.std.specs.List.{list_any}
use Rattle.lpc_base.specs.declared.limits.TheConstants.{LINE_LIMIT, LINES_LIMIT}
use Rattle.lpc_base.specs.declared.streams.Asked.{Asked}
use Rattle.lpc_base.specs.Streams.{Told}
use Rattle.lpc_model.specs.Script.{script_lines}
use Rattle.lpc_model.specs.Run.{is_well_formed}
use Rattle.lpc_script.specs.Feeding.{IsOverrun}
use Rattle.lpc_replay.specs.declared.reading.NextLine.{NextLine}
use Rattle.lpc_replay.specs.declared.reading.NextLine.TheVariants.{Whole, TooLong, TooMany, End, SourceFailed}

-- how far a script is read: so many whole lines, and so many bytes of the next one
pub record Place : Type 0 where
  pub lines : ℕ
  pub column : ℕ

-- the place behind one more byte; none where it is a byte of a line too many, or one too many of its line
abbrev pub behind_byte : Place → ℕ → Option Place
behind_byte p b =
    if nat_le LINES_LIMIT p.lines then None
    else (if b == 10 then Some (record { lines = p.lines + 1; column = 0 })
    else (if nat_le LINE_LIMIT p.column then None
    else Some (record { lines = p.lines; column = p.column + 1 })))

-- the place behind more bytes, none where they pass a limit
unfoldable pub behind : Place → List ℕ → Option Place
behind p [] = Some p
behind p (b ∷ bs) = option_and_then (λ q. behind q bs) (behind_byte p b)

-- before the first byte
abbrev pub start : Place
start = record { lines = 0; column = 0 }

-- so many bytes of a script pass a limit: a line is too long, or there is one too many
abbrev pub passes_limit : List ℕ → Bool
passes_limit script = is_none (behind start script)

-- Of what a source had left and has left, where it tells its bytes: these bytes are read.
abbrev pub Reads : Option (List ℕ) → Option (List ℕ) → List ℕ → Type 0
Reads left left' bytes = Told left left' (λ old new. old ≡ bytes ++ new)

-- what was left of a piece, and behind it what was read
pub record Fills (left left' : Option (List ℕ)) (old new : List ℕ) : Type 0 where
  pub read : List ℕ
  pub told : Reads left left' read
  pub parts : new ≡ old ++ read

-- What the reading of a line came to: bytes are the line, the byte behind it, and the rest of them.
abbrev pub ComesTo : NextLine → List ℕ → List ℕ → List ℕ → Type 0
ComesTo Whole bytes line rest = bytes ≡ line ++ 10 ∷ rest
ComesTo TooLong bytes line rest = IsOverrun bytes line rest
ComesTo TooMany bytes line rest = (line ≡ []) × (bytes ≡ rest) × (0 < length rest)
ComesTo End bytes line rest = (bytes ≡ line) × (rest ≡ [])
ComesTo SourceFailed bytes line rest = (bytes ≡ line) × (rest ≡ [])

-- the bytes are those that were left of a piece, and behind them what was read
pub record Advances (left left' : Option (List ℕ)) (next : NextLine) (piece line rest : List ℕ) : Type 0 where
  pub read : List ℕ
  pub told : Reads left left' read
  pub comes : ComesTo next (piece ++ read) line rest

-- a line was read
abbrev pub is_line : NextLine → Bool
is_line Whole = true
is_line TooLong = true
is_line TooMany = false
is_line End = false
is_line SourceFailed = false

-- the source failed
abbrev pub has_failed : NextLine → Bool
has_failed SourceFailed = true
has_failed next = false

-- A source was asked for nothing behind its end or behind a failure, where it could still be asked at first, and at no
-- time for more than 4,096 bytes at once.
pub record IsAskedForPieces (before now : Asked) : Type 0 where
  pub late : before.running ≡ true → now.late ≡ before.late
  pub widest : now.widest ≤ max before.widest 4096

-- the bytes up to the last byte 10, that one too: a byte is among them where there is a byte 10 from it on
unfoldable pub ended_part : List ℕ → List ℕ
ended_part [] = []
ended_part (b ∷ bs) = if list_any (λ c. c == 10) (b ∷ bs) then b ∷ ended_part bs else []

-- the lines that are ended by byte 10; a rest behind the last byte 10 is none of them
abbrev pub ended_lines : List ℕ → List (List ℕ)
ended_lines bytes = script_lines (ended_part bytes)

-- What is read holds a faulty line, whatever comes behind it: a line that is ended by byte 10 is faulty, or what is
-- read passes a limit. So a rest without byte 10 counts as soon as it is too long, or is of a line too many.
abbrev pub has_fault : List ℕ → Bool
has_fault read = passes_limit read || not (is_well_formed (ended_lines read))
