-- What words of a line stand for that lie one behind the other: a front and bytes, a message and bytes.
use Rattle.std.specs.Prelude.{ℕ, List, ◌++◌, Result, Ok}
use Rattle.lpc_model.specs.declared.fault.LineFault.{LineFault}
use Rattle.lpc_model.specs.Then.{◌>>=◌}
use Rattle.lpc_model.specs.Words.{hex_word, message_word, number_word}

-- a front, and behind it the bytes that are read
abbrev pub behind : List ℕ → Result (List ℕ) LineFault → Result (List ℕ) LineFault
behind front read = do
  bytes ← read
  Ok (front ++ bytes)

-- a message, a number and bytes, each by its word
abbrev pub message_and_bytes : List ℕ → List ℕ → List ℕ → Result (List ℕ × ℕ × List ℕ) LineFault
message_and_bytes message number digits = do
  m ← message_word message
  n ← number_word number
  bytes ← hex_word digits
  Ok (m, n, bytes)
