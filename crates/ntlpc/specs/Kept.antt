-- What contracts see of a writer from which text may be kept back.
use Rattle.std.specs.Prelude.{ℕ, nat_lt, if◌then◌else◌, List, [], length, Option}
use Rattle.std.specs.Io.KnownBytes.{append_known}

-- the writer, the text that it hasn't got yet, how long that may be, and how many calls failed
pub record Kept (S : Type 0) : Type 0 where
  pub stream : S
  pub text : List ℕ
  pub room : ℕ
  pub faults : ℕ

-- what was sent to a writer that tells its bytes: those that it holds, and behind them the text that is kept back
abbrev pub sent_to : {S : Type 0} → (S → Option (List ℕ)) → Kept S → Option (List ℕ)
sent_to contents s = append_known (contents s.stream) s.text

-- the text that more is kept behind: where no room is left it is written first
abbrev pub text_before : {S : Type 0} → Kept S → List ℕ
text_before s = if nat_lt (length s.text) s.room then s.text else []
