-- What a line begins with: the call of a thread or a directive; a number and the word behind it.
use Rattle.std.specs.Prelude.{ℕ, ◌≤◌, Bool, true, List, length, Option, None, Some, Result, Ok}
use Rattle.lpc_model.specs.declared.fault.LineFault.{LineFault}
use Rattle.lpc_model.specs.Grammar.{call_words, directive_words, one_or_two_words, two_words}
use Rattle.lpc_model.specs.Lines.{ScriptLine, run}
use Rattle.lpc_model.specs.Then.{◌>>=◌}
use Rattle.lpc_model.specs.Words.{is_id, number_word, words}
use Rattle.lpc_script.specs.declared.head.Head.{Head}
use Rattle.lpc_script.specs.declared.head.Head.TheVariants.{Nothing, Call, Directive}

-- what a text says by what it begins with and the words behind that
abbrev pub line_headed : Head → Result (Option ScriptLine) LineFault
line_headed Nothing = Ok None
line_headed (Call tid name rest) = do
  call ← call_words name (words rest.now)
  Ok (Some (run tid call))
line_headed (Directive word rest) = do
  line ← directive_words word (words rest.now)
  Ok (Some line)

-- the thread of a call has the number of one
abbrev pub has_thread : Head → Bool
has_thread (Call tid name rest) = is_id tid
has_thread head = true

-- what stands behind is no longer than the text
abbrev pub IsNoLonger : List ℕ → Head → Type 0
IsNoLonger text Nothing = Unit {0}
IsNoLonger text (Call tid name rest) = length rest.now ≤ length text
IsNoLonger text (Directive word rest) = length rest.now ≤ length text

-- a number and the word behind it
abbrev pub number_and_word : List (List ℕ) → Result (ℕ × List ℕ) LineFault
number_and_word others = do
  two ← two_words others
  n ← number_word two.0
  Ok (n, two.1)

-- a number, and perhaps a word behind it
abbrev pub number_and_given : List (List ℕ) → Result (ℕ × Option (List ℕ)) LineFault
number_and_given others = do
  two ← one_or_two_words others
  n ← number_word two.0
  Ok (n, two.1)
