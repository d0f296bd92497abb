-- What is kept of a storm while it runs.
use Rattle.std.specs.Prelude.{ℕ, ◌+◌, ◌%◌, ◌^◌, List, [], ◌∷◌, map, sum, count_by, Option, Some, None, Result, Ok, Err}
use Rattle.lpc_model.specs.declared.fault.LineFault.{LineFault}
use Rattle.lpc_model.specs.Found.{objects}
use Rattle.lpc_model.specs.Lines.{ScriptLine}
use Rattle.lpc_model.specs.Run.{numbered_line}
use Rattle.lpc_storm.specs.declared.line.StormLine.{StormLine}
use Rattle.lpc_storm.specs.declared.summary.Summary.{Summary}
use Rattle.lpc_storm.specs.Generated.{line_text}
use Rattle.lpc_storm.specs.Summary.{is_mismatch, is_replied}
use Rattle.lpc_replay.specs.declared.form.Form.TheVariants.{Transcript}
use Rattle.lpc_replay.specs.Playing.{Progress, begin, behind_line, last_text, line_text as text_of, step_at}

-- how far a storm has run, the fault of its last line, if any, and so far: the requests that returned with their reply,
-- the replies that fitted none, and the sum of all bytes that were printed, modulo 2^32
pub record Tally : Type 0 where
  pub at : Progress
  pub fault : Option LineFault
  pub replies : ℕ
  pub mismatches : ℕ
  pub total : ℕ

-- before the first line
abbrev pub calm : Tally
calm = record { at = begin; fault = None; replies = 0; mismatches = 0; total = 0 }

-- behind one line more, which says this
abbrev pub behind_said : Tally → Result (Option ScriptLine) LineFault → Tally
behind_said t (Err fault) =
    record { at = t.at; fault = Some fault; replies = t.replies; mismatches = t.mismatches; total = t.total }
behind_said t (Ok said) = record {
  at = behind_line t.at said;
  fault = None;
  replies = t.replies + count_by is_replied (step_at t.at said).entries;
  mismatches = t.mismatches + count_by is_mismatch (step_at t.at said).entries;
  total = (t.total + sum (text_of Transcript t.at said)) % 2 ^ 32;
}

-- behind a faulty line no line is run
abbrev pub unless_stopped : Option LineFault → Tally → Tally → Tally
unless_stopped None t next = next
unless_stopped (Some fault) t next = t

abbrev pub behind_text : Tally → List ℕ → Tally
behind_text t line = unless_stopped t.fault t (behind_said t (numbered_line (t.at.lines + 1) line))

-- behind lines
unfoldable pub behind_texts : Tally → List (List ℕ) → Tally
behind_texts t [] = t
behind_texts t (line ∷ later) = behind_texts (behind_text t line) later

abbrev pub behind_storm : Tally → List StormLine → Tally
behind_storm t lines = behind_texts t (map line_text lines)

-- what it comes to, with the last line's bytes
abbrev pub tallied : Tally → Summary
tallied t = record {
  lines = t.at.lines;
  entries = t.at.told;
  objects = objects t.at.rows;
  replies = t.replies;
  mismatches = t.mismatches;
  sum = (t.total + sum (last_text t.at t.fault)) % 2 ^ 32;
}
