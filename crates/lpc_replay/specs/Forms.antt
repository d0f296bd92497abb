-- What a replay sends of a script, by its form.
use Rattle.std.specs.Prelude.{ℕ, ◌+◌, List, [], ◌∷◌, ◌++◌}
use Rattle.lpc_model.specs.World.{World, no_rows}
use Rattle.lpc_model.specs.Machine.{Stepped}
use Rattle.lpc_model.specs.Script.{script_lines}
use Rattle.lpc_model.specs.Text.{entries_text}
use Rattle.lpc_model.specs.Run.{first_fault, run_of}
use Rattle.lpc_model.specs.Transcript.{body_from, last_line, transcript}
use Rattle.lpc_states.specs.Changes.{states_text}
use Rattle.lpc_replay.specs.declared.form.Form.{Form}
use Rattle.lpc_replay.specs.declared.form.Form.TheVariants.{Transcript, States}

-- the text of a line of this number, whose step is taken in this world: its entries; and in the form of states, behind
-- them, what became of the world's rows
abbrev pub line_told : Form → ℕ → World → Stepped → List ℕ
line_told Transcript n w s = entries_text n s.entries
line_told States n w s = entries_text n s.entries ++ states_text n w s.world

-- the text of steps in order, the first in this world, of lines that are numbered from n
unfoldable pub told_from : Form → ℕ → World → List Stepped → List ℕ
told_from form n w [] = []
told_from form n w (s ∷ later) = line_told form n w s ++ told_from form (n + 1) s.world later

-- the text of the first steps of a script
abbrev pub steps_told : Form → List Stepped → List ℕ
steps_told Transcript steps = body_from 1 steps
steps_told States steps = told_from States 1 no_rows steps

-- the text of all lines before the first faulty one
abbrev pub body_in : Form → List ℕ → List ℕ
body_in form bytes = steps_told form (run_of bytes)

-- what is sent for a script: its transcript; and in the form of states the same last line behind the text of its lines
abbrev pub text_in : Form → List ℕ → List ℕ
text_in Transcript bytes = transcript bytes
text_in States bytes = body_in States bytes ++ last_line (first_fault 1 (script_lines bytes)) bytes
