-- The steps of lines that are told, each whole.
use Rattle.std.proofs.Common.{◌≡◌, ℕ, ◌+◌, List, [], ◌∷◌, refl, sym}
use Rattle.std.specs.Prelude.{Option, Ok}
use Rattle.std.proofs.lemmas.List.{append-nil}
use Rattle.lpc_base.specs.Streams.{Adds}
use Rattle.lpc_model.specs.Lines.{ScriptLine}
use Rattle.lpc_model.specs.Machine.{Stepped}
use Rattle.lpc_model.specs.Run.{numbered_line, said_from, trace}
use Rattle.lpc_replay.specs.declared.form.Form.{Form}
use Rattle.lpc_replay.specs.Forms.{steps_told}
use Rattle.lpc_replay.specs.Playing.{step_at, Progress, behind_line, steps_of}
use Rattle.lpc_replay.specs.Sending.{TellsFirst}

pub steps_go : (p : Progress) (line : List ℕ) (lines : List (List ℕ)) (said : Option ScriptLine) → numbered_line (p.lines + 1) line ≡ Ok said → steps_of p (line ∷ lines) ≡ step_at p said ∷ steps_of (behind_line p said) lines
unfolding said_from trace
steps_go p line lines said is = rw is refl

-- all lines were told
pub all_told : (form : Form) (a b : Option (List ℕ)) (run : List Stepped) → Adds a b (steps_told form run) → TellsFirst form a b run
all_told form a b run told = record { steps = run; later = []; parts = sym (append-nil run); told = told }
