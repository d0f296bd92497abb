-- What is sent for lines, one after the other.
use Rattle.std.specs.Prelude.{◌≡◌, ℕ, ◌+◌, ◌*◌, ◌^◌, ◌≤◌, List, [], ◌∷◌, ◌++◌, ◌<◌, length, Bool, true, false, IfSome, Option, Some, None, Result, Ok, Err}
use Rattle.lpc_base.specs.declared.limits.TheConstants.{LINES_LIMIT}
use Rattle.lpc_model.specs.declared.entry.Entry.{Entry}
use Rattle.lpc_model.specs.declared.fault.LineFault.{LineFault}
use Rattle.lpc_model.specs.World.{World, no_rows}
use Rattle.lpc_model.specs.Found.{objects}
use Rattle.lpc_model.specs.Lines.{ScriptLine}
use Rattle.lpc_model.specs.Machine.{Stepped}
use Rattle.lpc_model.specs.Script.{kind_number, script_lines}
use Rattle.lpc_model.specs.Text.{end_text, stop_text}
use Rattle.lpc_model.specs.Run.{done_from, line_step, numbered_line, residents_told, said_done, said_from, trace}
use Rattle.lpc_model.specs.Residents.{Resident, State}
use Rattle.lpc_subsys.specs.Clients.{ClientRow}
use Rattle.lpc_residents.specs.Kept.{kept, state_of}
use Rattle.lpc_base.specs.Streams.{Adds, Told}
use Rattle.lpc_states.specs.Rows.{rows_text}
use Rattle.lpc_replay.specs.declared.form.Form.{Form}
use Rattle.lpc_replay.specs.declared.play.Ending.{Ending}
use Rattle.lpc_replay.specs.declared.play.Ending.TheVariants as ending
use Rattle.lpc_replay.specs.declared.play.Ending.TheVariants.{Replayed, Stopped}
use Rattle.lpc_replay.specs.declared.play.Stop.{Stop}
use Rattle.lpc_replay.specs.declared.play.Stop.TheVariants.{End, SourceFailed, Fault}
use Rattle.lpc_replay.specs.Forms.{body_in, line_told, text_in, told_from}
use Rattle.lpc_replay.specs.Reading.{Reads, behind, ended_part, has_fault, passes_limit, start}

-- how far a script has run: the world and the residents that its lines so far left, how many they are, and how many entries
-- they told
pub record Progress : Type 0 where
  pub rows : World
  pub residents : List (Resident (List ClientRow))
  pub lines : ℕ
  pub told : ℕ

-- before the first line
abbrev pub begin : Progress
begin = record { rows = no_rows; residents = []; lines = 0; told = 0 }

-- what is sent of each line, how far a script has run, what the line that was run last told, and the text of what is to be
-- sent next
pub record Played : Type 0 where
  pub form : Form
  pub at : Progress
  pub entries : List Entry
  pub text : List ℕ

-- the state that a script has run to, and the step of a line from there
abbrev pub state_at : Progress → State (List ClientRow)
state_at p = state_of p.rows p.residents

abbrev pub step_at : Progress → Option ScriptLine → Stepped
step_at p said = line_step p.rows (said_done kept (state_at p) said)

-- behind one line more
abbrev pub behind_line : Progress → Option ScriptLine → Progress
behind_line p said = record {
  rows = (step_at p said).world;
  residents = residents_told kept (state_at p) said (step_at p said).entries;
  lines = p.lines + 1;
  told = p.told + length (step_at p said).entries;
}

-- what a line tells; a faulty one tells nothing
abbrev pub entries_told : Progress → Result (Option ScriptLine) LineFault → List Entry
entries_told p (Err fault) = []
entries_told p (Ok said) = (step_at p said).entries

-- the text of a line, in a form
abbrev pub line_text : Form → Progress → Option ScriptLine → List ℕ
line_text form p said = line_told form (p.lines + 1) p.rows (step_at p said)

-- the last line, at the end of a script or at a faulty line
unfoldable pub last_text : Progress → Option LineFault → List ℕ
last_text p None = end_text p.lines p.told (objects p.rows)
last_text p (Some fault) = stop_text (p.lines + 1) (kind_number fault)

abbrev pub line_and_later : Form → Progress → Result (Option ScriptLine) LineFault → (Progress → List ℕ) → List ℕ
line_and_later form p (Err fault) later = last_text p (Some fault)
line_and_later form p (Ok said) later = line_text form p said ++ later (behind_line p said)

-- what is still to be sent for these lines
unfoldable pub text_from : Form → Progress → List (List ℕ) → List ℕ
text_from form p [] = last_text p None
text_from form p (line ∷ lines) = line_and_later form p (numbered_line (p.lines + 1) line) (λ q. text_from form q lines)

-- the steps of these lines up to the first faulty one, and the text of what they tell
abbrev pub steps_of : Progress → List (List ℕ) → List Stepped
steps_of p lines = trace p.rows (done_from kept (state_at p) (said_from (p.lines + 1) lines))

abbrev pub body_text : Form → Progress → List (List ℕ) → List ℕ
body_text form p lines = told_from form (p.lines + 1) p.rows (steps_of p lines)

-- A line was run and printed, or nothing was done where it is faulty.
abbrev pub RunsLine : Form → List ℕ → Option LineFault → Progress → Progress → List ℕ → Type 0
RunsLine form line (Some fault) old new text = (numbered_line (old.lines + 1) line ≡ Err fault) × (new ≡ old)
RunsLine form line None old new text =
    (said : Option ScriptLine) × (numbered_line (old.lines + 1) line ≡ Ok said) × (new ≡ behind_line old said) × (text ≡ line_text form old said)

-- No count is past what the lines so far allow. (One line tells fewer than 2 ^ 64 entries.)
pub record AreCounted (calls lines told : ℕ) : Type 0 where
  pub limit : lines ≤ LINES_LIMIT
  pub calls_counted : calls ≤ lines
  pub told_counted : told ≤ lines * 2 ^ 64

-- where a text is said to be that of the rows of a world, it is
abbrev pub ShowsRows : Bool → List ℕ → World → Type 0
ShowsRows are_last text w = are_last ≡ true → text ≡ rows_text w

-- the place behind lines, none where one of them is faulty
abbrev pub after_line : Progress → Result (Option ScriptLine) LineFault → (Progress → Option Progress) → Option Progress
after_line p (Err fault) later = None
after_line p (Ok said) later = later (behind_line p said)

unfoldable pub behind_lines : Progress → List (List ℕ) → Option Progress
behind_lines p [] = Some p
behind_lines p (line ∷ lines) = after_line p (numbered_line (p.lines + 1) line) (λ q. behind_lines q lines)

-- behind each byte 10 of these bytes at most 4,096 more stand
abbrev pub AreSoon : List ℕ → Type 0
AreSoon bytes = (front later : List ℕ) → bytes ≡ front ++ 10 ∷ later → length later ≤ 4096

-- A replay came to a place: the lines that were read first, each ended by byte 10, were run up to there, and what they
-- tell was sent; behind them a tail was read.
pub record HasPlayed (form : Form) (left left' sent sent' : Option (List ℕ)) (p : Progress) (tail : List ℕ) : Type 0 where
  pub ended : List ℕ
  pub whole : ended_part ended ≡ ended
  pub runs : behind_lines begin (script_lines ended) ≡ Some p
  pub place : behind start ended ≡ Some (record { lines = p.lines; column = 0 })
  pub soon : AreSoon tail
  pub read : Reads left left' (ended ++ tail)
  pub told : Adds sent sent' (body_in form ended)

-- the first of these lines is faulty
abbrev pub BeginsFaulty : Progress → List ℕ → LineFault → Type 0
BeginsFaulty p bytes fault =
    (line : List ℕ) × (lines : List (List ℕ)) × (script_lines bytes ≡ line ∷ lines) × (numbered_line (p.lines + 1) line ≡ Err fault)

-- a faulty line was read, whatever comes behind
pub record IsFault (form : Form) (left left' sent sent' : Option (List ℕ)) (p : Progress) (fault : LineFault) : Type 0 where
  pub tail : List ℕ
  pub played : HasPlayed form left left' sent sent' p tail
  pub stops : (later : List ℕ) → BeginsFaulty p (tail ++ later) fault
  pub seen : has_fault (played.ended ++ tail) ≡ true

-- nothing faulty was read, and a rest that no byte 10 ends
pub record IsRest (form : Form) (left left' sent sent' : Option (List ℕ)) (p : Progress) (rest : List ℕ) : Type 0 where
  pub played : HasPlayed form left left' sent sent' p rest
  pub within : passes_limit (played.ended ++ rest) ≡ false

-- why no further line was run
abbrev pub StopsAs : Form → Stop → Option (List ℕ) → Option (List ℕ) → Option (List ℕ) → Option (List ℕ) → Progress → List ℕ → Type 0
StopsAs form End left left' sent sent' p rest = IsRest form left left' sent sent' p rest
StopsAs form SourceFailed left left' sent sent' p rest = IsRest form left left' sent sent' p rest
StopsAs form (Fault fault) left left' sent sent' p rest = IsFault form left left' sent sent' p fault

-- Where the source tells its bytes, of what is sent for all that it had left this text is still to be sent, and what a
-- sink was sure of before and is sure of now has shrunk by no more than the rest of it.
abbrev pub Spends : Form → Option (List ℕ) → List ℕ → ℕ → ℕ → Type 0
Spends form left text before now = IfSome left (λ script. before + length text ≤ now + length (text_in form script))

-- the same at a place, where what is told by this tail that was read, and by what the source has left, is to be sent
abbrev pub SpendsAt : Form → Option (List ℕ) → Option (List ℕ) → ℕ → ℕ → Progress → List ℕ → Type 0
SpendsAt form left left' before now p tail =
    Told left left' (λ script rest. before + length (text_from form p (script_lines (tail ++ rest))) ≤ now + length (text_in form script))

-- where the source tells its bytes, a sink wasn't sure of what is sent for all that it had left
abbrev pub IsUnsure : Form → Option (List ℕ) → ℕ → Type 0
IsUnsure form left sure = IfSome left (λ script. sure < length (text_in form script))

-- what is to be sent where no further line is run
abbrev pub text_next : Form → Stop → Progress → List ℕ → List ℕ
text_next form End p rest = text_from form p (script_lines rest)
text_next form SourceFailed p rest = []
text_next form (Fault fault) p rest = last_text p (Some fault)

-- A rest that no byte 10 ends was run as a line, unless it is empty, and what it tells was sent; or it is faulty.
pub record HasEnded (form : Form) (p q : Progress) (rest : List ℕ) (sent sent' : Option (List ℕ)) : Type 0 where
  pub runs : behind_lines p (script_lines rest) ≡ Some q
  pub told : Adds sent sent' (body_text form p (script_lines rest))

pub record HasFaultyRest (p q : Progress) (rest : List ℕ) (sent sent' : Option (List ℕ)) (fault : LineFault) : Type 0 where
  pub at : q ≡ p
  pub begins : BeginsFaulty p rest fault
  pub unsent : sent' ≡ sent

abbrev pub EndsAs : Form → Option LineFault → Progress → Progress → List ℕ → Option (List ℕ) → Option (List ℕ) → Type 0
EndsAs form None p q rest sent sent' = HasEnded form p q rest sent sent'
EndsAs form (Some fault) p q rest sent sent' = HasFaultyRest p q rest sent sent' fault

-- how a replay ends behind its last line
abbrev pub ending_of : Option LineFault → Ending
ending_of None = Replayed
ending_of (Some fault) = Stopped

-- the source didn't fail
abbrev pub has_not_failed : Stop → Bool
has_not_failed End = true
has_not_failed SourceFailed = false
has_not_failed (Fault fault) = true

abbrev pub ends_unfailing : Ending → Bool
ends_unfailing Replayed = true
ends_unfailing Stopped = true
ends_unfailing ending.SourceFailed = false
