-- What the top call promises.
use Rattle.std.specs.Prelude.{◌≡◌, ◌<◌, ◌≤◌, ◌+◌, length, ℕ, nat_le, ◌==◌, ◌||◌, Bool, true, false, List, [], ◌∷◌, ◌++◌, Option, Some, None, IfSome, is_some, Result, Ok, codes, string_bytes, if◌then◌else◌}
use Rattle.std.specs.List.{list_any}
use Rattle.std.specs.Str.{bytes_eq}
use Rattle.std.specs.declared.string.String.{String}
use Rattle.lpc_base.specs.Streams.{Adds, Rose, Told}
use Rattle.lpc_model.specs.declared.fault.LineFault.{LineFault}
use Rattle.lpc_model.specs.Script.{script_lines}
use Rattle.lpc_model.specs.Words.{number_word}
use Rattle.lpc_model.specs.Run.{is_well_formed, run_of}
use Rattle.lpc_storm.specs.declared.rounds.TheConstants.{ROUNDS_LIMIT}
use Rattle.lpc_storm.specs.Generated.{generated}
use Rattle.lpc_storm.specs.Summary.{summary}
use Rattle.lpc_replay.specs.declared.form.Form.{Form}
use Rattle.lpc_replay.specs.declared.form.Form.TheVariants.{Transcript, States}
use Rattle.lpc_replay.specs.Forms.{body_in, text_in}
use Rattle.lpc_replay.specs.Reading.{ended_lines, ended_part, has_fault, passes_limit}
use Rattle.lpc_replay.specs.Sending.{AddsFront, TellsFirst}

-- the words are `replay` alone
abbrev pub is_replay : {A : Type 0} → List (String A) → Bool
is_replay (word ∷ []) = bytes_eq (string_bytes word) (codes "replay")
is_replay words = false

-- the words are `states` alone
abbrev pub is_states : {A : Type 0} → List (String A) → Bool
is_states (word ∷ []) = bytes_eq (string_bytes word) (codes "states")
is_states words = false

-- what the words say to send of the lines of a script, if they say to replay one
abbrev pub form_of : {A : Type 0} → List (String A) → Option Form
form_of words = if is_replay words then Some Transcript else (if is_states words then Some States else None)

-- The words are `storm N SEED`, with N a Number from 0 to 200000 and SEED a Number: so many rounds, and the seed.
abbrev pub storm_numbers : Result ℕ LineFault → Result ℕ LineFault → Option (ℕ × ℕ)
storm_numbers (Ok count) (Ok seed) = if nat_le count ROUNDS_LIMIT then Some (count, seed) else None
storm_numbers count seed = None

abbrev pub storm_of : {A : Type 0} → List (String A) → Option (ℕ × ℕ)
storm_of (word ∷ count ∷ seed ∷ []) =
    if bytes_eq (string_bytes word) (codes "storm") then storm_numbers (number_word (string_bytes count)) (number_word (string_bytes seed))
    else None
storm_of words = None

-- the words are one of the forms
abbrev pub is_form : {A : Type 0} → List (String A) → Bool
is_form words = is_some (form_of words) || is_some (storm_of words)

-- the script of a storm, and what is sent for it
abbrev pub storm_text : ℕ × ℕ → List ℕ
storm_text storm = summary (generated storm.0 storm.1)

-- what is sent where the words are none of the forms
abbrev pub usage : List ℕ
usage = codes "usage: ntlpc COMMAND [WORDS]\n"

-- the status is one of these
abbrev pub is_one_of : List ℕ → ℕ → Bool
is_one_of statuses status = list_any (λ s. s == status) statuses

-- how a replay ends that no failure ends: a well-formed script is replayed whole and another one to its first faulty
-- line, unless memory runs out
abbrev pub unfailing_statuses : Bool → List ℕ
unfailing_statuses true = 0 ∷ 5 ∷ []
unfailing_statuses false = 2 ∷ 5 ∷ []

-- where the source tells its bytes, this holds with a sink that is sure of what is sent for all that it had left
abbrev pub IfSure : Form → Option (List ℕ) → ℕ → Type 0 → Type 0
IfSure form left sure P = IfSome left (λ script. length (text_in form script) ≤ sure → P)

-- a count didn't rise
abbrev pub Still : ℕ → ℕ → Type 0
Still before now = Rose before now → ⊥

-- Of what a source had left and has left, and what a sink was sent by then and by now, where they tell their bytes.
-- All of the script is read, and its text in this form is sent.
abbrev pub Replays : Form → Option (List ℕ) → Option (List ℕ) → Option (List ℕ) → Option (List ℕ) → Type 0
Replays form left left' sent sent' =
    Told left left' (λ script rest. (rest ≡ []) × Adds sent sent' (text_in form script))

-- What is read holds a faulty line, and its text, which ends with the stop at that line, is sent. The faulty line is ended
-- by byte 10, unless what is read passes a limit or is all.
pub record IsStopped (form : Form) (sent sent' : Option (List ℕ)) (script rest : List ℕ) : Type 0 where
  pub read : List ℕ
  pub parts : script ≡ read ++ rest
  pub faulty : is_well_formed (script_lines read) ≡ false
  pub counted : is_well_formed (ended_lines read) ≡ true → passes_limit read ≡ false → rest ≡ []
  pub transcribed : Adds sent sent' (text_in form read)

abbrev pub Stops : Form → Option (List ℕ) → Option (List ℕ) → Option (List ℕ) → Option (List ℕ) → Type 0
Stops form left left' sent sent' = Told left left' (IsStopped form sent sent')

-- No line that was read is faulty: none that is ended by byte 10, and what is read passes no limit. What the lines tell
-- that are ended by byte 10 is sent, without a last line.
pub record IsBrokenOff (form : Form) (sent sent' : Option (List ℕ)) (script rest : List ℕ) : Type 0 where
  pub read : List ℕ
  pub parts : script ≡ read ++ rest
  pub sound : is_well_formed (ended_lines read) ≡ true
  pub within : passes_limit read ≡ false
  pub told : Adds sent sent' (body_in form (ended_part read))

abbrev pub BreaksOff : Form → Option (List ℕ) → Option (List ℕ) → Option (List ℕ) → Option (List ℕ) → Type 0
BreaksOff form left left' sent sent' = Told left left' (IsBrokenOff form sent sent')

-- What is sent begins the text of what is read, wherever the replay ends: also where the sink fails or memory
-- runs out, and where the source fails.
pub record IsBegun (form : Form) (sent sent' : Option (List ℕ)) (script rest : List ℕ) : Type 0 where
  pub read : List ℕ
  pub parts : script ≡ read ++ rest
  pub begun : AddsFront sent sent' (text_in form read)

abbrev pub Begins : Form → Option (List ℕ) → Option (List ℕ) → Option (List ℕ) → Option (List ℕ) → Type 0
Begins form left left' sent sent' = Told left left' (IsBegun form sent sent')

-- What is sent is what some first lines tell of those that are read, each whole, and no last line.
pub record IsCutShort (form : Form) (sent sent' : Option (List ℕ)) (script rest : List ℕ) : Type 0 where
  pub read : List ℕ
  pub parts : script ≡ read ++ rest
  pub told : TellsFirst form sent sent' (run_of read)

abbrev pub CutsShort : Form → Option (List ℕ) → Option (List ℕ) → Option (List ℕ) → Option (List ℕ) → Type 0
CutsShort form left left' sent sent' = Told left left' (IsCutShort form sent sent')

-- Wherever a line ends in what is read, and what the lines up to its end tell is more than what is sent, at most 4,096
-- bytes more are read: so what a line tells waits for no more than these.
abbrev pub IsInTime : Form → List ℕ → List ℕ → List ℕ → Type 0
IsInTime form read before now =
    (front later : List ℕ) → read ≡ front ++ 10 ∷ later → length now < length before + length (body_in form (front ++ 10 ∷ [])) → length later ≤ 4096

pub record IsReadInTime (form : Form) (sent sent' : Option (List ℕ)) (script rest : List ℕ) : Type 0 where
  pub read : List ℕ
  pub parts : script ≡ read ++ rest
  pub ahead : Told sent sent' (IsInTime form read)

abbrev pub ReadsInTime : Form → Option (List ℕ) → Option (List ℕ) → Option (List ℕ) → Option (List ℕ) → Type 0
ReadsInTime form left left' sent sent' = Told left left' (IsReadInTime form sent sent')

-- where the source tells its bytes, and what is read holds a faulty line, the replay stops at a faulty line, unless the
-- sink fails or memory runs out
abbrev pub StopsAtFault : Option (List ℕ) → Option (List ℕ) → ℕ → Type 0
StopsAtFault left left' status =
    IfSome left (λ script. IfSome left' (λ rest. (read : List ℕ) → script ≡ read ++ rest → has_fault read ≡ true → is_one_of (2 ∷ 4 ∷ 5 ∷ []) status ≡ true))

-- Where the source tells its bytes, a replay that stopped and read no fault whatever comes behind it counted no failure
-- of the source: so a rest without byte 10 counts as a line only where the source answered its end.
abbrev pub StopsUnfailing : Option (List ℕ) → Option (List ℕ) → ℕ → ℕ → Type 0
StopsUnfailing left left' before now =
    IfSome left (λ script. IfSome left' (λ rest. (read : List ℕ) → script ≡ read ++ rest → has_fault read ≡ false → now ≡ before))

-- where the source tells its bytes, the script that it had left is well formed, or isn't
abbrev pub IsFormed : Bool → Option (List ℕ) → Type 0
IsFormed formed left = IfSome left (λ script. is_well_formed (script_lines script) ≡ formed)

-- where the source tells its bytes, a replay ends as the script that it had left says
abbrev pub EndsAsFormed : Option (List ℕ) → ℕ → Type 0
EndsAsFormed left status =
    IfSome left (λ script. is_one_of (unfailing_statuses (is_well_formed (script_lines script))) status ≡ true)
