-- One line of a replay, its end, and the whole text as what is sent line by line.
use Rattle.lpc_residents.proofs.Kept.{kept-stands}
use Rattle.lpc_residents.specs.Kept.{kept}
use Rattle.lpc_subsys.specs.Clients.{ClientRow}
use Rattle.lpc_model.specs.Residents.{Resident}
use Rattle.std.proofs.Common.{◌≡◌, ℕ, ◌+◌, ◌<◌, false, List, [], ◌∷◌, ◌++◌, length, refl, sym, ap, ◌∙◌, arith, append_assoc, length-append}
use Rattle.std.specs.Prelude.{Option, Some, None, Result, Ok, Err, is_none}
use Rattle.lpc_base.specs.declared.limits.TheConstants.{LINES_LIMIT}
use Rattle.lpc_model.specs.declared.entry.Entry.{Entry}
use Rattle.lpc_model.specs.declared.fault.LineFault.{LineFault}
use Rattle.lpc_model.specs.Grammar.{read_line}
use Rattle.lpc_replay.proofs.Removing.{numbered_reads}
use Rattle.lpc_model.specs.World.{World, no_rows}
use Rattle.lpc_model.specs.Machine.{Stepped}
use Rattle.lpc_model.specs.Found.{objects}
use Rattle.lpc_model.specs.Lines.{ScriptLine}
use Rattle.lpc_model.specs.Script.{kind_number, script_lines}
use Rattle.lpc_model.specs.Text.{end_text, entries_text, stop_text}
use Rattle.lpc_model.specs.Run.{first_state, state_behind, done_in, done_from, FaultyLine, all_entries, faulty_or, first_fault, numbered_line, run_of, said_from, trace, unless_faulty, world_behind}
use Rattle.lpc_model.specs.Transcript.{body_from, last_line, transcript}
use Rattle.lpc_replay.specs.declared.form.Form.{Form}
use Rattle.lpc_replay.specs.declared.form.Form.TheVariants.{Transcript, States}
use Rattle.lpc_replay.specs.Forms.{body_in, steps_told, text_in, told_from}
use Rattle.lpc_replay.specs.Playing.{step_at, state_at, Progress, RunsLine, begin, behind_line, body_text, entries_told, last_text, line_text, steps_of, text_from}

pub text_goes : (form : Form) (p : Progress) (line : List ℕ) (lines : List (List ℕ)) (said : Option ScriptLine) → numbered_line (p.lines + 1) line ≡ Ok said → text_from form p (line ∷ lines) ≡ line_text form p said ++ text_from form (behind_line p said) lines
unfolding text_from
text_goes form p line lines said is = rw is refl

pub text_stops : (form : Form) (p : Progress) (line : List ℕ) (lines : List (List ℕ)) (fault : LineFault) → numbered_line (p.lines + 1) line ≡ Err fault → text_from form p (line ∷ lines) ≡ last_text p (Some fault)
unfolding text_from
text_stops form p line lines fault is = rw is refl

-- the same without the last line
pub body_goes : (form : Form) (p : Progress) (line : List ℕ) (lines : List (List ℕ)) (said : Option ScriptLine) → numbered_line (p.lines + 1) line ≡ Ok said → body_text form p (line ∷ lines) ≡ line_text form p said ++ body_text form (behind_line p said) lines
unfolding said_from trace told_from
body_goes form p line lines said is = rw is refl

pub body_stops : (form : Form) (p : Progress) (line : List ℕ) (lines : List (List ℕ)) (fault : LineFault) → numbered_line (p.lines + 1) line ≡ Err fault → body_text form p (line ∷ lines) ≡ []
unfolding said_from trace told_from
body_stops form p line lines fault is = rw is refl

pub body_ends : (form : Form) (p : Progress) (rest : List ℕ) → length rest ≡ 0 → body_text form p (script_lines rest) ≡ []
unfolding said_from trace told_from script_lines
body_ends form p [] none = refl
body_ends form p (b ∷ bs) none = absurd (omega arith)

-- what lines tell is the front of what is sent for them, and for them and later ones
body_case : (form : Form) (p : Progress) (r : Result (Option ScriptLine) LineFault) (line : List ℕ) (lines later : List (List ℕ)) → numbered_line (p.lines + 1) line ≡ r
    → ((q : Progress) → (rest : List ℕ) × (text_from form q (lines ++ later) ≡ body_text form q lines ++ rest))
    → (rest : List ℕ) × (text_from form p (line ∷ (lines ++ later)) ≡ body_text form p (line ∷ lines) ++ rest)
body_case form p (Err fault) line lines later is h =
    (text_from form p (line ∷ (lines ++ later)), sym (ap (λ b. b ++ text_from form p (line ∷ (lines ++ later))) (body_stops form p line lines fault is)))
body_case form p (Ok said) line lines later is h =
    let f = h (behind_line p said) in
    let goes = text_goes form p line (lines ++ later) said is ∙ ap (λ t. line_text form p said ++ t) f.1 in
    (f.0, goes ∙ (sym (append_assoc (line_text form p said) (body_text form (behind_line p said) lines) f.0) ∙ ap (λ b. b ++ f.0) (sym (body_goes form p line lines said is))))

pub body_front : (form : Form) (p : Progress) (lines later : List (List ℕ)) → (rest : List ℕ) × (text_from form p (lines ++ later) ≡ body_text form p lines ++ rest)
unfolding said_from trace told_from
body_front form p [] later = (text_from form p later, refl)
body_front form p (line ∷ lines) later = body_case form p (numbered_line (p.lines + 1) line) line lines later refl (λ q. body_front form q lines later)

pub fault_goes : (n : ℕ) (line : List ℕ) (lines : List (List ℕ)) (said : Option ScriptLine) → numbered_line n line ≡ Ok said → first_fault n (line ∷ lines) ≡ first_fault (n + 1) lines
unfolding first_fault
fault_goes n line lines said is = rw is refl

pub fault_stops : (n : ℕ) (line : List ℕ) (lines : List (List ℕ)) (fault : LineFault) → numbered_line n line ≡ Err fault → is_none (first_fault n (line ∷ lines)) ≡ false
unfolding first_fault
fault_stops n line lines fault is = rw is refl

-- the last line, by the lines from a place on
last_from : Option FaultyLine → Progress → ℕ → List (Option ScriptLine) → List ℕ
last_from None p n said =
    let done = done_from kept (state_at p) said in
    end_text (p.lines + n) (p.told + length (all_entries (trace p.rows done))) (objects (world_behind p.rows done))
last_from (Some f) p n said = stop_text f.number (kind_number f.fault)

last_ends : (p : Progress) → last_text p None ≡ last_from None p 0 []
unfolding last_from last_text trace world_behind
last_ends p =
    let a : p.lines + 0 ≡ p.lines = omega arith in
    let b : p.told + 0 ≡ p.told = omega arith in
    rw (a, b) refl

last_goes : (o : Option FaultyLine) (p : Progress) (n : ℕ) (said : Option ScriptLine) (later : List (Option ScriptLine)) → last_from o (behind_line p said) n later ≡ last_from o p (n + 1) (said ∷ later)
unfolding last_from trace world_behind
last_goes None p n said later =
    let s = step_at p said in
    let done = done_from kept (state_at (behind_line p said)) later in
    let a : p.lines + 1 + n ≡ p.lines + (n + 1) = omega arith in
    let l : length (s.entries ++ all_entries (trace s.world done)) ≡ length s.entries + length (all_entries (trace s.world done)) = length-append s.entries (all_entries (trace s.world done)) in
    let b : p.told + length s.entries + length (all_entries (trace s.world done)) ≡ p.told + length (s.entries ++ all_entries (trace s.world done)) = omega (arith, l) in
    rw (a, b) refl
last_goes (Some f) p n said later = refl

-- the text from a place on is the body of the lines from there on, and the last line
text_case : (form : Form) (p : Progress) (r : Result (Option ScriptLine) LineFault) (line : List ℕ) (lines : List (List ℕ)) → numbered_line (p.lines + 1) line ≡ r
    → ((q : Progress) → text_from form q lines ≡ told_from form (q.lines + 1) q.rows (trace q.rows (done_from kept (state_at q) (said_from (q.lines + 1) lines))) ++ last_from (first_fault (q.lines + 1) lines) q (length lines) (said_from (q.lines + 1) lines))
    → text_from form p (line ∷ lines) ≡ told_from form (p.lines + 1) p.rows (trace p.rows (done_from kept (state_at p) (unless_faulty r (said_from (p.lines + 1 + 1) lines)))) ++ last_from (faulty_or (p.lines + 1) r (first_fault (p.lines + 1 + 1) lines)) p (length lines + 1) (unless_faulty r (said_from (p.lines + 1 + 1) lines))
unfolding told_from trace last_from last_text
text_case form p (Err fault) line lines is h = text_stops form p line lines fault is
text_case form p (Ok said) line lines is h =
    text_goes form p line lines said is
    ∙ rw (h (behind_line p said), last_goes (first_fault (p.lines + 1 + 1) lines) p (length lines) said (said_from (p.lines + 1 + 1) lines), append_assoc) refl

text_is : (form : Form) (p : Progress) (lines : List (List ℕ)) → text_from form p lines ≡ told_from form (p.lines + 1) p.rows (trace p.rows (done_from kept (state_at p) (said_from (p.lines + 1) lines))) ++ last_from (first_fault (p.lines + 1) lines) p (length lines) (said_from (p.lines + 1) lines)
unfolding text_from told_from trace first_fault said_from
text_is form p [] = last_ends p
text_is form p (line ∷ lines) =
    let e : length (line ∷ lines) ≡ length lines + 1 = omega arith in
    rw e (text_case form p (numbered_line (p.lines + 1) line) line lines refl (λ q. text_is form q lines))

-- what the lines come to is the same, whether residents keep requests or what these come to
pub done_is : (lines : List (List ℕ)) → done_from kept (state_at begin) (said_from 1 lines) ≡ done_in lines
done_is lines = sym (kept-stands first_state (said_from 1 lines))

pub steps_is : (bytes : List ℕ) → steps_of begin (script_lines bytes) ≡ run_of bytes
steps_is bytes = ap (λ done. trace no_rows done) (done_is (script_lines bytes))

-- what steps tell in a form, and what they tell of entries alone
told_entries : (n : ℕ) (w : World) (run : List Stepped) → told_from Transcript n w run ≡ body_from n run
unfolding told_from body_from
told_entries n w [] = refl
told_entries n w (s ∷ later) = ap (λ t. entries_text n s.entries ++ t) (told_entries (n + 1) s.world later)

steps_told_is : (form : Form) (run : List Stepped) → told_from form 1 no_rows run ≡ steps_told form run
steps_told_is Transcript run = told_entries 1 no_rows run
steps_told_is States run = refl

pub body_is : (form : Form) (bytes : List ℕ) → body_text form begin (script_lines bytes) ≡ body_in form bytes
body_is form bytes = ap (λ run. told_from form 1 no_rows run) (steps_is bytes) ∙ steps_told_is form (run_of bytes)

last_is : (o : Option FaultyLine) (bytes : List ℕ) → last_from o begin (length (script_lines bytes)) (said_from 1 (script_lines bytes)) ≡ last_line o bytes
unfolding last_from
last_is None bytes =
    let a : 0 + length (script_lines bytes) ≡ length (script_lines bytes) = omega arith in
    let told = length (all_entries (trace no_rows (done_in (script_lines bytes)))) in
    let b : 0 + told ≡ told = omega arith in
    rw (done_is (script_lines bytes), a, b) refl
last_is (Some f) bytes = refl

whole_case : (form : Form) (bytes : List ℕ) → told_from form 1 no_rows (run_of bytes) ++ last_line (first_fault 1 (script_lines bytes)) bytes ≡ text_in form bytes
unfolding transcript
whole_case Transcript bytes = ap (λ b. b ++ last_line (first_fault 1 (script_lines bytes)) bytes) (told_entries 1 no_rows (run_of bytes))
whole_case States bytes = refl

pub whole_is : (form : Form) (bytes : List ℕ) → text_from form begin (script_lines bytes) ≡ text_in form bytes
whole_is form bytes =
    let lines = script_lines bytes in
    text_is form begin lines
    ∙ (ap (λ done. told_from form 1 no_rows (trace no_rows done) ++ last_from (first_fault 1 lines) begin (length lines) (said_from 1 lines)) (done_is lines)
    ∙ (ap (λ last. told_from form 1 no_rows (trace no_rows (done_in lines)) ++ last) (last_is (first_fault 1 lines) bytes)
    ∙ whole_case form bytes))

-- a line that was run and printed
pub runs_said : (form : Form) (p : Progress) (line : List ℕ) (said : Option ScriptLine) (w : World) (rs : List (Resident (List ClientRow))) (count : ℕ) (text : List ℕ) → p.lines < LINES_LIMIT → read_line line ≡ Ok said → w ≡ (state_behind kept (state_at p) said).world → rs ≡ (state_behind kept (state_at p) said).residents → count ≡ length (step_at p said).entries → text ≡ line_text form p said → RunsLine form line None p (record { rows = w; residents = rs; lines = p.lines + 1; told = p.told + count }) text
runs_said form p line said w rs count text few reads moves stays counts prints =
    (said, numbered_reads (p.lines + 1) line (omega arith) ∙ reads, rw (moves, stays, counts) refl, prints)

-- what it tells
pub tells_said : (p : Progress) (line : List ℕ) (said : Option ScriptLine) (told : List Entry) → p.lines < LINES_LIMIT → read_line line ≡ Ok said → told ≡ (step_at p said).entries → told ≡ entries_told p (numbered_line (p.lines + 1) line)
tells_said p line said told few reads is = rw (numbered_reads (p.lines + 1) line (omega arith), reads) is

-- behind a line that was run
pub run_goes : (form : Form) (p q : Progress) (lines : List (List ℕ)) (line : List ℕ) (more : List (List ℕ)) (text : List ℕ) → lines ≡ line ∷ more → RunsLine form line None p q text → text_from form p lines ≡ text ++ text_from form q more
run_goes form p q lines line more text is runs = rw (is, runs.2, runs.3) (text_goes form p line more runs.0 runs.1)
