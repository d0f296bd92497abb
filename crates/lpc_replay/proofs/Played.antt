-- What holds of a replay that came to a place: what it read, what it sent, and how it goes on from there.
use Rattle.std.proofs.Common.{◌≡◌, ◌⊎◌, inl, inr, ℕ, ◌+◌, ◌<◌, ◌≤◌, Bool, true, false, List, [], ◌∷◌, ◌++◌, length, refl, sym, ap, ◌∙◌, arith, append_assoc, length-append}
use Rattle.std.specs.Prelude.{◌==◌, Option, Some, None, Result, Ok, Err, is_none}
use Rattle.std.proofs.lemmas.List.{append-nil}
use Rattle.lpc_base.specs.declared.limits.TheConstants.{LINE_LIMIT, LINES_LIMIT}
use Rattle.lpc_base.specs.Streams.{Adds, Told}
use Rattle.lpc_model.specs.declared.fault.LineFault.{LineFault}
use Rattle.lpc_model.specs.Lines.{ScriptLine}
use Rattle.lpc_model.specs.Script.{script_lines}
use Rattle.lpc_model.specs.Run.{first_fault, is_well_formed, numbered_line, run_of, said_from, trace}
use Rattle.lpc_model.specs.Transcript.{body_from}
use Rattle.lpc_script.specs.Feeding.{has_end}
use Rattle.lpc_replay.specs.declared.form.Form.{Form}
use Rattle.lpc_replay.specs.declared.form.Form.TheVariants.{Transcript, States}
use Rattle.lpc_replay.specs.Forms.{body_in, text_in, told_from}
use Rattle.lpc_replay.specs.Playing.{step_at, AreSoon, HasPlayed, Progress, RunsLine, after_line, begin, behind_line, behind_lines, body_text, line_text, steps_of, text_from}
use Rattle.lpc_replay.specs.Reading.{Reads, behind, ended_part, start}
use Rattle.lpc_replay.specs.Sending.{AddsFront, IsFront, SentBut, TellsFirst}
use Rattle.lpc_replay.specs.TopCall.{Begins, CutsShort, IsBegun, IsCutShort, IsInTime, IsReadInTime, ReadsInTime}
use Rattle.lpc_replay.proofs.Cut.{steps_go}
use Rattle.lpc_replay.proofs.Ended.{ended_whole, lines_parts}
use Rattle.lpc_replay.proofs.Limits.{behind_append, ended_line, all_lack, place_ends}
use Rattle.lpc_replay.proofs.Tells.{front_but, front_on, told_same, told_then, told_weaker}
use Rattle.lpc_replay.proofs.Turns.{body_goes, body_is, fault_goes, steps_is, text_goes, whole_is}

-- lines behind lines of which none is faulty
pub record Behind (form : Form) (p : Progress) (lines : List (List ℕ)) (q : Progress) (later : List (List ℕ)) : Type 0 where
  pub text : text_from form p (lines ++ later) ≡ body_text form p lines ++ text_from form q later
  pub tells : body_text form p (lines ++ later) ≡ body_text form p lines ++ body_text form q later
  pub steps : steps_of p (lines ++ later) ≡ steps_of p lines ++ steps_of q later
  pub fault : is_none (first_fault (p.lines + 1) (lines ++ later)) ≡ is_none (first_fault (q.lines + 1) later)
  pub runs : behind_lines p (lines ++ later) ≡ behind_lines q later

pub runs_on : (p : Progress) (line : List ℕ) (lines : List (List ℕ)) (said : Option ScriptLine) → numbered_line (p.lines + 1) line ≡ Ok said → behind_lines p (line ∷ lines) ≡ behind_lines (behind_line p said) lines
unfolding behind_lines
runs_on p line lines said is = rw is refl

behind_none : (form : Form) (p : Progress) (later : List (List ℕ)) → Behind form p [] p later
unfolding told_from said_from trace
behind_none form p later = record { text = refl; tells = refl; steps = refl; fault = refl; runs = refl }

behind_case : (form : Form) (p : Progress) (r : Result (Option ScriptLine) LineFault) (line : List ℕ) (lines later : List (List ℕ)) (q : Progress) → numbered_line (p.lines + 1) line ≡ r → after_line p r (λ s. behind_lines s lines) ≡ Some q
    → ((s : Progress) → behind_lines s lines ≡ Some q → Behind form s lines q later) → Behind form p (line ∷ lines) q later
behind_case form p (Err e) line lines later q n is h = absurd (cc)
behind_case form p (Ok said) line lines later q n is h =
    let k = h (behind_line p said) is in
    let s = line_text form p said in
    record {
      text = text_goes form p line (lines ++ later) said n ∙ (ap (λ t. s ++ t) k.text ∙ (sym (append_assoc s (body_text form (behind_line p said) lines) (text_from form q later)) ∙ ap (λ b. b ++ text_from form q later) (sym (body_goes form p line lines said n))));
      tells = body_goes form p line (lines ++ later) said n ∙ (ap (λ t. s ++ t) k.tells ∙ (sym (append_assoc s (body_text form (behind_line p said) lines) (body_text form q later)) ∙ ap (λ b. b ++ body_text form q later) (sym (body_goes form p line lines said n))));
      steps = steps_go p line (lines ++ later) said n ∙ (ap (λ t. step_at p said ∷ t) k.steps ∙ ap (λ b. b ++ steps_of q later) (sym (steps_go p line lines said n)));
      fault = ap is_none (fault_goes (p.lines + 1) line (lines ++ later) said n) ∙ k.fault;
      runs = runs_on p line (lines ++ later) said n ∙ k.runs;
    }

pub behind_all : (form : Form) (p : Progress) (lines later : List (List ℕ)) (q : Progress) → behind_lines p lines ≡ Some q → Behind form p lines q later
unfolding behind_lines
behind_all form p [] later q is = let same : p ≡ q = cc in rw same (behind_none form q later)
behind_all form p (line ∷ lines) later q is = behind_case form p (numbered_line (p.lines + 1) line) line lines later q refl is (λ s at. behind_all form s lines later q at)

-- the first of lines of which none is faulty
prefix_case : (p : Progress) (r : Result (Option ScriptLine) LineFault) (line : List ℕ) (lines later : List (List ℕ)) (q : Progress) → numbered_line (p.lines + 1) line ≡ r → after_line p r (λ s. behind_lines s (lines ++ later)) ≡ Some q
    → ((s : Progress) → behind_lines s (lines ++ later) ≡ Some q → (t : Progress) × (behind_lines s lines ≡ Some t)) → (t : Progress) × (behind_lines p (line ∷ lines) ≡ Some t)
prefix_case p (Err e) line lines later q n is h = absurd (cc)
prefix_case p (Ok said) line lines later q n is h =
    let k = h (behind_line p said) is in (k.0, runs_on p line lines said n ∙ k.1)

behind_prefix : (p : Progress) (lines later : List (List ℕ)) (q : Progress) → behind_lines p (lines ++ later) ≡ Some q → (t : Progress) × (behind_lines p lines ≡ Some t)
unfolding behind_lines
behind_prefix p [] later q is = (p, refl)
behind_prefix p (line ∷ lines) later q is = prefix_case p (numbered_line (p.lines + 1) line) line lines later q refl is (λ s at. behind_prefix s lines later q at)

-- a byte 10 of two parts stands in the first or in the second
abbrev pub StandsIn : List ℕ → List ℕ → List ℕ → List ℕ → Type 0
StandsIn xs ys front later = ((more : List ℕ) × (xs ≡ front ++ 10 ∷ more)) ⊎ ((first : List ℕ) × (ys ≡ first ++ 10 ∷ later))

stands_more : (x f : ℕ) (xs ys fs later : List ℕ) → x ≡ f → StandsIn xs ys fs later → StandsIn (x ∷ xs) ys (f ∷ fs) later
stands_more x f xs ys fs later e (inl in_first) = inl (in_first.0, rw (e, in_first.1) refl)
stands_more x f xs ys fs later e (inr in_second) = inr in_second

stands_in : (xs ys front later : List ℕ) → xs ++ ys ≡ front ++ 10 ∷ later → StandsIn xs ys front later
stands_in [] ys front later h = inr (front, h)
stands_in (x ∷ xs) ys [] later h = let e : x ≡ 10 = cc in inl (xs, rw e refl)
stands_in (x ∷ xs) ys (f ∷ fs) later h =
    let e : x ≡ f = cc in
    let more : xs ++ ys ≡ fs ++ 10 ∷ later = cc in
    stands_more x f xs ys fs later e (stands_in xs ys fs later more)

-- what the lines of a front tell is no longer than what those of the whole do
body_grows : (form : Form) (front more : List ℕ) (q : Progress) → behind_lines begin (script_lines (front ++ 10 ∷ more)) ≡ Some q → length (body_in form (front ++ 10 ∷ [])) ≤ length (body_in form (front ++ 10 ∷ more))
body_grows form front more q runs =
    let ended = front ++ 10 ∷ [] in
    let whole : front ++ 10 ∷ more ≡ ended ++ more = sym (append_assoc front (10 ∷ []) more) in
    let lines : script_lines (front ++ 10 ∷ more) ≡ script_lines ended ++ script_lines more = ap script_lines whole ∙ rw (ended_whole front) at (lines_parts ended more) in
    let first = behind_prefix begin (script_lines ended) (script_lines more) q (rw lines at runs) in
    let all = behind_all form begin (script_lines ended) (script_lines more) first.0 first.1 in
    let same : body_in form (front ++ 10 ∷ more) ≡ body_in form ended ++ body_text form first.0 (script_lines more) =
    sym (body_is form (front ++ 10 ∷ more)) ∙ (ap (λ ls. body_text form begin ls) lines ∙ (all.tells ∙ ap (λ b. b ++ body_text form first.0 (script_lines more)) (body_is form ended))) in
    let size = length-append (body_in form ended) (body_text form first.0 (script_lines more)) in
    rw same (omega arith)

-- behind each byte 10 of a line, a byte and a short rest there is only the rest
pub soon_rest : (rest : List ℕ) → length rest ≤ 4096 → AreSoon rest
soon_rest rest short front later is =
    let size : length rest ≡ length (front ++ 10 ∷ later) = ap length is in
    let parts = length-append front (10 ∷ later) in
    omega arith

first_differs : (b : ℕ) (bs : List ℕ) → has_end (b ∷ bs) ≡ false → b ≡ 10 → ⊥
first_differs b bs none ten = let wrong = rw ten at none in absurd (cc)

soon_cases : (x : ℕ) (xs : List ℕ) (test : Bool) → (x == 10) ≡ test → has_end (x ∷ xs) ≡ false → has_end xs ≡ false
soon_cases x xs true t none = let wrong : true ≡ false = rw t at none in absurd (cc)
soon_cases x xs false t none = rw t at none

pub soon_line : (line rest : List ℕ) (b : ℕ) → has_end line ≡ false → length rest ≤ 4096 → AreSoon (line ++ b ∷ rest)
soon_line [] rest b none short [] later is = let e : rest ≡ later = cc in rw (← e) short
soon_line [] rest b none short (f ∷ fs) later is = let e : rest ≡ fs ++ 10 ∷ later = cc in soon_rest rest short fs later e
soon_line (x ∷ xs) rest b none short [] later is = let e : x ≡ 10 = cc in absurd (first_differs x xs none e)
soon_line (x ∷ xs) rest b none short (f ∷ fs) later is =
    let e : xs ++ b ∷ rest ≡ fs ++ 10 ∷ later = cc in
    soon_line xs rest b (soon_cases x xs (x == 10) refl none) short fs later e

pub soon_unended : (line : List ℕ) → has_end line ≡ false → AreSoon line
soon_unended [] none [] later is = absurd (cc)
soon_unended [] none (f ∷ fs) later is = absurd (cc)
soon_unended (x ∷ xs) none [] later is = let e : x ≡ 10 = cc in absurd (first_differs x xs none e)
soon_unended (x ∷ xs) none (f ∷ fs) later is =
    let e : xs ≡ fs ++ 10 ∷ later = cc in
    soon_unended xs (soon_cases x xs (x == 10) refl none) fs later e

-- what is known behind the lines that were run
pub lines_of : (form : Form) (left left' a b : Option (List ℕ)) (p : Progress) (tail later : List ℕ) → (h : HasPlayed form left left' a b p tail) → script_lines (h.ended ++ later) ≡ script_lines h.ended ++ script_lines later
lines_of form left left' a b p tail later h = rw h.whole at (lines_parts h.ended later)

pub goes_on : (form : Form) (left left' a b : Option (List ℕ)) (p : Progress) (tail later : List ℕ) → (h : HasPlayed form left left' a b p tail) → Behind form begin (script_lines h.ended) p (script_lines later)
goes_on form left left' a b p tail later h = behind_all form begin (script_lines h.ended) (script_lines later) p h.runs

pub whole_from : (form : Form) (left left' a b : Option (List ℕ)) (p : Progress) (tail later : List ℕ) → (h : HasPlayed form left left' a b p tail) → text_in form (h.ended ++ later) ≡ body_in form h.ended ++ text_from form p (script_lines later)
whole_from form left left' a b p tail later h =
    sym (whole_is form (h.ended ++ later))
    ∙ (ap (λ ls. text_from form begin ls) (lines_of form left left' a b p tail later h)
    ∙ ((goes_on form left left' a b p tail later h).text ∙ ap (λ b. b ++ text_from form p (script_lines later)) (body_is form h.ended)))

pub run_from : (form : Form) (left left' a b : Option (List ℕ)) (p : Progress) (tail later : List ℕ) → (h : HasPlayed form left left' a b p tail) → run_of (h.ended ++ later) ≡ run_of h.ended ++ steps_of p (script_lines later)
run_from form left left' a b p tail later h =
    sym (steps_is (h.ended ++ later))
    ∙ (ap (λ ls. steps_of begin ls) (lines_of form left left' a b p tail later h)
    ∙ ((goes_on form left left' a b p tail later h).steps ∙ ap (λ run. run ++ steps_of p (script_lines later)) (steps_is h.ended)))

pub formed_from : (form : Form) (left left' a b : Option (List ℕ)) (p : Progress) (tail later : List ℕ) → (h : HasPlayed form left left' a b p tail) → is_well_formed (script_lines (h.ended ++ later)) ≡ is_none (first_fault (p.lines + 1) (script_lines later))
formed_from form left left' a b p tail later h =
    ap is_well_formed (lines_of form left left' a b p tail later h) ∙ (goes_on form left left' a b p tail later h).fault

-- what is sent next is a front of what is left of the whole text
pub sent_but : (form : Form) (left left' a b : Option (List ℕ)) (p : Progress) (tail : List ℕ) → (h : HasPlayed form left left' a b p tail) → Told a b (SentBut (text_in form (h.ended ++ tail)) (text_from form p (script_lines tail)))
sent_but form left left' a b p tail h =
    told_weaker a b (λ old new. new ≡ old ++ body_in form h.ended) (SentBut (text_in form (h.ended ++ tail)) (text_from form p (script_lines tail)))
    (λ x y is. (body_in form h.ended, whole_from form left left' a b p tail tail h, is)) h.told

pub begins_as : (form : Form) (left left' a c : Option (List ℕ)) (read : List ℕ) → Reads left left' read → AddsFront a c (text_in form read) → Begins form left left' a c
begins_as form left left' a c read told begun =
    told_weaker left left' (λ old new. old ≡ read ++ new) (IsBegun form a c) (λ old new is. record { read = read; parts = is; begun = begun }) told

pub begins_here : (form : Form) (left left' a b : Option (List ℕ)) (p : Progress) (tail : List ℕ) → HasPlayed form left left' a b p tail → Begins form left left' a b
begins_here form left left' a b p tail h =
    begins_as form left left' a b (h.ended ++ tail) h.read (front_but a b (text_in form (h.ended ++ tail)) (text_from form p (script_lines tail)) (sent_but form left left' a b p tail h))

pub begins_more : (form : Form) (left left' a b c : Option (List ℕ)) (p : Progress) (tail text more : List ℕ) → HasPlayed form left left' a b p tail → AddsFront b c text → text_from form p (script_lines tail) ≡ text ++ more → Begins form left left' a c
begins_more form left left' a b c p tail text more h sent is =
    begins_as form left left' a c (h.ended ++ tail) h.read (front_on a b c (text_in form (h.ended ++ tail)) (text_from form p (script_lines tail)) text more (sent_but form left left' a b p tail h) sent is)

pub tells_here : (form : Form) (left left' a b : Option (List ℕ)) (p : Progress) (tail : List ℕ) → (h : HasPlayed form left left' a b p tail) → TellsFirst form a b (run_of (h.ended ++ tail))
tells_here form left left' a b p tail h = record {
  steps = run_of h.ended;
  later = steps_of p (script_lines tail);
  parts = run_from form left left' a b p tail tail h;
  told = h.told;
}

pub cuts_as : (form : Form) (left left' a c : Option (List ℕ)) (read : List ℕ) → Reads left left' read → TellsFirst form a c (run_of read) → CutsShort form left left' a c
cuts_as form left left' a c read told first =
    told_weaker left left' (λ old new. old ≡ read ++ new) (IsCutShort form a c) (λ old new is. record { read = read; parts = is; told = first }) told

pub cuts_here : (form : Form) (left left' a b : Option (List ℕ)) (p : Progress) (tail : List ℕ) → HasPlayed form left left' a b p tail → CutsShort form left left' a b
cuts_here form left left' a b p tail h = cuts_as form left left' a b (h.ended ++ tail) h.read (tells_here form left left' a b p tail h)

-- no less is sent than before
abbrev pub Grows : Option (List ℕ) → Option (List ℕ) → Type 0
Grows b c = Told b c (λ old new. length old ≤ length new)

pub grows_none : (b : Option (List ℕ)) → Grows b b
grows_none b = told_same b b (λ old new. length old ≤ length new) (λ x. omega arith) refl

pub grows_front : (b c : Option (List ℕ)) (text : List ℕ) → AddsFront b c text → Grows b c
grows_front b c text sent = told_weaker b c (IsFront text) (λ old new. length old ≤ length new)
    (λ x y s. let size = length-append x s.1.0 in let is : length y ≡ length (x ++ s.1.0) = ap length s.1.2 in omega arith) sent

-- so nothing is read ahead of a line that is to be run
in_first : (form : Form) (ended front later more : List ℕ) (q : Progress) (before now : List ℕ) → ended ≡ front ++ 10 ∷ more → behind_lines begin (script_lines ended) ≡ Some q → length before + length (body_in form ended) ≤ length now → length now < length before + length (body_in form (front ++ 10 ∷ [])) → length later ≤ 4096
in_first form ended front later more q before now is runs sent short =
    let less = body_grows form front more q (rw is at runs) in
    let whole : length (body_in form ended) ≡ length (body_in form (front ++ 10 ∷ more)) = ap (λ bytes. length (body_in form bytes)) is in
    absurd (omega arith)

in_time_case : (form : Form) (ended tail front later before now : List ℕ) (q : Progress) → behind_lines begin (script_lines ended) ≡ Some q → AreSoon tail → StandsIn ended tail front later → length before + length (body_in form ended) ≤ length now → length now < length before + length (body_in form (front ++ 10 ∷ [])) → length later ≤ 4096
in_time_case form ended tail front later before now q runs soon (inl there) sent short = in_first form ended front later there.0 q before now there.1 runs sent short
in_time_case form ended tail front later before now q runs soon (inr there) sent short = soon there.0 later there.1

pub told_in_time : (form : Form) (left left' a b c : Option (List ℕ)) (p : Progress) (tail : List ℕ) → (h : HasPlayed form left left' a b p tail) → Grows b c → Told a c (IsInTime form (h.ended ++ tail))
told_in_time form left left' a b c p tail h grows =
    told_then a b c (λ old new. new ≡ old ++ body_in form h.ended) (λ old new. length old ≤ length new) (IsInTime form (h.ended ++ tail))
    (λ x y z is more. λ front later at short.
    let size = length-append x (body_in form h.ended) in
    let all : length y ≡ length (x ++ body_in form h.ended) = ap length is in
    in_time_case form h.ended tail front later x z p h.runs h.soon (stands_in h.ended tail front later at) (omega arith) short) h.told grows

pub reads_in_time : (form : Form) (left left' a b c : Option (List ℕ)) (p : Progress) (tail : List ℕ) → HasPlayed form left left' a b p tail → Grows b c → ReadsInTime form left left' a c
reads_in_time form left left' a b c p tail h grows =
    told_weaker left left' (λ old new. old ≡ (h.ended ++ tail) ++ new) (IsReadInTime form a c)
    (λ old new is. record { read = h.ended ++ tail; parts = is; ahead = told_in_time form left left' a b c p tail h grows }) h.read

-- before the first line
none_told : (form : Form) → body_in form [] ≡ []
unfolding script_lines body_from told_from said_from trace
none_told Transcript = refl
none_told States = refl

pub played_none : (form : Form) (left a : Option (List ℕ)) → HasPlayed form left left a a begin []
unfolding behind_lines script_lines behind ended_part
played_none form left a = record {
  ended = [];
  whole = refl;
  runs = refl;
  place = refl;
  soon = soon_unended [] refl;
  read = told_same left left (λ old new. old ≡ [] ++ [] ++ new) (λ x. refl) refl;
  told = told_same a a (λ old new. new ≡ old ++ body_in form []) (λ x. sym (ap (λ t. x ++ t) (none_told form) ∙ append-nil x)) refl;
}

-- more was read behind the lines
pub read_on : (form : Form) (left left1 left2 a b : Option (List ℕ)) (p : Progress) (piece read tail : List ℕ) → HasPlayed form left left1 a b p piece → Reads left1 left2 read → piece ++ read ≡ tail → AreSoon tail → HasPlayed form left left2 a b p tail
read_on form left left1 left2 a b p piece read tail h told is soon = record {
  ended = h.ended;
  whole = h.whole;
  runs = h.runs;
  place = h.place;
  soon = soon;
  read = told_then left left1 left2 (λ old new. old ≡ (h.ended ++ piece) ++ new) (λ old new. old ≡ read ++ new) (λ old new. old ≡ (h.ended ++ tail) ++ new)
      (λ x y z s t.
      let all : (h.ended ++ piece) ++ (read ++ z) ≡ (h.ended ++ tail) ++ z = rw (← is) (simp append_assoc) in
      s ∙ (ap (λ w. (h.ended ++ piece) ++ w) t ∙ all)) h.read told;
  told = h.told;
}

-- one line more was run, and what it tells was sent
pub line_run : (form : Form) (left left' a b c : Option (List ℕ)) (p q : Progress) (line piece text : List ℕ) → HasPlayed form left left' a b p (line ++ 10 ∷ piece) → has_end line ≡ false → length line ≤ LINE_LIMIT → p.lines < LINES_LIMIT → RunsLine form line None p q text → Adds b c text → length piece ≤ 4096 → HasPlayed form left left' a c q piece
unfolding script_lines told_from behind_lines said_from trace
line_run form left left' a b c p q line piece text h lacks limit few runs sent short =
    let more = line ++ 10 ∷ [] in
    let whole : (h.ended ++ line) ++ 10 ∷ [] ≡ h.ended ++ more = append_assoc h.ended line (10 ∷ []) in
    let one : script_lines more ≡ line ∷ [] = ended_line line [] (all_lack line lacks) in
    let on = goes_on form left left' a b p (line ++ 10 ∷ piece) more h in
    let lines = lines_of form left left' a b p (line ++ 10 ∷ piece) more h in
    let bytes : h.ended ++ (line ++ 10 ∷ piece) ≡ (h.ended ++ more) ++ piece = simp append_assoc refl in
    let place : behind start (h.ended ++ more) ≡ Some (record { lines = q.lines; column = 0 }) = behind_append start h.ended more ∙ rw (h.place, place_ends p.lines line lacks limit few, runs.2) refl in
    let last : body_text form p (line ∷ []) ≡ text = body_goes form p line [] runs.0 runs.1 ∙ (append-nil (line_text form p runs.0) ∙ sym runs.3) in
    let tells : body_in form (h.ended ++ more) ≡ body_in form h.ended ++ text =
    sym (body_is form (h.ended ++ more)) ∙ (ap (λ ls. body_text form begin ls) lines
    ∙ (on.tells ∙ (ap (λ b. b ++ body_text form p (script_lines more)) (body_is form h.ended) ∙ ap (λ t. body_in form h.ended ++ t) (ap (λ ls. body_text form p ls) one ∙ last)))) in
    record {
      ended = h.ended ++ more;
      whole = rw whole at (ended_whole (h.ended ++ line));
      runs = ap (λ ls. behind_lines begin ls) lines ∙ (on.runs ∙ (ap (λ ls. behind_lines p ls) one ∙ (runs_on p line [] runs.0 runs.1 ∙ ap (λ (r : Progress). Some r) (sym runs.2))));
      place = place;
      soon = soon_rest piece short;
      read = rw bytes at h.read;
      told = told_then a b c (λ old new. new ≡ old ++ body_in form h.ended) (λ old new. new ≡ old ++ text) (λ old new. new ≡ old ++ body_in form (h.ended ++ more))
          (λ x y z s t. t ∙ (ap (λ w. w ++ text) s ∙ (append_assoc x (body_in form h.ended) text ∙ ap (λ w. x ++ w) (sym tells)))) h.told sent;
    }
