-- How a replay stops, and what its last line makes of what was sent.
use Rattle.std.proofs.Common.{◌≡◌, ℕ, ◌+◌, ◌<◌, ◌≤◌, Bool, true, false, List, [], ◌∷◌, ◌++◌, length, refl, sym, ap, subst, ◌∙◌, arith, append_assoc, length-append}
use Rattle.std.specs.Prelude.{Option, Some, None, Result, Ok, Err, IfOk, IfSome, OnErr, OnOk, is_none, nat_lt, nat_le}
use Rattle.std.proofs.lemmas.Bool.Decides.{nat_tests}
use Rattle.std.proofs.lemmas.List.{append-nil}
use Rattle.std.proofs.Math.Bool.{or-true}
use Rattle.lpc_base.specs.declared.limits.TheConstants.{LINE_LIMIT, LINES_LIMIT}
use Rattle.lpc_base.specs.Streams.{Adds, Told}
use Rattle.lpc_model.specs.declared.fault.LineFault.{LineFault}
use Rattle.lpc_model.specs.declared.fault.LineFault.TheVariants as fault
use Rattle.lpc_model.specs.Grammar.{read_line}
use Rattle.lpc_model.specs.Script.{script_lines}
use Rattle.lpc_model.specs.Run.{first_fault, is_well_formed, run_of, said_from, trace}
use Rattle.lpc_script.specs.Feeding.{IsOverrun, has_end}
use Rattle.lpc_replay.specs.declared.form.Form.{Form}
use Rattle.lpc_replay.specs.Forms.{body_in, text_in}
use Rattle.lpc_replay.specs.Playing.{BeginsFaulty, EndsAs, HasEnded, HasPlayed, IsFault, IsRest, Progress, RunsLine, begin, body_text, ending_of, last_text, steps_of, text_from}
use Rattle.lpc_replay.specs.Reading.{Place, Reads, behind, ended_lines, ended_part, has_fault, passes_limit, start}
use Rattle.lpc_replay.specs.Sending.{AddsFront, SentBut, TellsFirst}
use Rattle.lpc_replay.specs.TopCall.{Begins, BreaksOff, CutsShort, IsBrokenOff, IsFormed, IsInTime, IsReadInTime, ReadsInTime, Replays, Stops, StopsAtFault}
use Rattle.lpc_replay.specs.declared.play.Ending.{Ending}
use Rattle.lpc_replay.specs.declared.play.Ending.TheVariants as ending
use Rattle.lpc_replay.specs.declared.play.PlayError.{PlayError}
use Rattle.lpc_replay.proofs.Ended.{ended_behind, ended_sound, ended_unended}
use Rattle.lpc_replay.proofs.Formed.{sound_read}
use Rattle.lpc_replay.proofs.Limits.{all_lack, begun_line, behind_append, ended_line, full_byte, place_at, some_line, sound_within}
use Rattle.lpc_replay.proofs.Played.{Grows, begins_as, behind_all, cuts_as, formed_from, goes_on, grows_front, lines_of, sent_but, tells_here, told_in_time}
use Rattle.lpc_replay.proofs.Cut.{all_told}
use Rattle.lpc_replay.proofs.Tells.{front_all, front_last, sent_last, sent_on, told_then, told_weaker}
use Rattle.lpc_replay.proofs.Turns.{body_is, body_front, fault_stops, text_stops}

-- what the first line of some bytes says where it is faulty
pub begins_text : (form : Form) (p : Progress) (bytes : List ℕ) (f : LineFault) → BeginsFaulty p bytes f → text_from form p (script_lines bytes) ≡ last_text p (Some f)
begins_text form p bytes f b = ap (λ ls. text_from form p ls) b.2 ∙ text_stops form p b.0 b.1 f b.3

begins_fault : (p : Progress) (bytes : List ℕ) (f : LineFault) → BeginsFaulty p bytes f → is_none (first_fault (p.lines + 1) (script_lines bytes)) ≡ false
begins_fault p bytes f b = ap (λ ls. is_none (first_fault (p.lines + 1) ls)) b.2 ∙ fault_stops (p.lines + 1) b.0 b.1 f b.3

-- a line that is ended is faulty
pub fault_ended : (form : Form) (left left' a b : Option (List ℕ)) (p q : Progress) (line piece text : List ℕ) (f : LineFault) → HasPlayed form left left' a b p (line ++ 10 ∷ piece) → has_end line ≡ false → RunsLine form line (Some f) p q text → IsFault form left left' a b p f
fault_ended form left left' a b p q line piece text f h lacks runs =
    let tail = line ++ 10 ∷ piece in
    let stops : (later : List ℕ) → BeginsFaulty p (tail ++ later) f = λ later.
    (line, script_lines (piece ++ later), ap script_lines (append_assoc line (10 ∷ piece) later) ∙ ended_line line (piece ++ later) (all_lack line lacks), runs.0) in
    let part : ended_part (h.ended ++ tail) ≡ h.ended ++ (line ++ 10 ∷ ended_part piece) = ended_behind h.ended line piece in
    let begun : BeginsFaulty p (line ++ 10 ∷ ended_part piece) f = (line, script_lines (ended_part piece), ended_line line (ended_part piece) (all_lack line lacks), runs.0) in
    let formed : is_well_formed (ended_lines (h.ended ++ tail)) ≡ false = ap (λ bytes. is_well_formed (script_lines bytes)) part ∙ (formed_from form left left' a b p tail (line ++ 10 ∷ ended_part piece) h ∙ begins_fault p (line ++ 10 ∷ ended_part piece) f begun) in
    record { tail = tail; played = h; stops = stops; seen = rw formed (or-true (passes_limit (h.ended ++ tail))) }

-- a line is too long
pub long_begins : (p : Progress) (line piece tail later : List ℕ) → has_end line ≡ false → p.lines < LINES_LIMIT → IsOverrun tail line piece → BeginsFaulty p (tail ++ later) fault.Long
unfolding read_line
long_begins p line piece tail later lacks few o =
    let all = all_lack line lacks in
    let within : nat_lt LINES_LIMIT (p.lines + 1) ≡ false = grind (arith, nat_tests) in
    let first = begun_line line o.byte (piece ++ later) all o.other in
    let bytes : tail ++ later ≡ line ++ o.byte ∷ (piece ++ later) = rw o.parts (append_assoc line (o.byte ∷ piece) later) in
    let one = length-append (line ++ o.byte ∷ []) first.0 in
    let two = length-append line (o.byte ∷ []) in
    let three : length (o.byte ∷ []) ≡ 1 = refl in
    let full = o.full in
    let past : nat_lt LINE_LIMIT (length ((line ++ o.byte ∷ []) ++ first.0)) ≡ true = grind (arith, nat_tests) in
    ((line ++ o.byte ∷ []) ++ first.0, first.1, ap script_lines bytes ∙ first.2, rw (within, past) refl)

pub fault_long : (form : Form) (left left' a b : Option (List ℕ)) (p : Progress) (line piece tail : List ℕ) → HasPlayed form left left' a b p tail → has_end line ≡ false → p.lines < LINES_LIMIT → IsOverrun tail line piece → IsFault form left left' a b p fault.Long
unfolding behind
fault_long form left left' a b p line piece tail h lacks few o =
    let stops : (later : List ℕ) → BeginsFaulty p (tail ++ later) fault.Long = λ later. long_begins p line piece tail later lacks few o in
    let room : nat_le LINES_LIMIT p.lines ≡ false = grind (arith, nat_tests) in
    let limit : length line ≤ LINE_LIMIT = let full = o.full in omega arith in
    let more : nat_le LINE_LIMIT (length line) ≡ true = let full = o.full in grind (arith, nat_tests) in
    let here : Place = record { lines = p.lines; column = 0 } in
    let place : behind start (h.ended ++ tail) ≡ None =
    ap (λ t. behind start (h.ended ++ t)) o.parts ∙ (behind_append start h.ended (line ++ o.byte ∷ piece) ∙ rw (h.place, behind_append here line (o.byte ∷ piece), place_at p.lines line lacks limit few, room, o.other, more) refl) in
    let over : passes_limit (h.ended ++ tail) ≡ true = ap is_none place in
    record { tail = tail; played = h; stops = stops; seen = rw over refl }

-- there are too many lines
many_line : (p : Progress) (b : ℕ) (bytes : List ℕ) → LINES_LIMIT ≤ p.lines → BeginsFaulty p (b ∷ bytes) fault.Lines
many_line p b bytes full =
    let first = some_line [] b bytes in
    let past : nat_lt LINES_LIMIT (p.lines + 1) ≡ true = grind (arith, nat_tests) in
    (first.0, first.1, first.2, rw past refl)

pub many_lines : (p : Progress) (bytes later : List ℕ) → 0 < length bytes → LINES_LIMIT ≤ p.lines → BeginsFaulty p (bytes ++ later) fault.Lines
many_lines p [] later some full = absurd (omega arith)
many_lines p (b ∷ bs) later some full = many_line p b (bs ++ later) full

pub fault_many : (form : Form) (left left' a b : Option (List ℕ)) (p : Progress) (tail : List ℕ) → HasPlayed form left left' a b p tail → 0 < length tail → LINES_LIMIT ≤ p.lines → IsFault form left left' a b p fault.Lines
fault_many form left left' a b p tail h some full =
    let here : Place = record { lines = p.lines; column = 0 } in
    let place : behind start (h.ended ++ tail) ≡ None = behind_append start h.ended tail ∙ rw (h.place, full_byte here tail some full) refl in
    let over : passes_limit (h.ended ++ tail) ≡ true = ap is_none place in
    record { tail = tail; played = h; stops = λ later. many_lines p tail later some full; seen = rw over refl }

-- a rest is within the limits
rest_case : (full : Bool) (p : Progress) (rest : List ℕ) → nat_le LINES_LIMIT p.lines ≡ full → (full ≡ true → rest ≡ []) → has_end rest ≡ false → length rest ≤ LINE_LIMIT → is_none (behind (record { lines = p.lines; column = 0 }) rest) ≡ false
unfolding behind
rest_case true p rest f none lacks limit = rw (none refl) refl
rest_case false p rest f none lacks limit = let few : p.lines < LINES_LIMIT = grind (arith, nat_tests) in rw (place_at p.lines rest lacks limit few) refl

pub rest_within : (form : Form) (left left' a b : Option (List ℕ)) (p : Progress) (rest : List ℕ) → HasPlayed form left left' a b p rest → (nat_le LINES_LIMIT p.lines ≡ true → rest ≡ []) → has_end rest ≡ false → length rest ≤ LINE_LIMIT → IsRest form left left' a b p rest
rest_within form left left' a b p rest h none lacks limit =
    let place : behind start (h.ended ++ rest) ≡ behind (record { lines = p.lines; column = 0 }) rest = behind_append start h.ended rest ∙ rw h.place refl in
    record { played = h; within = ap is_none place ∙ rest_case (nat_le LINES_LIMIT p.lines) p rest refl none lacks limit }

-- the source failed: a rest is no line
none_left : (p : Progress) → is_none (first_fault (p.lines + 1) (script_lines [])) ≡ true
unfolding first_fault script_lines
none_left p = refl

rest_sound : (form : Form) (left left' a b : Option (List ℕ)) (p : Progress) (rest : List ℕ) → (r : IsRest form left left' a b p rest) → has_end rest ≡ false → is_well_formed (ended_lines (r.played.ended ++ rest)) ≡ true
rest_sound form left left' a b p rest r lacks =
    let h = r.played in
    let part : ended_part (h.ended ++ rest) ≡ h.ended ++ [] = ended_unended h.ended rest lacks ∙ (h.whole ∙ sym (append-nil h.ended)) in
    ap (λ bytes. is_well_formed (script_lines bytes)) part ∙ (formed_from form left left' a b p rest [] h ∙ none_left p)

pub breaks_off : (form : Form) (left left' a b : Option (List ℕ)) (p : Progress) (rest : List ℕ) → IsRest form left left' a b p rest → has_end rest ≡ false → BreaksOff form left left' a b
breaks_off form left left' a b p rest r lacks =
    let h = r.played in
    let part : ended_part (h.ended ++ rest) ≡ h.ended = ended_unended h.ended rest lacks ∙ h.whole in
    told_weaker left left' (λ old new. old ≡ (h.ended ++ rest) ++ new) (IsBrokenOff form a b)
    (λ old new is. record {
      read = h.ended ++ rest;
      parts = is;
      sound = rest_sound form left left' a b p rest r lacks;
      within = r.within;
      told = rw part h.told;
    }) h.read

pub broken_sound : (form : Form) (left left' a b : Option (List ℕ)) (p : Progress) (rest : List ℕ) (status : ℕ) → IsRest form left left' a b p rest → has_end rest ≡ false → StopsAtFault left left' status
broken_sound form left left' a b p rest status r lacks =
    sound_read left left' (r.played.ended ++ rest) status r.played.read (rest_sound form left left' a b p rest r lacks) r.within

-- what is read of a script tells whether it is well formed
formed_any : (left left' : Option (List ℕ)) (read : List ℕ) (form : Bool) → Reads left left' read → ((later : List ℕ) → is_well_formed (script_lines (read ++ later)) ≡ form) → IsFormed form left
formed_any None left' read form told is = tt
formed_any (Some old) None read form told is = absurd told
formed_any (Some old) (Some new) read form told is = ap (λ bytes. is_well_formed (script_lines bytes)) told ∙ is new

formed_all : (left left' : Option (List ℕ)) (read : List ℕ) (form : Bool) → Reads left left' read → IfSome left' (λ rest. rest ≡ []) → is_well_formed (script_lines read) ≡ form → IsFormed form left
formed_all None left' read form told end is = tt
formed_all (Some old) None read form told end is = absurd told
formed_all (Some old) (Some new) read form told end is =
    let whole : old ≡ read = told ∙ (ap (λ rest. read ++ rest) end ∙ append-nil read) in
    ap (λ bytes. is_well_formed (script_lines bytes)) whole ∙ is

-- A replay came to its last line: of a script that was run to its end, or of one whose next line is faulty.
pub record IsLast (form : Form) (left left' a b : Option (List ℕ)) (p : Progress) (fault : Option LineFault) : Type 0 where
  pub read : List ℕ
  pub told : Reads left left' read
  pub text : Told a b (SentBut (text_in form read) (last_text p fault))
  pub formed : is_well_formed (script_lines read) ≡ is_none fault
  pub whole : IsFormed (is_none fault) left
  pub all : has_fault read ≡ false → IfSome left' (λ rest. rest ≡ [])
  pub run : TellsFirst form a b (run_of read)
  pub ahead : (c : Option (List ℕ)) → Grows b c → Told a c (IsInTime form read)

pub last_fault : (form : Form) (left left' a b : Option (List ℕ)) (p : Progress) (f : LineFault) → IsFault form left left' a b p f → IsLast form left left' a b p (Some f)
last_fault form left left' a b p f i =
    let h = i.played in
    let text : text_from form p (script_lines i.tail) ≡ last_text p (Some f) = rw (append-nil i.tail) at (begins_text form p (i.tail ++ []) f (i.stops [])) in
    let faulty : (later : List ℕ) → is_well_formed (script_lines ((h.ended ++ i.tail) ++ later)) ≡ false = λ later.
    ap (λ bytes. is_well_formed (script_lines bytes)) (append_assoc h.ended i.tail later) ∙ (formed_from form left left' a b p i.tail (i.tail ++ later) h ∙ begins_fault p (i.tail ++ later) f (i.stops later)) in
    record {
      read = h.ended ++ i.tail;
      told = h.read;
      text = rw text at (sent_but form left left' a b p i.tail h);
      formed = rw (append-nil (h.ended ++ i.tail)) at (faulty []);
      whole = formed_any left left' (h.ended ++ i.tail) false h.read faulty;
      all = λ none. let seen = i.seen in absurd (cc);
      run = tells_here form left left' a b p i.tail h;
      ahead = λ c grows. told_in_time form left left' a b c p i.tail h grows;
    }

-- the rest is faulty
pub last_faulty_rest : (form : Form) (left left' a b : Option (List ℕ)) (p : Progress) (rest : List ℕ) (f : LineFault) → IsRest form left left' a b p rest → IfSome left' (λ later. later ≡ []) → BeginsFaulty p rest f → IsLast form left left' a b p (Some f)
last_faulty_rest form left left' a b p rest f r end begins =
    let h = r.played in
    let faulty : is_well_formed (script_lines (h.ended ++ rest)) ≡ false = formed_from form left left' a b p rest rest h ∙ begins_fault p rest f begins in
    record {
      read = h.ended ++ rest;
      told = h.read;
      text = rw (begins_text form p rest f begins) at (sent_but form left left' a b p rest h);
      formed = faulty;
      whole = formed_all left left' (h.ended ++ rest) false h.read end faulty;
      all = λ none. end;
      run = tells_here form left left' a b p rest h;
      ahead = λ c grows. told_in_time form left left' a b c p rest h grows;
    }

-- the rest was run
ends_text : (form : Form) (q : Progress) → text_from form q [] ≡ last_text q None
unfolding text_from
ends_text form q = refl

ends_sound : (q : Progress) → is_none (first_fault (q.lines + 1) []) ≡ true
unfolding first_fault
ends_sound q = refl

ends_steps : (q : Progress) → steps_of q [] ≡ []
unfolding said_from trace
ends_steps q = refl

pub last_rest : (form : Form) (left left' a b c : Option (List ℕ)) (p q : Progress) (rest : List ℕ) → IsRest form left left' a b p rest → IfSome left' (λ later. later ≡ []) → HasEnded form p q rest b c → IsLast form left left' a c q None
last_rest form left left' a b c p q rest r end e =
    let h = r.played in
    let lines = script_lines rest in
    let on = behind_all form p lines [] q e.runs in
    let whole : lines ++ [] ≡ lines = append-nil lines in
    let text : text_from form p lines ≡ body_text form p lines ++ last_text q None = rw whole at on.text ∙ ap (λ t. body_text form p lines ++ t) (ends_text form q) in
    let sound : is_well_formed (script_lines (h.ended ++ rest)) ≡ true = formed_from form left left' a b p rest rest h ∙ (rw whole at on.fault ∙ ends_sound q) in
    let tells : body_in form (h.ended ++ rest) ≡ body_in form h.ended ++ body_text form p lines =
    sym (body_is form (h.ended ++ rest)) ∙ (ap (λ ls. body_text form begin ls) (lines_of form left left' a b p rest rest h)
    ∙ ((goes_on form left left' a b p rest rest h).tells ∙ ap (λ b. b ++ body_text form p lines) (body_is form h.ended))) in
    let sent : Adds a c (body_in form (h.ended ++ rest)) = told_then a b c (λ old new. new ≡ old ++ body_in form h.ended) (λ old new. new ≡ old ++ body_text form p lines) (λ old new. new ≡ old ++ body_in form (h.ended ++ rest))
    (λ x y z s t. t ∙ (ap (λ w. w ++ body_text form p lines) s ∙ (append_assoc x (body_in form h.ended) (body_text form p lines) ∙ ap (λ w. x ++ w) (sym tells)))) h.told e.told in
    record {
      read = h.ended ++ rest;
      told = h.read;
      text = sent_on a b c (text_in form (h.ended ++ rest)) (text_from form p lines) (body_text form p lines) (last_text q None) (sent_but form left left' a b p rest h) e.told text;
      formed = sound;
      whole = formed_all left left' (h.ended ++ rest) true h.read end sound;
      all = λ none. end;
      run = all_told form a c (run_of (h.ended ++ rest)) sent;
      ahead = λ d grows. told_in_time form left left' a b d p rest h (told_then b c d (λ old new. length old ≤ length new) (λ old new. length old ≤ length new) (λ old new. length old ≤ length new) (λ x y z s t. omega arith) (grows_front b c (body_text form p lines) (front_all b c (body_text form p lines) e.told)) grows);
    }

pub last_of_rest : (form : Form) (left left' a b c : Option (List ℕ)) (p q : Progress) (rest : List ℕ) (fault : Option LineFault) → IsRest form left left' a b p rest → IfSome left' (λ later. later ≡ []) → EndsAs form fault p q rest b c → IsLast form left left' a c q fault
last_of_rest form left left' a b c p q rest None r end e = last_rest form left left' a b c p q rest r end e
last_of_rest form left left' a b c p q rest (Some f) r end e = rw (e.at, e.unsent) (last_faulty_rest form left left' a b p rest f r end e.begins)

-- what the rest tells is a front of what is left to be sent
pub text_front : (form : Form) (p : Progress) (rest : List ℕ) → (more : List ℕ) × (text_from form p (script_lines rest) ≡ body_text form p (script_lines rest) ++ more)
text_front form p rest = let f = body_front form p (script_lines rest) [] in (f.0, rw (append-nil (script_lines rest)) at f.1)

-- behind the last line
pub begins_last : (form : Form) (left left' a b c : Option (List ℕ)) (p : Progress) (f : Option LineFault) → IsLast form left left' a b p f → AddsFront b c (last_text p f) → Begins form left left' a c
begins_last form left left' a b c p f l sent = begins_as form left left' a c l.read l.told (front_last a b c (text_in form l.read) (last_text p f) l.text sent)

pub last_in_time : (form : Form) (left left' a b c : Option (List ℕ)) (p : Progress) (f : Option LineFault) → IsLast form left left' a b p f → AddsFront b c (last_text p f) → ReadsInTime form left left' a c
last_in_time form left left' a b c p f l sent =
    told_weaker left left' (λ old new. old ≡ l.read ++ new) (IsReadInTime form a c)
    (λ old new is. record { read = l.read; parts = is; ahead = l.ahead c (grows_front b c (last_text p f) sent) }) l.told

pub last_cut : (form : Form) (left left' a b c : Option (List ℕ)) (p : Progress) (f : Option LineFault) → IsLast form left left' a b p f → c ≡ b → CutsShort form left left' a c
last_cut form left left' a b c p f l same = rw same (cuts_as form left left' a b l.read l.told l.run)

transcribed : (form : Form) (left left' a b c : Option (List ℕ)) (p : Progress) (f : Option LineFault) → (l : IsLast form left left' a b p f) → Adds b c (last_text p f) → Adds a c (text_in form l.read)
transcribed form left left' a b c p f l sent = sent_last a b c (text_in form l.read) (last_text p f) l.text sent

none_faulty : (read : List ℕ) → is_well_formed (script_lines read) ≡ true → has_fault read ≡ false
none_faulty read sound = rw (sound_within read sound, ended_sound read sound) refl

all_read : (form : Form) (left left' a b c : Option (List ℕ)) (read : List ℕ) → Reads left left' read → IfSome left' (λ rest. rest ≡ []) → Adds a c (text_in form read) → Replays form left left' a c
all_read form None left' a b c read told end sent = told
all_read form (Some old) None a b c read told end sent = absurd told
all_read form (Some old) (Some new) a b c read told end sent =
    let whole : read ≡ old = sym (told ∙ (ap (λ rest. read ++ rest) end ∙ append-nil read)) in
    (end, subst (λ bytes. Adds a c (text_in form bytes)) whole sent)

-- how it ends
ended_whole_case : (form : Form) (left left' a b c : Option (List ℕ)) (p : Progress) (f : Option LineFault) (e : Ending) → IsLast form left left' a b p f → Adds b c (last_text p f) → e ≡ ending_of f → e ≡ ending.Replayed → Replays form left left' a c × IsFormed true left × StopsAtFault left left' 0
ended_whole_case form left left' a b c p None e l sent is whole = (
  all_read form left left' a b c l.read l.told (l.all (none_faulty l.read l.formed)) (transcribed form left left' a b c p None l sent),
  l.whole,
  sound_read left left' l.read 0 l.told (ended_sound l.read l.formed) (sound_within l.read l.formed),
)
ended_whole_case form left left' a b c p (Some f) e l sent is whole = absurd (cc)

stopped_counted : (read : List ℕ) (left' : Option (List ℕ)) (rest : List ℕ) → left' ≡ Some rest → (has_fault read ≡ false → IfSome left' (λ r. r ≡ [])) → is_well_formed (ended_lines read) ≡ true → passes_limit read ≡ false → rest ≡ []
stopped_counted read left' rest is all sound within =
    let none : has_fault read ≡ false = rw (within, sound) refl in
    rw is at (all none)

stops_told : (form : Form) (left left' a c : Option (List ℕ)) (read : List ℕ) → Reads left left' read → is_well_formed (script_lines read) ≡ false → (has_fault read ≡ false → IfSome left' (λ r. r ≡ [])) → Adds a c (text_in form read) → Stops form left left' a c
stops_told form None left' a c read told faulty all sent = told
stops_told form (Some old) None a c read told faulty all sent = absurd told
stops_told form (Some old) (Some new) a c read told faulty all sent = record {
  read = read;
  parts = told;
  faulty = faulty;
  counted = λ sound within. stopped_counted read (Some new) new refl all sound within;
  transcribed = sent;
}

stopped_case : (form : Form) (left left' a b c : Option (List ℕ)) (p : Progress) (f : Option LineFault) (e : Ending) → IsLast form left left' a b p f → Adds b c (last_text p f) → e ≡ ending_of f → e ≡ ending.Stopped → Stops form left left' a c × IsFormed false left
stopped_case form left left' a b c p None e l sent is stopped = absurd (cc)
stopped_case form left left' a b c p (Some f) e l sent is stopped =
    (stops_told form left left' a c l.read l.told l.formed l.all (transcribed form left left' a b c p (Some f) l sent), l.whole)

pub ends_transcript : (form : Form) (left left' a b c : Option (List ℕ)) (p : Progress) (f : Option LineFault) (r : Result Ending PlayError) → IsLast form left left' a b p f → OnOk r (Adds b c (last_text p f)) → IfOk r (λ e. e ≡ ending_of f) → IfOk r (λ e. e ≡ ending.Replayed → Replays form left left' a c)
ends_transcript form left left' a b c p f (Ok e) l sent is = λ whole. (ended_whole_case form left left' a b c p f e l sent is whole).0
ends_transcript form left left' a b c p f (Err e) l sent is = tt

pub ends_formed : (form : Form) (left left' a b c : Option (List ℕ)) (p : Progress) (f : Option LineFault) (r : Result Ending PlayError) → IsLast form left left' a b p f → OnOk r (Adds b c (last_text p f)) → IfOk r (λ e. e ≡ ending_of f) → IfOk r (λ e. e ≡ ending.Replayed → IsFormed true left)
ends_formed form left left' a b c p f (Ok e) l sent is = λ whole. (ended_whole_case form left left' a b c p f e l sent is whole).1
ends_formed form left left' a b c p f (Err e) l sent is = tt

pub ends_sound_read : (form : Form) (left left' a b c : Option (List ℕ)) (p : Progress) (f : Option LineFault) (r : Result Ending PlayError) → IsLast form left left' a b p f → OnOk r (Adds b c (last_text p f)) → IfOk r (λ e. e ≡ ending_of f) → IfOk r (λ e. e ≡ ending.Replayed → StopsAtFault left left' 0)
ends_sound_read form left left' a b c p f (Ok e) l sent is = λ whole. (ended_whole_case form left left' a b c p f e l sent is whole).2
ends_sound_read form left left' a b c p f (Err e) l sent is = tt

pub ends_stopped : (form : Form) (left left' a b c : Option (List ℕ)) (p : Progress) (f : Option LineFault) (r : Result Ending PlayError) → IsLast form left left' a b p f → OnOk r (Adds b c (last_text p f)) → IfOk r (λ e. e ≡ ending_of f) → IfOk r (λ e. e ≡ ending.Stopped → Stops form left left' a c)
ends_stopped form left left' a b c p f (Ok e) l sent is = λ stopped. (stopped_case form left left' a b c p f e l sent is stopped).0
ends_stopped form left left' a b c p f (Err e) l sent is = tt

pub ends_faulty : (form : Form) (left left' a b c : Option (List ℕ)) (p : Progress) (f : Option LineFault) (r : Result Ending PlayError) → IsLast form left left' a b p f → OnOk r (Adds b c (last_text p f)) → IfOk r (λ e. e ≡ ending_of f) → IfOk r (λ e. e ≡ ending.Stopped → IsFormed false left)
ends_faulty form left left' a b c p f (Ok e) l sent is = λ stopped. (stopped_case form left left' a b c p f e l sent is stopped).1
ends_faulty form left left' a b c p f (Err e) l sent is = tt

-- what holds of every answer
pub on_err : {T E : Type 0} (r : Result T E) (P : Type 0) → P → OnErr r P
on_err (Ok x) P h = tt
on_err (Err e) P h = h
