-- What a sink is still sure of while a script is replayed.
use Rattle.std.proofs.Common.{◌≡◌, ℕ, ◌+◌, ◌<◌, ◌≤◌, Bool, true, false, List, [], ◌∷◌, ◌++◌, length, refl, sym, ap, ◌∙◌, arith, append_assoc, length-append}
use Rattle.std.specs.Prelude.{IfSome, Option, None, Some, nat_le, ◌==◌, ◌||◌}
use Rattle.std.proofs.lemmas.Bool.Decides.{nat_tests}
use Rattle.std.proofs.lemmas.List.{append-nil}
use Rattle.lpc_base.specs.declared.limits.TheConstants.{LINES_LIMIT}
use Rattle.lpc_base.specs.Streams.{Told}
use Rattle.lpc_model.specs.declared.fault.LineFault.{LineFault}
use Rattle.lpc_model.specs.declared.fault.LineFault.TheVariants as fault
use Rattle.lpc_model.specs.Script.{script_lines}
use Rattle.lpc_script.specs.Feeding.{has_end}
use Rattle.lpc_replay.specs.declared.form.Form.{Form}
use Rattle.lpc_replay.specs.Forms.{text_in}
use Rattle.lpc_replay.specs.Playing.{BeginsFaulty, IsUnsure, Progress, RunsLine, Spends, SpendsAt, begin, last_text, text_from}
use Rattle.lpc_replay.specs.Reading.{Advances, Reads}
use Rattle.lpc_replay.specs.TopCall.{IfSure, is_one_of}
use Rattle.lpc_replay.specs.declared.reading.NextLine.TheVariants as next
use Rattle.lpc_replay.proofs.Coming.{few_lines}
use Rattle.lpc_replay.proofs.Limits.{all_lack, ended_line}
use Rattle.lpc_replay.proofs.Resting.{line_of}
use Rattle.lpc_replay.proofs.Stopping.{begins_text, long_begins, many_lines}
use Rattle.lpc_replay.proofs.Tells.{told_same, told_then, told_weaker}
use Rattle.lpc_replay.proofs.Turns.{run_goes, text_stops, whole_is}

-- before the first line
pub spends_none : (form : Form) (left : Option (List ℕ)) (sure : ℕ) → SpendsAt form left left sure sure begin []
spends_none form left sure =
    told_same left left (λ script rest. sure + length (text_from form begin (script_lines ([] ++ rest))) ≤ sure + length (text_in form script))
    (λ x. let same : length (text_from form begin (script_lines x)) ≡ length (text_in form x) = ap length (whole_is form x) in omega arith) refl

-- more was read behind the lines
spends_on : (form : Form) (left left1 left2 : Option (List ℕ)) (before now : ℕ) (p : Progress) (piece read tail : List ℕ) → SpendsAt form left left1 before now p piece → Reads left1 left2 read → piece ++ read ≡ tail → SpendsAt form left left2 before now p tail
spends_on form left left1 left2 before now p piece read tail h told is =
    told_then left left1 left2
    (λ script rest. before + length (text_from form p (script_lines (piece ++ rest))) ≤ now + length (text_in form script))
    (λ old new. old ≡ read ++ new)
    (λ script rest. before + length (text_from form p (script_lines (tail ++ rest))) ≤ now + length (text_in form script))
    (λ x y z s t.
    let all : piece ++ y ≡ tail ++ z = ap (λ w. piece ++ w) t ∙ (sym (append_assoc piece read z) ∙ ap (λ w. w ++ z) is) in
    rw all at s) h told

pub spends_whole : (form : Form) (left left1 left2 : Option (List ℕ)) (before now : ℕ) (p : Progress) (piece line rest : List ℕ) → SpendsAt form left left1 before now p piece → Advances left1 left2 next.Whole piece line rest → SpendsAt form left left2 before now p (line ++ 10 ∷ rest)
spends_whole form left left1 left2 before now p piece line rest h adv = spends_on form left left1 left2 before now p piece adv.read (line ++ 10 ∷ rest) h adv.told adv.comes

-- behind a line that is ended comes what the later ones tell
line_text_on : (form : Form) (p q : Progress) (line rest text later : List ℕ) → has_end line ≡ false → RunsLine form line None p q text → text_from form p (script_lines ((line ++ 10 ∷ rest) ++ later)) ≡ text ++ text_from form q (script_lines (rest ++ later))
line_text_on form p q line rest text later lacks runs =
    run_goes form p q (script_lines ((line ++ 10 ∷ rest) ++ later)) line (script_lines (rest ++ later)) text (ap script_lines (append_assoc line (10 ∷ rest) later) ∙ ended_line line (rest ++ later) (all_lack line lacks)) runs

-- one line more was run, and what it tells was sent
pub spends_line : (form : Form) (left left' : Option (List ℕ)) (before now later : ℕ) (p q : Progress) (line rest text : List ℕ) → SpendsAt form left left' before now p (line ++ 10 ∷ rest) → has_end line ≡ false → RunsLine form line None p q text → now ≤ later + length text → SpendsAt form left left' before later q rest
spends_line form left left' before now later p q line rest text h lacks runs spent =
    told_weaker left left'
    (λ script more. before + length (text_from form p (script_lines ((line ++ 10 ∷ rest) ++ more))) ≤ now + length (text_in form script))
    (λ script more. before + length (text_from form q (script_lines (rest ++ more))) ≤ later + length (text_in form script))
    (λ x y s.
    let all = ap length (line_text_on form p q line rest text y lacks runs) in
    let size = length-append text (text_from form q (script_lines (rest ++ y))) in
    omega arith) h

-- it isn't sent as a whole
unsure_told : (form : Form) (left left' : Option (List ℕ)) (sure : ℕ) (Q : List ℕ → List ℕ → Type 0) → ((x y : List ℕ) → Q x y → sure < length (text_in form x)) → Told left left' Q → IsUnsure form left sure
unsure_told form None left' sure Q f h = tt
unsure_told form (Some x) None sure Q f h = absurd h
unsure_told form (Some x) (Some y) sure Q f h = f x y h

less_case : (n sure : ℕ) (test : Bool) → nat_le n sure ≡ test → (n ≤ sure → false ≡ true) → sure < n
less_case n sure true t f =
    let enough : n ≤ sure = grind (arith, nat_tests) in
    let wrong : false ≡ true = f enough in
    absurd (cc)
less_case n sure false t f = grind (arith, nat_tests)

pub less_than : (n sure : ℕ) → (n ≤ sure → false ≡ true) → sure < n
less_than n sure f = less_case n sure (nat_le n sure) refl f

pub unsure_line : (form : Form) (left left' : Option (List ℕ)) (before now : ℕ) (p q : Progress) (line rest text : List ℕ) → SpendsAt form left left' before now p (line ++ 10 ∷ rest) → has_end line ≡ false → RunsLine form line None p q text → now < length text → IsUnsure form left before
unsure_line form left left' before now p q line rest text h lacks runs less =
    unsure_told form left left' before
    (λ script more. before + length (text_from form p (script_lines ((line ++ 10 ∷ rest) ++ more))) ≤ now + length (text_in form script))
    (λ x y s.
    let all = ap length (line_text_on form p q line rest text y lacks runs) in
    let size = length-append text (text_from form q (script_lines (rest ++ y))) in
    omega arith) h

-- what is to be sent of all that the source had left
spends_told : (form : Form) (left left' : Option (List ℕ)) (before now : ℕ) (text : List ℕ) (Q : List ℕ → List ℕ → Type 0) → ((x y : List ℕ) → Q x y → before + length text ≤ now + length (text_in form x)) → Told left left' Q → Spends form left text before now
spends_told form None left' before now text Q f h = tt
spends_told form (Some x) None before now text Q f h = absurd h
spends_told form (Some x) (Some y) before now text Q f h = f x y h

-- nothing
pub spends_nothing : (form : Form) (left left' : Option (List ℕ)) (before now : ℕ) (p : Progress) (tail : List ℕ) → SpendsAt form left left' before now p tail → Spends form left [] before now
spends_nothing form left left' before now p tail h =
    spends_told form left left' before now []
    (λ script more. before + length (text_from form p (script_lines (tail ++ more))) ≤ now + length (text_in form script))
    (λ x y s. omega arith) h

-- the stop at a faulty line
spends_stop : (form : Form) (left left' : Option (List ℕ)) (before now : ℕ) (p : Progress) (tail : List ℕ) (f : LineFault) → SpendsAt form left left' before now p tail → ((later : List ℕ) → BeginsFaulty p (tail ++ later) f) → Spends form left (last_text p (Some f)) before now
spends_stop form left left' before now p tail f h begins =
    spends_told form left left' before now (last_text p (Some f))
    (λ script more. before + length (text_from form p (script_lines (tail ++ more))) ≤ now + length (text_in form script))
    (λ x y s. let all = ap length (begins_text form p (tail ++ y) f (begins y)) in omega arith) h

pub spends_fault : (form : Form) (left left' : Option (List ℕ)) (before now : ℕ) (p q : Progress) (line rest text : List ℕ) (f : LineFault) → SpendsAt form left left' before now p (line ++ 10 ∷ rest) → has_end line ≡ false → RunsLine form line (Some f) p q text → Spends form left (last_text q (Some f)) before now
spends_fault form left left' before now p q line rest text f h lacks runs =
    rw runs.1 (spends_stop form left left' before now p (line ++ 10 ∷ rest) f h
    (λ later. (line, script_lines (rest ++ later), ap script_lines (append_assoc line (10 ∷ rest) later) ∙ ended_line line (rest ++ later) (all_lack line lacks), runs.0)))

pub spends_long : (form : Form) (left left1 left2 : Option (List ℕ)) (before now : ℕ) (p : Progress) (piece line rest : List ℕ) → SpendsAt form left left1 before now p piece → Advances left1 left2 next.TooLong piece line rest → has_end line ≡ false → nat_le LINES_LIMIT p.lines ≡ false → Spends form left (last_text p (Some fault.Long)) before now
spends_long form left left1 left2 before now p piece line rest h adv lacks room =
    let o = adv.comes in
    let tail = line ++ o.byte ∷ rest in
    let few : p.lines < LINES_LIMIT = few_lines p.lines room in
    spends_stop form left left2 before now p tail fault.Long (spends_on form left left1 left2 before now p piece adv.read tail h adv.told o.parts)
    (λ later. long_begins p line rest tail later lacks few (record { byte = o.byte; other = o.other; parts = refl; full = o.full }))

pub spends_many : (form : Form) (left left1 left2 : Option (List ℕ)) (before now : ℕ) (p : Progress) (piece line rest : List ℕ) → SpendsAt form left left1 before now p piece → Advances left1 left2 next.TooMany piece line rest → nat_le LINES_LIMIT p.lines ≡ true → Spends form left (last_text p (Some fault.Lines)) before now
spends_many form left left1 left2 before now p piece line rest h adv full =
    let many : LINES_LIMIT ≤ p.lines = grind (arith, nat_tests) in
    spends_stop form left left2 before now p rest fault.Lines (spends_on form left left1 left2 before now p piece adv.read rest h adv.told adv.comes.1)
    (λ later. many_lines p rest later adv.comes.2 many)

-- the rest at the source's end, or nothing behind its failure
end_case : (form : Form) (left left' : Option (List ℕ)) (before now : ℕ) (p : Progress) (rest : List ℕ) → SpendsAt form left left' before now p rest → IfSome left' (λ more. more ≡ []) → Spends form left (text_from form p (script_lines rest)) before now
end_case form None left' before now p rest h end = tt
end_case form (Some x) None before now p rest h end = absurd h
end_case form (Some x) (Some y) before now p rest h end =
    let all : rest ++ y ≡ rest = ap (λ w. rest ++ w) end ∙ append-nil rest in
    rw all at h

pub spends_end : (form : Form) (left left1 left2 : Option (List ℕ)) (before now : ℕ) (p : Progress) (piece line rest : List ℕ) → SpendsAt form left left1 before now p piece → Advances left1 left2 next.End piece line rest → IfSome left2 (λ more. more ≡ []) → Spends form left (text_from form p (script_lines line)) before now
spends_end form left left1 left2 before now p piece line rest h adv end =
    end_case form left left2 before now p line (spends_on form left left1 left2 before now p piece adv.read line h adv.told adv.comes.0) end

-- a rest that no byte 10 ends: it is empty, it was run and what it tells was sent, or it is faulty
rest_empty : (form : Form) (p : Progress) (rest : List ℕ) → length rest ≡ 0 → text_from form p (script_lines rest) ≡ last_text p None
unfolding text_from script_lines
rest_empty form p [] none = refl
rest_empty form p (b ∷ bs) none = absurd (omega arith)

last_of : (form : Form) (q : Progress) → text_from form q [] ≡ last_text q None
unfolding text_from
last_of form q = refl

rest_goes : (form : Form) (p q : Progress) (rest text : List ℕ) → has_end rest ≡ false → 0 < length rest → RunsLine form rest None p q text → length (text_from form p (script_lines rest)) ≡ length text + length (last_text q None)
rest_goes form p q rest text lacks some runs =
    let goes = run_goes form p q (script_lines rest) rest [] text (line_of rest lacks some) runs in
    ap length (goes ∙ ap (λ t. text ++ t) (last_of form q)) ∙ length-append text (last_text q None)

rest_stops : (form : Form) (p q : Progress) (rest text : List ℕ) (f : LineFault) → has_end rest ≡ false → 0 < length rest → RunsLine form rest (Some f) p q text → text_from form p (script_lines rest) ≡ last_text q (Some f)
rest_stops form p q rest text f lacks some runs =
    rw runs.1 (ap (λ ls. text_from form p ls) (line_of rest lacks some) ∙ text_stops form p rest [] f runs.0)

pub rest_spends_none : (form : Form) (p : Progress) (rest : List ℕ) (sure : ℕ) → length rest ≡ 0 → sure + length (last_text p None) ≤ sure + length (text_from form p (script_lines rest))
rest_spends_none form p rest sure none = let same = ap length (rest_empty form p rest none) in omega arith

pub rest_spends : (form : Form) (p q : Progress) (rest text : List ℕ) (now later : ℕ) → has_end rest ≡ false → 0 < length rest → RunsLine form rest None p q text → now ≤ later + length text → now + length (last_text q None) ≤ later + length (text_from form p (script_lines rest))
rest_spends form p q rest text now later lacks some runs spent = let same = rest_goes form p q rest text lacks some runs in omega arith

pub rest_spends_fault : (form : Form) (p q : Progress) (rest text : List ℕ) (f : LineFault) (sure : ℕ) → has_end rest ≡ false → 0 < length rest → RunsLine form rest (Some f) p q text → sure + length (last_text q (Some f)) ≤ sure + length (text_from form p (script_lines rest))
rest_spends_fault form p q rest text f sure lacks some runs = let same = ap length (rest_stops form p q rest text f lacks some runs) in omega arith

pub rest_unsure : (form : Form) (p q : Progress) (rest text : List ℕ) (now : ℕ) → has_end rest ≡ false → 0 < length rest → RunsLine form rest None p q text → now < length text → now < length (text_from form p (script_lines rest))
rest_unsure form p q rest text now lacks some runs less = let same = rest_goes form p q rest text lacks some runs in omega arith

-- less was sure than was to be sent
pub falls_short : (form : Form) (left : Option (List ℕ)) (text : List ℕ) (before now : ℕ) → Spends form left text before now → now < length text → IsUnsure form left before
falls_short form None text before now h less = tt
falls_short form (Some x) text before now h less = omega arith

pub spends_then : (form : Form) (left : Option (List ℕ)) (text last : List ℕ) (before now later : ℕ) → Spends form left text before now → now + length last ≤ later + length text → Spends form left last before later
spends_then form None text last before now later h rest = tt
spends_then form (Some x) text last before now later h rest = omega arith

-- a replay over a sink that is sure of the whole text
isnt_case : (m n : ℕ) (test : Bool) → (m == n) ≡ test → (n ≡ m → ⊥) → (m == n) ≡ false
isnt_case m n true t isnt = let same : n ≡ m = grind (arith, nat_tests) in absurd (isnt same)
isnt_case m n false t isnt = t

not_four : (a b c d e : Bool) → (a || (b || (c || (d || (e || false))))) ≡ true → d ≡ false → (a || (b || (c || (e || false)))) ≡ true
not_four true b c d e h isnt = refl
not_four false true c d e h isnt = refl
not_four false false true d e h isnt = refl
not_four false false false d e h isnt = rw isnt at h

not_three : (a b c e : Bool) → (a || (b || (c || (e || false)))) ≡ true → c ≡ false → (a || (b || (e || false))) ≡ true
not_three true b c e h isnt = refl
not_three false true c e h isnt = refl
not_three false false c e h isnt = rw isnt at h

unsure_case : (status : ℕ) → is_one_of (0 ∷ 2 ∷ 3 ∷ 4 ∷ 5 ∷ []) status ≡ true → (status ≡ 4 → ⊥) → is_one_of (0 ∷ 2 ∷ 3 ∷ 5 ∷ []) status ≡ true
unsure_case status is isnt = not_four (0 == status) (2 == status) (3 == status) (4 == status) (5 == status) is (isnt_case 4 status (4 == status) refl isnt)

honest_case : (status : ℕ) → is_one_of (0 ∷ 2 ∷ 3 ∷ 4 ∷ 5 ∷ []) status ≡ true → (status ≡ 4 → ⊥) → (status ≡ 3 → ⊥) → is_one_of (0 ∷ 2 ∷ 5 ∷ []) status ≡ true
honest_case status is four three =
    not_three (0 == status) (2 == status) (3 == status) (5 == status) (unsure_case status is four) (isnt_case 3 status (3 == status) refl three)

pub sure_status : (form : Form) (left : Option (List ℕ)) (sure status : ℕ) → is_one_of (0 ∷ 2 ∷ 3 ∷ 4 ∷ 5 ∷ []) status ≡ true → (status ≡ 4 → IsUnsure form left sure) → IfSure form left sure (is_one_of (0 ∷ 2 ∷ 3 ∷ 5 ∷ []) status ≡ true)
sure_status form None sure status is unsure = tt
sure_status form (Some x) sure status is unsure = λ all. unsure_case status is (λ four. let less : sure < length (text_in form x) = unsure four in absurd (omega arith))

pub honest_status : (form : Form) (left : Option (List ℕ)) (sure status : ℕ) → is_one_of (0 ∷ 2 ∷ 3 ∷ 4 ∷ 5 ∷ []) status ≡ true → (status ≡ 4 → IsUnsure form left sure) → (status ≡ 3 → ⊥) → IfSure form left sure (is_one_of (0 ∷ 2 ∷ 5 ∷ []) status ≡ true)
honest_status form None sure status is unsure honest = tt
honest_status form (Some x) sure status is unsure honest = λ all. honest_case status is (λ four. let less : sure < length (text_in form x) = unsure four in absurd (omega arith)) honest
