-- The lines of a script that are ended by byte 10, and what a faulty one of them says of the whole script.
use Rattle.std.proofs.Common.{◌≡◌, ℕ, ◌+◌, Bool, true, false, cond, List, [], ◌∷◌, ◌++◌, refl, sym, ap, ◌∙◌, append_assoc}
use Rattle.std.specs.Prelude.{Option, Result, Ok, Err, is_none, ◌==◌, ◌||◌}
use Rattle.std.specs.List.{onto_first}
use Rattle.std.proofs.lemmas.List.{append-nil}
use Rattle.std.proofs.lemmas.Bool.{or_right}
use Rattle.lpc_model.specs.declared.fault.LineFault.{LineFault}
use Rattle.lpc_model.specs.Lines.{ScriptLine}
use Rattle.lpc_model.specs.Script.{script_lines}
use Rattle.lpc_model.specs.Run.{FaultyLine, faulty_or, first_fault, is_well_formed, numbered_line}
use Rattle.lpc_script.specs.Feeding.{has_end}
use Rattle.lpc_replay.specs.Reading.{ended_lines, ended_part}

-- a byte 10, and what comes behind it
ends_at : (bytes more : List ℕ) → has_end (bytes ++ 10 ∷ more) ≡ true
ends_at [] more = refl
ends_at (x ∷ xs) more = or_right (x == 10) (has_end (xs ++ 10 ∷ more)) (ends_at xs more)

ended_cut : (bytes more : List ℕ) → ended_part (bytes ++ 10 ∷ more) ≡ bytes ++ 10 ∷ ended_part more
unfolding ended_part
ended_cut [] more = refl
ended_cut (x ∷ xs) more = rw (ends_at (x ∷ xs) more, ended_cut xs more) refl

pub ended_behind : (ended line piece : List ℕ) → ended_part (ended ++ (line ++ 10 ∷ piece)) ≡ ended ++ (line ++ 10 ∷ ended_part piece)
ended_behind ended line piece =
    let before = append_assoc ended line (10 ∷ piece) in
    let behind = append_assoc ended line (10 ∷ ended_part piece) in
    ap ended_part (sym before) ∙ (ended_cut (ended ++ line) piece ∙ behind)

-- a script that ends with a byte 10 is ended
pub ended_whole : (bytes : List ℕ) → ended_part (bytes ++ 10 ∷ []) ≡ bytes ++ 10 ∷ []
unfolding ended_part
ended_whole bytes = ended_cut bytes []

-- a rest without a byte 10 isn't
ended_none : (rest : List ℕ) → has_end rest ≡ false → ended_part rest ≡ []
unfolding ended_part
ended_none [] none = refl
ended_none (b ∷ bs) none = rw none refl

same_ends : (bytes rest : List ℕ) → has_end rest ≡ false → has_end (bytes ++ rest) ≡ has_end bytes
same_ends [] rest none = none
same_ends (x ∷ xs) rest none = ap (λ later. (x == 10) || later) (same_ends xs rest none)

pub ended_unended : (bytes rest : List ℕ) → has_end rest ≡ false → ended_part (bytes ++ rest) ≡ ended_part bytes
unfolding ended_part
ended_unended [] rest none = ended_none rest none
ended_unended (x ∷ xs) rest none = rw (same_ends (x ∷ xs) rest none, ended_unended xs rest none) refl

-- the ended part is a front of the script
front_case : (b : ℕ) (bs part : List ℕ) (some : Bool) → ((rest : List ℕ) × (bs ≡ part ++ rest)) → (rest : List ℕ) × (b ∷ bs ≡ cond some (b ∷ part) [] ++ rest)
front_case b bs part true h = (h.0, ap (λ later. b ∷ later) h.1)
front_case b bs part false h = (b ∷ bs, refl)

pub ended_front : (bytes : List ℕ) → (rest : List ℕ) × (bytes ≡ ended_part bytes ++ rest)
unfolding ended_part
ended_front [] = ([], refl)
ended_front (b ∷ bs) = front_case b bs (ended_part bs) (has_end (b ∷ bs)) (ended_front bs)

-- a part with a byte 10 has a line
onto_line : (b : ℕ) (lines : List (List ℕ)) → (line : List ℕ) × (more : List (List ℕ)) × (onto_first b lines ≡ line ∷ more)
onto_line b [] = (b ∷ [], [], refl)
onto_line b (l ∷ ls) = (b ∷ l, ls, refl)

pub line_case : (b : ℕ) (end : Bool) (lines : List (List ℕ)) → (line : List ℕ) × (more : List (List ℕ)) × (cond end ([] ∷ lines) (onto_first b lines) ≡ line ∷ more)
line_case b true lines = ([], lines, refl)
line_case b false lines = onto_line b lines

has_line : (bytes : List ℕ) → has_end bytes ≡ true → (line : List ℕ) × (more : List (List ℕ)) × (ended_lines bytes ≡ line ∷ more)
unfolding ended_part script_lines
has_line [] h = absurd (cc)
has_line (b ∷ bs) h = rw h (line_case b (b == 10) (ended_lines bs))

-- the lines of the ended part, and those behind it
onto_parts : (b : ℕ) (front back : List (List ℕ)) → ((line : List ℕ) × (more : List (List ℕ)) × (front ≡ line ∷ more)) → onto_first b (front ++ back) ≡ onto_first b front ++ back
onto_parts b front back h = rw h.2 refl

parts_case : (b : ℕ) (bs more : List ℕ) (end some : Bool) → (b == 10) ≡ end → has_end bs ≡ some → script_lines (ended_part bs ++ more) ≡ ended_lines bs ++ script_lines more
    → script_lines (cond (end || some) (b ∷ ended_part bs) [] ++ more) ≡ script_lines (cond (end || some) (b ∷ ended_part bs) []) ++ script_lines more
unfolding script_lines
parts_case b bs more true some e s h = rw (e, h) refl
parts_case b bs more false true e s h = rw (e, h) (onto_parts b (ended_lines bs) (script_lines more) (has_line bs s))
parts_case b bs more false false e s h = refl

pub lines_parts : (bytes more : List ℕ) → script_lines (ended_part bytes ++ more) ≡ ended_lines bytes ++ script_lines more
unfolding ended_part script_lines
lines_parts [] more = refl
lines_parts (b ∷ bs) more = parts_case b bs more (b == 10) (has_end bs) refl refl (lines_parts bs more)

-- lines behind a faulty one
later_case : (n : ℕ) (r : Result (Option ScriptLine) LineFault) (o p : Option FaultyLine) → is_none (faulty_or n r o) ≡ false → (is_none o ≡ false → is_none p ≡ false) → is_none (faulty_or n r p) ≡ false
later_case n (Ok said) o p h k = k h
later_case n (Err e) o p h k = refl

fault_stays : (n : ℕ) (front back : List (List ℕ)) → is_none (first_fault n front) ≡ false → is_none (first_fault n (front ++ back)) ≡ false
unfolding first_fault
fault_stays n [] back h = absurd (cc)
fault_stays n (l ∷ ls) back h = later_case n (numbered_line n l) (first_fault (n + 1) ls) (first_fault (n + 1) (ls ++ back)) h (λ k. fault_stays (n + 1) ls back k)

-- where a line is faulty that is ended, every script that begins so is faulty
pub ended_faulty : (bytes rest : List ℕ) → is_well_formed (ended_lines bytes) ≡ false → is_well_formed (script_lines (bytes ++ rest)) ≡ false
ended_faulty bytes rest h =
    let f = ended_front bytes in
    let whole : bytes ++ rest ≡ ended_part bytes ++ (f.0 ++ rest) = ap (λ all. all ++ rest) f.1 ∙ append_assoc (ended_part bytes) f.0 rest in
    rw (whole, lines_parts bytes (f.0 ++ rest)) (fault_stays 1 (ended_lines bytes) (script_lines (f.0 ++ rest)) h)

ended_case : (bytes : List ℕ) (sound : Bool) → is_well_formed (ended_lines bytes) ≡ sound → is_well_formed (script_lines bytes) ≡ true → is_well_formed (ended_lines bytes) ≡ true
ended_case bytes true e h = e
ended_case bytes false e h =
    let faulty : is_well_formed (script_lines bytes) ≡ false = rw (append-nil bytes) at (ended_faulty bytes [] e) in
    absurd (cc)

-- in a well-formed script no line is faulty that is ended
pub ended_sound : (bytes : List ℕ) → is_well_formed (script_lines bytes) ≡ true → is_well_formed (ended_lines bytes) ≡ true
ended_sound bytes h = ended_case bytes (is_well_formed (ended_lines bytes)) refl h
