-- How far a script is read, and that a script which passes a limit has a faulty line.
use Rattle.std.proofs.Common.{◌≡◌, ℕ, ◌+◌, ◌<◌, ◌≤◌, Bool, true, false, cond, List, [], ◌∷◌, ◌++◌, length, refl, sym, ap, ◌∙◌, arith, append_assoc, length-append}
use Rattle.std.specs.Prelude.{Option, Some, None, Result, Ok, Err, is_none, is_some, nat_le, nat_lt, ◌==◌, option_and_then}
use Rattle.std.specs.List.{onto_first, AllByRecursion}
use Rattle.std.proofs.lemmas.Bool.{eqb-true}
use Rattle.std.proofs.lemmas.Bool.Decides.{nat_tests}
use Rattle.std.proofs.lemmas.List.{append-nil}
use Rattle.lpc_base.specs.declared.limits.TheConstants.{LINE_LIMIT, LINES_LIMIT}
use Rattle.lpc_model.specs.declared.fault.LineFault.{LineFault}
use Rattle.lpc_model.specs.declared.fault.LineFault.TheVariants as fault
use Rattle.lpc_model.specs.Lines.{ScriptLine}
use Rattle.lpc_model.specs.Script.{script_lines}
use Rattle.lpc_model.specs.Grammar.{read_line}
use Rattle.lpc_model.specs.Run.{FaultyLine, faulty_or, first_fault, is_well_formed, numbered_line}
use Rattle.lpc_script.specs.Feeding.{has_end}
use Rattle.lpc_replay.specs.Reading.{Place, behind, behind_byte, passes_limit, start}
use Rattle.lpc_replay.proofs.Ended.{line_case}

-- the place behind two parts
behind_more : (o : Option Place) (xs ys : List ℕ) → ((p : Place) → behind p (xs ++ ys) ≡ option_and_then (λ q. behind q ys) (behind p xs)) → option_and_then (λ q. behind q (xs ++ ys)) o ≡ option_and_then (λ q. behind q ys) (option_and_then (λ q. behind q xs) o)
behind_more None xs ys h = refl
behind_more (Some p) xs ys h = h p

pub behind_append : (p : Place) (xs ys : List ℕ) → behind p (xs ++ ys) ≡ option_and_then (λ q. behind q ys) (behind p xs)
unfolding behind
behind_append p [] ys = refl
behind_append p (x ∷ xs) ys = behind_more (behind_byte p x) xs ys (λ q. behind_append q xs ys)

-- faulty lines
later_faulty : (n : ℕ) (r : Result (Option ScriptLine) LineFault) (o : Option FaultyLine) → is_some o ≡ true → is_some (faulty_or n r o) ≡ true
later_faulty n (Ok said) o h = h
later_faulty n (Err e) o h = refl

next_faulty : (n : ℕ) (line : List ℕ) (lines : List (List ℕ)) → is_some (first_fault (n + 1) lines) ≡ true → is_some (first_fault n (line ∷ lines)) ≡ true
unfolding first_fault
next_faulty n line lines h = later_faulty n (numbered_line n line) (first_fault (n + 1) lines) h

too_many : (n : ℕ) (line : List ℕ) (lines : List (List ℕ)) → LINES_LIMIT < n → is_some (first_fault n (line ∷ lines)) ≡ true
unfolding first_fault
too_many n line lines many = let past : nat_lt LINES_LIMIT n ≡ true = grind (arith, nat_tests) in rw past refl

long_case : (n : ℕ) (many : Bool) (r : Result (Option ScriptLine) LineFault) (o : Option FaultyLine) → r ≡ Err fault.Long → is_some (faulty_or n (cond many (Err fault.Lines) r) o) ≡ true
long_case n true r o is = refl
long_case n false r o is = rw is refl

long_line : (line : List ℕ) → LINE_LIMIT < length line → read_line line ≡ Err fault.Long
unfolding read_line
long_line line long = let past : nat_lt LINE_LIMIT (length line) ≡ true = grind (arith, nat_tests) in rw past refl

too_long : (n : ℕ) (line : List ℕ) (lines : List (List ℕ)) → LINE_LIMIT < length line → is_some (first_fault n (line ∷ lines)) ≡ true
unfolding first_fault
too_long n line lines long = long_case n (nat_lt LINES_LIMIT n) (read_line line) (first_fault (n + 1) lines) (long_line line long)

-- lines
abbrev pub HasLine : List ℕ → List ℕ → Type 0
HasLine bytes front = (more : List ℕ) × (lines : List (List ℕ)) × (script_lines bytes ≡ (front ++ more) ∷ lines)

onto_has : (b : ℕ) (front : List ℕ) (lines : List (List ℕ)) → ((more : List ℕ) × (others : List (List ℕ)) × (lines ≡ (front ++ more) ∷ others)) → (more : List ℕ) × (others : List (List ℕ)) × (onto_first b lines ≡ (b ∷ front ++ more) ∷ others)
onto_has b front lines h = (h.0, h.1, ap (onto_first b) h.2)

onto_some : (b : ℕ) (lines : List (List ℕ)) → (more : List ℕ) × (others : List (List ℕ)) × (onto_first b lines ≡ (b ∷ more) ∷ others)
onto_some b [] = ([], [], refl)
onto_some b (l ∷ ls) = (l, ls, refl)

-- bytes without a byte 10 begin a line
front_line : (b : ℕ) (front bytes : List ℕ) → (b == 10) ≡ false → AllByRecursion (λ c. (c == 10) ≡ false) front → HasLine (b ∷ front ++ bytes) (b ∷ front)
unfolding script_lines
front_line b [] bytes h all = let o = onto_some b (script_lines bytes) in (o.0, o.1, rw h o.2)
front_line b (c ∷ front) bytes h all =
    let o = onto_has b (c ∷ front) (script_lines (c ∷ front ++ bytes)) (front_line c front bytes all.0 all.1) in
    (o.0, o.1, rw h o.2)

pub ended_line : (front bytes : List ℕ) → AllByRecursion (λ c. (c == 10) ≡ false) front → script_lines (front ++ 10 ∷ bytes) ≡ front ∷ script_lines bytes
unfolding script_lines
ended_line [] bytes all = refl
ended_line (b ∷ front) bytes all = rw (all.0, ended_line front bytes all.1) refl

pub some_line : (front : List ℕ) (b : ℕ) (bytes : List ℕ) → (line : List ℕ) × (lines : List (List ℕ)) × (script_lines (front ++ b ∷ bytes) ≡ line ∷ lines)
unfolding script_lines
some_line [] b bytes = line_case b (b == 10) (script_lines bytes)
some_line (c ∷ front) b bytes = line_case c (c == 10) (script_lines (front ++ b ∷ bytes))

-- where there are lines enough, one more byte is too many
pub full_byte : (p : Place) (bytes : List ℕ) → 0 < length bytes → LINES_LIMIT ≤ p.lines → behind p bytes ≡ None
unfolding behind
full_byte p [] some full = absurd (omega arith)
full_byte p (b ∷ bs) some full = let past : nat_le LINES_LIMIT p.lines ≡ true = grind (arith, nat_tests) in rw past refl

-- a script that passes a limit has a faulty line
unended : (front : List ℕ) (b : ℕ) → AllByRecursion (λ c. (c == 10) ≡ false) front → (b == 10) ≡ false → AllByRecursion (λ c. (c == 10) ≡ false) (front ++ b ∷ [])
unended [] b all h = (h, tt)
unended (c ∷ front) b all h = (all.0, unended front b all.1 h)

pub begun_line : (front : List ℕ) (b : ℕ) (bytes : List ℕ) → AllByRecursion (λ c. (c == 10) ≡ false) front → (b == 10) ≡ false → HasLine (front ++ b ∷ bytes) (front ++ b ∷ [])
begun_line [] b bytes all h = front_line b [] bytes h tt
begun_line (c ∷ front) b bytes all h =
    let o = front_line c (front ++ b ∷ []) bytes all.0 (unended front b all.1 h) in
    (o.0, o.1, rw (sym (append_assoc front (b ∷ []) bytes)) o.2)

abbrev pub IsFaulty : ℕ → List ℕ → Type 0
IsFaulty n bytes = is_some (first_fault n (script_lines bytes)) ≡ true

overrun_cases : (p : Place) (front : List ℕ) (b : ℕ) (bytes : List ℕ) (full end long : Bool) → nat_le LINES_LIMIT p.lines ≡ full → (b == 10) ≡ end → nat_le LINE_LIMIT p.column ≡ long
    → AllByRecursion (λ c. (c == 10) ≡ false) front → length front ≡ p.column
    → ((q : Place) (more : List ℕ) → AllByRecursion (λ c. (c == 10) ≡ false) more → length more ≡ q.column → behind q bytes ≡ None → IsFaulty (q.lines + 1) (more ++ bytes))
    → option_and_then (λ q. behind q bytes) (cond full None (cond end (Some (record { lines = p.lines + 1; column = 0 })) (cond long None (Some (record { lines = p.lines; column = p.column + 1 }))))) ≡ None
    → IsFaulty (p.lines + 1) (front ++ b ∷ bytes)
overrun_cases p front b bytes true end long f e l all size h is =
    let o = some_line front b bytes in
    rw o.2 (too_many (p.lines + 1) o.0 o.1 (grind (arith, nat_tests)))
overrun_cases p front b bytes false true long f e l all size h is =
    let q : Place = record { lines = p.lines + 1; column = 0 } in
    let ten : b ≡ 10 = eqb-true b 10 e in
    rw (ten, ended_line front bytes all) (next_faulty (p.lines + 1) front (script_lines bytes) (h q [] tt refl is))
overrun_cases p front b bytes false false true f e l all size h is =
    let o = begun_line front b bytes all e in
    let past : LINE_LIMIT ≤ p.column = grind (arith, nat_tests) in
    let a = length-append (front ++ b ∷ []) o.0 in
    let c = length-append front (b ∷ []) in
    let d : length (b ∷ []) ≡ 1 = refl in
    rw o.2 (too_long (p.lines + 1) ((front ++ b ∷ []) ++ o.0) o.1 (omega arith))
overrun_cases p front b bytes false false false f e l all size h is =
    let q : Place = record { lines = p.lines; column = p.column + 1 } in
    let c = length-append front (b ∷ []) in
    let d : length (b ∷ []) ≡ 1 = refl in
    let faulty = h q (front ++ b ∷ []) (unended front b all e) (omega arith) is in
    rw (append_assoc front (b ∷ []) bytes) at faulty

overruns : (p : Place) (front bytes : List ℕ) → AllByRecursion (λ c. (c == 10) ≡ false) front → length front ≡ p.column → behind p bytes ≡ None → IsFaulty (p.lines + 1) (front ++ bytes)
unfolding behind
overruns p front [] all size is = absurd (cc)
overruns p front (b ∷ bytes) all size is =
    overrun_cases p front b bytes (nat_le LINES_LIMIT p.lines) (b == 10) (nat_le LINE_LIMIT p.column) refl refl refl all size (λ q more a s i. overruns q more bytes a s i) is

none_is : (o : Option Place) → is_none o ≡ true → o ≡ None
none_is None h = refl
none_is (Some p) h = absurd (cc)

faulty_is : (o : Option FaultyLine) → is_some o ≡ true → is_none o ≡ false
faulty_is None h = absurd (cc)
faulty_is (Some f) h = refl

pub limit_faulty : (script new : List ℕ) → passes_limit script ≡ true → is_well_formed (script_lines (script ++ new)) ≡ false
limit_faulty script new h =
    let none : behind start (script ++ new) ≡ None = behind_append start script new ∙ rw (none_is (behind start script) h) refl in
    faulty_is (first_fault 1 (script_lines (script ++ new))) (overruns start [] (script ++ new) tt refl none)

within_case : (limit : Bool) (script : List ℕ) → passes_limit script ≡ limit → is_well_formed (script_lines script) ≡ true → passes_limit script ≡ false
within_case true script l h =
    let faulty : is_well_formed (script_lines script) ≡ false = rw (append-nil script) at (limit_faulty script [] l) in
    absurd (cc)
within_case false script l h = l

-- a script without a faulty line passes no limit
pub sound_within : (script : List ℕ) → is_well_formed (script_lines script) ≡ true → passes_limit script ≡ false
sound_within script h = within_case (passes_limit script) script refl h

-- bytes without a byte 10 lead to a later column
pub all_lack : (bytes : List ℕ) → has_end bytes ≡ false → AllByRecursion (λ b. (b == 10) ≡ false) bytes
all_lack [] none = tt
all_lack (b ∷ bs) none = lack_case b bs (b == 10) refl none (all_lack bs)
  where
    lack_case : (b : ℕ) (bs : List ℕ) (test : Bool) → (b == 10) ≡ test → has_end (b ∷ bs) ≡ false → (has_end bs ≡ false → AllByRecursion (λ c. (c == 10) ≡ false) bs) → AllByRecursion (λ c. (c == 10) ≡ false) (b ∷ bs)
    lack_case b bs true t none ih = let wrong : true ≡ false = rw t at none in absurd (cc)
    lack_case b bs false t none ih = (t, ih (rw t at none))

pub place_goes : (lines column : ℕ) (bytes : List ℕ) → AllByRecursion (λ b. (b == 10) ≡ false) bytes → lines < LINES_LIMIT → column + length bytes ≤ LINE_LIMIT → behind (record { lines = lines; column = column }) bytes ≡ Some (record { lines = lines; column = column + length bytes })
unfolding behind
place_goes lines column [] all few fits = let e : column + 0 ≡ column = omega arith in rw e refl
place_goes lines column (b ∷ bs) all few fits =
    let room : nat_le LINES_LIMIT lines ≡ false = grind (arith, nat_tests) in
    let more : nat_le LINE_LIMIT column ≡ false = grind (arith, nat_tests) in
    let size : column + length (b ∷ bs) ≡ column + 1 + length bs = omega arith in
    rw (room, all.0, more, size) (place_goes lines (column + 1) bs all.1 few (omega arith))

pub place_at : (lines : ℕ) (line : List ℕ) → has_end line ≡ false → length line ≤ LINE_LIMIT → lines < LINES_LIMIT → behind (record { lines = lines; column = 0 }) line ≡ Some (record { lines = lines; column = length line })
place_at lines line lacks limit few =
    let e : 0 + length line ≡ length line = omega arith in
    rw e at (place_goes lines 0 line (all_lack line lacks) few (omega arith))

pub place_ends : (lines : ℕ) (line : List ℕ) → has_end line ≡ false → length line ≤ LINE_LIMIT → lines < LINES_LIMIT → behind (record { lines = lines; column = 0 }) (line ++ 10 ∷ []) ≡ Some (record { lines = lines + 1; column = 0 })
unfolding behind
place_ends lines line lacks limit few =
    let room : nat_le LINES_LIMIT lines ≡ false = grind (arith, nat_tests) in
    behind_append (record { lines = lines; column = 0 }) line (10 ∷ []) ∙ rw (place_at lines line lacks limit few, room) refl
