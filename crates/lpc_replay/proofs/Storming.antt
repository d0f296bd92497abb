-- A storm's tally: over lists of lines, and what it comes to for the whole script.
use Rattle.lpc_model.specs.Machine.{Stepped}
use Rattle.lpc_residents.specs.Kept.{kept}
use Rattle.lpc_model.specs.World.{no_rows}
use Rattle.std.proofs.Common.{◌≡◌, ℕ, ◌+◌, ◌%◌, ◌^◌, List, [], ◌∷◌, ◌++◌, length, refl, sym, ap, ◌∙◌, arith, length-append, drop, take, get_or, ◌<◌, ◌≤◌, ◌-◌, suc, Bool, true, false}
use Rattle.std.specs.Prelude.{Option, Some, None, Result, Ok, Err, is_some, map, sum, count_by, cond}
use Rattle.std.specs.List.{All, flat_map}
use Rattle.std.proofs.lemmas.List.{drop_all, map-append}
use Rattle.std.proofs.lemmas.List.Sums.{sum-map, sum_by-append, sum_by_more}
use Rattle.std.proofs.Math.Nat.{mod-add-mod}
use Rattle.std.proofs.Math.Seq.{drop-cons}
use Rattle.lpc_model.specs.declared.entry.Entry.{Entry}
use Rattle.lpc_model.specs.declared.entry.Entry.TheVariants.{Answer, Waits, Wakes, Busy, NoThread, Died, Directive}
use Rattle.lpc_model.specs.declared.fault.LineFault.{LineFault}
use Rattle.lpc_model.specs.Found.{objects}
use Rattle.lpc_model.specs.Lines.{ScriptLine}
use Rattle.lpc_model.specs.Listed.{Aside, shown_entry}
use Rattle.lpc_model.specs.Script.{script_lines}
use Rattle.lpc_model.specs.Run.{done_from, all_entries, numbered_line, run_of, said_from, said_in, trace, world_behind}
use Rattle.lpc_model.specs.Transcript.{transcript}
use Rattle.lpc_storm.specs.declared.line.StormLine.{StormLine}
use Rattle.lpc_storm.specs.Generated.{Course, behind_round, clients, connecting, ending, generated, line_text, next_round, opening, rounds, start, storm_lines}
use Rattle.lpc_storm.specs.Summary.{is_mismatch, is_replied, summary_of}
use Rattle.lpc_storm.proofs.Printable.{HadFew, lines_are, small_storm}
use Rattle.lpc_replay.specs.declared.form.Form.TheVariants.{Transcript}
use Rattle.lpc_replay.specs.Playing.{step_at, state_at, Progress, RunsLine, begin, behind_line, entries_told, last_text, line_text as text_of, steps_of, text_from}
use Rattle.lpc_replay.specs.Storming.{Tally, behind_said, behind_storm, behind_text, behind_texts, calm, tallied, unless_stopped}
use Rattle.lpc_replay.proofs.Cut.{steps_go}
use Rattle.lpc_replay.proofs.Turns.{done_is, steps_is, text_goes, text_stops, whole_is}

-- a running sum of bytes
pub sum_goes : (total now next : ℕ) (bytes : List ℕ) (i : ℕ) → i < length bytes → now ≡ (total + sum (take i bytes)) % 2 ^ 32 → next ≡ (now + get_or bytes i 0) % 2 ^ 32 → next ≡ (total + sum (take (i + 1) bytes)) % 2 ^ 32
sum_goes total now next bytes i within kept is =
    let more = sum_by_more (λ x. x) bytes i 0 within in
    let byte = get_or bytes i 0 in
    let all : total + sum (take i bytes) + byte ≡ total + sum (take (i + 1) bytes) = omega arith in
    is ∙ (ap (λ n. (n + byte) % 2 ^ 32) kept ∙ (mod-add-mod (total + sum (take i bytes)) (2 ^ 32) byte ∙ ap (λ n. n % 2 ^ 32) all))

-- lines behind lines
texts_append : (t : Tally) (xs ys : List (List ℕ)) → behind_texts t (xs ++ ys) ≡ behind_texts (behind_texts t xs) ys
unfolding behind_texts
texts_append t [] ys = refl
texts_append t (x ∷ xs) ys = texts_append (behind_text t x) xs ys

pub storm_append : (t : Tally) (xs ys : List StormLine) → behind_storm t (xs ++ ys) ≡ behind_storm (behind_storm t xs) ys
storm_append t xs ys = ap (λ ls. behind_texts t ls) (map-append line_text xs ys) ∙ texts_append t (map line_text xs) (map line_text ys)

-- a storm that no faulty line has stopped, and one that a line stopped
abbrev going : Progress → ℕ → ℕ → ℕ → Tally
going p r m s = record { at = p; fault = None; replies = r; mismatches = m; total = s }

abbrev stopped : Progress → LineFault → ℕ → ℕ → ℕ → Tally
stopped p f r m s = record { at = p; fault = Some f; replies = r; mismatches = m; total = s }

stays : (p : Progress) (f : LineFault) (r m s : ℕ) (lines : List (List ℕ)) → behind_texts (stopped p f r m s) lines ≡ stopped p f r m s
unfolding behind_texts
stays p f r m s [] = refl
stays p f r m s (line ∷ lines) = stays p f r m s lines

-- what the tally behind lines has more than the one before them
record Comes (p : Progress) (r m s : ℕ) (lines : List (List ℕ)) (u : Tally) : Type 0 where
  ran : u.at.lines ≡ p.lines + length (steps_of p lines)
  told : u.at.told ≡ p.told + length (all_entries (steps_of p lines))
  rows : u.at.rows ≡ world_behind p.rows (done_from kept (state_at p) (said_from (p.lines + 1) lines))
  replied : u.replies ≡ r + count_by is_replied (all_entries (steps_of p lines))
  missed : u.mismatches ≡ m + count_by is_mismatch (all_entries (steps_of p lines))
  summed : (u.total + sum (last_text u.at u.fault)) % 2 ^ 32 ≡ (s + sum (text_from Transcript p lines)) % 2 ^ 32

steps_stop : (p : Progress) (line : List ℕ) (lines : List (List ℕ)) (f : LineFault) → numbered_line (p.lines + 1) line ≡ Err f → steps_of p (line ∷ lines) ≡ []
unfolding said_from trace
steps_stop p line lines f is = rw is refl

world_stops : (p : Progress) (line : List ℕ) (lines : List (List ℕ)) (f : LineFault) → numbered_line (p.lines + 1) line ≡ Err f → p.rows ≡ world_behind p.rows (done_from kept (state_at p) (said_from (p.lines + 1) (line ∷ lines)))
unfolding said_from world_behind
world_stops p line lines f is = rw is refl

world_goes : (p : Progress) (line : List ℕ) (lines : List (List ℕ)) (said : Option ScriptLine) → numbered_line (p.lines + 1) line ≡ Ok said → world_behind p.rows (done_from kept (state_at p) (said_from (p.lines + 1) (line ∷ lines))) ≡ world_behind (behind_line p said).rows (done_from kept (state_at (behind_line p said)) (said_from (p.lines + 1 + 1) lines))
unfolding said_from world_behind
world_goes p line lines said is = rw is refl

comes_none : (p : Progress) (r m s : ℕ) → Comes p r m s [] (going p r m s)
unfolding said_from trace world_behind text_from
comes_none p r m s = record {
  ran = omega arith;
  told = omega arith;
  rows = refl;
  replied = omega arith;
  missed = omega arith;
  summed = refl;
}

comes_stop : (p : Progress) (r m s : ℕ) (line : List ℕ) (lines : List (List ℕ)) (f : LineFault) → numbered_line (p.lines + 1) line ≡ Err f → Comes p r m s (line ∷ lines) (stopped p f r m s)
comes_stop p r m s line lines f is =
    let none = steps_stop p line lines f is in
    record {
      ran = rw none (omega arith);
      told = rw none (omega arith);
      rows = world_stops p line lines f is;
      replied = rw none (omega arith);
      missed = rw none (omega arith);
      summed = rw (text_stops Transcript p line lines f is) refl;
    }

comes_on : (p : Progress) (r m s : ℕ) (line : List ℕ) (lines : List (List ℕ)) (said : Option ScriptLine) (u : Tally) → numbered_line (p.lines + 1) line ≡ Ok said
    → Comes (behind_line p said) (r + count_by is_replied (step_at p said).entries) (m + count_by is_mismatch (step_at p said).entries) ((s + sum (text_of Transcript p said)) % 2 ^ 32) lines u → Comes p r m s (line ∷ lines) u
comes_on p r m s line lines said u is h =
    let q = behind_line p said in
    let first = (step_at p said).entries in
    let later = all_entries (steps_of q lines) in
    let goes = steps_go p line lines said is in
    let size = length-append first later in
    let replied = sum_by-append (λ x. cond (is_replied x) 1 0) first later in
    let missed = sum_by-append (λ x. cond (is_mismatch x) 1 0) first later in
    let ran = h.ran in
    let told = h.told in
    let one = h.replied in
    let two = h.missed in
    let bytes = sum_by-append (λ x. x) (text_of Transcript p said) (text_from Transcript q lines) in
    let all : s + sum (text_of Transcript p said) + sum (text_from Transcript q lines) ≡ s + sum (text_of Transcript p said ++ text_from Transcript q lines) = omega arith in
    record {
      ran = rw goes (omega arith);
      told = rw goes (omega arith);
      rows = h.rows ∙ sym (world_goes p line lines said is);
      replied = rw goes (omega arith);
      missed = rw goes (omega arith);
      summed = h.summed ∙ (mod-add-mod (s + sum (text_of Transcript p said)) (2 ^ 32) (sum (text_from Transcript q lines)) ∙ ap (λ n. n % 2 ^ 32) (all ∙ ap (λ t. s + sum t) (sym (text_goes Transcript p line lines said is))));
    }

comes_case : (p : Progress) (r m s : ℕ) (line : List ℕ) (lines : List (List ℕ)) (said : Result (Option ScriptLine) LineFault) → numbered_line (p.lines + 1) line ≡ said
    → ((q : Progress) (a b c : ℕ) → Comes q a b c lines (behind_texts (going q a b c) lines)) → Comes p r m s (line ∷ lines) (behind_texts (behind_said (going p r m s) said) lines)
comes_case p r m s line lines (Err f) is h = rw (stays p f r m s lines) (comes_stop p r m s line lines f is)
comes_case p r m s line lines (Ok said) is h =
    comes_on p r m s line lines said _ is (h (behind_line p said) (r + count_by is_replied (step_at p said).entries) (m + count_by is_mismatch (step_at p said).entries) ((s + sum (text_of Transcript p said)) % 2 ^ 32))

comes : (p : Progress) (r m s : ℕ) (lines : List (List ℕ)) → Comes p r m s lines (behind_texts (going p r m s) lines)
unfolding behind_texts
comes p r m s [] = comes_none p r m s
comes p r m s (line ∷ lines) = comes_case p r m s line lines (numbered_line (p.lines + 1) line) refl (λ q a b c. comes q a b c lines)

-- what a tally comes to is what the script comes to whose lines were run
pub tallied_is : (script : List ℕ) → tallied (behind_texts calm (script_lines script)) ≡ summary_of script
tallied_is script =
    let lines = script_lines script in
    let u = behind_texts calm lines in
    let h = comes begin 0 0 0 lines in
    let run = run_of script in
    let first = steps_of begin lines in
    let runs : first ≡ run = steps_is script in
    let ran_first : u.at.lines ≡ length first = h.ran ∙ omega arith in
    let ran : u.at.lines ≡ length run = ran_first ∙ ap length runs in
    let told_first : u.at.told ≡ length (all_entries first) = h.told ∙ omega arith in
    let told : u.at.told ≡ length (all_entries run) = told_first ∙ ap (λ (r : List Stepped). length (all_entries r)) runs in
    let rows : objects u.at.rows ≡ objects (world_behind no_rows (said_in script)) = ap objects (h.rows ∙ ap (λ done. world_behind no_rows done) (done_is lines)) in
    let replied_first : u.replies ≡ count_by is_replied (all_entries first) = h.replied ∙ omega arith in
    let replied : u.replies ≡ count_by is_replied (all_entries run) = replied_first ∙ ap (λ (r : List Stepped). count_by is_replied (all_entries r)) runs in
    let missed_first : u.mismatches ≡ count_by is_mismatch (all_entries first) = h.missed ∙ omega arith in
    let missed : u.mismatches ≡ count_by is_mismatch (all_entries run) = missed_first ∙ ap (λ (r : List Stepped). count_by is_mismatch (all_entries r)) runs in
    let none : 0 + sum (text_from Transcript begin lines) ≡ sum (transcript script) = omega arith ∙ ap sum (whole_is Transcript script) in
    let summed : (u.total + sum (last_text u.at u.fault)) % 2 ^ 32 ≡ sum (transcript script) % 2 ^ 32 = h.summed ∙ ap (λ n. n % 2 ^ 32) none in
    λ i. record { lines = ran i; entries = told i; objects = rows i; replies = replied i; mismatches = missed i; sum = summed i }

-- Lists of lines, one after the other.
pub lines_go : (t u v : Tally) (lines : List StormLine) (i : ℕ) (d : StormLine) → i < length lines → behind_storm t (drop i lines) ≡ v → u ≡ behind_storm t (get_or lines i d ∷ []) → behind_storm u (drop (i + 1) lines) ≡ v
lines_go t u v lines i d within kept is =
    let line = get_or lines i d in
    let parts : drop i lines ≡ (line ∷ []) ++ drop (suc i) lines = drop-cons lines i d within in
    let next : i + 1 ≡ suc i = omega arith in
    rw (next, is) (sym (storm_append t (line ∷ []) (drop (suc i) lines)) ∙ (ap (λ ls. behind_storm t ls) (sym parts) ∙ kept))

pub lines_end : (t v : Tally) (lines : List StormLine) (i : ℕ) → length lines ≤ i → behind_storm t (drop i lines) ≡ v → t ≡ v
unfolding behind_texts
lines_end t v lines i past kept = let none : drop i lines ≡ [] = drop_all i lines past in rw none at kept

pub clients_go : (t u v : Tally) (clients : List ℕ) (i d : ℕ) → i < length clients → behind_storm t (flat_map connecting (drop i clients)) ≡ v → u ≡ behind_storm t (connecting (get_or clients i d)) → behind_storm u (flat_map connecting (drop (i + 1) clients)) ≡ v
clients_go t u v clients i d within kept is =
    let client = get_or clients i d in
    let later = flat_map connecting (drop (suc i) clients) in
    let parts : drop i clients ≡ client ∷ drop (suc i) clients = drop-cons clients i d within in
    let next : i + 1 ≡ suc i = omega arith in
    rw (next, is) (sym (storm_append t (connecting client) later) ∙ (ap (λ cs. behind_storm t (flat_map connecting cs)) (sym parts) ∙ kept))

pub clients_end : (t v : Tally) (clients : List ℕ) (i : ℕ) → length clients ≤ i → behind_storm t (flat_map connecting (drop i clients)) ≡ v → t ≡ v
unfolding behind_texts
clients_end t v clients i past kept = let none : drop i clients ≡ [] = drop_all i clients past in rw none at kept

rounds_more : (n : ℕ) (c : Course) → rounds (suc n) c ≡ next_round c ++ rounds n (behind_round c)
unfolding rounds
rounds_more n c = refl

pub rounds_go : (t u v : Tally) (n i : ℕ) (c : Course) → i < n → behind_storm t (rounds (n - i) c) ≡ v → u ≡ behind_storm t (next_round c) → behind_storm u (rounds (n - (i + 1)) (behind_round c)) ≡ v
rounds_go t u v n i c within kept is =
    let left = n - (i + 1) in
    let parts : n - i ≡ suc left = omega arith in
    rw is (sym (storm_append t (next_round c) (rounds left (behind_round c))) ∙ (ap (λ ls. behind_storm t ls) (sym (ap (λ m. rounds m c) parts ∙ rounds_more left c)) ∙ kept))

pub rounds_end : (t v : Tally) (n i : ℕ) (c : Course) → n ≤ i → behind_storm t (rounds (n - i) c) ≡ v → t ≡ v
unfolding behind_texts rounds
rounds_end t v n i c past kept = let none : n - i ≡ 0 = omega arith in rw none at kept

-- the whole storm
pub storm_is : (count seed : ℕ) (one two three four : Tally) → count ≤ 200000 → one ≡ behind_storm calm opening → two ≡ behind_storm one (flat_map connecting clients) → three ≡ behind_storm two (rounds count (start seed)) → four ≡ behind_storm three ending → tallied four ≡ summary_of (generated count seed)
storm_is count seed one two three four limit first second third fourth =
    let lines = storm_lines count seed in
    let middle = flat_map connecting clients in
    let turns = rounds count (start seed) in
    let all : four ≡ behind_storm calm lines =
    rw (fourth, third, second, first) (sym (storm_append calm (opening ++ middle ++ turns) ending
    ∙ (ap (λ t. behind_storm t ending) (storm_append calm (opening ++ middle) turns
    ∙ ap (λ t. behind_storm t turns) (storm_append calm opening middle))))) in
    ap tallied (all ∙ ap (λ ls. behind_texts calm ls) (sym (lines_are lines (small_storm count seed limit)))) ∙ tallied_is (generated count seed)

-- One line: a count of entries doesn't look at what stands in place of marks.
one_for : (Entry → Bool) → Entry → ℕ
one_for p x = cond (p x) 1 0

shown_same : (aside : Aside) (p : Entry → Bool) → ((entry : Entry) → p (shown_entry aside entry) ≡ p entry) → (entries : List Entry) → map (one_for p) (map (shown_entry aside) entries) ≡ map (one_for p) entries
unfolding one_for
shown_same aside p same [] = refl
shown_same aside p same (entry ∷ entries) = rw (same entry, shown_same aside p same entries) refl

count_shown : (aside : Aside) (p : Entry → Bool) → ((entry : Entry) → p (shown_entry aside entry) ≡ p entry) → (entries : List Entry) → count_by p (map (shown_entry aside) entries) ≡ count_by p entries
unfolding one_for
count_shown aside p same entries =
    sym (sum-map (one_for p) (map (shown_entry aside) entries)) ∙ (ap sum (shown_same aside p same entries) ∙ sum-map (one_for p) entries)

replied_same : (aside : Aside) (entry : Entry) → is_replied (shown_entry aside entry) ≡ is_replied entry
unfolding is_replied
replied_same aside (Answer tid call status fields) = refl
replied_same aside (Waits tid call fields) = refl
replied_same aside (Wakes tid call status fields) = refl
replied_same aside (Busy tid) = refl
replied_same aside (NoThread tid) = refl
replied_same aside (Died tid status) = refl
replied_same aside (Directive word status) = refl

missed_same : (aside : Aside) (entry : Entry) → is_mismatch (shown_entry aside entry) ≡ is_mismatch entry
unfolding is_mismatch
missed_same aside (Answer tid call status fields) = refl
missed_same aside (Waits tid call fields) = refl
missed_same aside (Wakes tid call status fields) = refl
missed_same aside (Busy tid) = refl
missed_same aside (NoThread tid) = refl
missed_same aside (Died tid status) = refl
missed_same aside (Directive word status) = refl

line_is : (t : Tally) (line : StormLine) → behind_storm t (line ∷ []) ≡ behind_text t (line_text line)
unfolding behind_texts
line_is t line = refl

idle_case : (o : Option LineFault) (t next : Tally) → is_some o ≡ true → t ≡ unless_stopped o t next
idle_case (Some f) t next some = refl
idle_case None t next some = absurd (cc)

pub line_idle : (t : Tally) (line : StormLine) → is_some t.fault ≡ true → t ≡ behind_storm t (line ∷ [])
line_idle t line some = idle_case t.fault t (behind_said t (numbered_line (t.at.lines + 1) (line_text line))) some ∙ sym (line_is t line)

pub line_stops : (b o : Option LineFault) (p q : Progress) (r m s : ℕ) (line : StormLine) (text : List ℕ) → is_some b ≡ false → is_some o ≡ true → RunsLine Transcript (line_text line) o p q text
    → record { at = q; fault = o; replies = r; mismatches = m; total = s } ≡ behind_storm (record { at = p; fault = b; replies = r; mismatches = m; total = s }) (line ∷ [])
line_stops (Some g) o p q r m s line text none some runs = absurd (cc)
line_stops None None p q r m s line text none some runs = absurd (cc)
line_stops None (Some f) p q r m s line text none some runs = rw (line_is (going p r m s) line, runs.0, runs.1) refl

pub line_runs : (b o : Option LineFault) (p q : Progress) (r m s a c z : ℕ) (line : StormLine) (text : List ℕ) (aside : Aside) (listed told : List Entry) → is_some b ≡ false → is_some o ≡ false → RunsLine Transcript (line_text line) o p q text
    → told ≡ entries_told p (numbered_line (p.lines + 1) (line_text line)) → map (shown_entry aside) listed ≡ told → a ≡ count_by is_replied listed → c ≡ count_by is_mismatch listed → z ≡ (s + sum text) % 2 ^ 32
    → record { at = q; fault = o; replies = r + a; mismatches = m + c; total = z } ≡ behind_storm (record { at = p; fault = b; replies = r; mismatches = m; total = s }) (line ∷ [])
line_runs (Some g) o p q r m s a c z line text aside listed told none clear runs tells shows x y w = absurd (cc)
line_runs None (Some f) p q r m s a c z line text aside listed told none clear runs tells shows x y w = absurd (cc)
line_runs None None p q r m s a c z line text aside listed told none clear runs tells shows x y w =
    let entries = (step_at p runs.0).entries in
    let all : map (shown_entry aside) listed ≡ entries = shows ∙ (tells ∙ rw runs.1 refl) in
    let one : a ≡ count_by is_replied entries = x ∙ (sym (count_shown aside is_replied (replied_same aside) listed) ∙ ap (λ es. count_by is_replied es) all) in
    let two : c ≡ count_by is_mismatch entries = y ∙ (sym (count_shown aside is_mismatch (missed_same aside) listed) ∙ ap (λ es. count_by is_mismatch es) all) in
    let three : z ≡ (s + sum (text_of Transcript p runs.0)) % 2 ^ 32 = w ∙ ap (λ t. (s + sum t) % 2 ^ 32) runs.3 in
    rw (line_is (going p r m s) line, runs.1, runs.2, one, two, three) refl

-- the rounds so far are few enough for one more
pub few_enough : (k : ℕ) (c : Course) → HadFew k c → k < 200000 → All (λ n. n < 200000) c.had
few_enough k c had few i d within = let at = had.1 i d within in omega arith

pub rounds_first : (t : Tally) (n : ℕ) (c d : Course) → c ≡ d → behind_storm t (rounds (n - 0) c) ≡ behind_storm t (rounds n d)
rounds_first t n c d is = let same : n - 0 ≡ n = omega arith in rw (same, is) refl
