-- Without the line of a refused reply, the other lines tell the same.
use Rattle.lpc_model.specs.declared.entry.Entry.TheVariants.{Answer, Busy, Died, Directive, NoThread, Waits, Wakes}
use Rattle.lpc_model.specs.declared.entry.Entry.{Entry}
use Rattle.lpc_model.specs.Linked.{HasHeldRows}
use Rattle.lpc_model.specs.Settle.{IsSettled}
use Rattle.lpc_subsys.specs.Clients.{History}
use Rattle.lpc_model.specs.Residents.{line_done, heard, Resident, State, win32}
use Rattle.std.proofs.Common.{sym, subst, fold, ◌≡◌, ℕ, ◌+◌, ◌≤◌, false, List, [], ◌∷◌, ◌++◌, length, map, refl, ap, ◌∙◌, arith, length-append, Bool, true}
use Rattle.std.specs.Prelude.{Option, Some, None, Result, Ok, Err, nat_lt}
use Rattle.std.proofs.lemmas.Bool.Decides.{nat_tests}
use Rattle.std.proofs.lemmas.List.{length-map, map-append}
use Rattle.lpc_base.specs.declared.limits.TheConstants.{LINES_LIMIT}
use Rattle.lpc_model.specs.declared.fault.LineFault.{LineFault}
use Rattle.lpc_model.specs.World.{World, no_rows}
use Rattle.lpc_model.specs.Lines.{run, ScriptLine}
use Rattle.lpc_model.specs.Machine.{Stepped, step}
use Rattle.lpc_model.specs.Grammar.{read_line}
use Rattle.lpc_model.specs.Run.{said_done, first_state, state_behind, done_in, done_from, faulty_or, first_fault, line_step, numbered_line, said_from, trace, unless_faulty, world_behind}
use Rattle.lpc_model.specs.Replies.{reply_of, Reply, is_refusal, ChangesNothing, IsRefused, IsIdle, IsRefusedReplyAt, RefusedRepliesAreIdle}
use Rattle.lpc_model.proofs.Runs.{lawful_none}
use Rattle.lpc_replay.proofs.HeldWorlds.{lawful_behind}
use Rattle.lpc_replay.proofs.Refusing.{each_reply, replying, refusals_stay}

-- the lines behind lines without a fault
said_more : (n m : ℕ) (r : Result (Option ScriptLine) LineFault) (ls : List (List ℕ)) (more rest : List (Option ScriptLine)) → faulty_or n r (first_fault m ls) ≡ None → (first_fault m ls ≡ None → more ≡ said_from m ls ++ rest) → unless_faulty r more ≡ unless_faulty r (said_from m ls) ++ rest
said_more n m (Ok said) ls more rest sound h = ap (λ later. said ∷ later) (h sound)
said_more n m (Err e) ls more rest sound h = absurd (cc)

said_append : (n : ℕ) (front back : List (List ℕ)) → first_fault n front ≡ None → said_from n (front ++ back) ≡ said_from n front ++ said_from (n + length front) back
unfolding said_from first_fault
said_append n [] back sound = let e : n + 0 ≡ n = omega arith in rw e refl
said_append n (l ∷ ls) back sound =
    let e : n + length (l ∷ ls) ≡ n + 1 + length ls = omega arith in
    rw e (said_more n (n + 1) (numbered_line n l) ls (said_from (n + 1) (ls ++ back)) (said_from (n + 1 + length ls) back) sound (λ s. said_append (n + 1) ls back s))

said_length_more : (n m : ℕ) (r : Result (Option ScriptLine) LineFault) (ls : List (List ℕ)) → faulty_or n r (first_fault m ls) ≡ None → (first_fault m ls ≡ None → length (said_from m ls) ≡ length ls) → length (unless_faulty r (said_from m ls)) ≡ length ls + 1
said_length_more n m (Ok said) ls sound h = let e = h sound in omega arith
said_length_more n m (Err e) ls sound h = absurd (cc)

pub said_length : (n : ℕ) (lines : List (List ℕ)) → first_fault n lines ≡ None → length (said_from n lines) ≡ length lines
unfolding said_from first_fault
said_length n [] sound = refl
said_length n (l ∷ ls) sound =
    let e = said_length_more n (n + 1) (numbered_line n l) ls sound (λ s. said_length (n + 1) ls s) in
    omega arith

-- a line within the limit says what it reads
pub numbered_reads : (n : ℕ) (line : List ℕ) → n ≤ LINES_LIMIT → numbered_line n line ≡ read_line line
numbered_reads n line few = let within : nat_lt LINES_LIMIT n ≡ false = grind (arith, nat_tests) in rw within refl

-- the number of a line within the limit plays no part
said_shift : (n : ℕ) (lines : List (List ℕ)) → n + length lines ≤ LINES_LIMIT → said_from (n + 1) lines ≡ said_from n lines
unfolding said_from
said_shift n [] few = refl
said_shift n (l ∷ ls) few =
    rw (numbered_reads (n + 1) l (omega arith), numbered_reads n l (omega arith), said_shift (n + 1) ls (omega arith)) refl

said_line : (n : ℕ) (line : List ℕ) (lines : List (List ℕ)) (says : ScriptLine) → n ≤ LINES_LIMIT → read_line line ≡ Ok (Some says) → said_from n (line ∷ lines) ≡ Some says ∷ said_from (n + 1) lines
unfolding said_from
said_line n line lines says few reads = rw (numbered_reads n line few, reads) refl

pub trace_append : (w : World) (front back : List (Option ScriptLine)) → trace w (front ++ back) ≡ trace w front ++ trace (world_behind w front) back
unfolding trace world_behind
trace_append w [] back = refl
trace_append w (l ∷ ls) back = ap (λ later. line_step w l ∷ later) (trace_append (line_step w l).world ls back)

pub trace_length : (w : World) (lines : List (Option ScriptLine)) → length (trace w lines) ≡ length lines
unfolding trace
trace_length w [] = refl
trace_length w (l ∷ ls) = let e = trace_length (line_step w l).world ls in omega arith

trace_line : (w : World) (says : ScriptLine) (later : List (Option ScriptLine)) → (step w says).world ≡ w → trace w (Some says ∷ later) ≡ step w says ∷ trace w later
unfolding trace
trace_line w says later stays = rw stays refl

-- what is told of lines in two parts
told_append : (w : World) (front back : List (Option ScriptLine)) → map (λ (s : Stepped). s.entries) (trace w (front ++ back)) ≡ map (λ (s : Stepped). s.entries) (trace w front) ++ map (λ (s : Stepped). s.entries) (trace (world_behind w front) back)
told_append w front back = rw (trace_append w front back) (map-append (λ (s : Stepped). s.entries) (trace w front) (trace (world_behind w front) back))

-- Residents
-- the state behind lines, and what lines in two parts come to
state_after : State (List History) → List (Option ScriptLine) → State (List History)
state_after s [] = s
state_after s (said ∷ later) = state_after (state_behind win32 s said) later

done_append : (s : State (List History)) (front back : List (Option ScriptLine)) → done_from win32 s (front ++ back) ≡ done_from win32 s front ++ done_from win32 (state_after s front) back
unfolding state_after
done_append s [] back = refl
done_append s (said ∷ later) back = ap (λ lines. said_done win32 s said ∷ lines) (done_append (state_behind win32 s said) later back)

done_length : (s : State (List History)) (lines : List (Option ScriptLine)) → length (done_from win32 s lines) ≡ length lines
done_length s [] = refl
done_length s (said ∷ later) = let e = done_length (state_behind win32 s said) later in omega arith

world_after_lines : (s : State (List History)) (lines : List (Option ScriptLine)) → (state_after s lines).world ≡ world_behind s.world (done_from win32 s lines)
unfolding world_behind state_after
world_after_lines s [] = refl
world_after_lines s (said ∷ later) = world_after_lines (state_behind win32 s said) later

-- a reply call is what it says, and where it is refused no resident hears of it
unheard-own : (rs : List (Resident (List History))) (tid : ℕ) (own : Entry) → is_refusal tid own ≡ true → fold (heard win32) rs (own ∷ []) ≡ rs
unheard-own rs tid (Answer by call status fields) is = refl
unheard-own rs tid (Busy by) is = refl
unheard-own rs tid (NoThread by) is = refl
unheard-own rs tid (Waits by call fields) is = absurd (cc)
unheard-own rs tid (Wakes by call status fields) is = absurd (cc)
unheard-own rs tid (Died by status) is = absurd (cc)
unheard-own rs tid (Directive name status) is = absurd (cc)

only-own : (entries : List Entry) → length entries ≡ 1 → (tid : ℕ) → IsRefused tid entries → (own : Entry) × ((entries ≡ own ∷ []) × (is_refusal tid own ≡ true))
only-own [] one tid r = absurd (cc)
only-own (e ∷ []) one tid r = let told = r.told in let same : r.own ≡ e = cc in (e, (refl, subst (λ x. is_refusal tid x ≡ true) same r.refusal))
only-own (e ∷ f ∷ es) one tid r = absurd (omega (arith, one))

unheard : (rs : List (Resident (List History))) (entries : List Entry) → length entries ≡ 1 → (tid : ℕ) → IsRefused tid entries → fold (heard win32) rs entries ≡ rs
unheard rs entries one tid r =
    let only = only-own entries one tid r in
    subst (λ es. fold (heard win32) rs es ≡ rs) (sym only.1.0) (unheard-own rs tid only.0 only.1.1)

-- the state stays
stays-at : (s : State (List History)) (r : Reply) (receives : Bool) → (let line = run r.by (replying receives r) in IsRefused r.by (step s.world line).entries → ChangesNothing s.world line → state_behind win32 s (Some line) ≡ s)
stays-at s r true refused nothing = λ i. record { world = nothing.stays i; residents = unheard s.residents _ nothing.alone r.by refused i }
stays-at s r false refused nothing = λ i. record { world = nothing.stays i; residents = unheard s.residents _ nothing.alone r.by refused i }

says-itself : (s : State (List History)) (line : ScriptLine) (r : Reply) → reply_of line ≡ Some r → line_done win32 s line ≡ line
says-itself s = each_reply (λ line r. line_done win32 s line ≡ line) (λ r receives. itself r receives)
  where
    itself : (r : Reply) (receives : Bool) → line_done win32 s (run r.by (replying receives r)) ≡ run r.by (replying receives r)
    itself r true = refl
    itself r false = refl

refused-stays : (s : State (List History)) (line : ScriptLine) (r : Reply) → reply_of line ≡ Some r → IsRefused r.by (step s.world line).entries → ChangesNothing s.world line → state_behind win32 s (Some line) ≡ s
refused-stays s = each_reply (λ line r. IsRefused r.by (step s.world line).entries → ChangesNothing s.world line → state_behind win32 s (Some line) ≡ s) (λ r receives refused nothing. stays-at s r receives refused nothing)

-- where the line is what it says, and leaves the state as it is, what comes behind it is done as without it
done_line : (s : State (List History)) (says : ScriptLine) (rest : List (Option ScriptLine)) → line_done win32 s says ≡ says → state_behind win32 s (Some says) ≡ s → done_from win32 s (Some says ∷ rest) ≡ Some says ∷ done_from win32 s rest
done_line s says rest itself stays =
    ap (λ line. Some line ∷ done_from win32 (state_behind win32 s (Some says)) rest) itself ∙ ap (λ u. Some says ∷ done_from win32 u rest) stays

refusal_idle : (front : List (List ℕ)) (line : List ℕ) (back : List (List ℕ)) → IsRefusedReplyAt front line back → IsIdle front line back
refusal_idle front line back r =
    let start : State (List History) = first_state in
    let said = said_from 1 front in
    let s = state_after start said in
    let here : s.world ≡ world_behind no_rows (done_in front) = world_after_lines start said in
    let n = 1 + length front in
    let long : length (front ++ line ∷ back) ≡ length front + length (line ∷ back) = length-append front (line ∷ back) in
    let more : length (line ∷ back) ≡ 1 + length back = omega arith in
    let few = r.few in
    let reached = lawful_behind no_rows (done_in front) lawful_none in
    let refused : IsRefused r.reply.by (step s.world r.says).entries = subst (λ w. IsRefused r.reply.by (step w r.says).entries) (sym here) r.refused in
    let held : HasHeldRows s.world = subst HasHeldRows (sym here) reached.held in
    let settled : IsSettled s.world = subst IsSettled (sym here) reached.settled in
    let nothing = refusals_stay s.world r.says settled held r.reply r.is_reply refused in
    let stays = refused-stays s r.says r.reply r.is_reply refused nothing in
    let rest = said_from n back in
    let told : List Stepped → List (List Entry) = map (λ (t : Stepped). t.entries) in
    record {
      before = told (trace no_rows (done_in front));
      own = (step s.world r.says).entries;
      after = told (trace s.world (done_from win32 s rest));
      place = length-map (trace no_rows (done_in front)) (λ (t : Stepped). t.entries) ∙ (trace_length no_rows (done_in front) ∙ (done_length start said ∙ said_length 1 front r.sound));
      with_it =
          ap (λ lines. told (trace no_rows (done_from win32 start lines))) (said_append 1 front (line ∷ back) r.sound)
          ∙ (ap (λ lines. told (trace no_rows (done_from win32 start (said ++ lines)))) (said_line n line back r.says (omega (arith, long, more, few)) r.reads ∙ ap (λ lines. Some r.says ∷ lines) (said_shift n back (omega (arith, long, more, few))))
          ∙ (ap (λ lines. told (trace no_rows lines)) (done_append start said (Some r.says ∷ rest))
          ∙ (told_append no_rows (done_in front) (done_from win32 s (Some r.says ∷ rest))
          ∙ (ap (λ lines. told (trace no_rows (done_in front)) ++ told (trace (world_behind no_rows (done_in front)) lines)) (done_line s r.says rest (says-itself s r.says r.reply r.is_reply) stays)
          ∙ (ap (λ w. told (trace no_rows (done_in front)) ++ told (trace w (Some r.says ∷ done_from win32 s rest))) (sym here)
          ∙ ap (λ ss. told (trace no_rows (done_in front)) ++ told ss) (trace_line s.world r.says (done_from win32 s rest) nothing.stays))))));
      without_it =
          ap (λ lines. told (trace no_rows (done_from win32 start lines))) (said_append 1 front back r.sound)
          ∙ (ap (λ lines. told (trace no_rows lines)) (done_append start said rest)
          ∙ (told_append no_rows (done_in front) (done_from win32 s rest) ∙ rw (sym here) refl));
    }

pub refusals_idle : (lines : List (List ℕ)) → RefusedRepliesAreIdle lines
refusals_idle lines front line back parts r = refusal_idle front line back r
