-- What a thread makes by a call: its births, the handles to them, and the worlds between.
use Rattle.std.proofs.Common.{◌≡◌, ◌∙◌, ℕ, ◌+◌, ◌≤◌, List, [], ◌∷◌, ◌++◌, Bool, true, false, cond, length, Option, Some, None, refl, ap, subst, sym, arith}
use Rattle.std.specs.Prelude.{◌==◌, nat_lt, option_map}
use Rattle.std.proofs.lemmas.Bool.Decides.{nat_tests}
use Rattle.lpc_base.specs.Rows.{change, count, first, has, which}
use Rattle.lpc_base.proofs.RowWords.{first-behind, has-change}
use Rattle.lpc_model.specs.Basics.{AddsHandle, AddsProcess, AddsThread, DrawsOrdinal, basic, no_handles, past_ordinal, put_handle, with_handle}
use Rattle.lpc_model.specs.Creation.{create_process_steps, gives_life, making_process, new_process, new_thread, second_birth, second_handle}
use Rattle.lpc_model.specs.Found.{free_handle, handles_of, is_table, is_thread, process_name, rows_in, thread_name, token_of}
use Rattle.lpc_model.specs.Targets.{LIFE_ACCESS}
use Rattle.lpc_model.specs.Tests.{handle_load, handle_row, is_connect_of, next_birth}
use Rattle.lpc_model.specs.World.{Birth, HandleRow, HandleTable, ObjectName, ThreadRow, Token, World}
use Rattle.lpc_model.proofs.Steps.Rows.{first-change}
use Rattle.lpc_model.proofs.Calls.Creating.{rows-behind}
use Rattle.lpc_rows.specs.Clauses.{birth_next, thread_row}
use Rattle.lpc_rows.specs.Lawful.{can_begin, drew}
use Rattle.std.specs.Prelude.{Ok}
use Rattle.lpc_base.specs.declared.status.TheConstants.{SUCCESS}
use Rattle.lpc_model.specs.declared.entry.CallName.TheVariants.{NtCreateProcess}
use Rattle.lpc_model.specs.declared.entry.Entry.TheVariants.{Answer}
use Rattle.lpc_model.specs.declared.entry.Outcome.TheVariants.{Answered}
use Rattle.lpc_model.specs.Fields.{first_thread, h}
use Rattle.lpc_model.specs.Lines.{create_process}
use Rattle.lpc_model.specs.Listed.{Listed}
use Rattle.lpc_model.specs.Machine.{settled}
use Rattle.lpc_rows.specs.Called.{Served, called, service}
use Rattle.lpc_rows.specs.Kept.{Kept}
use Rattle.lpc_rows.specs.Ready.{caller}

pub begins : (ts : List ThreadRow) (n : ℕ) (b : Birth) → (b.maker == 0) ≡ false → has (drew b) ts ≡ true → can_begin ts n b ≡ true
begins ts n b off drawn = rw off drawn

-- Births
some-same : {A : Type 0} (a b : A) → Some a ≡ Some b → a ≡ b
some-same a b is = cc

pub first-birth : (w : World) (tid : ℕ) (by : ThreadRow) (b : Birth) → thread_row w tid ≡ Some by → birth_next w tid ≡ Some b → b ≡ next_birth by
first-birth w tid by b row is = let found : Some (next_birth by) ≡ Some b = rw row at is in sym (some-same (next_birth by) b found)

drawn-row : (w : World) (tid : ℕ) (by : ThreadRow) → thread_row w tid ≡ Some by → (by.number == tid) ≡ true → thread_row (basic w (DrawsOrdinal tid)) tid ≡ Some (past_ordinal by)
drawn-row w tid by row own = first-change (is_thread tid) (is_thread tid) past_ordinal (λ t. refl) w.threads ∙ rw (row, own) refl

pub next-birth : (w : World) (tid : ℕ) (by : ThreadRow) (b : Birth) → thread_row w tid ≡ Some by → (by.number == tid) ≡ true → birth_next (basic w (DrawsOrdinal tid)) tid ≡ Some b → b ≡ second_birth by
next-birth w tid by b row own is = first-birth (basic w (DrawsOrdinal tid)) tid (past_ordinal by) b (drawn-row w tid by row own) is

pub drawn-stands : (w : World) (tid : ℕ) → has (is_thread tid) w.threads ≡ true → has (is_thread tid) (basic w (DrawsOrdinal tid)).threads ≡ true
drawn-stands w tid is = has-change (is_thread tid) (is_thread tid) past_ordinal (λ t. refl) w.threads ∙ is

-- the handles of a process that stands are the same behind those of a new one
pub same-handles : (w : World) (pid n : ℕ) → has (is_table pid) w.handles ≡ true → handles_of (record w { handles = w.handles ++ no_handles n ∷ [] }) pid ≡ handles_of w pid
same-handles w pid n home = ap rows_in (first-behind (is_table pid) w.handles (no_handles n ∷ []) home)

-- one handle more at most
two-parts : (v : ℕ) (rows : List HandleRow) → length (which (λ (r : HandleRow). nat_lt r.value v) rows) + length (which (λ (r : HandleRow). nat_lt v r.value) rows) ≤ length rows
two-parts v [] = omega arith
two-parts v (r ∷ rows) = grind (arith, nat_tests, two-parts v rows)

length-two : {X : Type 0} (xs ys : List X) → length (xs ++ ys) ≡ length xs + length ys
length-two [] ys = omega arith
length-two (x ∷ xs) ys = let rest = length-two xs ys in omega (arith, rest)

put-length : (h : HandleRow) (rows : List HandleRow) → length (put_handle h rows) ≤ length rows + 1
put-length h rows =
    let low = which (λ (r : HandleRow). nat_lt r.value h.value) rows in
    let high = which (λ (r : HandleRow). nat_lt h.value r.value) rows in
    let sum : length (low ++ h ∷ high) ≡ length low + length (h ∷ high) = length-two low (h ∷ high) in
    let parts = two-parts h.value rows in
    omega (arith, sum, parts)

pub load-more : (w : World) (pid : ℕ) (h : HandleRow) → handle_load (basic w (AddsHandle pid h)) pid ≤ handle_load w pid + 1
load-more w pid h =
    let less : length (handles_of (basic w (AddsHandle pid h)) pid) ≤ length (handles_of w pid) + 1 =
    subst (λ o. length (rows_in o) ≤ length (handles_of w pid) + 1) (sym (first-change (is_table pid) (is_table pid) (with_handle h) (λ t. refl) w.handles)) (at (first (is_table pid) w.handles)) in
    omega (arith, less)
  where
    at : (o : Option HandleTable) → length (rows_in (option_map (λ t. cond (is_table pid t) (with_handle h t) t) o)) ≤ length (rows_in o) + 1
    at None = omega arith
    at (Some t) = of (is_table pid t)
      where
        of : (c : Bool) → length (rows_in (Some (cond c (with_handle h t) t))) ≤ length t.rows + 1
        of true = put-length h t.rows
        of false = omega arith

-- What a birth needs, and room for handles
has-behind : {X : Type 0} (p : X → Bool) (x : X) (xs : List X) → has p xs ≡ true → has p (x ∷ xs) ≡ true
has-behind p x xs is = grind (arith)

drew-more : (b : Birth) (t : ThreadRow) → drew b t ≡ true → drew b (past_ordinal t) ≡ true
drew-more b t is = grind (arith, nat_tests)

pub drawn-later : (b : Birth) (s : ThreadRow → Bool) (ts : List ThreadRow) → has (drew b) ts ≡ true → has (drew b) (change s past_ordinal ts) ≡ true
drawn-later b s [] is = absurd (cc)
drawn-later b s (t ∷ ts) is = at (s t) (drew b t) refl (drew-more b t) is (drawn-later b s ts)
  where
    at : (c d : Bool) → drew b t ≡ d → (drew b t ≡ true → drew b (past_ordinal t) ≡ true) → has (drew b) (t ∷ ts) ≡ true → (has (drew b) ts ≡ true → has (drew b) (change s past_ordinal ts) ≡ true) → has (drew b) (cond c (past_ordinal t) t ∷ change s past_ordinal ts) ≡ true
    at true true here more is rest = let now = more here in rw now refl
    at false true here more is rest = rw here refl
    at true false off more is rest = let later : has (drew b) ts ≡ true = rw off at is in has-behind (drew b) (past_ordinal t) (change s past_ordinal ts) (rest later)
    at false false off more is rest = let later : has (drew b) ts ≡ true = rw off at is in has-behind (drew b) t (change s past_ordinal ts) (rest later)

pub load-same : (w : World) (pid n : ℕ) → has (is_table pid) w.handles ≡ true → handle_load (record w { handles = w.handles ++ no_handles n ∷ [] }) pid ≡ handle_load w pid
load-same w pid n home = ap (λ hs. length hs + count (is_connect_of pid) w.waits) (same-handles w pid n home)

pub free-same : (w : World) (pid n : ℕ) → has (is_table pid) w.handles ≡ true → free_handle (record w { handles = w.handles ++ no_handles n ∷ [] }) pid ≡ free_handle w pid
free-same w pid n home = rw (first-behind (is_table pid) w.handles (no_handles n ∷ []) home) refl

-- the world in which the caller has what it made, and no handle to it yet
abbrev pub booted_by : World → ThreadRow → Token → ℕ → ℕ → World
booted_by w by token pid tid =
    basic (basic (basic (basic w (DrawsOrdinal by.number)) (DrawsOrdinal by.number)) (AddsProcess (new_process pid (Some by.process) (next_birth by) token))) (AddsThread (new_thread tid pid (second_birth by)))

-- the least free handles, one after the other, are those of the definition
pub two-handles : (w : World) (by : ThreadRow) (token : Token) (pid tid value second : ℕ) → has (is_table by.process) w.handles ≡ true → value ≡ free_handle (booted_by w by token pid tid) by.process
    → second ≡ free_handle (basic (booted_by w by token pid tid) (gives_life by value (process_name (next_birth by)))) by.process
    → (value ≡ free_handle w by.process) × (second ≡ second_handle w by)
two-handles w by token pid tid value second home first_is second_is =
    let one : value ≡ free_handle w by.process = first_is ∙ free-same w by.process pid home in
    let h = handle_row (free_handle w by.process) (process_name (next_birth by)) LIFE_ACCESS in
    let two : free_handle (basic (booted_by w by token pid tid) (gives_life by (free_handle w by.process) (process_name (next_birth by)))) by.process ≡ second_handle w by = rw (rows-behind w.handles by.process pid h home) refl in
    (one, second_is ∙ (ap (λ n. free_handle (basic (booted_by w by token pid tid) (gives_life by n (process_name (next_birth by)))) by.process) one ∙ two))

pub alike : (w : World) (by : ThreadRow) (token copied : Token) (who maker pid tid : ℕ) (one two : Birth) → by.number ≡ who → maker ≡ by.process → one ≡ next_birth by → two ≡ second_birth by → copied ≡ token
    → basic (basic (basic (basic w (DrawsOrdinal who)) (DrawsOrdinal who)) (AddsProcess (new_process pid (Some maker) one copied))) (AddsThread (new_thread tid pid two)) ≡ booted_by w by token pid tid
alike w by token copied who maker pid tid one two own process first second same = rw (← own, process, first, second, same) refl

pub given-alike : (v base : World) (by : ThreadRow) (maker value : ℕ) (name : Birth → ObjectName) (b c : Birth) → v ≡ base → maker ≡ by.process → b ≡ c
    → basic v (AddsHandle maker (handle_row value (name b) LIFE_ACCESS)) ≡ basic base (gives_life by value (name c))
given-alike v base by maker value name b c same process birth = rw (same, process, birth) refl

-- the call that makes a process was served
pub served-made : (who pid tid value second : ℕ) (by : ThreadRow) (old new : Kept) (before after : Listed) → caller old.rows who ≡ by → service old.rows who (create_process pid tid) ≡ Ok (making_process old.rows (caller old.rows who) pid tid)
    → value ≡ free_handle old.rows by.process → second ≡ second_handle old.rows by
    → new.rows ≡ basic (basic (booted_by old.rows by (token_of old.rows by.process) pid tid) (gives_life by value (process_name (next_birth by)))) (gives_life by second (thread_name (second_birth by)))
    → after.list ≡ before.list ++ Answer by.number NtCreateProcess SUCCESS (h value ∷ first_thread second ∷ []) ∷ [] → new.loose ≡ old.loose → new.calls ≡ old.calls + 1
    → Served who (create_process pid tid) (Answered SUCCESS) old new before after
served-made who pid tid value second by old new before after mine found one two rows told loose calls =
    let found' : service old.rows who (create_process pid tid) ≡ Ok (create_process_steps by (token_of old.rows by.process) pid tid value second) = found ∙ rw (mine, one, two) refl in
    let steps : called old.rows who (create_process pid tid) ≡ create_process_steps by (token_of old.rows by.process) pid tid value second = ap (settled (caller old.rows who) NtCreateProcess) found' in
    record {
      takes = rw (steps, rows, told, loose) refl;
      outcome = rw steps refl;
      calls = calls;
    }
