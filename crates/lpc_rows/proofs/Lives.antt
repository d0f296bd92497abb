-- Processes and threads that are found by their makers and by their births: the tables find what the definitions find.
use Rattle.std.proofs.Common.{◌≡◌, ℕ, List, [], ◌∷◌, Bool, true, false, Option, Some, None, option_map, refl, ap, sym, subst, ◌∙◌, arith}
use Rattle.std.specs.Prelude.{IfSome, ◌&&◌, ◌==◌, is_some, option_and_then}
use Rattle.std.proofs.lemmas.Bool.{eqb-true}
use Rattle.std.proofs.lemmas.Bool.Decides.{nat_tests}
use Rattle.lpc_base.specs.declared.birth.Birth.{Birth}
use Rattle.lpc_base.specs.Rows.{count, first, has}
use Rattle.lpc_base.proofs.Differ.{rest-none}
use Rattle.lpc_base.proofs.RowMaps.{mapped-twice, some-map}
use Rattle.lpc_base.proofs.Bools.{first-true, same-number}
use Rattle.lpc_base.proofs.RowWords.{first-passes}
use Rattle.lpc_model.specs.Creation as creation
use Rattle.lpc_model.specs.Found.{is_born_process, is_born_thread, is_live_thread, is_process, is_thread, lives_in, live_thread}
use Rattle.lpc_model.specs.World.{ProcessRow, ThreadRow, World}
use Rattle.lpc_model.proofs.Steps.Rows.{has-found}
use Rattle.lpc_procs.specs.Procs as procs
use Rattle.lpc_procs.specs.declared.rows.BornThread.{BornThread}
use Rattle.lpc_procs.specs.declared.rows.Caller.{Caller}
use Rattle.lpc_procs.specs.declared.rows.Number.TheVariants as number
use Rattle.lpc_rows.specs.Clauses.{born_thread, thread_row}
use Rattle.lpc_rows.specs.Callers.{as_caller}
use Rattle.lpc_rows.specs.Suspects.{home_birth, thread_birth}
use Rattle.lpc_rows.specs.Kept.{rows_by}
use Rattle.lpc_rows.specs.Lawful.{AreLawful, are_single_threads}
use Rattle.lpc_rows.specs.Shown.{Tables, shown_process, shown_thread}
use Rattle.lpc_rows.proofs.Readings.{count-shown, first-shown, has-shown}

module _ (it : Tables) where
  abbrev rows : World
  rows = rows_by it

  pub children : (pid : ℕ) → creation.live_children rows pid ≡ count (procs.is_live_child it.procs.threads pid) it.procs.processes
  children pid =
      count-shown shown_process (procs.is_live_child it.procs.threads pid) (creation.is_live_child rows pid)
      (λ p. ap (λ b. procs.is_made_by pid p && b) (has-shown shown_thread (procs.lives_in p.number) (lives_in p.number) (λ t. refl) it.procs.threads)) it.procs.processes

  pub process-born : (b : Birth) → option_map (λ (p : ProcessRow). p.number) (first (is_born_process b) rows.processes) ≡ procs.first_process (procs.is_process_born b) it.procs
  process-born b =
      ap (option_map (λ (p : ProcessRow). p.number)) (first-shown shown_process (procs.is_process_born b) (is_born_process b) (λ p. refl) it.procs.processes)
      ∙ mapped-twice shown_process (λ (p : ProcessRow). p.number) (first (procs.is_process_born b) it.procs.processes)

  pub thread-born : (b : Birth) → option_map born_thread (first (is_born_thread b) rows.threads) ≡ procs.thread_born it.procs b
  thread-born b =
      ap (option_map born_thread) (first-shown shown_thread (procs.is_thread_born b) (is_born_thread b) (λ t. refl) it.procs.threads)
      ∙ mapped-twice shown_thread born_thread (first (procs.is_thread_born b) it.procs.threads)

-- where no two threads have one number, a thread that is found is that of its number
found-own : (p : ThreadRow → Bool) (ts : List ThreadRow) (t : ThreadRow) → are_single_threads ts ≡ true → first p ts ≡ Some t → first (is_thread t.number) ts ≡ Some t
found-own p [] t single at = absurd (cc)
found-own p (x ∷ xs) t single at = by_head (p x) refl (λ later. found-own p xs t (grind arith) later)
  where
    turned : (n m : ℕ) → (n == m) ≡ true → (m == n) ≡ true
    turned n m is = grind (arith, nat_tests)

    by_number : (c : Bool) → (x.number == t.number) ≡ c → first p xs ≡ Some t → first (is_thread t.number) xs ≡ Some t → first (is_thread t.number) (x ∷ xs) ≡ Some t
    by_number true is at_rest found =
        let none = rest-none (λ (y : ThreadRow). y.number) x xs x.number single refl in
        let yes = has-found (λ (y : ThreadRow). y.number == x.number) p xs t at_rest (turned x.number t.number is) in
        absurd (cc)
    by_number false apart at_rest found = rw apart found

    by_head : (c : Bool) → p x ≡ c → (first p xs ≡ Some t → first (is_thread t.number) xs ≡ Some t) → first (is_thread t.number) (x ∷ xs) ≡ Some t
    by_head true is later =
        let same : x ≡ t = grind (arith, is, at) in
        let here : is_thread t.number x ≡ true = ap (λ (y : ThreadRow). y.number == t.number) same ∙ same-number t.number in
        rw here (ap Some same)
    by_head false off later =
        let at_rest : first p xs ≡ Some t = grind (arith, off, at) in
        by_number (x.number == t.number) refl at_rest (later at_rest)

module _ (it : Tables) (calls made : ℕ) (is : AreLawful it calls made) where
  -- and so the thread of a birth
  pub own-row : (b : Birth) (result : Option BornThread) → result ≡ option_map born_thread (first (is_born_thread b) (rows_by it).threads) → IfSome result (λ t. thread_row (rows_by it) t.number ≡ first (is_born_thread b) (rows_by it).threads)
  own-row b None at = tt
  own-row b (Some found) at = by_row (first (is_born_thread b) (rows_by it).threads) refl at
    where
      by_row : (o : Option ThreadRow) → first (is_born_thread b) (rows_by it).threads ≡ o → Some found ≡ option_map born_thread o → thread_row (rows_by it) found.number ≡ first (is_born_thread b) (rows_by it).threads
      by_row None here at = absurd (cc)
      by_row (Some t) here at =
          let same : found.number ≡ t.number = cc in
          ap (thread_row (rows_by it)) same ∙ (found-own (is_born_thread b) (rows_by it).threads t is.drawn.threads_single here ∙ sym here)

  -- the births of a live thread and of its process
  live-row : (who : ℕ) (t : ThreadRow) → live_thread (rows_by it) who ≡ Some t → first (is_thread who) (rows_by it).threads ≡ Some t
  live-row who t found =
      let own : t.number ≡ who = eqb-true t.number who (first-true _ t.live (first-passes (is_live_thread who) (rows_by it).threads t found)) in
      subst (λ (n : ℕ). first (is_thread n) (rows_by it).threads ≡ Some t) own (found-own (is_live_thread who) (rows_by it).threads t is.drawn.threads_single found)

  pub live-births : (who : ℕ) (thread : Caller) (home : Birth) → Some thread ≡ option_map as_caller (live_thread (rows_by it) who) → procs.birth_of it.procs (number.Process thread.process) ≡ Some home
      → (thread_birth (rows_by it) who ≡ Some thread.birth) × (home_birth (rows_by it) who ≡ Some home)
  live-births who thread home at there = by (live_thread (rows_by it) who) refl at
    where
      process : (pid : ℕ) → option_map (λ (p : ProcessRow). p.birth) (first (is_process pid) (rows_by it).processes) ≡ procs.birth_of it.procs (number.Process pid)
      process pid =
          ap (option_map (λ (p : ProcessRow). p.birth)) (first-shown shown_process (procs.is_process pid) (is_process pid) (λ p. refl) it.procs.processes)
          ∙ mapped-twice shown_process (λ (p : ProcessRow). p.birth) (first (procs.is_process pid) it.procs.processes)

      by : (o : Option ThreadRow) → live_thread (rows_by it) who ≡ o → Some thread ≡ option_map as_caller o → (thread_birth (rows_by it) who ≡ Some thread.birth) × (home_birth (rows_by it) who ≡ Some home)
      by None found same = absurd (cc)
      by (Some t) found same =
          let row = live-row who t found in
          let own : t.birth ≡ thread.birth = cc in
          let its : t.process ≡ thread.process = cc in (
            ap (option_map (λ (x : ThreadRow). x.birth)) row ∙ ap Some own,
            ap (option_and_then (λ (x : ThreadRow). option_map (λ (p : ProcessRow). p.birth) (first (is_process x.process) (rows_by it).processes))) row ∙ (process t.process ∙ (ap (λ (n : ℕ). procs.birth_of it.procs (number.Process n)) its ∙ there)),
          )

  -- so the process stands, and has a birth
  pub has-birth : (pid : ℕ) → has (is_process pid) (rows_by it).processes ≡ true → is_some (procs.birth_of it.procs (number.Process pid)) ≡ true
  has-birth pid there = some-map (λ p. p.birth) (first (procs.is_process pid) it.procs.processes) ∙ is-first (procs.is_process pid) it.procs.processes (sym (has-shown shown_process (procs.is_process pid) (is_process pid) (λ p. refl) it.procs.processes) ∙ there)
    where
      is-first : {X : Type 0} (p : X → Bool) (xs : List X) → has p xs ≡ true → is_some (first p xs) ≡ true
      is-first p [] there = absurd (cc)
      is-first p (x ∷ xs) there = grind (arith, is-first p xs)

-- a live thread is found
pub some-live : (w : World) (who : ℕ) {o : Option Caller} → has (is_live_thread who) w.threads ≡ true → o ≡ option_map as_caller (live_thread w who) → o ≡ None → ⊥
some-live w who there at none = by w.threads there (sym at ∙ none)
  where
    by : (ts : List ThreadRow) → has (is_live_thread who) ts ≡ true → option_map as_caller (first (is_live_thread who) ts) ≡ None → ⊥
    by [] there off = absurd (cc)
    by (t ∷ ts) there off = one (is_live_thread who t) refl (λ later. by ts later) there off
      where
        one : (c : Bool) → is_live_thread who t ≡ c → (has (is_live_thread who) ts ≡ true → option_map as_caller (first (is_live_thread who) ts) ≡ None → ⊥) → has (is_live_thread who) (t ∷ ts) ≡ true → option_map as_caller (first (is_live_thread who) (t ∷ ts)) ≡ None → ⊥
        one true here rest there off = let none = rw (here) at off in absurd (cc)
        one false here rest there off = rest (rw (here) at there) (rw (here) at off)
