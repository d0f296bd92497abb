-- Each process and each thread has a number and a birth of its own.
use Rattle.std.proofs.Common.{◌≡◌, ℕ, ◌+◌, ◌≤◌, List, [], ◌∷◌, ◌++◌, Bool, true, false, not, cond, Some, refl, subst, ◌∙◌, arith}
use Rattle.std.specs.Prelude.{◌==◌}
use Rattle.std.proofs.lemmas.Bool.Decides.{nat_tests}
use Rattle.lpc_base.specs.declared.birth.Birth.{Birth}
use Rattle.lpc_base.specs.Rows.{change, count, every, first, has, without}
use Rattle.lpc_base.proofs.Differ.{differ-change, differ-push, differ-without}
use Rattle.lpc_base.proofs.RowMaps.{every-first}
use Rattle.lpc_base.proofs.RowWords.{count-none, count-push, every-change, every-more, every-push, every-without, has-change, has-kept, has-push}
use Rattle.lpc_base.proofs.Births.{birth-same}
use Rattle.lpc_base.proofs.Bools.{first-true, second-true}
use Rattle.lpc_model.specs.Basics.{past_ordinal}
use Rattle.lpc_model.specs.Found.{is_born_process, is_born_thread, is_process, is_thread, same_birth}
use Rattle.lpc_model.specs.Tests.{next_birth}
use Rattle.lpc_model.specs.World.{ProcessRow, ThreadRow, UsedThread, World}
use Rattle.lpc_model.proofs.Steps.Rows.{count-change, count-less}
use Rattle.lpc_rows.specs.Lawful.{AreBorn, AreBornIn, can_begin, drew, drew_own, is_birth_of, is_noted, is_noted_process, is_numbered, was_drawn}
use Rattle.lpc_rows.proofs.Drawn.{not-drawn, unnoted, was-drawn-by, was-drawn-less, was-drawn-push}

choose : (c x y z : Bool) → (y ≡ true → z ≡ true) → cond c x y ≡ true → cond c x z ≡ true
choose true x y z more h = h
choose false x y z more h = more h

-- what is drawn later too
module _ (used : List UsedThread) (ts : List ThreadRow) (vused : List UsedThread) (vs : List ThreadRow) (more : (b : Birth) → was_drawn used ts b ≡ true → was_drawn vused vs b ≡ true) where
  birth-more : (n : ℕ) (b : Birth) → is_birth_of used ts n b ≡ true → is_birth_of vused vs n b ≡ true
  birth-more n b h = choose (b.maker == 0) (b.ordinal == n) _ _ (more b) h

  processes-more : (ps : List ProcessRow) → every (λ p. is_birth_of used ts p.number p.birth) ps ≡ true → every (λ p. is_birth_of vused vs p.number p.birth) ps ≡ true
  processes-more ps all = every-more (λ p. is_birth_of used ts p.number p.birth) _ (λ p h. birth-more p.number p.birth h) ps all

  threads-more : (xs : List ThreadRow) → every (λ t. is_birth_of used ts t.number t.birth) xs ≡ true → every (λ t. is_birth_of vused vs t.number t.birth) xs ≡ true
  threads-more xs all = every-more (λ t. is_birth_of used ts t.number t.birth) _ (λ t h. birth-more t.number t.birth h) xs all

-- a thread draws
module _ (f : ThreadRow → ThreadRow) (number : (t : ThreadRow) → (f t).number ≡ t.number) (birth : (t : ThreadRow) → (f t).birth ≡ t.birth) (more : (b : Birth) (t : ThreadRow) → drew_own b t ≡ true → drew_own b (f t) ≡ true) where
  pub born-by : (ps : List ProcessRow) (ts : List ThreadRow) (ns : List ℕ) (used : List UsedThread) (who : ℕ) → AreBorn ps ts ns used → AreBorn ps (change (is_thread who) f ts) ns used
  born-by ps ts ns used who h =
      let vs = change (is_thread who) f ts in
      let later = was-drawn-by f number more used who ts in
      record {
        processes_single = h.processes_single;
        processes_noted = h.processes_noted;
        processes_born = processes-more used ts used vs later ps h.processes_born;
        threads_born = every-change (λ t. is_birth_of used vs t.number t.birth) (is_thread who) f (λ t is. rw (number t, birth t) is) ts (threads-more used ts used vs later ts h.threads_born);
        threads_numbered = every-change is_numbered (is_thread who) f (λ t is. rw (number t) is) ts h.threads_numbered;
        process_births = h.process_births;
        thread_births = λ b. rw (count-change (is_born_thread b) (is_thread who) f (λ t. rw (birth t) refl) ts) (h.thread_births b);
      }

-- A birth under which something new begins is no row's
module _ {X : Type 0} (number : X → ℕ) (birth : X → Birth) (used : List UsedThread) (ts : List ThreadRow) (n : ℕ) (b : Birth) where
  -- a directive's birth says the number
  own-number : (x : X) → (b.maker == 0) ≡ true → (b.ordinal == n) ≡ true → is_birth_of used ts (number x) (birth x) ≡ true → same_birth (birth x) b ≡ true → (number x == n) ≡ true
  own-number x zero own was same =
      let here : is_birth_of used ts (number x) b ≡ true = subst (λ c. is_birth_of used ts (number x) c ≡ true) (birth-same (birth x) b same) was in
      let its : (b.ordinal == number x) ≡ true = first-of (b.maker == 0) _ _ zero here in
      grind (arith, nat_tests)
    where
      first-of : (c x y : Bool) → c ≡ true → cond c x y ≡ true → x ≡ true
      first-of true x y is h = h
      first-of false x y is h = absurd (cc)

  none-own : (xs : List X) → (b.maker == 0) ≡ true → (b.ordinal == n) ≡ true → every (λ x. is_birth_of used ts (number x) (birth x)) xs ≡ true → has (λ x. number x == n) xs ≡ false → has (λ x. same_birth (birth x) b) xs ≡ false
  none-own [] zero own all none = refl
  none-own (x ∷ xs) zero own all none =
      elim (same_birth (birth x) b) as (λ c. same_birth (birth x) b ≡ c → has (λ y. same_birth (birth y) b) (x ∷ xs) ≡ false) [
        | true ↦ λ same.
            let was : is_birth_of used ts (number x) (birth x) ≡ true = first-true _ _ all in
            let here = own-number x zero own was same in
            let off : (number x == n) ≡ false = grind arith in
            absurd (cc)
        | false ↦ λ off.
            let later : has (λ y. number y == n) xs ≡ false = grind arith in
            let rest = none-own xs zero own (second-true _ _ all) later in
            rw (off, rest) refl
      ] refl

  fresh : (xs : List X) → every (λ x. is_birth_of used ts (number x) (birth x)) xs ≡ true → has (λ x. number x == n) xs ≡ false → can_begin ts n b ≡ true → ((b.maker == 0) ≡ false → has (λ x. same_birth (birth x) b) xs ≡ false) → has (λ x. same_birth (birth x) b) xs ≡ false
  fresh xs all none begins other =
      elim (b.maker == 0) as (λ c. (b.maker == 0) ≡ c → has (λ x. same_birth (birth x) b) xs ≡ false) [
        | true ↦ λ zero. let own : (b.ordinal == n) ≡ true = rw zero at begins in none-own xs zero own all none
        | false ↦ λ off. other off
      ] refl

-- and it is a birth of that number
begun : (used : List UsedThread) (ts : List ThreadRow) (n : ℕ) (b : Birth) → (has (drew b) ts ≡ true → was_drawn used ts b ≡ true) → can_begin ts n b ≡ true → is_birth_of used ts n b ≡ true
begun used ts n b drawn begins = choose (b.maker == 0) (b.ordinal == n) _ _ drawn begins

few-push : {X : Type 0} (p : X → Bool) (xs : List X) (y : X) → count p xs ≤ 1 → (p y ≡ true → has p xs ≡ false) → count p (xs ++ y ∷ []) ≤ 1
few-push p xs y few none =
    let more = count-push p xs y in
    elim (p y) as (λ c. p y ≡ c → count p (xs ++ y ∷ []) ≤ 1) [
      | true ↦ λ here. let zero = count-none p xs (none here) in let one : count p (xs ++ y ∷ []) ≡ count p xs + 1 = rw here at more in omega (arith, one, zero)
      | false ↦ λ off. let same : count p (xs ++ y ∷ []) ≡ count p xs + 0 = rw off at more in omega (arith, same, few)
    ] refl

-- where a birth is no row's, it is once a row's behind a row more
births-push : {X : Type 0} (birth : X → Birth) (xs : List X) (y : X) → ((b : Birth) → count (λ x. same_birth (birth x) b) xs ≤ 1) → has (λ x. same_birth (birth x) (birth y)) xs ≡ false → (b : Birth) → count (λ x. same_birth (birth x) b) (xs ++ y ∷ []) ≤ 1
births-push birth xs y few none b = few-push (λ x. same_birth (birth x) b) xs y (few b) (λ here. subst (λ c. has (λ x. same_birth (birth x) c) xs ≡ false) (birth-same (birth y) b here) none)

module _ (ps : List ProcessRow) (ts : List ThreadRow) (ns : List ℕ) (used : List UsedThread) (h : AreBorn ps ts ns used) where
  -- a process more, whose number was never used
  pub born-process : (p : ProcessRow) → has (λ n. n == p.number) ns ≡ false → (has (drew p.birth) ts ≡ true → was_drawn used ts p.birth ≡ true) → can_begin ts p.number p.birth ≡ true → ((p.birth.maker == 0) ≡ false → has (is_born_process p.birth) ps ≡ false)
      → AreBorn (ps ++ p ∷ []) ts (ns ++ p.number ∷ []) used
  born-process p new drawn begins other =
      let none = unnoted (λ (q : ProcessRow). q.number) (λ n. has (λ m. m == n) ns) p.number ps h.processes_noted new in
      let first = fresh (λ (q : ProcessRow). q.number) (λ q. q.birth) used ts p.number p.birth ps h.processes_born none begins other in
      record {
        processes_single = differ-push (λ (q : ProcessRow). q.number) ps p h.processes_single none;
        processes_noted = every-push (is_noted_process (ns ++ p.number ∷ [])) ps p
            (every-more (is_noted_process ns) (is_noted_process (ns ++ p.number ∷ [])) (λ q there. has-kept (λ n. n == q.number) ns p.number there) ps h.processes_noted)
            (has-push (λ n. n == p.number) ns p.number (grind (arith, nat_tests)));
        processes_born = every-push (λ q. is_birth_of used ts q.number q.birth) ps p h.processes_born (begun used ts p.number p.birth drawn begins);
        threads_born = h.threads_born;
        threads_numbered = h.threads_numbered;
        process_births = births-push (λ (q : ProcessRow). q.birth) ps p h.process_births first;
        thread_births = h.thread_births;
      }

  -- a thread more, whose number was never used
  pub born-thread : (t : ThreadRow) (u : UsedThread) → is_numbered t ≡ true → every (is_noted used) ts ≡ true → has (λ x. x.number == t.number) used ≡ false → (has (drew t.birth) ts ≡ true → was_drawn used ts t.birth ≡ true) → can_begin ts t.number t.birth ≡ true → ((t.birth.maker == 0) ≡ false → has (is_born_thread t.birth) ts ≡ false)
      → AreBorn ps (ts ++ t ∷ []) ns (used ++ u ∷ [])
  born-thread t u numbered noted new drawn begins other =
      let none = unnoted (λ (x : ThreadRow). x.number) (λ n. has (λ x. x.number == n) used) t.number ts noted new in
      let first = fresh (λ (x : ThreadRow). x.number) (λ x. x.birth) used ts t.number t.birth ts h.threads_born none begins other in
      let vs = ts ++ t ∷ [] in
      let vused = used ++ u ∷ [] in
      let later = was-drawn-push used ts t u new in
      record {
        processes_single = h.processes_single;
        processes_noted = h.processes_noted;
        processes_born = processes-more used ts vused vs later ps h.processes_born;
        threads_born = every-push (λ x. is_birth_of vused vs x.number x.birth) ts t (threads-more used ts vused vs later ts h.threads_born) (birth-more used ts vused vs later t.number t.birth (begun used ts t.number t.birth drawn begins));
        threads_numbered = every-push is_numbered ts t h.threads_numbered numbered;
        process_births = h.process_births;
        thread_births = births-push (λ (x : ThreadRow). x.birth) ts t h.thread_births first;
      }

  -- threads less, and processes less
  pub born-less-threads : (goes : ThreadRow → Bool) → AreBorn ps (without goes ts) ns used
  born-less-threads goes =
      let later = was-drawn-less used goes ts in
      record {
        processes_single = h.processes_single;
        processes_noted = h.processes_noted;
        processes_born = processes-more used ts used (without goes ts) later ps h.processes_born;
        threads_born = every-without (λ x. is_birth_of used (without goes ts) x.number x.birth) goes ts (threads-more used ts used (without goes ts) later ts h.threads_born);
        threads_numbered = every-without is_numbered goes ts h.threads_numbered;
        process_births = h.process_births;
        thread_births = λ b. count-less (is_born_thread b) goes ts 1 (h.thread_births b);
      }

  pub born-less-processes : (goes : ProcessRow → Bool) → AreBorn (without goes ps) ts ns used
  born-less-processes goes = record {
    processes_single = differ-without (λ (q : ProcessRow). q.number) goes ps h.processes_single;
    processes_noted = every-without (is_noted_process ns) goes ps h.processes_noted;
    processes_born = every-without (λ q. is_birth_of used ts q.number q.birth) goes ps h.processes_born;
    threads_born = h.threads_born;
    threads_numbered = h.threads_numbered;
    process_births = λ b. count-less (is_born_process b) goes ps 1 (h.process_births b);
    thread_births = h.thread_births;
  }

-- What a thread draws next is no row's birth
module _ (used : List UsedThread) (ts : List ThreadRow) (tid : ℕ) (t : ThreadRow) (at : first (is_thread tid) ts ≡ Some t) (numbered : every is_numbered ts ≡ true) where
  not-next : (n : ℕ) (b : Birth) → is_birth_of used ts n b ≡ true → same_birth b (next_birth t) ≡ false
  not-next n b was = by_same (same_birth b (next_birth t)) refl
    where
      zero-off : (m : ℕ) → not (m == 0) ≡ true → (m == 0) ≡ false
      zero-off m is = grind arith

      drawn-as : (c x y : Bool) → c ≡ false → cond c x y ≡ true → y ≡ true
      drawn-as true x y off h = absurd (cc)
      drawn-as false x y off h = h

      by_same : (c : Bool) → same_birth b (next_birth t) ≡ c → c ≡ false
      by_same false is = refl
      by_same true is =
          let own = zero-off t.number (every-first is_numbered (is_thread tid) ts t numbered at) in
          let here : is_birth_of used ts n (next_birth t) ≡ true = subst (λ c. is_birth_of used ts n c ≡ true) (birth-same b (next_birth t) is) was in
          let was_drawn_by : was_drawn used ts (next_birth t) ≡ true = drawn-as (t.number == 0) _ _ own here in
          let drew_it : drew_own (next_birth t) t ≡ true = every-first (drew_own (next_birth t)) (is_thread tid) ts t (second-true _ _ was_drawn_by) at in
          let no = not-drawn t in
          absurd (cc)

  none-next : {X : Type 0} (number : X → ℕ) (birth : X → Birth) (xs : List X) → every (λ x. is_birth_of used ts (number x) (birth x)) xs ≡ true → has (λ x. same_birth (birth x) (next_birth t)) xs ≡ false
  none-next number birth [] all = refl
  none-next number birth (x ∷ xs) all = grind (arith, not-next (number x) (birth x), none-next number birth xs)

pub next-process : (w : World) (tid : ℕ) (t : ThreadRow) → AreBornIn w → first (is_thread tid) w.threads ≡ Some t → has (is_born_process (next_birth t)) w.processes ≡ false
next-process w tid t h at = none-next w.used_threads w.threads tid t at h.threads_numbered (λ (p : ProcessRow). p.number) (λ p. p.birth) w.processes h.processes_born

-- its maker is a thread, and no directive
pub next-maker : (w : World) (tid : ℕ) (t : ThreadRow) → AreBornIn w → first (is_thread tid) w.threads ≡ Some t → (t.number == 0) ≡ false
next-maker w tid t h at = off t.number (every-first is_numbered (is_thread tid) w.threads t h.threads_numbered at)
  where
    off : (m : ℕ) → not (m == 0) ≡ true → (m == 0) ≡ false
    off m is = grind arith

-- nor is it once it is drawn
pub next-thread : (w : World) (tid : ℕ) (t : ThreadRow) → AreBornIn w → first (is_thread tid) w.threads ≡ Some t → has (is_born_thread (next_birth t)) (change (is_thread tid) past_ordinal w.threads) ≡ false
next-thread w tid t h at =
    has-change (is_born_thread (next_birth t)) (is_thread tid) past_ordinal (λ x. refl) w.threads
    ∙ none-next w.used_threads w.threads tid t at h.threads_numbered (λ (x : ThreadRow). x.number) (λ x. x.birth) w.threads h.threads_born

-- a process changes, and keeps its number and its birth
module _ (f : ProcessRow → ProcessRow) (number : (p : ProcessRow) → (f p).number ≡ p.number) (birth : (p : ProcessRow) → (f p).birth ≡ p.birth) where
  pub born-changed : (ps : List ProcessRow) (ts : List ThreadRow) (ns : List ℕ) (used : List UsedThread) (pid : ℕ) → AreBorn ps ts ns used → AreBorn (change (is_process pid) f ps) ts ns used
  born-changed ps ts ns used pid h = record {
    processes_single = differ-change (λ (p : ProcessRow). p.number) (is_process pid) f number ps h.processes_single;
    processes_noted = every-change (is_noted_process ns) (is_process pid) f (λ p is. rw (number p) is) ps h.processes_noted;
    processes_born = every-change (λ p. is_birth_of used ts p.number p.birth) (is_process pid) f (λ p is. rw (number p, birth p) is) ps h.processes_born;
    threads_born = h.threads_born;
    threads_numbered = h.threads_numbered;
    process_births = λ b. rw (count-change (is_born_process b) (is_process pid) f (λ p. rw (birth p) refl) ps) (h.process_births b);
    thread_births = h.thread_births;
  }
