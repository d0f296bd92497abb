-- Rows that are found by their number or their name.
use Rattle.std.proofs.Common.{◌≡◌, ◌≤◌, ℕ, List, [], ◌∷◌, Bool, true, false, Some, None, option_map, is_some, refl, ap, sym, subst, ◌∙◌, arith, true≢false}
use Rattle.std.specs.Prelude.{if◌then◌else◌, ◌==◌}
use Rattle.std.proofs.lemmas.Bool.Decides.{nat_tests}
use Rattle.lpc_base.specs.declared.birth.Birth.{Birth}
use Rattle.lpc_base.specs.Rows.{change, count, every, first, has}
use Rattle.lpc_base.proofs.Differ.{rest-differ, rest-none}
use Rattle.lpc_base.proofs.RowMaps.{every-first, first-map, has-map}
use Rattle.lpc_base.proofs.RowWords.{change-none, count-none, every-true, first-passes, has_none-more, none-counted}
use Rattle.lpc_procs.specs.declared.rows.Counted.{Counted}
use Rattle.lpc_procs.specs.declared.rows.ThreadRow.{ThreadRow}
use Rattle.lpc_procs.specs.Callers.{caller_of}
use Rattle.lpc_procs.specs.Kept.{are_single, has_name, has_number, is_counted, life_of_first, process_rows, used_rows}
use Rattle.lpc_procs.specs.declared.keys.Use.{Use}
use Rattle.lpc_numbers.specs.Numbered.{is_at, numbers, value_at}
use Rattle.lpc_procs.specs.Procs.{ended, has_event_port, is_life, is_live_thread, is_process, is_process_born, is_thread, is_thread_born, is_used_thread, lives_in, used_process}

pub none-has : {X : Type 0} (p : X → Bool) (xs : List X) → has p xs ≡ false → first p xs ≡ None
none-has p [] none = refl
none-has p (x ∷ xs) none = grind (arith, none-has p xs)

-- Processes
pub process-first : (pid : ℕ) (ps : List Counted) → first (is_process pid) (process_rows ps) ≡ option_map (λ (p : Counted). p.row) (first (has_number pid) ps)
process-first pid ps = first-map (λ (p : Counted). p.row) (λ p. true) (has_number pid) (is_process pid) (λ p _. refl) ps (every-true ps)

pub process-born-first : (b : Birth) (ps : List Counted) → first (is_process_born b) (process_rows ps) ≡ option_map (λ (p : Counted). p.row) (first (has_name b) ps)
process-born-first b ps = first-map (λ (p : Counted). p.row) (λ p. true) (has_name b) (is_process_born b) (λ p _. refl) ps (every-true ps)

-- the port of a birth is told of the exceptions of a process
pub told-has : (b : Birth) (ps : List Counted) → has (λ (p : Counted). has_event_port b p.row) ps ≡ has (has_event_port b) (process_rows ps)
told-has b ps = sym (has-map (λ (p : Counted). p.row) (λ p. true) (λ (p : Counted). has_event_port b p.row) (has_event_port b) (λ p _. refl) ps (every-true ps))

-- where one thread at most has the name, its lives are those of the first
pub one-life : (b : Birth) (ts : List ThreadRow) → count (is_thread_born b) ts ≤ 1 → count (is_life b) ts ≡ life_of_first (first (is_thread_born b) ts)
one-life b [] few = refl
one-life b (t ∷ ts) few = at (is_thread_born b t) refl (one-life b ts)
  where
    at : (c : Bool) → is_thread_born b t ≡ c → (count (is_thread_born b) ts ≤ 1 → count (is_life b) ts ≡ life_of_first (first (is_thread_born b) ts)) → count (is_life b) (t ∷ ts) ≡ life_of_first (first (is_thread_born b) (t ∷ ts))
    at true is rest =
        let fewer : count (is_thread_born b) ts ≤ 0 = grind (arith, is, few) in
        let none = count-none (is_life b) ts (has_none-more (is_thread_born b) (is_life b) (λ x off. grind (arith, off)) ts (none-counted (is_thread_born b) ts fewer)) in
        grind (arith, is, none)
    at false off rest =
        let later = rest (grind (arith, off, few)) in
        grind (arith, off, later)

-- Used numbers
pub numbers-has : {V : Type 0} (n : ℕ) (es : List (ℕ × V)) → has (λ m. m == n) (numbers es) ≡ has (is_at n) es
numbers-has n es = has-map (λ e. e.0) (λ e. true) (is_at n) (λ m. m == n) (λ e _. refl) es (every-true es)

pub used-has : (n : ℕ) (es : List (ℕ × Use)) → has (is_used_thread n) (used_rows es) ≡ has (is_at n) es
used-has n [] = refl
used-has n (e ∷ es) = grind (arith, used-has n es)

pub used-at : (n : ℕ) (es : List (ℕ × Use)) → used_process (used_rows es) n ≡ option_map (λ u. u.process) (value_at es n)
used-at n [] = refl
used-at n (e ∷ es) = grind (arith, used-at n es)

-- the count beside a process
pub count-of : (ts : List ThreadRow) (test : Counted → Bool) (ps : List Counted) (p : Counted) → every (is_counted ts) ps ≡ true → first test ps ≡ Some p → p.live ≡ count (lives_in p.row.number) ts
count-of ts test ps p all found =
    let one : is_counted ts p ≡ true = every-first (is_counted ts) test ps p all found in
    grind (arith, nat_tests, one)

-- what passes only with a number is the one thread of that number
pub first-one : (p : ThreadRow → Bool) (tid : ℕ) → ((x : ThreadRow) → is_thread tid x ≡ false → p x ≡ false) → (ts : List ThreadRow) (row : ThreadRow) → are_single ts ≡ true → first (is_thread tid) ts ≡ Some row → first p ts ≡ (if p row then Some row else None)
first-one p tid off [] row single found = absurd (cc)
first-one p tid off (t ∷ ts) row single found = at (is_thread tid t) refl (first-one p tid off ts row (rest-differ (λ (x : ThreadRow). x.number) t ts single))
  where
    at : (b : Bool) → is_thread tid t ≡ b → (first (is_thread tid) ts ≡ Some row → first p ts ≡ (if p row then Some row else None)) → first p (t ∷ ts) ≡ (if p row then Some row else None)
    at false other rest =
        let later : first (is_thread tid) ts ≡ Some row = rw other at found in
        let none = off t other in
        rw none (rest later)
    at true is rest =
        let here : Some t ≡ Some row = rw is at found in
        let e : t ≡ row = cc in
        let own : t.number ≡ tid = grind (arith, nat_tests) in
        let alone = rest-none (λ (x : ThreadRow). x.number) t ts tid single own in
        let none : first p ts ≡ None = none-has p ts (has_none-more (is_thread tid) p off ts alone) in
        subst (λ r. first p (t ∷ ts) ≡ (if p r then Some r else None)) e (rw none refl)

pub none-one : (p : ThreadRow → Bool) (tid : ℕ) → ((x : ThreadRow) → is_thread tid x ≡ false → p x ≡ false) → (ts : List ThreadRow) → first (is_thread tid) ts ≡ None → first p ts ≡ None
none-one p tid off ts none = none-has p ts (has_none-more (is_thread tid) p off ts (ap is_some none))

-- a live thread of a number, as it is told
pub live-told : (tid : ℕ) (row : ThreadRow) → row.number ≡ tid → option_map caller_of (if is_live_thread tid row then Some row else None) ≡ (if row.live then Some (caller_of row) else None)
live-told tid row own = at row.live refl
  where
    named : (row.number == tid) ≡ true
    named = grind (arith, nat_tests)

    at : (b : Bool) → row.live ≡ b → option_map caller_of (if is_live_thread tid row then Some row else None) ≡ (if row.live then Some (caller_of row) else None)
    at true e = rw (named, e) refl
    at false e = rw (named, e) refl

pub some-if : {X : Type 0} (b : Bool) (x : X) → is_some (if b then Some x else None) ≡ b
some-if true x = refl
some-if false x = refl

-- the end of a thread that has ended changes nothing
pub ended-again : (tid : ℕ) (ts : List ThreadRow) (row : ThreadRow) → are_single ts ≡ true → first (is_thread tid) ts ≡ Some row → row.live ≡ false → change (is_thread tid) ended ts ≡ ts
ended-again tid [] row single found off = refl
ended-again tid (t ∷ ts) row single found off = at (is_thread tid t) refl (ended-again tid ts row (rest-differ (λ (x : ThreadRow). x.number) t ts single))
  where
    at : (b : Bool) → is_thread tid t ≡ b → (first (is_thread tid) ts ≡ Some row → row.live ≡ false → change (is_thread tid) ended ts ≡ ts) → change (is_thread tid) ended (t ∷ ts) ≡ t ∷ ts
    at false other rest =
        let later : first (is_thread tid) ts ≡ Some row = rw other at found in
        rw other (ap (λ xs. t ∷ xs) (rest later off))
    at true is rest =
        let here : Some t ≡ Some row = rw is at found in
        let e : t ≡ row = cc in
        let gone : t.live ≡ false = ap (λ (x : ThreadRow). x.live) e ∙ off in
        let own : t.number ≡ tid = grind (arith, nat_tests) in
        let alone = rest-none (λ (x : ThreadRow). x.number) t ts tid single own in
        let same : ended t ≡ t = λ i. record t { live = sym gone i } in
        rw is (ap (λ x. x ∷ change (is_thread tid) ended ts) same ∙ ap (λ xs. t ∷ xs) (change-none (is_thread tid) ended ts alone))

-- the first thread of a name of which none is live
pub ended-born : (b : Birth) (ts : List ThreadRow) (t : ThreadRow) → first (is_thread_born b) ts ≡ Some t → has (is_life b) ts ≡ false → t.live ≡ false
ended-born b ts t found none = by t.live refl
  where
    by : (c : Bool) → t.live ≡ c → t.live ≡ false
    by false off = off
    by true lives =
        let both : is_life b t ≡ true = rw (lives, first-passes (is_thread_born b) ts t found) refl in
        let clash : is_life b t ≡ false = unlived ts found none in
        absurd (true≢false (sym both ∙ clash))
      where
        unlived : (xs : List ThreadRow) → first (is_thread_born b) xs ≡ Some t → has (is_life b) xs ≡ false → is_life b t ≡ false
        unlived [] is off = absurd (cc)
        unlived (x ∷ xs) is off = pick (is_thread_born b x) refl (unlived xs)
          where
            pick : (c : Bool) → is_thread_born b x ≡ c → (first (is_thread_born b) xs ≡ Some t → has (is_life b) xs ≡ false → is_life b t ≡ false) → is_life b t ≡ false
            pick true on rest =
                let here : Some x ≡ Some t = rw on at is in
                let same : x ≡ t = cc in
                rw (← same) (grind arith)
            pick false other rest = rest (rw other at is) (grind arith)
