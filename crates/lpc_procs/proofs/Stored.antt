-- What the table keeps when a row changes, comes or goes: counts, names and used numbers.
use Rattle.std.proofs.Common.{◌≡◌, ℕ, zero, suc, ◌+◌, ◌*◌, ◌<◌, ◌≤◌, List, [], ◌∷◌, ◌++◌, Bool, true, false, cond, map, length, set, refl, ap, sym, subst, ◌∙◌, arith}
use Rattle.std.specs.Prelude.{None, Some, option_and_then, slice_get, is_some, nat_le, ◌==◌}
use Rattle.std.proofs.lemmas.Bool.Decides.{nat_tests}
use Rattle.std.proofs.lemmas.Bool.{lt-ltb}
use Rattle.std.proofs.lemmas.List.{length-append}
use Rattle.lpc_base.specs.declared.birth.Birth.{Birth}
use Rattle.lpc_base.specs.declared.limits.TheConstants.{REGISTRATION_LIMIT}
use Rattle.lpc_base.specs.Rows.{change, count, every, first, has, without, without_first}
use Rattle.lpc_base.proofs.Differ.{differ-change, differ-push}
use Rattle.lpc_base.proofs.RowMaps.{every-without_first, unseen-change}
use Rattle.lpc_base.proofs.RowWords.{count-bound, count-push, every-change, every-more, every-push}
use Rattle.lpc_procs.specs.declared.rows.Counted.{Counted}
use Rattle.lpc_procs.specs.declared.rows.ProcessRow.{ProcessRow}
use Rattle.lpc_procs.specs.declared.rows.Registration.{Registration}
use Rattle.lpc_procs.specs.declared.rows.ThreadRow.{ThreadRow}
use Rattle.lpc_procs.specs.declared.rows.UsedThread.{UsedThread}
use Rattle.lpc_procs.specs.Kept.{AreKept, are_apart, counting, has_number, is_counted, is_limited, is_low, is_of_used, is_used_row, process_name, process_rows}
use Rattle.lpc_procs.specs.Procs.{HasRegistrationLeft, all_registrations, ended, first_registration, first_untold, is_of_birth, is_process, is_thread, is_untold, is_used_thread, lives_in, registering, unregistering}
use Rattle.lpc_procs.proofs.Counts.{count-set, counts-ended, counts-less, counts-process, counts-set, counts-thread}
use Rattle.lpc_procs.proofs.Few.{few, few_processes}
use Rattle.lpc_procs.proofs.Gone.{count-gone, differ-without_first}
use Rattle.lpc_procs.proofs.Keeping.{KeepsNumbers, changed_at, kept-at, kept-push, kept-without}

abbrev many : ThreadRow → ℕ
many t = length t.registered.items

abbrev all : List ThreadRow → ℕ
all ts = length (all_registrations ts)

-- registrations of rows that change, come or go
all-set : (ts : List ThreadRow) (i : ℕ) (t u : ThreadRow) → slice_get ts i ≡ Some t → all (set ts i u) + many t ≡ all ts + many u
all-set [] i t u here = absurd (cc)
all-set (x ∷ ts) zero t u here =
    let is : many x ≡ many t = cc in
    omega (arith, is, length-append u.registered.items (all_registrations ts), length-append x.registered.items (all_registrations ts))
all-set (x ∷ ts) (suc i) t u here =
    omega (arith, all-set ts i t u here, length-append x.registered.items (all_registrations (set ts i u)), length-append x.registered.items (all_registrations ts))

all-push : (ts : List ThreadRow) (t : ThreadRow) → all (ts ++ t ∷ []) ≡ all ts + many t
all-push [] t = omega (arith, length-append t.registered.items [])
all-push (x ∷ ts) t =
    omega (arith, all-push ts t, length-append x.registered.items (all_registrations (ts ++ t ∷ [])), length-append x.registered.items (all_registrations ts))

-- the registrations of a row that goes
pub all-gone : (test : ThreadRow → Bool) (ts : List ThreadRow) (t : ThreadRow) → first test ts ≡ Some t → all (without_first test ts) + many t ≡ all ts
all-gone test [] t found = absurd (cc)
all-gone test (x ∷ ts) t found = by (test x) refl (all-gone test ts t)
  where
    by : (b : Bool) → test x ≡ b → (first test ts ≡ Some t → all (without_first test ts) + many t ≡ all ts) → all (without_first test (x ∷ ts)) + many t ≡ all (x ∷ ts)
    by true on rest =
        let here : Some x ≡ Some t = rw on at found in
        let same : x ≡ t = cc in
        rw (on, ← same) (omega (arith, length-append x.registered.items (all_registrations ts)))
    by false off rest =
        let later = rest (rw off at found) in
        rw off (omega (arith, later, length-append x.registered.items (all_registrations (without_first test ts)), length-append x.registered.items (all_registrations ts)))

pub all-bound : (ts : List ThreadRow) → every is_limited ts ≡ true → all ts ≤ REGISTRATION_LIMIT * length ts
all-bound [] limited = omega arith
all-bound (x ∷ ts) limited =
    let here : many x ≤ 16 = grind (arith, nat_tests) in
    omega (arith, here, all-bound ts (grind arith), length-append x.registered.items (all_registrations ts))

-- live threads of a number that no thread's process has
pub none-owned : (pid : ℕ) (ns : List ℕ) (ts : List ThreadRow) → has (λ n. n == pid) ns ≡ false → every (is_of_used ns) ts ≡ true → count (lives_in pid) ts ≡ 0
none-owned pid ns [] new owners = refl
none-owned pid ns (t ∷ ts) new owners = at (t.process == pid) refl (none-owned pid ns ts new (grind arith))
  where
    at : (b : Bool) → (t.process == pid) ≡ b → count (lives_in pid) ts ≡ 0 → count (lives_in pid) (t ∷ ts) ≡ 0
    at false off rest = rw off rest
    at true is rest =
        let own : t.process ≡ pid = grind (arith, nat_tests) in
        let used : has (λ n. n == t.process) ns ≡ true = grind arith in
        let clash : has (λ n. n == pid) ns ≡ true = subst (λ k. has (λ n. n == k) ns ≡ true) own used in
        absurd (cc)

-- a count without one that is written over
pub count-unset : {X : Type 0} (p : X → Bool) (xs : List X) (i : ℕ) (x y : X) → slice_get xs i ≡ Some x → p x ≡ true → p y ≡ false → count p (set xs i y) + 1 ≡ count p xs
count-unset p [] i x y here one none = absurd (cc)
count-unset p (z ∷ xs) zero x y here one none =
    let is : p z ≡ true = cc in
    grind (arith, is, none)
count-unset p (z ∷ xs) (suc i) x y here one none =
    let rest = count-unset p xs i x y here one none in
    grind (arith, rest)

-- no process has a number that wasn't used
pub process-unused : (pid : ℕ) (ns : List ℕ) (ps : List Counted) → has (λ n. n == pid) ns ≡ false → every (is_used_row ns) ps ≡ true → has (has_number pid) ps ≡ false
process-unused pid ns [] new used = refl
process-unused pid ns (q ∷ ps) new used = at (q.row.number == pid) refl (process-unused pid ns ps new (grind arith))
  where
    at : (b : Bool) → (q.row.number == pid) ≡ b → has (has_number pid) ps ≡ false → has (has_number pid) (q ∷ ps) ≡ false
    at false off rest = rw off rest
    at true is rest =
        let own : q.row.number ≡ pid = grind (arith, nat_tests) in
        let there : has (λ n. n == q.row.number) ns ≡ true = grind arith in
        let clash : has (λ n. n == pid) ns ≡ true = subst (λ k. has (λ n. n == k) ns ≡ true) own there in
        absurd (cc)

-- processes whose counts are written over
module _ (pid live : ℕ) where
  pub names-counting : (ps : List Counted) → map process_name (change (has_number pid) (counting live) ps) ≡ map process_name ps
  names-counting ps = unseen-change process_name (has_number pid) (counting live) (λ p. refl) ps

  pub rows-counting : (ps : List Counted) → process_rows (change (has_number pid) (counting live) ps) ≡ process_rows ps
  rows-counting ps = unseen-change (λ (p : Counted). p.row) (has_number pid) (counting live) (λ p. refl) ps

  apart-counting : (ps : List Counted) → are_apart ps ≡ true → are_apart (change (has_number pid) (counting live) ps) ≡ true
  apart-counting ps apart = differ-change (λ (p : Counted). p.row.number) (has_number pid) (counting live) (λ p. refl) ps apart

  used-counting : (ns : List ℕ) (ps : List Counted) → every (is_used_row ns) ps ≡ true → every (is_used_row ns) (change (has_number pid) (counting live) ps) ≡ true
  used-counting ns ps used = every-change (is_used_row ns) (has_number pid) (counting live) (λ p h. h) ps used

  low-counting : (ps : List Counted) → every (is_low 2147483648) ps ≡ true → every (is_low 2147483648) (change (has_number pid) (counting live) ps) ≡ true
  low-counting ps low = every-change (is_low 2147483648) (has_number pid) (counting live) (λ p h. h) ps low

module _ (ps : List Counted) (ts : List ThreadRow) (ns : List ℕ) (us : List UsedThread) (alive registered : ℕ) (kept : AreKept ps ts ns us alive registered) where
  -- a thread at its place changes
  module _ (i tid : ℕ) (row : ThreadRow) (here : slice_get ts i ≡ Some row) (own : row.number ≡ tid) where
    pub kept-set : (f : ThreadRow → ThreadRow) → KeepsNumbers f → (f row).live ≡ row.live → (is_limited row ≡ true → is_limited (f row) ≡ true) → (total : ℕ) → total + many row ≡ registered + many (f row)
        → AreKept ps (set ts i (f row)) ns us alive total
    kept-set f keeps lives limits total is_total =
        let same = changed_at f ts i tid row kept.rows.single here own in
        let owner : (t : ThreadRow) → is_of_used ns t ≡ true → is_of_used ns (f t) ≡ true = λ t h. subst (λ n. has (λ m. m == n) ns ≡ true) (sym (keeps.process t)) h in
        record {
          rows = kept-at f ts us i tid row keeps kept.rows here own;
          counts = counts-set ts i row (f row) here (keeps.process row) lives ps kept.counts;
          apart = kept.apart;
          processes_low = kept.processes_low;
          owners = rw same (every-change (is_of_used ns) (is_thread tid) f owner ts kept.owners);
          processes_used = kept.processes_used;
          limited = limited-set ts i (f row) (limits (limited-at ts i row kept.limited here)) kept.limited;
          living = kept.living ∙ sym (count-set (λ t. t.live) ts i row (f row) here lives);
          told = omega (arith, is_total, kept.told, all-set ts i row (f row) here);
        }
      where
        limited-at : (xs : List ThreadRow) (k : ℕ) (x : ThreadRow) → every is_limited xs ≡ true → slice_get xs k ≡ Some x → is_limited x ≡ true
        limited-at [] k x all here = absurd (cc)
        limited-at (y ∷ xs) zero x all here = let e : y ≡ x = cc in subst (λ z. is_limited z ≡ true) e (grind arith)
        limited-at (y ∷ xs) (suc k) x all here = limited-at xs k x (grind arith) here

        limited-set : (xs : List ThreadRow) (k : ℕ) (u : ThreadRow) → is_limited u ≡ true → every is_limited xs ≡ true → every is_limited (set xs k u) ≡ true
        limited-set [] k u one all = refl
        limited-set (y ∷ xs) zero u one all = grind arith
        limited-set (y ∷ xs) (suc k) u one all = grind (arith, limited-set xs k u one)

    -- a live thread ends
    pub kept-ended : row.live ≡ true → (live alive' : ℕ) → live + 1 ≡ count (lives_in row.process) ts → alive' + 1 ≡ alive
        → AreKept (change (has_number row.process) (counting live) ps) (set ts i (ended row)) ns us alive' registered
    kept-ended lives live alive' counted fewer =
        let kept' = kept-ends in
        let mine : lives_in row.process row ≡ true = grind (arith, nat_tests, lives) in
        let gone : lives_in row.process (ended row) ≡ false = grind (arith, nat_tests) in
        let left = count-unset (lives_in row.process) ts i row (ended row) here mine gone in
        let is_live : live ≡ count (lives_in row.process) (set ts i (ended row)) = omega (arith, left, counted) in
        let less = count-unset (λ t. t.live) ts i row (ended row) here lives refl in
        record {
          rows = kept-at ended ts us i tid row (record { number = λ t. refl; process = λ t. refl }) kept.rows here own;
          counts = rw is_live (counts-ended ts i row (ended row) here refl ps kept.counts);
          apart = apart-counting row.process live ps kept.apart;
          processes_low = low-counting row.process live ps kept.processes_low;
          owners = kept'.0;
          processes_used = used-counting row.process live ns ps kept.processes_used;
          limited = kept'.1;
          living = omega (arith, less, fewer, kept.living);
          told = kept.told ∙ omega (arith, all-set ts i row (ended row) here);
        }
      where
        kept-ends : (every (is_of_used ns) (set ts i (ended row)) ≡ true) × (every is_limited (set ts i (ended row)) ≡ true)
        kept-ends =
            let same = changed_at ended ts i tid row kept.rows.single here own in (
              rw same (every-change (is_of_used ns) (is_thread tid) ended (λ t h. h) ts kept.owners),
              rw same (every-change is_limited (is_thread tid) ended (λ t h. h) ts kept.limited),
            )

  -- a further live thread of a process, which registered nothing
  pub kept-thread : (t : ThreadRow) → t.live ≡ true → t.registered.items ≡ [] → t.number < 2147483648 → has (is_used_thread t.number) us ≡ false → is_some (first (is_process t.process) (process_rows ps)) ≡ true
      → (live : ℕ) → live ≡ count (lives_in t.process) ts + 1
      → AreKept (change (has_number t.process) (counting live) ps) (ts ++ t ∷ []) ns (us ++ (record { number = t.number; process = t.process }) ∷ []) (alive + 1) registered
  kept-thread t lives none within new home live is =
      let mine : lives_in t.process t ≡ true = grind (arith, nat_tests, lives) in
      let more = count-push (lives_in t.process) ts t in
      let is_live : live ≡ count (lives_in t.process) (ts ++ t ∷ []) = is ∙ sym (more ∙ ap (λ b. count (lives_in t.process) ts + cond b 1 0) mine) in
      let no_more : many t ≡ 0 = ap length none in
      record {
        rows = kept-push ts us t kept.rows within new;
        counts = rw is_live (counts-thread ts t ps kept.counts);
        apart = apart-counting t.process live ps kept.apart;
        processes_low = low-counting t.process live ps kept.processes_low;
        owners = every-push (is_of_used ns) ts t kept.owners (owned ps kept.processes_used home);
        processes_used = used-counting t.process live ns ps kept.processes_used;
        limited = every-push is_limited ts t kept.limited (ap (λ n. nat_le n 16) no_more);
        living = ap (λ n. n + 1) kept.living ∙ sym (count-push (λ x. x.live) ts t ∙ ap (λ b. count (λ x. x.live) ts + cond b 1 0) lives);
        told = kept.told ∙ sym (all-push ts t ∙ omega (arith, no_more));
      }
    where
      owned : (qs : List Counted) → every (is_used_row ns) qs ≡ true → is_some (first (is_process t.process) (process_rows qs)) ≡ true → has (λ n. n == t.process) ns ≡ true
      owned [] used home = absurd (cc)
      owned (q ∷ qs) used home = at (q.row.number == t.process) refl (owned qs (grind arith))
        where
          at : (b : Bool) → (q.row.number == t.process) ≡ b → (is_some (first (is_process t.process) (process_rows qs)) ≡ true → has (λ n. n == t.process) ns ≡ true) → has (λ n. n == t.process) ns ≡ true
          at true is rest =
              let own : q.row.number ≡ t.process = grind (arith, nat_tests) in
              subst (λ k. has (λ n. n == k) ns ≡ true) own (grind arith)
          at false off rest = rest (rw off at home)

  -- a further process, under a number that none had
  pub kept-process : (row : ProcessRow) → row.number < 2147483648 → has (λ n. n == row.number) ns ≡ false
      → AreKept (ps ++ (record { row = row; live = 0 }) ∷ []) ts (ns ++ row.number ∷ []) us alive registered
  kept-process row within new =
      let p : Counted = record { row = row; live = 0 } in
      record {
        rows = kept.rows;
        counts = counts-process ts row 0 (sym (none-owned row.number ns ts new kept.owners)) ps kept.counts;
        apart = differ-push (λ (q : Counted). q.row.number) ps p kept.apart (process-unused row.number ns ps new kept.processes_used);
        processes_low = every-push (is_low 2147483648) ps p kept.processes_low (lt-ltb row.number 2147483648 within);
        owners = every-more (is_of_used ns) (is_of_used (ns ++ row.number ∷ [])) (λ t h. has-more t.process ns h) ts kept.owners;
        processes_used = every-push (is_used_row (ns ++ row.number ∷ [])) ps p (every-more (is_used_row ns) (is_used_row (ns ++ row.number ∷ [])) (λ q h. has-more q.row.number ns h) ps kept.processes_used) (has-last ns);
        limited = kept.limited;
        living = kept.living;
        told = kept.told;
      }
    where
      has-more : (k : ℕ) (xs : List ℕ) → has (λ n. n == k) xs ≡ true → has (λ n. n == k) (xs ++ row.number ∷ []) ≡ true
      has-more k [] h = absurd (cc)
      has-more k (x ∷ xs) h = grind (arith, has-more k xs)

      has-last : (xs : List ℕ) → has (λ n. n == row.number) (xs ++ row.number ∷ []) ≡ true
      has-last [] = grind (arith, nat_tests)
      has-last (x ∷ xs) = grind (arith, has-last xs)

  -- a process goes
  pub kept-processes_left : (test : Counted → Bool) → AreKept (without_first test ps) ts ns us alive registered
  kept-processes_left test = record {
    rows = kept.rows;
    counts = every-without_first (is_counted ts) test ps kept.counts;
    apart = differ-without_first test (λ (q : Counted). q.row.number) ps kept.apart;
    processes_low = every-without_first (is_low 2147483648) test ps kept.processes_low;
    owners = kept.owners;
    processes_used = every-without_first (is_used_row ns) test ps kept.processes_used;
    limited = kept.limited;
    living = kept.living;
    told = kept.told;
  }

  -- a thread goes that has ended
  pub kept-threads_left : (test : ThreadRow → Bool) (t : ThreadRow) → first test ts ≡ Some t → t.live ≡ false → (total : ℕ) → total + many t ≡ registered → AreKept ps (without_first test ts) ns us alive total
  kept-threads_left test t found off total is_total = record {
    rows = kept-without test ts us kept.rows;
    counts = counts-less ts test t found off ps kept.counts;
    apart = kept.apart;
    processes_low = kept.processes_low;
    owners = every-without_first (is_of_used ns) test ts kept.owners;
    processes_used = kept.processes_used;
    limited = every-without_first is_limited test ts kept.limited;
    living = kept.living ∙ omega (arith, count-gone test (λ (x : ThreadRow). x.live) ts t found, ap {B = ℕ} (λ b. cond b 1 0) off);
    told = omega (arith, is_total, kept.told, all-gone test ts t found);
  }

  -- there are fewer than 2^32 threads, so few live ones and few registrations
  pub threads-few : length ts ≤ 2147483648
  threads-few = few 2147483648 ts kept.rows.single kept.rows.low

  pub registered-few : registered ≤ 34359738368
  registered-few = omega (arith, kept.told, all-bound ts kept.limited, threads-few)

  pub alive-few : alive ≤ 2147483648
  alive-few = omega (arith, kept.living, count-bound (λ (t : ThreadRow). t.live) ts, threads-few)

  -- and few processes, so few of one kind
  pub processes-few : (p : Counted → Bool) (n : ℕ) → n ≡ count p ps → n < 4294967296
  processes-few p n is = omega (arith, is, count-bound p ps, few_processes 2147483648 ps kept.apart kept.processes_low)

-- a live thread is counted
pub live-there : (ts : List ThreadRow) (i : ℕ) (row : ThreadRow) → slice_get ts i ≡ Some row → row.live ≡ true → (1 ≤ count (lives_in row.process) ts) × (1 ≤ count (λ t. t.live) ts)
live-there ts i row here lives =
    let mine : lives_in row.process row ≡ true = grind (arith, nat_tests, lives) in
    let gone : lives_in row.process (ended row) ≡ false = grind (arith, nat_tests) in
    (omega (arith, count-unset (lives_in row.process) ts i row (ended row) here mine gone), omega (arith, count-unset (λ t. t.live) ts i row (ended row) here lives refl))

-- one registration more
pub registers-one : (n : ℕ) (row : ThreadRow) (r : Registration) → n + 1 + many row ≡ n + many (registering r row)
registers-one n row r = omega (arith, length-append row.registered.items (r ∷ []))

pub registered-more : (row : ThreadRow) (r : Registration) → HasRegistrationLeft row → is_limited (registering r row) ≡ true
registered-more row r left =
    let more : length (row.registered.items ++ r ∷ []) ≤ 16 = omega (arith, left, length-append row.registered.items (r ∷ [])) in
    grind (arith, nat_tests, more)

-- some registrations fewer
pub registered-at : (ts : List ThreadRow) (i : ℕ) (t : ThreadRow) → slice_get ts i ≡ Some t → many t ≤ all ts
registered-at ts i t here = omega (arith, all-set ts i t (record t { registered = record { items = [] } }) here)

pub without-fewer : {X : Type 0} (test : X → Bool) (xs : List X) → length (without test xs) ≤ length xs
without-fewer test [] = omega arith
without-fewer test (x ∷ xs) = grind (arith, without-fewer test xs)

pub registered-less : (row : ThreadRow) (b : Birth) → is_limited row ≡ true → is_limited (unregistering b row) ≡ true
registered-less row b limited =
    let had : many row ≤ 16 = grind (arith, nat_tests, limited) in
    let left : length (without (is_of_birth b) row.registered.items) ≤ 16 = omega (arith, had, without-fewer (is_of_birth b) row.registered.items) in
    grind (arith, nat_tests, left)

-- where nothing is registered, of no thread that has ended is anything to be told
empty-first : {X : Type 0} (xs : List X) → length xs ≡ 0 → is_some (slice_get xs 0) ≡ false
empty-first [] none = refl
empty-first (x ∷ xs) none = absurd (omega (arith, none))

none-left : (pid : ℕ) (ts : List ThreadRow) → all ts ≡ 0 → first (is_untold pid) ts ≡ None
none-left pid [] none = refl
none-left pid (t ∷ ts) none =
    let sum = length-append t.registered.items (all_registrations ts) in
    let own = empty-first t.registered.items (omega (arith, sum, none)) in
    grind (arith, own, none-left pid ts (omega (arith, sum, none)))

pub none-untold : (pid : ℕ) (ts : List ThreadRow) → all ts ≡ 0 → first_untold ts pid ≡ None
none-untold pid ts none = ap (option_and_then first_registration) (none-left pid ts none)
