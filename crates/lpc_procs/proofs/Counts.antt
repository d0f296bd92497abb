-- The counts of live threads that stand beside the processes: what keeps them, and what they tell.
use Rattle.std.proofs.Common.{◌≡◌, ◌≤◌, ℕ, length, zero, suc, List, [], ◌∷◌, ◌++◌, Bool, true, false, cond, set, refl, ap, sym, subst, ◌∙◌, arith}
use Rattle.std.specs.Prelude.{Some, option_map, slice_get, nat_lt, ◌==◌, ◌&&◌}
use Rattle.std.proofs.lemmas.Bool.Decides.{nat_tests}
use Rattle.lpc_base.specs.declared.birth.Birth.{Birth}
use Rattle.lpc_base.specs.Rows.{count, every, first, has, without_first}
use Rattle.lpc_base.proofs.RowMaps.{count-map, every-change_to, unseen-change, without_first-map}
use Rattle.lpc_base.proofs.RowWords.{count-bound, count-push, every-more, every-push, every-true}
use Rattle.lpc_procs.proofs.Gone.{count-gone}
use Rattle.lpc_procs.specs.declared.rows.Counted.{Counted}
use Rattle.lpc_procs.specs.declared.rows.ProcessRow.{ProcessRow}
use Rattle.lpc_procs.specs.declared.rows.ThreadRow.{ThreadRow}
use Rattle.lpc_procs.specs.Kept.{counting, is_peopled, has_name, has_number, is_peopled_child, is_counted, lives_in_first, process_rows, recounted}
use Rattle.lpc_procs.specs.Procs.{is_live_child, is_made_by, is_process, is_process_born, lives_in, process_life}

-- rows of a place that are written over by one that passes as they did
pub count-set : {X : Type 0} (p : X → Bool) (xs : List X) (i : ℕ) (x y : X) → slice_get xs i ≡ Some x → p y ≡ p x → count p (set xs i y) ≡ count p xs
count-set p [] i x y here same = refl
count-set p (z ∷ xs) zero x y here same =
    let is : z ≡ x = cc in
    grind (arith, same, is)
count-set p (z ∷ xs) (suc i) x y here same = grind (arith, count-set p xs i x y)

-- the counts of threads that changed, but not in what is counted
pub counts-same : (ts us : List ThreadRow) → ((pid : ℕ) → count (lives_in pid) us ≡ count (lives_in pid) ts) → (ps : List Counted) → every (is_counted ts) ps ≡ true → every (is_counted us) ps ≡ true
counts-same ts us same ps counts = every-more (is_counted ts) (is_counted us) (λ p h. rw (same p.row.number) h) ps counts

-- the counts of threads that changed in one process, whose count was made anew
pub counts-again : (ts us : List ThreadRow) (pid : ℕ) → ((other : ℕ) → (pid == other) ≡ false → count (lives_in other) us ≡ count (lives_in other) ts) → (ps : List Counted) → every (is_counted ts) ps ≡ true → every (is_counted us) (recounted us pid ps) ≡ true
counts-again ts us pid same ps counts =
    every-change_to (is_counted ts) (is_counted us) (has_number pid) (counting (count (lives_in pid) us)) own other ps counts
  where
    own : (p : Counted) → is_counted ts p ≡ true → has_number pid p ≡ true → is_counted us (counting (count (lives_in pid) us) p) ≡ true
    own p counted here =
        let is : p.row.number ≡ pid = grind (arith, nat_tests) in
        rw is (grind (arith, nat_tests))

    other : (p : Counted) → is_counted ts p ≡ true → has_number pid p ≡ false → is_counted us p ≡ true
    other p counted off = rw (same p.row.number (grind (arith, nat_tests))) counted

-- a thread that was written over
pub counts-set : (ts : List ThreadRow) (i : ℕ) (t u : ThreadRow) → slice_get ts i ≡ Some t → u.process ≡ t.process → u.live ≡ t.live → (ps : List Counted) → every (is_counted ts) ps ≡ true → every (is_counted (set ts i u)) ps ≡ true
counts-set ts i t u here process live =
    counts-same ts (set ts i u) (λ pid. count-set (lives_in pid) ts i t u here (rw (process, live) refl))

-- a thread that ended
pub counts-ended : (ts : List ThreadRow) (i : ℕ) (t u : ThreadRow) → slice_get ts i ≡ Some t → u.process ≡ t.process → (ps : List Counted) → every (is_counted ts) ps ≡ true → every (is_counted (set ts i u)) (recounted (set ts i u) t.process ps) ≡ true
counts-ended ts i t u here process =
    counts-again ts (set ts i u) t.process (λ other off. count-set (lives_in other) ts i t u here (rw process (apart other off)))
  where
    apart : (other : ℕ) → (t.process == other) ≡ false → ((t.process == other) && u.live) ≡ ((t.process == other) && t.live)
    apart other off = rw off refl

-- a further thread, and a further process
pub counts-thread : (ts : List ThreadRow) (t : ThreadRow) (ps : List Counted) → every (is_counted ts) ps ≡ true → every (is_counted (ts ++ t ∷ [])) (recounted (ts ++ t ∷ []) t.process ps) ≡ true
counts-thread ts t =
    counts-again ts (ts ++ t ∷ []) t.process (λ other off. grind (arith, count-push (lives_in other) ts t, off))

pub counts-process : (ts : List ThreadRow) (row : ProcessRow) (live : ℕ) → live ≡ count (lives_in row.number) ts → (ps : List Counted) → every (is_counted ts) ps ≡ true → every (is_counted ts) (ps ++ (record { row = row; live = live }) ∷ []) ≡ true
counts-process ts row live is ps counts =
    every-push (is_counted ts) ps (record { row = row; live = live }) counts (rw is (grind (arith, nat_tests)))

-- a thread went that had ended
pub counts-less : (ts : List ThreadRow) (test : ThreadRow → Bool) (t : ThreadRow) → first test ts ≡ Some t → t.live ≡ false → (ps : List Counted) → every (is_counted ts) ps ≡ true → every (is_counted (without_first test ts)) ps ≡ true
counts-less ts test t found off =
    counts-same ts (without_first test ts) (λ pid. let none : lives_in pid t ≡ false = grind (arith, off) in omega (arith, count-gone test (lives_in pid) ts t found, ap {B = ℕ} (λ b. cond b 1 0) none))

-- the rows beside counts that were made anew
pub rows-again : (us : List ThreadRow) (pid : ℕ) (ps : List Counted) → process_rows (recounted us pid ps) ≡ process_rows ps
rows-again us pid ps = unseen-change (λ (p : Counted). p.row) (has_number pid) (counting (count (lives_in pid) us)) (λ p. refl) ps

pub rows-less : (b : Birth) (ps : List Counted) → process_rows (without_first (has_name b) ps) ≡ without_first (is_process_born b) (process_rows ps)
rows-less b ps = without_first-map (λ (p : Counted). p.row) (λ p. true) (has_name b) (is_process_born b) (λ p _. refl) ps (every-true ps)

-- a count tells whether there is one
pub counts-one : (pid : ℕ) (ts : List ThreadRow) → nat_lt 0 (count (lives_in pid) ts) ≡ has (lives_in pid) ts
counts-one pid [] = refl
counts-one pid (t ∷ ts) = grind (arith, nat_tests, counts-one pid ts)

pub lives-counted : (ts : List ThreadRow) (p : Counted) → is_counted ts p ≡ true → is_peopled p ≡ has (lives_in p.row.number) ts
lives-counted ts p counted =
    let is : p.live ≡ count (lives_in p.row.number) ts = grind (arith, nat_tests) in
    ap (nat_lt 0) is ∙ counts-one p.row.number ts

-- a process at a place, as its count tells
pub life-at : (ts : List ThreadRow) (ps : List Counted) (i : ℕ) (p : Counted) → slice_get ps i ≡ Some p → every (is_counted ts) ps ≡ true
    → option_map (process_life ts) (slice_get (process_rows ps) i) ≡ Some (record { birth = p.row.birth; live = is_peopled p })
life-at ts [] i p here counts = absurd (cc)
life-at ts (q ∷ ps) zero p here counts =
    let same : q ≡ p = cc in
    let told = sym (lives-counted ts q (grind arith)) in
    (λ i. Some (record { birth = q.row.birth; live = told i })) ∙ ap (λ (x : Counted). Some (record { birth = x.row.birth; live = is_peopled x })) same
life-at ts (q ∷ ps) (suc i) p here counts = life-at ts ps i p here (grind arith)

-- live children, by the counts
pub children-counted : (ts : List ThreadRow) (pid : ℕ) (ps : List Counted) → every (is_counted ts) ps ≡ true → count (is_live_child ts pid) (process_rows ps) ≡ count (is_peopled_child pid) ps
children-counted ts pid ps counts =
    count-map (λ (p : Counted). p.row) (is_counted ts) (is_peopled_child pid) (is_live_child ts pid) (λ p counted. ap (λ b. is_made_by pid p.row && b) (sym (lives-counted ts p counted))) ps counts

-- the live threads of the one process of a name, by its count
none-born : (b : Birth) (n : ℕ) (ps : List ProcessRow) → count (is_process_born b) ps ≤ 0 → has (λ p. is_process_born b p && is_process n p) ps ≡ false
none-born b n [] few = refl
none-born b n (p ∷ ps) few = grind (arith, none-born b n ps)

none-live : (ts : List ThreadRow) → count (λ t. t.live && false) ts ≡ 0
none-live [] = refl
none-live (t ∷ ts) = grind (arith, none-live ts)

pub lives-of-one : (ts : List ThreadRow) (b : Birth) (ps : List Counted) → count (is_process_born b) (process_rows ps) ≤ 1 → every (is_counted ts) ps ≡ true
    → count (λ t. t.live && has (λ p. is_process_born b p && is_process t.process p) (process_rows ps)) ts ≡ lives_in_first (first (has_name b) ps)
lives-of-one ts b [] few counts = none-live ts
lives-of-one ts b (p ∷ ps) few counts = at (has_name b p) refl (λ fewer. lives-of-one ts b ps fewer (grind arith))
  where
    its : has_name b p ≡ true → count (is_process_born b) (process_rows ps) ≤ 0 → (t : ThreadRow) → (t.live && has (λ q. is_process_born b q && is_process t.process q) (process_rows (p ∷ ps))) ≡ lives_in p.row.number t
    its is none t =
        let off = none-born b t.process (process_rows ps) none in
        grind (arith, nat_tests, off, is)

    others : Type 0
    others = count (is_process_born b) (process_rows ps) ≤ 1 → count (λ t. t.live && has (λ q. is_process_born b q && is_process t.process q) (process_rows ps)) ts ≡ lives_in_first (first (has_name b) ps)

    at : (c : Bool) → has_name b p ≡ c → others → count (λ t. t.live && has (λ q. is_process_born b q && is_process t.process q) (process_rows (p ∷ ps))) ts ≡ lives_in_first (first (has_name b) (p ∷ ps))
    at true is rest =
        let none : count (is_process_born b) (process_rows ps) ≤ 0 = grind (arith, is, few) in
        let counted : p.live ≡ count (lives_in p.row.number) ts = grind (arith, nat_tests) in
        let found : lives_in_first (first (has_name b) (p ∷ ps)) ≡ p.live = rw is refl in
        (λ i. count (λ (t : ThreadRow). its is none t i) ts) ∙ sym counted ∙ sym found
    at false off rest = rw off (rest (grind (arith, off, few)))

pub lives-of-one-bound : (ts : List ThreadRow) (b : Birth) (ps : List Counted) → count (is_process_born b) (process_rows ps) ≤ 1 → every (is_counted ts) ps ≡ true → lives_in_first (first (has_name b) ps) ≤ length ts
lives-of-one-bound ts b ps one counts =
    subst (λ (n : ℕ). n ≤ length ts) (lives-of-one ts b ps one counts) (count-bound (λ (t : ThreadRow). t.live && has (λ p. is_process_born b p && is_process t.process p) (process_rows ps)) ts)
