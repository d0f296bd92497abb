-- The threads that a call ends: live threads of one process, which is a member's where the caller's is.
use Rattle.std.proofs.Common.{◌≡◌, ℕ, List, [], ◌∷◌, Bool, true, false, not, Some, refl, ap, sym, subst, ◌∙◌, arith}
use Rattle.std.specs.Prelude.{◌&&◌, ◌||◌, ◌==◌}
use Rattle.std.proofs.lemmas.Bool.{and_from, eqb-true}
use Rattle.std.proofs.Math.Bool.{or-true}
use Rattle.lpc_base.specs.Rows.{every, first, passes, which}
use Rattle.lpc_base.proofs.RowWords.{every-more, first-passes}
use Rattle.lpc_base.proofs.RowMaps.{every-both}
use Rattle.lpc_base.proofs.Bools.{first-true, or-last, same-number, second-true}
use Rattle.lpc_base.specs.declared.status.Status.{Status}
use Rattle.lpc_base.specs.declared.status.TheConstants.{SUCCESS}
use Rattle.lpc_model.specs.declared.entry.CallName.{CallName}
use Rattle.lpc_model.specs.declared.entry.Entry.TheVariants.{Answer}
use Rattle.lpc_model.specs.World.{ThreadRow, World}
use Rattle.lpc_model.specs.Found.{is_live_thread, live_thread, live_threads, lives_in, registered_by}
use Rattle.lpc_model.specs.Basics.{Basic, Tells}
use Rattle.lpc_model.specs.Death.{end_threads}
use Rattle.lpc_model.specs.Targets.{process_target, thread_target}
use Rattle.lpc_model.specs.Circle.{Group, owner}
use Rattle.lpc_model.proofs.Steps.Ending.{answered_end}
use Rattle.lpc_model.proofs.Calls.Holding.{holds_ok}
use Rattle.lpc_model.proofs.Calls.Outcomes.{AreDoomed, all, one}
use Rattle.lpc_model.proofs.Steps.Registrations.{every-each}
use Rattle.lpc_isolation.proofs.Rows.Fair.{Fair, is_fair_thread, is_homed}
use Rattle.lpc_isolation.proofs.Views.Seen.{homed-number}
use Rattle.lpc_isolation.proofs.Each.Sends.{Caller}
use Rattle.lpc_isolation.proofs.Calls.Serves.{same_owner}
use Rattle.lpc_isolation.proofs.Gone.Thin.{Alive, Closed}
use Rattle.lpc_isolation.proofs.Closings.Ends.{every-passing}
use Rattle.lpc_isolation.proofs.Each.Closes.{caller-sure}
use Rattle.lpc_isolation.proofs.Endings.Parts.{Part, Remains, Steady}
use Rattle.lpc_isolation.proofs.Endings.Threads.{are_standing, ends-part, ends-remains, is_ending_of}
use Rattle.lpc_isolation.proofs.Calls.Aims.{lives-row, process-whose, thread-row, thread-whose}

-- what holds of the end of threads, and of it behind an answer, holds of what the call does
pub ended : (P : List Basic → Type 0) (by : ThreadRow) (name : CallName) (own : Bool) (pid : ℕ) (code : Status) (ts : List ThreadRow) (w : World) → (own ≡ true → P (end_threads pid code ts w)) → (own ≡ false → P (Tells (Answer by.number name SUCCESS []) ∷ end_threads pid code ts w)) → P (answered_end by name own pid code ts w)
ended P by name true pid code ts w without with_one = without refl
ended P by name false pid code ts w without with_one = with_one refl

-- Rows of such threads
-- whatever holds of each row that lives in the process
pub doomed-rows : (p : ThreadRow → ℕ → Bool) (w : World) (by : ThreadRow) (own : Bool) (pid : ℕ) (ts : List ThreadRow) → live_thread w by.number ≡ Some by → ((n : ℕ) → every (λ t. not (lives_in n t) || p t n) w.threads ≡ true) → AreDoomed w by own pid ts → every (λ t. p t pid) ts ≡ true
doomed-rows p w by own pid ts live rows (one target t at lives) =
    let row = holds_ok (λ (t : ThreadRow). t.live ≡ true → every (λ x. not (lives_in t.process x) || p x t.process) w.threads ≡ true → (not (lives_in t.process t) || p t t.process) ≡ true) (thread_target w by target) t (thread-row (λ t x. not (lives_in t.process x) || p x t.process) w by target live) at lives (rows t.process) in
    and_from _ _ (lives-row (λ x. p x t.process) t lives row) refl
doomed-rows p w by own pid ts live rows (all target n at lives) =
    every-passing (λ t. not (lives_in n t) || p t n) (lives_in n) (λ t. p t n) (λ t either lives. or-last (lives_in n t) (p t n) lives either) w.threads (rows n)

-- the process is a member's where the caller's is
pub doomed-whose : (m : Group) (c : ℕ) (w : World) (by : ThreadRow) (own : Bool) (pid : ℕ) (ts : List ThreadRow) → Fair m c w → AreDoomed w by own pid ts → m pid ≡ m by.process
doomed-whose m c w by own pid ts f (one target t at lives) = holds_ok (λ (t : ThreadRow). m t.process ≡ m by.process) (thread_target w by target) t (thread-whose m c w by target f) at
doomed-whose m c w by own pid ts f (all target n at lives) = holds_ok (λ pid. m pid ≡ m by.process) (process_target w by target) n (process-whose m c w by target f) at

-- The first of them, where the caller is one
abbrev is_filled : List ThreadRow → Bool
is_filled [] = false
is_filled (t ∷ ts) = true

filled : (p q : ThreadRow → Bool) (ts : List ThreadRow) (t : ThreadRow) → first p ts ≡ Some t → q t ≡ true → is_filled (which q ts) ≡ true
filled p q [] t at is = absurd (cc)
filled p q (x ∷ xs) t at is = grind (arith, filled p q xs t)

ending-row : (u w : World) (pid : ℕ) (t : ThreadRow) → u.used_threads ≡ w.used_threads → is_homed w.used_threads t ≡ true → is_fair_thread t ≡ true → (not (lives_in pid t) || is_ending_of u pid t) ≡ true
ending-row u w pid t used homed fair = at (lives_in pid t) refl
  where
    at : (e : Bool) → lives_in pid t ≡ e → (not e || is_ending_of u pid t) ≡ true
    at false off = refl
    at true is =
        let process : (t.process == pid) ≡ true = first-true _ _ is in
        let own : owner u t.number ≡ Some pid = rw used (homed-number w t.number t homed refl) ∙ ap (λ p. Some p) (eqb-true t.process pid process) in
        and_from _ _ (rw own (same-number pid)) (and_from _ _ process fair)

pub ending-rows : (m : Group) (c : ℕ) (u w : World) (pid : ℕ) → Fair m c w → u.used_threads ≡ w.used_threads → every (λ t. not (lives_in pid t) || is_ending_of u pid t) w.threads ≡ true
ending-rows m c u w pid f used = every-both (is_homed w.used_threads) is_fair_thread (λ t. not (lives_in pid t) || is_ending_of u pid t) (λ t homed fair. ending-row u w pid t used homed fair) w.threads f.threads f.registrations

-- it is of the caller's process
abbrev pub heads_own : World → ℕ → List ThreadRow → Bool
heads_own w tid [] = false
heads_own w tid (t ∷ ts) = same_owner w tid t.number

thread-heads : (w : World) (by : ThreadRow) (t : ThreadRow) → owner w by.number ≡ Some by.process → (t.number == by.number) ≡ true → heads_own w by.number (t ∷ []) ≡ true
thread-heads w by t own is = rw (eqb-true t.number by.number is, own) (same-number by.process)

process-heads : (m : Group) (c : ℕ) (w : World) (by : ThreadRow) → Fair m c w → live_thread w by.number ≡ Some by → owner w by.number ≡ Some by.process → heads_own w by.number (live_threads w by.process) ≡ true
process-heads m c w by f live own = at (live_threads w by.process) refl
  where
    is : is_live_thread by.number by ≡ true
    is = first-passes (is_live_thread by.number) w.threads by live

    there : is_filled (live_threads w by.process) ≡ true
    there = filled (is_live_thread by.number) (lives_in by.process) w.threads by live (and_from (by.process == by.process) by.live (same-number by.process) (second-true (by.number == by.number) by.live is))

    homed : every (λ t. passes (owner w t.number) (λ q. q == by.process)) (live_threads w by.process) ≡ true
    homed = every-passing (λ t. not (lives_in by.process t) || is_ending_of w by.process t) (lives_in by.process) (λ t. passes (owner w t.number) (λ q. q == by.process)) (λ t either lives. first-true (passes (owner w t.number) (λ q. q == by.process)) ((t.process == by.process) && is_fair_thread t) (or-last (lives_in by.process t) (is_ending_of w by.process t) lives either)) w.threads (ending-rows m c w w by.process f refl)

    at : (ts : List ThreadRow) → live_threads w by.process ≡ ts → heads_own w by.number ts ≡ true
    at [] none = let never : is_filled [] ≡ true = rw none at there in absurd (cc)
    at (t ∷ ts) some = let homes : every (λ t. passes (owner w t.number) (λ q. q == by.process)) (t ∷ ts) ≡ true = rw some at homed in rw own (first-true _ _ homes)

pub doomed-heads : (m : Group) (c : ℕ) (w : World) (by : ThreadRow) (own : Bool) (pid : ℕ) (ts : List ThreadRow) → Fair m c w → live_thread w by.number ≡ Some by → owner w by.number ≡ Some by.process → AreDoomed w by own pid ts → own ≡ true → heads_own w by.number ts ≡ true
doomed-heads m c w by own pid ts f live home (one target t at lives) is = thread-heads w by t home is
doomed-heads m c w by own pid ts f live home (all target n at lives) is =
    subst (λ n. heads_own w by.number (live_threads w n) ≡ true) (sym (eqb-true n by.process is)) (process-heads m c w by f live home)

-- Their end, in a view and where rows have gone
pub steady : (m : Group) (c : ℕ) (u w : World) (by : ThreadRow) → Caller m c u w by → Steady m c u w
steady m c u w by k = record { sure = caller-sure m c u w by k; safe = record { sound = k.sound; shut = k.shut } }

pub doomed-part : (m : Group) (c : ℕ) (u w : World) (by : ThreadRow) (own : Bool) (pid : ℕ) (code : Status) (ts : List ThreadRow) → Caller m c u w by → AreDoomed w by own pid ts → Part m c u pid (Steady m c u) (end_threads pid code ts)
doomed-part m c u w by own pid code ts k doomed = ends-part m c u pid k.c_in code ts (doomed-rows (λ t n. is_ending_of u n t) w by own pid ts k.live (λ n. ending-rows m c u w n k.fair k.used) doomed)

-- ports that live threads registered stand
pub standing-rows : (k : Alive) (u : World) (pid : ℕ) → Closed k u → every (λ t. not (lives_in pid t) || are_standing k t) u.threads ≡ true
standing-rows k u pid c = every-more (λ t. every k.ports (registered_by t)) (λ t. not (lives_in pid t) || are_standing k t) (λ t is. at t t.live refl is) u.threads (sym (every-each k.ports registered_by u.threads) ∙ c.registrations)
  where
    at : (t : ThreadRow) (e : Bool) → t.live ≡ e → every k.ports (registered_by t) ≡ true → (not (lives_in pid t) || are_standing k t) ≡ true
    at t true live is = let ports : every k.ports t.registrations ≡ true = rw live at is in rw ports (or-true (not (lives_in pid t)))
    at t false dead is = rw dead (grind arith)

pub doomed-remains : (k : Alive) (u : World) (by : ThreadRow) (own : Bool) (pid : ℕ) (code : Status) (ts : List ThreadRow) → live_thread u by.number ≡ Some by → Closed k u → AreDoomed u by own pid ts → Remains k (end_threads pid code ts)
doomed-remains k u by own pid code ts live c doomed = ends-remains k pid code ts (doomed-rows (λ t n. are_standing k t) u by own pid ts live (λ n. standing-rows k u n c) doomed)
