-- What isn't told of a process whose threads have just ended: their registrations, thread by thread, and no others.
use Rattle.std.proofs.Common.{◌≡◌, ◌∙◌, ℕ, ◌≤◌, List, [], ◌∷◌, ◌++◌, append_assoc, Bool, true, false, cond, length, map, not, Some, refl, ap, subst, sym, arith}
use Rattle.std.specs.Prelude.{◌&&◌, ◌||◌, ◌==◌}
use Rattle.std.proofs.lemmas.Bool.Decides.{nat_tests}
use Rattle.std.proofs.lemmas.List.{append-nil}
use Rattle.std.proofs.lemmas.Bool.{and_from}
use Rattle.lpc_base.specs.Rows.{change, count, each, every, first, has, which}
use Rattle.lpc_base.specs.declared.status.Status.{Status}
use Rattle.lpc_base.proofs.RowWords.{every-more, first-passes}
use Rattle.lpc_base.proofs.Bools.{first-true, second-true, unless-more}
use Rattle.lpc_model.specs.Basics.{Steps, ended, in_turn, provided, world_after, ◌▹◌}
use Rattle.lpc_model.specs.Death.{die, dying, end_process, end_threads, post_death, post_deaths}
use Rattle.lpc_model.specs.Deaths.{HasLivingRegistrations, has_living_registrations}
use Rattle.lpc_model.specs.Found.{is_live, is_live_thread, is_thread, live_thread, live_threads, lives_in}
use Rattle.lpc_model.specs.World.{Birth, ThreadRow, World}
use Rattle.lpc_model.proofs.Steps.Closing.{behind}
use Rattle.lpc_model.proofs.Deaths.Lines.{die-threads}
use Rattle.lpc_model.proofs.Steps.Ending.{behind_dead}
use Rattle.lpc_rows.specs.Registered.{death_by, deaths_of, has_ended_in}
use Rattle.lpc_death.specs.Dying.{dying_all, telling_all, telling_one}
use Rattle.lpc_model.proofs.Steps.InTurn.{after-append}
use Rattle.lpc_death.specs.Ends.{telling_ends}
use Rattle.lpc_model.specs.Lawful.{HasThreadsOnce}

-- Deaths that are told in turn
turn-append : {A : Type 0} (f : A → Steps) (xs ys : List A) (w : World) → in_turn f (xs ++ ys) w ≡ (in_turn f xs ▹ in_turn f ys) w
turn-append f [] ys w = refl
turn-append f (x ∷ xs) ys w =
    let v = world_after w (f x w) in
    let rest = in_turn f xs v in
    ap (λ bs. f x w ++ bs) (turn-append f xs ys v)
    ∙ (sym (append_assoc (f x w) rest (in_turn f ys (world_after v rest))) ∙ ap (λ u. (f x w ++ rest) ++ in_turn f ys u) (sym (after-append w (f x w) rest)))

-- those of one thread
one-told : (t : ThreadRow) (bs : List Birth) (w : World) → in_turn telling_one (map (death_by t) bs) w ≡ in_turn (post_death t) bs w
one-told t [] w = refl
one-told t (b ∷ bs) w = ap (λ cs. post_death t b w ++ cs) (one-told t bs (behind (post_death t b) w))

-- and thread by thread
all-told : (ts : List ThreadRow) (w : World) → in_turn telling_one (each deaths_of ts) w ≡ in_turn post_deaths ts w
all-told [] w = refl
all-told (t ∷ ts) w =
    turn-append telling_one (deaths_of t) (each deaths_of ts) w
    ∙ (ap (λ bs. bs ++ in_turn telling_one (each deaths_of ts) (world_after w bs)) (one-told t t.registrations w) ∙ ap (λ bs. post_deaths t w ++ bs) (all-told ts (behind (post_deaths t) w)))

-- The rows of threads once some have ended
-- one has the number of the row
abbrev is_in : List ThreadRow → ThreadRow → Bool
is_in ts r = has (λ t. is_thread t.number r) ts

abbrev ending : List ThreadRow → ThreadRow → ThreadRow
ending ts r = cond (is_in ts r) (ended r) r

none-ending : (rows : List ThreadRow) → rows ≡ map (ending []) rows
none-ending [] = refl
none-ending (r ∷ rows) = ap (λ rs. r ∷ rs) (none-ending rows)

more-ending : (t : ThreadRow) (ts rows : List ThreadRow) → map (ending ts) (change (is_thread t.number) ended rows) ≡ map (ending (t ∷ ts)) rows
more-ending t ts [] = refl
more-ending t ts (r ∷ rows) = at (is_thread t.number r) refl (is_in ts r) refl (more-ending t ts rows)
  where
    at : (own : Bool) → is_thread t.number r ≡ own → (other : Bool) → is_in ts r ≡ other → map (ending ts) (change (is_thread t.number) ended rows) ≡ map (ending (t ∷ ts)) rows
        → map (ending ts) (change (is_thread t.number) ended (r ∷ rows)) ≡ map (ending (t ∷ ts)) (r ∷ rows)
    at true is true more rest = rw (is, more) (ap (λ rs. ended r ∷ rs) rest)
    at true is false off rest = rw (is, off) (ap (λ rs. ended r ∷ rs) rest)
    at false not_own true more rest = rw (not_own, more) (ap (λ rs. ended r ∷ rs) rest)
    at false not_own false off rest = rw (not_own, off) (ap (λ rs. r ∷ rs) rest)

dead-rows : (code : Status) (ts : List ThreadRow) (w : World) → (behind_dead code ts w).threads ≡ map (ending ts) w.threads
dead-rows code [] w = none-ending w.threads
dead-rows code (t ∷ ts) w =
    let v = behind (die code t) w in
    ap (λ (u : World). u.threads) (after-append w (die code t w) (in_turn (die code) ts v))
    ∙ (dead-rows code ts v ∙ (ap (map (ending ts)) (die-threads code t w) ∙ more-ending t ts w.threads))

-- What isn't told of them
no-deaths : (r : ThreadRow) → r.live ≡ false → has_living_registrations r ≡ true → deaths_of r ≡ []
no-deaths r dead only = of r.registrations (grind (arith, dead, only))
  where
    of : (bs : List Birth) → (length bs == 0) ≡ true → map (death_by r) bs ≡ []
    of [] none = refl
    of (b ∷ bs) none = absurd (grind (arith, nat_tests))

untold-rows : (pid : ℕ) (ts rows : List ThreadRow) → every has_living_registrations rows ≡ true → each deaths_of (which (has_ended_in pid) (map (ending ts) rows)) ≡ each deaths_of (which (λ r. lives_in pid r && is_in ts r) rows)
untold-rows pid ts [] l = refl
untold-rows pid ts (r ∷ rows) l =
    at (r.process == pid) refl r.live refl (is_in ts r) refl (untold-rows pid ts rows (second-true (has_living_registrations r) (every has_living_registrations rows) l)) (λ dead. no-deaths r dead (first-true (has_living_registrations r) (every has_living_registrations rows) l))
  where
    at : (p : Bool) → (r.process == pid) ≡ p → (a : Bool) → r.live ≡ a → (i : Bool) → is_in ts r ≡ i
        → each deaths_of (which (has_ended_in pid) (map (ending ts) rows)) ≡ each deaths_of (which (λ r. lives_in pid r && is_in ts r) rows) → (r.live ≡ false → deaths_of r ≡ [])
        → each deaths_of (which (has_ended_in pid) (map (ending ts) (r ∷ rows))) ≡ each deaths_of (which (λ r. lives_in pid r && is_in ts r) (r ∷ rows))
    at false p true l true i rest none = rw (i, p) rest
    at false p true l false i rest none = rw (i, p) rest
    at false p false l true i rest none = rw (i, p) rest
    at false p false l false i rest none = rw (i, p) rest
    at true p true l true i rest none = rw (i, p, l) (ap (λ us. deaths_of r ++ us) rest)
    at true p true l false i rest none = rw (i, p, l) rest
    at true p false l true i rest none = rw (i, p, l) (ap (λ us. us ++ each deaths_of (which (has_ended_in pid) (map (ending ts) rows))) (none l) ∙ rest)
    at true p false l false i rest none = rw (i, p, l) (ap (λ us. us ++ each deaths_of (which (has_ended_in pid) (map (ending ts) rows))) (none l) ∙ rest)

-- the threads that ended are those of the process that lived and have the number of one
picked-all : (p q : ThreadRow → Bool) (rows : List ThreadRow) → every (λ r. not (p r) || q r) rows ≡ true → which (λ r. p r && q r) rows ≡ which p rows
picked-all p q [] all = refl
picked-all p q (r ∷ rows) all = grind (arith, picked-all p q rows)

self-in : (r : ThreadRow) (ts : List ThreadRow) → is_in (r ∷ ts) r ≡ true
self-in r ts = grind (arith, nat_tests)

more-in : (t : ThreadRow) (ts : List ThreadRow) (r : ThreadRow) → is_in ts r ≡ true → is_in (t ∷ ts) r ≡ true
more-in t ts r is = at (is_thread t.number r) refl
  where
    at : (own : Bool) → is_thread t.number r ≡ own → is_in (t ∷ ts) r ≡ true
    at true same = rw same refl
    at false other = rw other is

abbrev AllIn : (ThreadRow → Bool) → List ThreadRow → List ThreadRow → Type 0
AllIn p ts rows = every (λ s. not (p s) || is_in ts s) rows ≡ true

own-in : (p : ThreadRow → Bool) (rows : List ThreadRow) → AllIn p (which p rows) rows
own-in p [] = refl
own-in p (r ∷ rows) = at (p r) refl (own-in p rows)
  where
    head : (a b : Bool) → a ≡ true → (not b || a) ≡ true
    head a b is = grind arith

    at : (own : Bool) → p r ≡ own → AllIn p (which p rows) rows → AllIn p (which p (r ∷ rows)) (r ∷ rows)
    at true is rest =
        let ts = which p rows in
        let same : which p (r ∷ rows) ≡ r ∷ ts = rw is refl in
        subst (λ us. AllIn p us (r ∷ rows)) (sym same) (and_from _ _ (head (is_in (r ∷ ts) r) (p r) (self-in r ts)) (every-more (λ s. not (p s) || is_in ts s) (λ s. not (p s) || is_in (r ∷ ts) s) (λ s. unless-more (p s) (is_in ts s) (is_in (r ∷ ts) s) (more-in r ts s)) rows rest))
    at false off rest =
        let same : which p (r ∷ rows) ≡ which p rows = rw off refl in
        subst (λ us. AllIn p us (r ∷ rows)) (sym same) (rw off rest)

-- one that is found by its number
other-off : (a b : Bool) → (a ≡ true → b ≡ true) → b ≡ false → a ≡ false
other-off a b more off = grind (arith, more)

none-picked : (p q : ThreadRow → Bool) → ((r : ThreadRow) → p r ≡ true → q r ≡ true) → (rows : List ThreadRow) → count q rows ≤ 0 → which p rows ≡ []
none-picked p q more [] none = refl
none-picked p q more (r ∷ rows) none = at (q r) refl (none-picked p q more rows)
  where
    at : (own : Bool) → q r ≡ own → (count q rows ≤ 0 → which p rows ≡ []) → which p (r ∷ rows) ≡ []
    at true is rest = absurd (grind (arith, is, none))
    at false off rest = let out = other-off (p r) (q r) (more r) off in rw out (rest (grind (arith, off, none)))

one-picked : (p f q : ThreadRow → Bool) (t : ThreadRow) → ((r : ThreadRow) → p r ≡ true → f r ≡ true) → ((r : ThreadRow) → f r ≡ true → q r ≡ true) → p t ≡ true → (rows : List ThreadRow) → count q rows ≤ 1 → first f rows ≡ Some t → which p rows ≡ t ∷ []
one-picked p f q t finds has_number its [] once found = absurd (cc)
one-picked p f q t finds has_number its (r ∷ rows) once found = at (f r) refl (one-picked p f q t finds has_number its rows)
  where
    fewer : count q rows ≤ 1
    fewer = grind arith

    at : (here : Bool) → f r ≡ here → (count q rows ≤ 1 → first f rows ≡ Some t → which p rows ≡ t ∷ []) → which p (r ∷ rows) ≡ t ∷ []
    at true is rest =
        let one : r ≡ t = let at : Some r ≡ Some t = rw is at found in cc in
        let own : q r ≡ true = has_number r is in
        let passes : p r ≡ true = ap p one ∙ its in
        let few : count q rows ≤ 0 = grind (arith, own, once) in
        rw passes (ap (λ rs. r ∷ rs) (none-picked p q (λ s in_p. has_number s (finds s in_p)) rows few) ∙ ap (λ s. s ∷ []) one)
    at false off rest =
        let out = other-off (p r) (f r) (finds r) off in
        let later : first f rows ≡ Some t = rw off at found in
        rw out (rest fewer later)

-- The deaths of a process's threads behind them: of all its live threads, or of one
untold-behind : (code : Status) (ts : List ThreadRow) (pid : ℕ) (w : World) → HasLivingRegistrations w → which (λ r. lives_in pid r && is_in ts r) w.threads ≡ ts → telling_all pid (behind_dead code ts w) ≡ in_turn post_deaths ts (behind_dead code ts w)
untold-behind code ts pid w l picked =
    let v = behind_dead code ts w in
    let untold = ap (λ rows. each deaths_of (which (has_ended_in pid) rows)) (dead-rows code ts w) ∙ (untold-rows pid ts w.threads l ∙ ap (each deaths_of) picked) in
    ap (λ us. in_turn telling_one us v) untold ∙ all-told ts v

pub all-untold : (code : Status) (pid : ℕ) (w : World) → HasLivingRegistrations w → telling_all pid (behind_dead code (live_threads w pid) w) ≡ in_turn post_deaths (live_threads w pid) (behind_dead code (live_threads w pid) w)
all-untold code pid w l = untold-behind code (live_threads w pid) pid w l (picked-all (lives_in pid) (is_in (live_threads w pid)) w.threads (own-in (lives_in pid) w.threads))

pub one-untold : (code : Status) (t : ThreadRow) (w : World) → HasThreadsOnce w → HasLivingRegistrations w → live_thread w t.number ≡ Some t → telling_all t.process (behind_dead code (t ∷ []) w) ≡ in_turn post_deaths (t ∷ []) (behind_dead code (t ∷ []) w)
one-untold code t w once l found =
    let lives : t.live ≡ true = second-true (is_thread t.number t) t.live (first-passes (is_live_thread t.number) w.threads t found) in
    untold-behind code (t ∷ []) t.process w l (one-picked (λ r. lives_in t.process r && is_in (t ∷ []) r) (is_live_thread t.number) (is_thread t.number) t (λ r is. finds r is) (λ r is. first-true (is_thread t.number r) r.live is) (its lives) w.threads (once t.number) found)
  where
    finds : (r : ThreadRow) → (lives_in t.process r && is_in (t ∷ []) r) ≡ true → is_live_thread t.number r ≡ true
    finds r is = grind (arith, nat_tests)

    its : t.live ≡ true → (lives_in t.process t && is_in (t ∷ []) t) ≡ true
    its lives = grind (arith, nat_tests)

-- so the parts are all that the call does
pub ends-are : (code : Status) (pid : ℕ) (ts : List ThreadRow) (w : World) → telling_all pid (behind_dead code ts w) ≡ in_turn post_deaths ts (behind_dead code ts w) → (in_turn (die code) ts ▹ telling_ends pid) w ≡ end_threads pid code ts w
unfolding end_threads
ends-are code pid ts w told =
    let v = behind_dead code ts w in
    let last : Steps = provided (λ w. not (is_live w pid)) (end_process pid) in
    ap (λ bs. in_turn (die code) ts w ++ (bs ++ last (world_after v bs))) told

pub one-ends : (code : Status) (t : ThreadRow) (w : World) → HasThreadsOnce w → HasLivingRegistrations w → live_thread w t.number ≡ Some t → (dying code t.number ▹ telling_ends t.process) w ≡ end_threads t.process code (t ∷ []) w
one-ends code t w once l found =
    ap (λ bs. bs ++ telling_ends t.process (world_after w bs)) (sym (append-nil (die code t w))) ∙ ends-are code t.process (t ∷ []) w (one-untold code t w once l found)

pub all-end : (code : Status) (pid : ℕ) (w : World) → HasLivingRegistrations w → (dying_all code pid ▹ telling_ends pid) w ≡ end_threads pid code (live_threads w pid) w
all-end code pid w l = ends-are code pid (live_threads w pid) w (all-untold code pid w l)
