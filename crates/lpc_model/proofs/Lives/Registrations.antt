-- The step of each line leaves registrations to live threads alone.
use Rattle.lpc_model.proofs.Settling.Keeps.{bare-does}
use Rattle.lpc_model.proofs.Settling.Settled.{IsReady}
use Rattle.std.proofs.Common.{◌≡◌, ℕ, ◌≤◌, List, [], ◌∷◌, Bool, true, false, length, not, refl, sym, subst, arith}
use Rattle.std.specs.Prelude.{◌&&◌, ◌||◌, ◌==◌}
use Rattle.std.proofs.lemmas.Bool.Decides.{nat_tests}
use Rattle.std.proofs.lemmas.Bool.{and_from, or_left, or_right}
use Rattle.lpc_base.specs.Rows.{change, count, every, given, when, without}
use Rattle.lpc_base.specs.declared.status.Status.{Status}
use Rattle.lpc_base.proofs.RowWords.{every-change, every-more, every-push, every-without, first-passes}
use Rattle.lpc_base.proofs.RowMaps.{every-both, every-change_to}
use Rattle.lpc_base.proofs.Bools.{first-true, same-number, second-true}
use Rattle.lpc_base.proofs.Births.{birth-self}
use Rattle.lpc_model.specs.declared.entry.ObjectKind.TheVariants as kind
use Rattle.lpc_model.specs.World.{Birth, ObjectKind, ThreadRow, World}
use Rattle.lpc_model.specs.Found.{handles_of, is_live, is_live_thread, is_thread, same_birth, live_threads}
use Rattle.lpc_model.specs.Basics.{AddsThread, Basic, Dies, DrawsIdentifier, DrawsOrdinal, DropsViewsOf, Frees, Registers, Unregisters, basic, doing, ended, freed, in_turn, past_identifier, past_ordinal, provided, registering, unregistering, world_after, ◌▹◌, Acts, acting, LetsGo}
use Rattle.lpc_model.specs.Close.{close_handle}
use Rattle.lpc_model.specs.Death.{die, end_process, end_threads, post_death, post_deaths, death_post}
use Rattle.lpc_model.specs.Deaths.{HasLivingRegistrations, has_living_registrations}
use Rattle.lpc_model.specs.Entering.{enter}
use Rattle.lpc_model.specs.Lawful.{HasThreadsOnce}
use Rattle.lpc_model.specs.Lines.{ScriptLine}
use Rattle.lpc_model.specs.Machine.{step, own_steps}
use Rattle.lpc_model.specs.SoundWaits.{IsSoundWorld}
use Rattle.lpc_model.specs.Sweep.{sweep}
use Rattle.lpc_model.proofs.Steps.Closing.{behind, then-holds}
use Rattle.lpc_model.proofs.Deaths.Deathless.{AreMild, LifeLaw, handle-mild, is_mild, life-outcomes}
use Rattle.lpc_model.proofs.Deaths.Lines.{death-still, die-threads, is_still}
use Rattle.lpc_model.proofs.Deaths.Doomed.{AreFound, doomed-found, live-found}
use Rattle.lpc_model.proofs.Steps.Sweep.{sweep_every, stepped}
use Rattle.lpc_model.proofs.Steps.Ending.{behind_dead, behind_told, ending-death, is_ending, turn-keeps, world-ends}
use Rattle.lpc_model.proofs.Calls.Lines.{Keep, LineLaw, line-does, passing-lines}
use Rattle.lpc_model.proofs.Steps.Rows.{lone}
use Rattle.lpc_model.proofs.Steps.InTurn.{steps-keep}
use Rattle.lpc_model.proofs.Calls.Usable.{CanCall}
use Rattle.lpc_model.proofs.Calls.Acts.{keeps_on}
use Rattle.lpc_model.specs.Settle.{settle}
use Rattle.lpc_model.proofs.Settling.Life.{life-settles}

-- a list with a row that passes
abbrev some : {X : Type 0} → (X → Bool) → List X → Bool
some p [] = false
some p (x ∷ xs) = p x || some p xs

-- Ports that are among others
abbrev among : List Birth → List Birth → Bool
among rs bs = every (λ c. some (λ r. same_birth r c) rs) bs

among-more : (b : Birth) (rs bs : List Birth) → among rs bs ≡ true → among (b ∷ rs) bs ≡ true
among-more b rs bs all = every-more (λ c. some (λ r. same_birth r c) rs) (λ c. same_birth b c || some (λ r. same_birth r c) rs) (λ c is. or_right (same_birth b c) _ is) bs all

among-self : (bs : List Birth) → among bs bs ≡ true
among-self [] = refl
among-self (b ∷ bs) = both (same_birth b b) (some (λ r. same_birth r b) bs) _ (birth-self b) (among-more b bs bs (among-self bs))
  where
    both : (x y z : Bool) → x ≡ true → z ≡ true → ((x || y) && z) ≡ true
    both x y z one two = grind arith

among-less : (b : Birth) (rs bs : List Birth) → among (b ∷ rs) bs ≡ true → among rs (without (same_birth b) bs) ≡ true
among-less b rs [] all = refl
among-less b rs (c ∷ bs) all = grind (arith, among-less b rs bs)

among-none : (bs : List Birth) → among [] bs ≡ true → (length bs == 0) ≡ true
among-none [] all = refl
among-none (b ∷ bs) all = absurd (cc)

-- Rows whose registrations are still to go
-- the row of one of some threads, with registrations of that thread alone
abbrev owed : List ThreadRow → ThreadRow → Bool
owed ts r = some (λ t. is_thread t.number r && among t.registrations r.registrations) ts

abbrev is_owed : List ThreadRow → ThreadRow → Bool
is_owed ts r = has_living_registrations r || owed ts r

abbrev AreOwed : List ThreadRow → World → Type 0
AreOwed ts w = every (is_owed ts) w.threads ≡ true

-- a registration that goes leaves them so
living-less : (b : Birth) (r : ThreadRow) → has_living_registrations r ≡ true → has_living_registrations (unregistering b r) ≡ true
living-less b r = at r.registrations
  where
    at : (bs : List Birth) → (r.live || (length bs == 0)) ≡ true → (r.live || (length (without (same_birth b) bs) == 0)) ≡ true
    at [] is = is
    at (c ∷ bs) is = or_left r.live _ (only r.live (length (c ∷ bs) == 0) (grind (arith, nat_tests)) is)
      where
        only : (l z : Bool) → z ≡ false → (l || z) ≡ true → l ≡ true
        only l z off is = grind arith

owed-less : (b : Birth) (r : ThreadRow) (ts : List ThreadRow) → owed ts r ≡ true → owed ts (unregistering b r) ≡ true
owed-less b r [] is = is
owed-less b r (t ∷ ts) is = by (is_thread t.number r) (among t.registrations r.registrations) (owed ts r) _ _ (every-without (λ c. some (λ s. same_birth s c) t.registrations) (same_birth b) r.registrations) (owed-less b r ts) is
  where
    by : (n a o x y : Bool) → (a ≡ true → x ≡ true) → (o ≡ true → y ≡ true) → ((n && a) || o) ≡ true → ((n && x) || y) ≡ true
    by n a o x y one two is = grind (arith, one, two)

either-both : (a b c d : Bool) → (a ≡ true → c ≡ true) → (b ≡ true → d ≡ true) → (a || b) ≡ true → (c || d) ≡ true
either-both a b c d one two is = grind (arith, one, two)

owed-step : (ts : List ThreadRow) (w : World) (b : Basic) → is_ending b ≡ true → is_still b ≡ true → AreOwed ts w → AreOwed ts (basic w b)
owed-step ts w (Dies who status) is still owes = absurd (cc)
owed-step ts w (Unregisters who b) is still owes =
    every-change (is_owed ts) (is_thread who) (unregistering b) (λ r was. either-both (has_living_registrations r) (owed ts r) _ _ (living-less b r) (owed-less b r ts) was) w.threads owes
owed-step ts w (DrawsIdentifier who) is still owes = absurd (cc)
owed-step ts w (DrawsOrdinal who) is still owes = absurd (cc)
owed-step ts w (Registers who b) is still owes = absurd (cc)
owed-step ts w (Acts who own) is still owes = absurd (cc)
owed-step ts w (AddsThread u) is still owes = absurd (cc)
owed-step ts w (Frees o) is still owes = absurd (cc)
owed-step ts w b is still owes = owes

owed-all : (ts : List ThreadRow) (w : World) (bs : List Basic) → every is_ending bs ≡ true → every is_still bs ≡ true → AreOwed ts w → AreOwed ts (world_after w bs)
owed-all ts w [] all still owes = owes
owed-all ts w (b ∷ bs) all still owes =
    owed-all ts (basic w b) bs (second-true (is_ending b) _ all) (second-true (is_still b) _ still)
    (owed-step ts w b (first-true (is_ending b) (every is_ending bs) all) (first-true (is_still b) (every is_still bs) still) owes)

-- Registrations that go
abbrev with_registrations : ThreadRow → List Birth → ThreadRow
with_registrations t rs = record t { registrations = rs }

post-owed : (t : ThreadRow) (ts : List ThreadRow) (b : Birth) (rs : List Birth) (w : World) → AreOwed (with_registrations t (b ∷ rs) ∷ ts) w → AreOwed (with_registrations t rs ∷ ts) (behind (post_death t b) w)
post-owed t ts b rs w owes =
    let v = basic w (Unregisters t.number b) in
    let told = given (death_post v t b) (λ m. enter m v) in
    owed-all (with_registrations t rs ∷ ts) v told (ending-death t b w) (death-still t b w) gone
  where
    here : (r : ThreadRow) → is_owed (with_registrations t (b ∷ rs) ∷ ts) r ≡ true → is_thread t.number r ≡ true → is_owed (with_registrations t rs ∷ ts) (unregistering b r) ≡ true
    here r was same =
        by (has_living_registrations r) (is_thread t.number r) (among (b ∷ rs) r.registrations) (owed ts r) _ _ _ (living-less b r) (among-less b rs r.registrations) (owed-less b r ts) was
      where
        by : (l n a o k x y : Bool) → (l ≡ true → k ≡ true) → (a ≡ true → x ≡ true) → (o ≡ true → y ≡ true) → (l || ((n && a) || o)) ≡ true → (k || ((n && x) || y)) ≡ true
        by l n a o k x y one two three is = grind (arith, one, two, three)

    there : (r : ThreadRow) → is_owed (with_registrations t (b ∷ rs) ∷ ts) r ≡ true → is_thread t.number r ≡ false → is_owed (with_registrations t rs ∷ ts) r ≡ true
    there r was other = by (has_living_registrations r) (is_thread t.number r) (among (b ∷ rs) r.registrations) (among rs r.registrations) (owed ts r) other was
      where
        by : (l n a x o : Bool) → n ≡ false → (l || ((n && a) || o)) ≡ true → (l || ((n && x) || o)) ≡ true
        by l n a x o off is = grind arith

    gone : AreOwed (with_registrations t rs ∷ ts) (basic w (Unregisters t.number b))
    gone = every-change_to (is_owed (with_registrations t (b ∷ rs) ∷ ts)) (is_owed (with_registrations t rs ∷ ts)) (is_thread t.number) (unregistering b) here there w.threads owes

deaths-owed : (t : ThreadRow) (ts : List ThreadRow) (rs : List Birth) (w : World) → AreOwed (with_registrations t rs ∷ ts) w → AreOwed (with_registrations t [] ∷ ts) (behind (in_turn (post_death t) rs) w)
deaths-owed t ts [] w owes = owes
deaths-owed t ts (b ∷ rs) w owes =
    then-holds (AreOwed (with_registrations t [] ∷ ts)) (post_death t b) (in_turn (post_death t) rs) w
    (deaths-owed t ts rs (behind (post_death t b) w) (post-owed t ts b rs w owes))

-- a thread without registrations owes none
none-owed : (t : ThreadRow) (ts : List ThreadRow) (w : World) → AreOwed (with_registrations t [] ∷ ts) w → AreOwed ts w
none-owed t ts w owes = every-more (is_owed (with_registrations t [] ∷ ts)) (is_owed ts) (λ r was. by r.live (length r.registrations == 0) (is_thread t.number r) (among [] r.registrations) (owed ts r) (among-none r.registrations) was) w.threads owes
  where
    by : (l z n a o : Bool) → (a ≡ true → z ≡ true) → ((l || z) || ((n && a) || o)) ≡ true → ((l || z) || o) ≡ true
    by l z n a o none is = grind (arith, none)

told-owed : (ts : List ThreadRow) (w : World) → AreOwed ts w → AreOwed [] (behind (in_turn post_deaths ts) w)
told-owed [] w owes = owes
told-owed (t ∷ ts) w owes =
    let v = behind (post_deaths t) w in
    then-holds (AreOwed []) (post_deaths t) (in_turn post_deaths ts) w
    (told-owed ts v (none-owed t ts v (deaths-owed t ts t.registrations w owes)))

-- Threads that end
-- a row has the registrations of the thread of its number
abbrev agrees : ThreadRow → ThreadRow → Bool
agrees t r = not (is_thread t.number r) || among t.registrations r.registrations

abbrev agree : List ThreadRow → ThreadRow → Bool
agree ts r = every (λ t. agrees t r) ts

abbrev is_kept : List ThreadRow → ThreadRow → Bool
is_kept ts r = is_owed ts r && agree ts r

abbrev AreKept : List ThreadRow → World → Type 0
AreKept ts w = every (is_kept ts) w.threads ≡ true

-- one of some threads
abbrev is_one_of : List ThreadRow → ThreadRow → Bool
is_one_of ts t = some (λ s. s.number == t.number) ts

owed-has : (n : ℕ) (r : ThreadRow) (ts : List ThreadRow) → is_thread n r ≡ true → some (λ s. s.number == n) ts ≡ true → agree ts r ≡ true → owed ts r ≡ true
owed-has n r [] same is all = is
owed-has n r (s ∷ ts) same is all = grind (arith, nat_tests, owed-has n r ts)

ended-kept : (ts : List ThreadRow) (t : ThreadRow) (rows : List ThreadRow) → is_one_of ts t ≡ true → every (is_kept ts) rows ≡ true → every (is_kept ts) (change (is_thread t.number) ended rows) ≡ true
ended-kept ts t rows is all =
    every-change_to (is_kept ts) (is_kept ts) (is_thread t.number) ended (λ r was same. both (has_living_registrations (ended r)) (owed ts r) (agree ts r) (owed-has t.number r ts same is (second-true (is_owed ts r) (agree ts r) was)) (second-true (is_owed ts r) (agree ts r) was)) (λ r was other. was) rows all
  where
    both : (l o a : Bool) → o ≡ true → a ≡ true → ((l || o) && a) ≡ true
    both l o a one two = grind arith

dead-kept : (code : Status) (all ts : List ThreadRow) (w : World) → every (is_one_of all) ts ≡ true → AreKept all w → AreKept all (behind (in_turn (die code) ts) w)
dead-kept code all [] w of kept = kept
dead-kept code all (t ∷ ts) w of kept =
    let v = behind (die code t) w in
    then-holds (AreKept all) (die code t) (in_turn (die code) ts) w
    (dead-kept code all ts v (second-true (is_one_of all t) (every (is_one_of all) ts) of)
    (subst (λ rows. every (is_kept all) rows ≡ true) (sym (die-threads code t w)) (ended-kept all t w.threads (first-true (is_one_of all t) (every (is_one_of all) ts) of) kept)))

one-more : (t : ThreadRow) (ts xs : List ThreadRow) → every (is_one_of ts) xs ≡ true → every (is_one_of (t ∷ ts)) xs ≡ true
one-more t ts xs all = every-more (is_one_of ts) (is_one_of (t ∷ ts)) (λ x is. or_right (t.number == x.number) _ is) xs all

one-self : (ts : List ThreadRow) → every (is_one_of ts) ts ≡ true
one-self [] = refl
one-self (t ∷ ts) = both (t.number == t.number) (some (λ s. s.number == t.number) ts) _ (same-number t.number) (one-more t ts ts (one-self ts))
  where
    both : (x y z : Bool) → x ≡ true → z ≡ true → ((x || y) && z) ≡ true
    both x y z one two = grind arith

-- so it is where they are found by their numbers
found-agree : (rows ts : List ThreadRow) → ((n : ℕ) → count (is_thread n) rows ≤ 1) → AreFound rows ts → every (agree ts) rows ≡ true
found-agree rows [] once found = all rows
  where
    all : (rows : List ThreadRow) → every (agree []) rows ≡ true
    all [] = refl
    all (r ∷ rows) = all rows
found-agree rows (t ∷ ts) once found =
    every-both (agrees t) (agree ts) (agree (t ∷ ts)) (λ r one two. and_from (agrees t r) (agree ts r) one two) rows
    (lone (is_thread t.number) (λ r. among t.registrations r.registrations) (is_thread t.number) rows t (once t.number) found.0 (first-passes (is_thread t.number) rows t found.0) (among-self t.registrations))
    (found-agree rows ts once found.3)

kept-first : (ts : List ThreadRow) (w : World) → HasThreadsOnce w → AreFound w.threads ts → HasLivingRegistrations w → AreKept ts w
kept-first ts w once found l =
    every-both has_living_registrations (agree ts) (is_kept ts) (λ r one two. both (has_living_registrations r) (owed ts r) (agree ts r) one two) w.threads l (found-agree w.threads ts once found)
  where
    both : (l o a : Bool) → l ≡ true → a ≡ true → ((l || o) && a) ≡ true
    both l o a one two = grind arith

kept-owed : (ts : List ThreadRow) (w : World) → AreKept ts w → AreOwed ts w
kept-owed ts w kept = every-more (is_kept ts) (is_owed ts) (λ r is. first-true (is_owed ts r) (agree ts r) is) w.threads kept

none-living : (w : World) → AreOwed [] w → HasLivingRegistrations w
none-living w owes = every-more (is_owed []) has_living_registrations (λ r is. only (has_living_registrations r) is) w.threads owes
  where
    only : (l : Bool) → (l || false) ≡ true → l ≡ true
    only l is = grind arith

-- Steps
-- a step ends no thread, and registers no port
abbrev is_lasting : Basic → Bool
is_lasting (Dies who status) = false
is_lasting (Registers who b) = false
is_lasting (AddsThread t) = has_living_registrations t
is_lasting b = true

freed-living : (w : World) (k : ObjectKind) (b : Birth) → HasLivingRegistrations w → HasLivingRegistrations (freed w k b)
freed-living w kind.Thread b l = every-without has_living_registrations (λ t. same_birth t.birth b) w.threads l
freed-living w e b l = l

living-step : (w : World) (b : Basic) → is_lasting b ≡ true → HasLivingRegistrations w → HasLivingRegistrations (basic w b)
living-step w (Dies who status) is l = absurd (cc)
living-step w (Registers who b) is l = absurd (cc)
living-step w (Unregisters who b) is l = every-change has_living_registrations (is_thread who) (unregistering b) (λ r was. living-less b r was) w.threads l
living-step w (DrawsIdentifier who) is l = every-change has_living_registrations (is_thread who) past_identifier (λ r was. was) w.threads l
living-step w (DrawsOrdinal who) is l = every-change has_living_registrations (is_thread who) past_ordinal (λ r was. was) w.threads l
living-step w (Acts who own) is l = every-change has_living_registrations (is_thread who) (acting own) (λ r was. was) w.threads l
living-step w (AddsThread t) is l = every-push has_living_registrations w.threads t l is
living-step w (Frees o) is l = freed-living w o.kind o.birth l
living-step w b is l = l

living-all : (w : World) (bs : List Basic) → every is_lasting bs ≡ true → HasLivingRegistrations w → HasLivingRegistrations (world_after w bs)
living-all = steps-keep is_lasting HasLivingRegistrations living-step

mild-lasting : (w : World) (b : Basic) → is_mild w b ≡ true → is_lasting b ≡ true
mild-lasting w (Dies who status) is = absurd (cc)
mild-lasting w (Registers who b) is = absurd (cc)
mild-lasting w (AddsThread t) is = or_left t.live _ (first-true t.live _ is)
mild-lasting w b is = refl

pub milds-living : (w : World) (bs : List Basic) → AreMild w bs → HasLivingRegistrations w → HasLivingRegistrations (world_after w bs)
milds-living w bs all = living-all w bs (every-more (is_mild w) is_lasting (mild-lasting w) bs all)

-- Calls
pub end-living : (pid : ℕ) (code : Status) (ts : List ThreadRow) (w : World) → HasThreadsOnce w → AreFound w.threads ts → HasLivingRegistrations w → HasLivingRegistrations (behind (end_threads pid code ts) w)
unfolding end_threads
end-living pid code ts w once found l =
    then-holds HasLivingRegistrations (in_turn (die code) ts) (in_turn post_deaths ts ▹ provided (λ w. not (is_live w pid)) (end_process pid)) w
    (then-holds HasLivingRegistrations (in_turn post_deaths ts) (provided (λ w. not (is_live w pid)) (end_process pid)) (behind_dead code ts w)
    (at (not (is_live (behind_told code ts w) pid)) (none-living (behind_told code ts w) (told-owed ts (behind_dead code ts w) (kept-owed ts (behind_dead code ts w) (dead-kept code ts ts w (one-self ts) (kept-first ts w once found l)))))))
  where
    at : (last : Bool) → HasLivingRegistrations (behind_told code ts w) → HasLivingRegistrations (world_after (behind_told code ts w) (when last (end_process pid (behind_told code ts w))))
    at true l =
        let v = behind_told code ts w in
        let u = basic v (LetsGo pid) in
        then-holds HasLivingRegistrations (in_turn (close_handle pid) (handles_of u pid)) (doing (DropsViewsOf pid ∷ [])) u
        (turn-keeps HasLivingRegistrations (close_handle pid) (λ r z. milds-living z (close_handle pid r z) (handle-mild z pid r)) (handles_of u pid) u l)
    at false l = l

-- a caller lives
registered-living : (w : World) (by : ThreadRow) (b : Birth) → HasThreadsOnce w → CanCall w by → HasLivingRegistrations w → HasLivingRegistrations (basic w (Registers by.number b))
registered-living w by b once c l =
    every-change_to (λ r. has_living_registrations r && (not (is_thread by.number r) || r.live)) has_living_registrations (is_thread by.number) (registering b) (λ r was same. lives (has_living_registrations r) (is_thread by.number r) r.live _ same was) (λ r was other. first-true (has_living_registrations r) _ was) w.threads
    (every-both has_living_registrations (λ r. not (is_thread by.number r) || r.live) (λ r. has_living_registrations r && (not (is_thread by.number r) || r.live)) (λ r one two. and_from (has_living_registrations r) _ one two) w.threads l
    (lone (is_thread by.number) (λ r. r.live) (is_live_thread by.number) w.threads by (once by.number) c.lives (first-true (is_thread by.number by) by.live (first-passes (is_live_thread by.number) w.threads by c.lives)) (second-true (is_thread by.number by) by.live (first-passes (is_live_thread by.number) w.threads by c.lives))))
  where
    lives : (l n live z : Bool) → n ≡ true → (l && (not n || live)) ≡ true → (live || z) ≡ true
    lives l n live z same is = grind arith

living-law : (by : ThreadRow) → LifeLaw by HasThreadsOnce (Keep HasLivingRegistrations)
living-law by = record {
  mild = milds-living;
  registers = λ w b new is. registered-living w by b is.known is.can;
  ends = λ w name own pid code ts doomed is l. world-ends HasLivingRegistrations w by name own pid code ts (end-living pid code ts w is.known (doomed-found w by own pid ts doomed is.known is.can) l);
}

-- Lines
pub living-lines : LineLaw HasThreadsOnce (λ _. Keep HasLivingRegistrations)
living-lines = passing-lines HasThreadsOnce (Keep HasLivingRegistrations) (λ _. is_lasting) living-all (λ w. record { tells = λ _. refl; processes = λ _ _ _. refl; threads = λ _ _ _. refl; binds = λ _ _. refl; names = λ _. refl }) (λ by. life-outcomes by HasThreadsOnce (Keep HasLivingRegistrations) (living-law by))

pub living-settles : (v : World) → IsReady v → HasThreadsOnce v → HasLivingRegistrations v → HasLivingRegistrations (behind settle v)
living-settles = life-settles HasLivingRegistrations milds-living (λ pid code u _ one l. end-living pid code (live_threads u pid) u one (live-found pid [] u.threads one) l)

-- the step of a line leaves registrations to live threads alone
pub living_registrations_step : (w : World) (line : ScriptLine) → IsSoundWorld w → HasThreadsOnce w → HasThreadsOnce (world_after w (own_steps line w)) → IsReady (world_after w (own_steps line w)) → HasLivingRegistrations w → HasLivingRegistrations (step w line).world
living_registrations_step w line s once after ready l =
    let v = world_after w (own_steps line w) in
    let bare = bare-does (Keep HasLivingRegistrations) (λ w xs ys one two. keeps_on HasLivingRegistrations w xs ys one two) w line (line-does HasThreadsOnce (λ _. Keep HasLivingRegistrations) living-lines w s once line) (living-settles v ready after) l in
    stepped HasLivingRegistrations w line (λ u. living-all u (sweep u) (sweep_every is_lasting (λ _. refl) u)) bare
