-- Each line tells of the threads that end by it, once on each port that they registered, and of no other.
use Rattle.std.proofs.Common.{◌≡◌, ◌∙◌, ℕ, List, [], ◌∷◌, ◌++◌, Bool, true, false, cond, map, not, Option, Some, None, refl, sym, ap, subst, arith, append-nil, append_assoc}
use Rattle.lpc_base.specs.Rows.{change, each, every, first, given, when, which}
use Rattle.lpc_base.proofs.RowWords.{every-append, every-more}
use Rattle.lpc_base.proofs.Bools.{first-true, second-true}
use Rattle.lpc_base.specs.declared.status.Status.{Status}
use Rattle.lpc_model.specs.declared.entry.CallName.{CallName}
use Rattle.lpc_model.specs.World.{Birth, MessageRow, ThreadRow, World}
use Rattle.lpc_model.specs.Found.{handles_of, is_live, is_thread, live_thread, wait_of}
use Rattle.lpc_model.specs.Basics.{AddsThread, Basic, Cuts, Dies, DrawsIdentifier, DrawsOrdinal, DropsOwned, Empties, Enters, Frees, Registers, Unbinds, Unregisters, Wakes, Withdraws, basic, ended, in_turn, posted, posts_of, unregistering, world_after, Acts, DropsViewsOf, Marks, LetsGo}
use Rattle.lpc_model.specs.Entering.{enter}
use Rattle.lpc_model.specs.Close.{close_handle}
use Rattle.lpc_model.specs.Death.{answer_unless, end_client, die, end_process, end_threads, post_death, post_deaths, death_post}
use Rattle.lpc_model.specs.Deaths.{TellsDeaths, ended_registrations, ending_registrations, is_died_post, leaves, rank_of, registration, registrations_of, rises, death_posts, deaths_posted}
use Rattle.lpc_model.specs.Lawful.{HasThreadsOnce}
use Rattle.lpc_model.specs.Lines.{ScriptLine}
use Rattle.lpc_model.specs.Machine.{own_steps}
use Rattle.lpc_model.specs.SoundWaits.{IsSoundWorld}
use Rattle.lpc_model.proofs.Steps.Closing.{behind, takes_away}
use Rattle.lpc_model.proofs.Deaths.Deathless.{AreDeathless, LifeLaw, away-deathless, deathless-taken, handle-deathless, is_deathless, life-outcomes, milds-deathless}
use Rattle.lpc_model.proofs.Deaths.Order.{deathless-order, parts-order}
use Rattle.lpc_model.proofs.Deaths.Doomed.{AreFound, doomed-found, found-live, found-other}
use Rattle.lpc_model.proofs.Steps.Ending.{AreEnding, accepted-pass, answered_end, behind_dead, behind_told, die-ending, die-pass, ending-death, is_ending, told-facts, turn-pass}
use Rattle.lpc_model.proofs.Calls.Lines.{LineLaw, line-does, passing-lines}
use Rattle.lpc_model.proofs.Steps.Rows.{first-change}
use Rattle.lpc_model.proofs.Calls.Taking.{taken_at_once}
use Rattle.lpc_model.proofs.Closings.Told.{posts-append, which-append}

-- Lists of steps
pub posts-both : (xs ys : List Basic) → which is_died_post (posts_of (xs ++ ys)) ≡ which is_died_post (posts_of xs) ++ which is_died_post (posts_of ys)
posts-both xs ys = ap (which is_died_post) (posts-append xs ys) ∙ which-append is_died_post (posts_of xs) (posts_of ys)

pub told-both : (w : World) (xs ys : List Basic) → deaths_posted w (xs ++ ys) ≡ deaths_posted w xs ++ deaths_posted (world_after w xs) ys
told-both w [] ys = refl
told-both w (x ∷ xs) ys =
    ap (λ ms. death_posts w x ++ ms) (told-both (basic w x) xs ys) ∙ sym (append_assoc (death_posts w x) (deaths_posted (basic w x) xs) (deaths_posted (world_after (basic w x) xs) ys))

pub leaves-both : (xs ys : List Basic) → each leaves (xs ++ ys) ≡ each leaves xs ++ each leaves ys
leaves-both [] ys = refl
leaves-both (x ∷ xs) ys = ap (λ rs. leaves x ++ rs) (leaves-both xs ys) ∙ sym (append_assoc (leaves x) (each leaves xs) (each leaves ys))

pub registrations-both : (w : World) (xs ys : List Basic) → ending_registrations w (xs ++ ys) ≡ ending_registrations w xs ++ ending_registrations (world_after w xs) ys
registrations-both w [] ys = refl
registrations-both w (x ∷ xs) ys =
    ap (λ rs. ended_registrations w x ++ rs) (registrations-both (basic w x) xs ys) ∙ sym (append_assoc (ended_registrations w x) (ending_registrations (basic w x) xs) (ending_registrations (world_after (basic w x) xs) ys))

-- steps that tell of no end, and by which no registration goes
abbrev is_silent : Basic → Bool
is_silent (Enters m) = not (is_died_post m)
is_silent (Unregisters who b) = false
is_silent b = true

-- and by which no thread ends
abbrev pub is_still : Basic → Bool
is_still (Dies who status) = false
is_still b = true

silent-post : (b : Basic) → is_silent b ≡ true → which is_died_post (posted b) ≡ []
silent-post (Enters m) is = grind arith
silent-post b is = refl

silent-tell : (w : World) (b : Basic) → is_silent b ≡ true → death_posts w b ≡ []
silent-tell w (Unregisters who b) is = absurd (cc)
silent-tell w b is = refl

silent-leave : (b : Basic) → is_silent b ≡ true → leaves b ≡ []
silent-leave (Unregisters who b) is = absurd (cc)
silent-leave b is = refl

undead-registration : (w : World) (b : Basic) → is_still b ≡ true → ended_registrations w b ≡ []
undead-registration w (Dies who status) is = absurd (cc)
undead-registration w b is = refl

silent-posts : (bs : List Basic) → every is_silent bs ≡ true → which is_died_post (posts_of bs) ≡ []
silent-posts [] all = refl
silent-posts (b ∷ bs) all =
    which-append is_died_post (posted b) (posts_of bs) ∙ (ap (λ ms. ms ++ which is_died_post (posts_of bs)) (silent-post b (first-true (is_silent b) (every is_silent bs) all)) ∙ silent-posts bs (second-true (is_silent b) (every is_silent bs) all))

silent-told : (w : World) (bs : List Basic) → every is_silent bs ≡ true → deaths_posted w bs ≡ []
silent-told w [] all = refl
silent-told w (b ∷ bs) all =
    ap (λ ms. ms ++ deaths_posted (basic w b) bs) (silent-tell w b (first-true (is_silent b) (every is_silent bs) all)) ∙ silent-told (basic w b) bs (second-true (is_silent b) (every is_silent bs) all)

silent-leaves : (bs : List Basic) → every is_silent bs ≡ true → each leaves bs ≡ []
silent-leaves [] all = refl
silent-leaves (b ∷ bs) all =
    ap (λ rs. rs ++ each leaves bs) (silent-leave b (first-true (is_silent b) (every is_silent bs) all)) ∙ silent-leaves bs (second-true (is_silent b) (every is_silent bs) all)

undead-registrations : (w : World) (bs : List Basic) → every is_still bs ≡ true → ending_registrations w bs ≡ []
undead-registrations w [] all = refl
undead-registrations w (b ∷ bs) all =
    ap (λ rs. rs ++ ending_registrations (basic w b) bs) (undead-registration w b (first-true (is_still b) (every is_still bs) all)) ∙ undead-registrations (basic w b) bs (second-true (is_still b) (every is_still bs) all)

deathless-silent : (b : Basic) → is_deathless b ≡ true → is_silent b ≡ true
deathless-silent (Unregisters who b) is = absurd (cc)
deathless-silent (Enters m) is = is
deathless-silent b is = refl

pub deathless-still : (b : Basic) → is_deathless b ≡ true → is_still b ≡ true
deathless-still (Dies who status) is = absurd (cc)
deathless-still b is = refl

pub deathless-tells : (w : World) (bs : List Basic) → AreDeathless bs → TellsDeaths w bs
deathless-tells w bs all =
    let silent = every-more is_deathless is_silent deathless-silent bs all in
    let undead = every-more is_deathless is_still deathless-still bs all in
    record {
      told = silent-posts bs silent ∙ sym (silent-told w bs silent);
      registrations = silent-leaves bs silent ∙ sym (undead-registrations w bs undead);
      order = deathless-order bs all;
    }

pub tells-both : (w : World) (xs ys : List Basic) → rises (each rank_of (xs ++ ys)) ≡ true → TellsDeaths w xs → TellsDeaths (world_after w xs) ys → TellsDeaths w (xs ++ ys)
tells-both w xs ys order one two = record {
  told = posts-both xs ys ∙ (ap (λ ms. ms ++ which is_died_post (posts_of ys)) one.told ∙ (ap (λ ms. deaths_posted w xs ++ ms) two.told ∙ sym (told-both w xs ys)));
  registrations = leaves-both xs ys ∙ (ap (λ rs. rs ++ each leaves ys) one.registrations ∙ (ap (λ rs. ending_registrations w xs ++ rs) two.registrations ∙ sym (registrations-both w xs ys)));
  order = order;
}

-- Threads that are found
-- the row of a thread, as far as it is told of
record IsRowOf (w : World) (t : ThreadRow) : Type 0 where
  row : ThreadRow
  at : first (is_thread t.number) w.threads ≡ Some row
  number : row.number ≡ t.number
  process : row.process ≡ t.process
  birth : row.birth ≡ t.birth

row-changed : (w : World) (t : ThreadRow) (who : ℕ) (f : ThreadRow → ThreadRow) → ((n : ℕ) (u : ThreadRow) → is_thread n (f u) ≡ is_thread n u) → ((u : ThreadRow) → (f u).number ≡ u.number) → ((u : ThreadRow) → (f u).process ≡ u.process) → ((u : ThreadRow) → (f u).birth ≡ u.birth)
    → IsRowOf w t → IsRowOf (record w { threads = change (is_thread who) f w.threads }) t
row-changed w t who f same numbers processes births r = record {
  row = cond (is_thread who r.row) (f r.row) r.row;
  at = rw (first-change (is_thread t.number) (is_thread who) f (same t.number) w.threads, r.at) refl;
  number = of-number (is_thread who r.row);
  process = of-process (is_thread who r.row);
  birth = of-birth (is_thread who r.row);
}
  where
    of-number : (c : Bool) → let u : ThreadRow = cond c (f r.row) r.row in u.number ≡ t.number
    of-number true = numbers r.row ∙ r.number
    of-number false = r.number

    of-process : (c : Bool) → let u : ThreadRow = cond c (f r.row) r.row in u.process ≡ t.process
    of-process true = processes r.row ∙ r.process
    of-process false = r.process

    of-birth : (c : Bool) → let u : ThreadRow = cond c (f r.row) r.row in u.birth ≡ t.birth
    of-birth true = births r.row ∙ r.birth
    of-birth false = r.birth

row-step : (w : World) (t : ThreadRow) (b : Basic) → is_ending b ≡ true → IsRowOf w t → IsRowOf (basic w b) t
row-step w t (Dies who status) is r =
    let v = row-changed w t who ended (λ n u. refl) (λ u. refl) (λ u. refl) (λ u. refl) r in
    record { row = v.row; at = v.at; number = v.number; process = v.process; birth = v.birth }
row-step w t (Unregisters who b) is r =
    let v = row-changed w t who (unregistering b) (λ n u. refl) (λ u. refl) (λ u. refl) (λ u. refl) r in
    record { row = v.row; at = v.at; number = v.number; process = v.process; birth = v.birth }
row-step w t (DrawsIdentifier who) is r = absurd (cc)
row-step w t (DrawsOrdinal who) is r = absurd (cc)
row-step w t (Registers who b) is r = absurd (cc)
row-step w t (Acts who own) is r = absurd (cc)
row-step w t (AddsThread u) is r = absurd (cc)
row-step w t (Frees o) is r = absurd (cc)
row-step w t b is r = record { row = r.row; at = r.at; number = r.number; process = r.process; birth = r.birth }

row-kept : (w : World) (t : ThreadRow) (bs : List Basic) → AreEnding bs → IsRowOf w t → IsRowOf (world_after w bs) t
row-kept w t [] all r = r
row-kept w t (b ∷ bs) all r = row-kept (basic w b) t bs (second-true (is_ending b) (every is_ending bs) all) (row-step w t b (first-true (is_ending b) (every is_ending bs) all) r)

abbrev AreRows : World → List ThreadRow → Type 0
AreRows w [] = Unit {0}
AreRows w (t ∷ ts) = IsRowOf w t × AreRows w ts

rows-kept : (w : World) (bs : List Basic) → AreEnding bs → (ts : List ThreadRow) → AreRows w ts → AreRows (world_after w bs) ts
rows-kept w bs all [] rows = tt
rows-kept w bs all (t ∷ ts) rows = (row-kept w t bs all rows.0, rows-kept w bs all ts rows.1)

-- Registrations that go
-- what is told depends on the thread's name alone
same-death : (w : World) (u t : ThreadRow) (b : Birth) → u.number ≡ t.number → u.process ≡ t.process → u.birth ≡ t.birth → death_post w u b ≡ death_post w t b
same-death w u t b one two three = rw (one, two, three) refl

silent-taken : (m : MessageRow) (w : World) → every is_silent (taken_at_once m w) ≡ true
silent-taken m w = every-more is_deathless is_silent deathless-silent (taken_at_once m w) (deathless-taken m w)

told-given : (w : World) (t : ThreadRow) (b : Birth) (o : Option MessageRow) → ((m : MessageRow) → o ≡ Some m → is_died_post m ≡ true) → which is_died_post (posts_of (given o (λ m. enter m w))) ≡ given o (λ m. m ∷ [])
told-given w t b None died = refl
told-given w t b (Some m) died =
    let none = silent-posts (taken_at_once m w) (silent-taken m w) in
    let is = died m refl in rw (is, none) refl

enter-told : (w : World) (o : Option MessageRow) → deaths_posted w (given o (λ m. enter m w)) ≡ []
enter-told w None = refl
enter-told w (Some m) = silent-told (basic w (Enters m)) (taken_at_once m w) (silent-taken m w)

enter-leaves : (w : World) (o : Option MessageRow) → each leaves (given o (λ m. enter m w)) ≡ []
enter-leaves w None = refl
enter-leaves w (Some m) = silent-leaves (taken_at_once m w) (silent-taken m w)

enter-undead : (w : World) (o : Option MessageRow) → every is_still (given o (λ m. enter m w)) ≡ true
enter-undead w None = refl
enter-undead w (Some m) = every-more is_deathless is_still deathless-still (taken_at_once m w) (deathless-taken m w)

-- what some steps tell of the registrations that go by them
abbrev ToldHere : World → List Basic → Type 0
ToldHere w bs = which is_died_post (posts_of bs) ≡ deaths_posted w bs

here-both : (w : World) (xs ys : List Basic) → ToldHere w xs → ToldHere (world_after w xs) ys → ToldHere w (xs ++ ys)
here-both w xs ys one two = posts-both xs ys ∙ (ap (λ ms. ms ++ which is_died_post (posts_of ys)) one ∙ (ap (λ ms. deaths_posted w xs ++ ms) two ∙ sym (told-both w xs ys)))

death-here : (t : ThreadRow) (b : Birth) (w : World) → IsRowOf w t → ToldHere w (post_death t b w)
death-here t b w r =
    let v = basic w (Unregisters t.number b) in
    let o = death_post v t b in
    told-given v t b o (λ m some. let facts = told-facts t b m v some in facts.died)
    ∙ (sym (append-nil (given o (λ m. m ∷ []))) ∙ (ap (λ ms. given o (λ m. m ∷ []) ++ ms) (sym (enter-told v o)) ∙ ap (λ ms. ms ++ deaths_posted v (given o (λ m. enter m v))) (sym tells)))
  where
    tells : death_posts w (Unregisters t.number b) ≡ given (death_post (basic w (Unregisters t.number b)) t b) (λ m. m ∷ [])
    tells = rw r.at (ap (λ p. given p (λ m. m ∷ [])) (same-death w r.row t b r.number r.process r.birth))

deaths-here : (t : ThreadRow) (bs : List Birth) (w : World) → IsRowOf w t → ToldHere w (in_turn (post_death t) bs w)
deaths-here t [] w r = refl
deaths-here t (b ∷ bs) w r =
    here-both w (post_death t b w) (in_turn (post_death t) bs (behind (post_death t b) w)) (death-here t b w r) (deaths-here t bs (behind (post_death t b) w) (row-kept w t (post_death t b w) (ending-death t b w) r))

all-here : (ts : List ThreadRow) (w : World) → AreRows w ts → ToldHere w (in_turn post_deaths ts w)
all-here [] w rows = refl
all-here (t ∷ ts) w rows =
    let bs = post_deaths t w in
    here-both w bs (in_turn post_deaths ts (behind (post_deaths t) w)) (deaths-here t t.registrations w rows.0)
    (all-here ts (behind (post_deaths t) w) (rows-kept w bs (turn-pass is_ending (post_death t) (λ b u. ending-death t b u) t.registrations w) ts rows.1))

-- the registrations that go are those of the threads
deaths-leave : (t : ThreadRow) (bs : List Birth) (w : World) → each leaves (in_turn (post_death t) bs w) ≡ map (registration t.number) bs
deaths-leave t [] w = refl
deaths-leave t (b ∷ bs) w =
    let v = basic w (Unregisters t.number b) in
    leaves-both (post_death t b w) (in_turn (post_death t) bs (behind (post_death t b) w))
    ∙ (ap (λ rs. (registration t.number b ∷ rs) ++ each leaves (in_turn (post_death t) bs (behind (post_death t b) w))) (enter-leaves v (death_post v t b)) ∙ ap (λ rs. registration t.number b ∷ rs) (deaths-leave t bs (behind (post_death t b) w)))

all-leave : (ts : List ThreadRow) (w : World) → each leaves (in_turn post_deaths ts w) ≡ each registrations_of ts
all-leave [] w = refl
all-leave (t ∷ ts) w =
    leaves-both (post_deaths t w) (in_turn post_deaths ts (behind (post_deaths t) w))
    ∙ (ap (λ rs. rs ++ each leaves (in_turn post_deaths ts (behind (post_deaths t) w))) (deaths-leave t t.registrations w) ∙ ap (λ rs. registrations_of t ++ rs) (all-leave ts (behind (post_deaths t) w)))

pub death-still : (t : ThreadRow) (b : Birth) (w : World) → every is_still (post_death t b w) ≡ true
death-still t b w = enter-undead (basic w (Unregisters t.number b)) (death_post (basic w (Unregisters t.number b)) t b)

-- Threads that end
-- no other step of its end touches a thread
abbrev keeps_threads : Basic → Bool
keeps_threads (Wakes who call status fields) = true
keeps_threads (Withdraws who) = true
keeps_threads (Empties q) = true
keeps_threads (Unbinds b) = true
keeps_threads (DropsOwned b) = true
keeps_threads (Marks who) = true
keeps_threads (Cuts b) = true
keeps_threads b = false

threads-step : (w : World) (b : Basic) → keeps_threads b ≡ true → (basic w b).threads ≡ w.threads
threads-step w (Wakes who call status fields) is = refl
threads-step w (Withdraws who) is = refl
threads-step w (Empties q) is = refl
threads-step w (Unbinds b) is = refl
threads-step w (DropsOwned b) is = refl
threads-step w (Marks who) is = refl
threads-step w (Cuts b) is = refl
threads-step w b is = absurd (cc)

threads-all : (w : World) (bs : List Basic) → every keeps_threads bs ≡ true → (world_after w bs).threads ≡ w.threads
threads-all w [] all = refl
threads-all w (b ∷ bs) all = threads-all (basic w b) bs (second-true (keeps_threads b) (every keeps_threads bs) all) ∙ threads-step w b (first-true (keeps_threads b) (every keeps_threads bs) all)

away-threads : (x : Basic) → takes_away x ≡ true → keeps_threads x ≡ true
away-threads (Wakes who call status fields) is = refl
away-threads (Withdraws who) is = refl
away-threads (Empties q) is = refl
away-threads (Unbinds b) is = refl
away-threads (DropsOwned b) is = refl
away-threads (Marks who) is = refl
away-threads x is = absurd (cc)

pub away-still : (x : Basic) → takes_away x ≡ true → is_still x ≡ true
away-still x is = deathless-still x (away-deathless x is)

away-silent : (x : Basic) → takes_away x ≡ true → is_silent x ≡ true
away-silent x is = deathless-silent x (away-deathless x is)

die-silent : (code : Status) (t : ThreadRow) (w : World) → every is_silent (die code t w) ≡ true
die-silent code t w = die-pass is_silent away-silent (λ n c. refl) (λ b. refl) code t w

module _ (code : Status) (t : ThreadRow) (w : World) where
  abbrev dead : World
  dead = basic w (Dies t.number code)

  abbrev withdrawn : World
  withdrawn = basic dead (Withdraws t.number)

  rest-of : List Basic
  rest-of = end_client (wait_of w t.number) withdrawn

  pub die-threads : (behind (die code t) w).threads ≡ change (is_thread t.number) ended w.threads
  unfolding rest-of
  die-threads = threads-all withdrawn rest-of (accepted-pass keeps_threads away-threads (λ b. refl) (wait_of w t.number) withdrawn)

  die-registrations : ending_registrations w (die code t w) ≡ ended_registrations w (Dies t.number code)
  unfolding rest-of
  die-registrations = ap (λ rs. ended_registrations w (Dies t.number code) ++ rs) (undead-registrations withdrawn rest-of (accepted-pass is_still away-still (λ b. refl) (wait_of w t.number) withdrawn)) ∙ append-nil (ended_registrations w (Dies t.number code))

all-end : (code : Status) (ts : List ThreadRow) (w : World) → AreFound w.threads ts → ending_registrations w (in_turn (die code) ts w) ≡ each registrations_of ts
all-end code [] w found = refl
all-end code (t ∷ ts) w found =
    let v = behind (die code t) w in
    let live : live_thread w t.number ≡ Some t = found-live w.threads t.number t found.0 found.1 in
    let here : ended_registrations w (Dies t.number code) ≡ registrations_of t = rw live refl in
    let later = all-end code ts v (subst (λ all. AreFound all ts) (sym (die-threads code t w)) (found-other w.threads t.number ts found.2 found.3)) in
    registrations-both w (die code t w) (in_turn (die code) ts v) ∙ (ap (λ rs. rs ++ ending_registrations v (in_turn (die code) ts v)) (die-registrations code t w ∙ here) ∙ ap (λ rs. registrations_of t ++ rs) later)

found-rows : (w : World) (ts : List ThreadRow) → AreFound w.threads ts → AreRows w ts
found-rows w [] found = tt
found-rows w (t ∷ ts) found = (record { row = t; at = found.0; number = refl; process = refl; birth = refl }, found-rows w ts found.3)

-- all parts
pub end-deaths : (pid : ℕ) (code : Status) (ts : List ThreadRow) (w : World) → AreFound w.threads ts → TellsDeaths w (end_threads pid code ts w)
unfolding end_threads
end-deaths pid code ts w found = at (not (is_live (behind_told code ts w) pid))
  where
    one : World
    one = behind_dead code ts w

    two : World
    two = behind_told code ts w

    dying : List Basic
    dying = in_turn (die code) ts w

    telling : List Basic
    telling = in_turn post_deaths ts (behind_dead code ts w)

    silent : every is_silent (in_turn (die code) ts w) ≡ true
    silent = turn-pass is_silent (die code) (λ t v. die-silent code t v) ts w

    ended-part : (bs : List Basic) → AreDeathless bs → TellsDeaths w (in_turn (die code) ts w ++ (in_turn post_deaths ts (behind_dead code ts w) ++ bs))
    ended-part bs all =
        let last = deathless-tells (behind_told code ts w) bs all in
        let mid = in_turn post_deaths ts (behind_dead code ts w) in
        let first_part = in_turn (die code) ts w in
        let rows = rows-kept w first_part (turn-pass is_ending (die code) (λ t v. die-ending code t v) ts w) ts (found-rows w ts found) in
        let undead_mid : every is_still mid ≡ true = turn-pass is_still post_deaths (λ t v. turn-pass is_still (post_death t) (λ b u. death-still t b u) t.registrations v) ts (behind_dead code ts w) in
        let undead_last = every-more is_deathless is_still deathless-still bs all in
        let silent_last = every-more is_deathless is_silent deathless-silent bs all in
        record {
          told = here-both w first_part (mid ++ bs) (silent-posts first_part silent ∙ sym (silent-told w first_part silent)) (here-both (behind_dead code ts w) mid bs (all-here ts (behind_dead code ts w) rows) last.told);
          registrations =
              leaves-both first_part (mid ++ bs) ∙ (ap (λ rs. rs ++ each leaves (mid ++ bs)) (silent-leaves first_part silent) ∙ (leaves-both mid bs ∙ (ap (λ rs. rs ++ each leaves bs) (all-leave ts (behind_dead code ts w)) ∙ (ap (λ rs. each registrations_of ts ++ rs) (silent-leaves bs silent_last)
              ∙ sym (registrations-both w first_part (mid ++ bs) ∙ (ap (λ rs. rs ++ ending_registrations (behind_dead code ts w) (mid ++ bs)) (all-end code ts w found)
              ∙ ap (λ rs. each registrations_of ts ++ rs) (undead-registrations (behind_dead code ts w) (mid ++ bs) (every-append is_still mid bs undead_mid undead_last))))))));
          order = parts-order code ts w (behind_dead code ts w) bs all;
        }

    at : (last : Bool) → TellsDeaths w (in_turn (die code) ts w ++ (in_turn post_deaths ts (behind_dead code ts w) ++ when last (end_process pid (behind_told code ts w))))
    at true =
        let u = basic (behind_told code ts w) (LetsGo pid) in
        let rows = handles_of u pid in
        ended-part (end_process pid (behind_told code ts w)) (every-append is_deathless (LetsGo pid ∷ []) (in_turn (close_handle pid) rows u ++ DropsViewsOf pid ∷ []) refl (every-append is_deathless (in_turn (close_handle pid) rows u) (DropsViewsOf pid ∷ []) (turn-pass is_deathless (close_handle pid) (λ r z. handle-deathless pid r z) rows u) refl))
    at false = ended-part [] refl

-- The calls
answered-deaths : (w : World) (by : ThreadRow) (call : CallName) (own : Bool) (pid : ℕ) (code : Status) (ts : List ThreadRow) → AreFound w.threads ts → TellsDeaths w (answered_end by call own pid code ts w)
answered-deaths w by call true pid code ts found = end-deaths pid code ts w found
answered-deaths w by call false pid code ts found =
    let ends = end-deaths pid code ts w found in tells-both w (answer_unless false by call) (end_threads pid code ts w) ends.order (record { told = refl; registrations = refl; order = refl }) ends

deaths-law : (by : ThreadRow) → LifeLaw by HasThreadsOnce TellsDeaths
deaths-law by = record {
  mild = λ w bs all. deathless-tells w bs (milds-deathless w bs all);
  registers = λ w b new is. deathless-tells w _ refl;
  ends = λ w name own pid code ts doomed is. answered-deaths w by name own pid code ts (doomed-found w by own pid ts doomed is.known is.can);
}

-- Lines
deaths-lines : LineLaw HasThreadsOnce (λ _. TellsDeaths)
deaths-lines = passing-lines HasThreadsOnce TellsDeaths (λ _. is_deathless) deathless-tells (λ w. record { tells = λ _. refl; processes = λ _ _ _. refl; threads = λ _ _ _. refl; binds = λ _ _. refl; names = λ _. refl }) (λ by. life-outcomes by HasThreadsOnce TellsDeaths (deaths-law by))

-- the own steps of a line tell of the threads that end by it
pub line-deaths : (w : World) (line : ScriptLine) → IsSoundWorld w → HasThreadsOnce w → TellsDeaths w (own_steps line w)
line-deaths w line s once = line-does HasThreadsOnce (λ _. TellsDeaths) deaths-lines w s once line
