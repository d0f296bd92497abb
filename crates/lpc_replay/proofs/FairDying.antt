-- What threads that end tell is right: with them no connect ends but their own, which is told nothing.
use Rattle.std.proofs.Common.{Bool, List, [], ap, arith, false, not, refl, subst, sym, true, ℕ, ◌∙◌, ◌∷◌, ◌≡◌}
use Rattle.std.specs.List.{AllByRecursion}
use Rattle.std.specs.Prelude.{None, Option, Some, ◌&&◌, ◌==◌, ◌||◌, if◌then◌else◌}
use Rattle.std.proofs.lemmas.Bool.{eqb-true, false_from_ne_true, not-true, or_right}
use Rattle.std.proofs.lemmas.Bool.Decides.{nat_tests}
use Rattle.lpc_base.specs.Rows.{change, every, given, has, passes, when, without}
use Rattle.lpc_base.proofs.RowWords.{every-more, first-passes, has-change}
use Rattle.lpc_base.proofs.RowMaps.{every-first}
use Rattle.lpc_base.proofs.Births.{birth-same}
use Rattle.lpc_base.proofs.Bools.{apart-second}
use Rattle.lpc_base.specs.declared.birth.Birth.{Birth}
use Rattle.lpc_base.specs.declared.status.Status.{Status}
use Rattle.lpc_message.specs.declared.kind.TheConstants.{CLIENT_DIED}
use Rattle.lpc_model.specs.Basics.{Basic, Cuts, Dies, DropsOwned, Empties, Enters, LetsGo, Marks, Steps, Takes, TakesConnect, Tells, Unbinds, Unregisters, Wakes, Withdraws, basic, ended, in_turn, unregistering, world_after}
use Rattle.lpc_model.specs.Close.{cut_pair, is_accepted_across}
use Rattle.lpc_model.specs.Death.{die, end_client, post_death, post_deaths, death_post}
use Rattle.lpc_model.specs.Deaths.{is_died_post}
use Rattle.lpc_model.specs.Entering.{enter}
use Rattle.lpc_model.specs.Found.{is_accepted, is_connect, is_open, is_port, is_the, is_thread, pair_of, same_birth, wait_of, waits_as}
use Rattle.lpc_model.specs.Lines.{ScriptLine}
use Rattle.lpc_model.specs.Message.{asks}
use Rattle.lpc_model.specs.SoundWaits.{HasShutConnects, can_stay_sound, has_client_port, waiter_of}
use Rattle.lpc_model.specs.Tests.{is_client}
use Rattle.lpc_model.specs.World.{MessageRow, ThreadRow, WaitRow, World}
use Rattle.lpc_model.proofs.Steps.Closing.{behind}
use Rattle.lpc_model.proofs.Deaths.Lines.{death-still, die-threads, is_still}
use Rattle.lpc_model.proofs.Steps.Ending.{behind_dead, behind_told, die-pass, told-facts, turn-pass}
use Rattle.lpc_model.proofs.Sound.Terminate.{IsSafe, die-safe}
use Rattle.lpc_model.proofs.Sound.Worlds.{by_kind, is_sure, sure-waits}
use Rattle.lpc_model.proofs.Closings.SingleLines.{its-maker}
use Rattle.lpc_model.proofs.Steps.InTurn.{after-append}
use Rattle.lpc_model.specs.declared.entry.Entry.TheVariants.{Died}
use Rattle.lpc_replay.specs.Connects.{lives_beside}
use Rattle.lpc_replay.specs.Ends.{HasEnder}
use Rattle.lpc_replay.proofs.Fair.{AreFair, HasItsCall, IsFair, when_fair}
use Rattle.lpc_replay.proofs.FairClosing.{AreFairOn, KeepKnown, Knows, keeps_known, away-keeps, enter-keeps, enter_on, knows-all, pair_on, then_fair}
use Rattle.lpc_replay.proofs.Holding.{all_append}

-- Connects of others
-- a wait is the thread's, or no accepted connect of an end of the connection
abbrev is_elsewhere : World → ℕ → Birth → WaitRow → Bool
is_elsewhere w n b z = waits_as n z || not (is_accepted_across b w z)

-- none waits on the client port of the thread's connect, or has it as its other end: that would be open
elsewhere : (w : World) (n : ℕ) (b : Birth) → is_open w b ≡ false → (b.maker == n) ≡ true → (z : WaitRow) → is_sure w z ≡ true → is_elsewhere w n b z ≡ true
elsewhere w n b shut made =
    by_kind (λ z. is_sure w z ≡ true → is_elsewhere w n b z ≡ true)
    (λ z m is. or_right (waits_as n z) true refl) (λ z is. or_right (waits_as n z) true refl) (λ z is. or_right (waits_as n z) true refl) (λ z m offer is. or_right (waits_as n z) true refl)
    (λ z m reply is. none (waits_as n z) (same_birth z.port b) (is_the b (pair_of w z.port)) (own z (maker-part z is)) (unpaired (pair_of w z.port) (opens-part z is)))
    (λ z r is. or_right (waits_as n z) true refl)
  where
    two-true : (a o s m : Bool) → ((a && o) && (s && m)) ≡ true → o ≡ true
    two-true a o s m is = grind arith

    four-true : (a o s m : Bool) → ((a && o) && (s && m)) ≡ true → m ≡ true
    four-true a o s m is = grind arith

    opens-part : (z : WaitRow) → ((is_client w (waiter_of z) && passes (pair_of w z.port) (is_open w)) && has_client_port w z) ≡ true → passes (pair_of w z.port) (is_open w) ≡ true
    opens-part z is = two-true (is_client w (waiter_of z)) (passes (pair_of w z.port) (is_open w)) (has (is_port z.port) w.ports) (z.port.maker == z.thread) is

    maker-part : (z : WaitRow) → ((is_client w (waiter_of z) && passes (pair_of w z.port) (is_open w)) && has_client_port w z) ≡ true → (z.port.maker == z.thread) ≡ true
    maker-part z is = four-true (is_client w (waiter_of z)) (passes (pair_of w z.port) (is_open w)) (has (is_port z.port) w.ports) (z.port.maker == z.thread) is

    own : (z : WaitRow) → (z.port.maker == z.thread) ≡ true → same_birth z.port b ≡ true → waits_as n z ≡ true
    own z maker same =
        let one : z.port ≡ b = birth-same z.port b same in
        let two : z.port.maker ≡ z.thread = eqb-true _ _ maker in
        let three : b.maker ≡ n = eqb-true _ _ made in
        let four : z.thread ≡ n = cc in
        rw four (grind (arith, nat_tests))

    unpaired : (o : Option Birth) → passes o (is_open w) ≡ true → is_the b o ≡ false
    unpaired None is = refl
    unpaired (Some c) is = false_from_ne_true (same_birth b c) (λ same. let one : c ≡ b = sym (birth-same b c same) in let two : is_open w b ≡ true = subst (λ e. is_open w e ≡ true) one is in cc)

    none : (a m d : Bool) → (m ≡ true → a ≡ true) → d ≡ false → (a || not (m || d)) ≡ true
    none true m d more is = refl
    none false true d more is = more refl
    none false false d more is = rw is refl

-- What the steps keep
pub die_keeps : (code : Status) (t : ThreadRow) (v : World) → KeepKnown (die code t v)
die_keeps code t v = die-pass keeps_known away-keeps (λ n c. refl) (λ b. refl) code t v

quiet-died : (m : MessageRow) → is_died_post m ≡ true → asks m.message ≡ false
quiet-died m is = let kind : m.message.header.kind ≡ CLIENT_DIED = eqb-true _ _ is in rw kind refl

told_keeps : (t : ThreadRow) (b : Birth) (v : World) → KeepKnown (post_death t b v)
told_keeps t b v = at (death_post (basic v (Unregisters t.number b)) t b) refl
  where
    at : (o : Option MessageRow) → death_post (basic v (Unregisters t.number b)) t b ≡ o → KeepKnown (given o (λ m. enter m (basic v (Unregisters t.number b))))
    at None none = refl
    at (Some m) is = let told = told-facts t b m (basic v (Unregisters t.number b)) is in enter-keeps m (basic v (Unregisters t.number b)) (quiet-died m told.died)

pub deaths_keep : (t : ThreadRow) (v : World) → KeepKnown (post_deaths t v)
deaths_keep t v = turn-pass keeps_known (post_death t) (λ b u. told_keeps t b u) t.registrations v

-- A thread that ends
-- the world behind a thread that goes with its wait and its message
abbrev left : ℕ → Status → World → World
left n code v = world_after v (Dies n code ∷ Withdraws n ∷ [])

abbrev dead : ℕ → Status → List Basic
dead n code = Dies n code ∷ Withdraws n ∷ []

shut-connect : (w : World) (n : ℕ) (x : WaitRow) → HasShutConnects w → wait_of w n ≡ Some x → is_accepted x ≡ true → is_open w x.port ≡ false
shut-connect w n x shut found is = apart-second (is_connect x) (is_open w x.port) (connects x is) (every-first (λ x. not (is_connect x && is_open w x.port)) (waits_as n) w.waits x shut found)
  where
    connects : (x : WaitRow) → is_accepted x ≡ true → is_connect x ≡ true
    connects x is = grind arith

own-maker : (w : World) (n : ℕ) (x : WaitRow) → IsSafe w → wait_of w n ≡ Some x → is_accepted x ≡ true → (x.port.maker == n) ≡ true
own-maker w n x safe found is =
    let s = safe.sound in
    let made : x.port.maker ≡ x.thread = eqb-true _ _ (its-maker w x is (every-first (can_stay_sound w) (waits_as n) w.waits x s.stay found)) in
    let its : x.thread ≡ n = eqb-true _ _ (first-passes (waits_as n) w.waits x found) in
    let both : x.port.maker ≡ n = made ∙ its in
    rw both (grind (arith, nat_tests))

-- the line ends the thread with a code
abbrev pub HasEnd : World → ScriptLine → Status → ThreadRow → Type 0
HasEnd w line code t = HasEnder w line (Died t.number code)

-- the line is one in another world than that which its steps have left by now
module _ (start : World) (line : ScriptLine) (w : World) (P : WaitRow → Type 0) (calls : (x : WaitRow) → P x → HasItsCall x) where
  -- the waits of others, none of which the cut of the thread's client port ends
  abbrev IsOther : World → Birth → WaitRow → Type 0
  IsOther v b x = P x × (is_accepted_across b v x ≡ false)

  others_left : (v : World) (n : ℕ) (b : Birth) (xs : List WaitRow) → AllByRecursion P xs → every (is_elsewhere v n b) xs ≡ true → AllByRecursion (IsOther v b) (without (waits_as n) xs)
  others_left v n b [] all off = tt
  others_left v n b (x ∷ xs) all off =
      let here : is_elsewhere v n b x ≡ true = grind arith in
      let later : every (is_elsewhere v n b) xs ≡ true = grind arith in
      at (waits_as n x) here (others_left v n b xs all.1 later)
    where
      at : (own : Bool) → (own || not (is_accepted_across b v x)) ≡ true → AllByRecursion (IsOther v b) (without (waits_as n) xs) → AllByRecursion (IsOther v b) (if not own then x ∷ without (waits_as n) xs else without (waits_as n) xs)
      at true is rest = rest
      at false is rest = ((all.0, not-true (is_accepted_across b v x) is), rest)

  die_fair : (code : Status) (t : ThreadRow) (v : World) → HasEnd start line code t → IsSafe v → Knows P w v → AreFair start line (die code t v)
  die_fair code t v ends safe k = all_append (IsFair start line) (dead t.number code) (end_client (wait_of v t.number) (left t.number code v)) ((tt, ends), (tt, tt)) (at (wait_of v t.number) refl)
    where
      by_accept : (x : WaitRow) → wait_of v t.number ≡ Some x → (a : Bool) → is_accepted x ≡ a → AreFair start line (when a (cut_pair x.port (left t.number code v)))
      by_accept x found false off = tt
      by_accept x found true is =
          let b = x.port in
          let off : every (is_elsewhere v t.number b) v.waits ≡ true = every-more (is_sure v) (is_elsewhere v t.number b) (elsewhere v t.number b (shut-connect v t.number x safe.shut found is) (own-maker v t.number x safe found is)) v.waits (sure-waits v safe.sound) in
          pair_on start line v (IsOther v b) (λ x q. calls x q.0) b (λ x q across. absurd (cc)) (left t.number code v)
          (record { waits = others_left v t.number b v.waits k.waits off; pairs = λ q c same. same })

      at : (o : Option WaitRow) → wait_of v t.number ≡ o → AreFair start line (end_client o (left t.number code v))
      at None none = tt
      at (Some x) found =
          let cuts = when (is_accepted x) (cut_pair x.port (left t.number code v)) in
          let drops = DropsOwned x.port ∷ [] in
          all_append (IsFair start line) cuts (when (is_connect x) drops) (by_accept x found (is_accepted x) refl) (when_fair start line (is_connect x) drops (tt, tt))

  pub dies_fair : (code : Status) (ts : List ThreadRow) (v : World) → AllByRecursion (HasEnd start line code) ts → IsSafe v → Knows P w v → AreFair start line (in_turn (die code) ts v)
  dies_fair code [] v ends safe k = tt
  dies_fair code (t ∷ ts) v ends safe k =
      let u = behind (die code t) v in
      all_append (IsFair start line) (die code t v) (in_turn (die code) ts u) (die_fair code t v ends.0 safe k)
      (dies_fair code ts u ends.1 (die-safe code t v safe) (knows-all P w v (die code t v) (die_keeps code t v) k))

  -- What is told of them
  told_on : (t : ThreadRow) (b : Birth) → AreFairOn start line w P calls (post_death t b)
  told_on t b v k = (tt, at (death_post (basic v (Unregisters t.number b)) t b))
    where
      at : (o : Option MessageRow) → AreFair start line (given o (λ m. enter m (basic v (Unregisters t.number b))))
      at None = tt
      at (Some m) = enter_on start line w P calls m (basic v (Unregisters t.number b)) (record { waits = k.waits; pairs = k.pairs })

  turn_on : {A : Type 0} (f : A → Steps) → ((x : A) (v : World) → KeepKnown (f x v)) → ((x : A) → AreFairOn start line w P calls (f x)) → (xs : List A) → AreFairOn start line w P calls (in_turn f xs)
  turn_on f keep fair [] v k = tt
  turn_on f keep fair (x ∷ xs) v k = then_fair start line w P calls (f x) (in_turn f xs) (keep x) (fair x) (turn_on f keep fair xs) v k

  pub deaths_fair : (ts : List ThreadRow) → AreFairOn start line w P calls (in_turn post_deaths ts)
  deaths_fair ts = turn_on post_deaths deaths_keep (λ t. turn_on (post_death t) (λ b v. told_keeps t b v) (told_on t) t.registrations) ts

-- The threads behind them
-- no other thread of the process lives then that didn't before
beside_step : (t : ThreadRow) (v : World) (x : Basic) → keeps_known x ≡ true → is_still x ≡ true → has (lives_beside t) (basic v x).threads ≡ has (lives_beside t) v.threads
beside_step t v (Tells e) known still = refl
beside_step t v (Wakes who call status fields) known still = refl
beside_step t v (Dies who status) known still = absurd (cc)
beside_step t v (Enters m) known still = refl
beside_step t v (Takes q) known still = refl
beside_step t v (TakesConnect q) known still = refl
beside_step t v (Withdraws who) known still = refl
beside_step t v (Empties q) known still = refl
beside_step t v (Unregisters who b) known still = has-change (lives_beside t) (is_thread who) (unregistering b) (λ u. refl) v.threads
beside_step t v (Cuts b) known still = refl
beside_step t v (Unbinds b) known still = refl
beside_step t v (DropsOwned b) known still = refl
beside_step t v (Marks who) known still = refl
beside_step t v (LetsGo pid) known still = refl
beside_step t v x known still = absurd (cc)

beside_all : (t : ThreadRow) (v : World) (bs : List Basic) → KeepKnown bs → every is_still bs ≡ true → has (lives_beside t) (world_after v bs).threads ≡ has (lives_beside t) v.threads
beside_all t v [] known still = refl
beside_all t v (x ∷ bs) known still =
    let one : keeps_known x ≡ true = grind arith in
    let two : is_still x ≡ true = grind arith in
    beside_all t (basic v x) bs (grind arith) (grind arith) ∙ beside_step t v x one two

beside_ended : (t : ThreadRow) (us : List ThreadRow) → has (lives_beside t) (change (is_thread t.number) ended us) ≡ has (lives_beside t) us
beside_ended t [] = refl
beside_ended t (u ∷ us) = grind (arith, beside_ended t us)

pub beside_told : (t : ThreadRow) (code : Status) (w : World) → has (lives_beside t) (behind_told code (t ∷ []) w).threads ≡ has (lives_beside t) w.threads
beside_told t code w =
    let one = behind_dead code (t ∷ []) w in
    let posts = in_turn post_deaths (t ∷ []) one in
    let known : KeepKnown posts = turn-pass keeps_known post_deaths deaths_keep (t ∷ []) one in
    let still : every is_still posts ≡ true = turn-pass is_still post_deaths (λ t v. turn-pass is_still (post_death t) (λ b u. death-still t b u) t.registrations v) (t ∷ []) one in
    let ends : one.threads ≡ change (is_thread t.number) ended w.threads = ap (λ (v : World). v.threads) (after-append w (die code t w) []) ∙ die-threads code t w in
    beside_all t one posts known still ∙ (ap (has (lives_beside t)) ends ∙ beside_ended t w.threads)
