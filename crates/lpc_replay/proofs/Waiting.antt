-- A wait that ends in a line is told of. As the world settles a wait may end untold: its thread waits again at once, or its
-- process is to end, and does before the line is over.
use Rattle.std.proofs.Common.{Bool, List, [], ap, arith, false, not, refl, subst, sym, true, ℕ, ◌++◌, ◌∙◌, ◌∷◌, ◌≡◌}
use Rattle.std.specs.List.{AllByRecursion}
use Rattle.std.specs.Prelude.{None, Option, Some, is_some, option_map, ◌==◌, ◌&&◌, ◌||◌}
use Rattle.std.proofs.lemmas.Bool.Decides.{nat_tests}
use Rattle.std.proofs.lemmas.Bool.{and_from, eqb-true, or_left, or_right}
use Rattle.lpc_base.specs.Rows.{change, every, first, has, without}
use Rattle.lpc_base.proofs.Bools.{first-true, same-number, second-true}
use Rattle.lpc_base.proofs.RowMaps.{every-first}
use Rattle.lpc_base.proofs.RowWords.{first-passes, has-change, has-kept, has-push}
use Rattle.lpc_model.specs.Basics.{Accepts, Acts, AddsProcess, AddsThread, Awaits, Basic, Dies, Dooms, DrawsIdentifier, DrawsOrdinal, Frees, Leaves, LetsGo, Receives, Registers, SetsDebug, SetsException, Unregisters, Wakes, accepted, acting, basic, debugged, doomed, ended, entries_of, excepted, left_by, past_identifier, past_ordinal, portless, received, registering, told, unregistering, world_after}
use Rattle.lpc_model.specs.Entering.{enter, row_of}
use Rattle.lpc_model.specs.Found.{is_live, is_live_thread, is_process, is_thread, live_thread, lives_in, waits_as, waits_at}
use Rattle.lpc_model.specs.Lawful.{IsLawfulWorld}
use Rattle.lpc_model.specs.Lines.{ScriptLine}
use Rattle.lpc_model.specs.Machine.{bare_steps, own_steps, step}
use Rattle.lpc_model.specs.Raise.{Handled, Heard, Hearing, Next, Unhandled, behind_chance, event_message, event_wait, go_on, goes_on, send_event}
use Rattle.lpc_model.specs.Run.{Along}
use Rattle.lpc_model.specs.Settle.{IsSettled, doomed_processes, end_doomed, is_doomed, least, settle, turn, turn_by}
use Rattle.lpc_model.specs.SoundWaits.{is_sound_as, is_sound_wait, waiter_of}
use Rattle.lpc_model.specs.Sweep.{sweep}
use Rattle.lpc_model.specs.Tests.{client_of, is_client}
use Rattle.lpc_model.specs.World.{MessageRow, ProcessRow, Raised, ThreadRow, WaitRow, World}
use Rattle.lpc_model.proofs.Calls.Raising.{GoesOn, on-holds}
use Rattle.lpc_model.proofs.GivenBytes.{GivesBytes, SaidBytes}
use Rattle.lpc_model.proofs.Runs.{lawful-readied, lawful_step}
use Rattle.lpc_model.proofs.Settling.Keeps.{bare-settled}
use Rattle.lpc_model.proofs.Sound.Terminate.{IsSafe}
use Rattle.lpc_model.proofs.Steps.InTurn.{after-append, entries-append, steps-keep}
use Rattle.lpc_model.proofs.Steps.Rows.{has-append, has-found, has-more, has-none, has-turned}
use Rattle.lpc_model.proofs.Steps.Sweep.{stepped, sweep_every}
use Rattle.lpc_replay.specs.Connects.{own_world, turned}
use Rattle.lpc_replay.specs.Waits.{WaitsEndAsTold, tells_end}
use Rattle.lpc_replay.proofs.Fair.{AreFair, HasItsCall, HaveTheirCalls, IsFair, fair_keep, freed_waits, steps_keep}
use Rattle.lpc_replay.proofs.FairLines.{own_fair, steps_right}
use Rattle.lpc_replay.proofs.FairRaise.{event_fair}
use Rattle.lpc_replay.proofs.FairSettling.{IsTurning, doomed_fair, settle_holds, turned_after}
use Rattle.lpc_replay.proofs.HeldWorlds.{step_tells}
use Rattle.lpc_replay.proofs.Holding.{all_filter}
use Rattle.lpc_replay.proofs.Processes.{HasProcesses, has_process, processes_end, processes_on, processes_own, processes_step}

-- Threads that wait, or are to end
-- the process of a number is to end
abbrev has_doom : World → ℕ → Bool
has_doom w pid = has (λ p. is_process pid p && is_some p.doom) w.processes

-- the thread lives, and its process is to end
abbrev is_dying : World → ℕ → ThreadRow → Bool
is_dying w tid t = is_live_thread tid t && has_doom w t.process

abbrev is_bound : ℕ → World → Bool
is_bound tid w = has (waits_as tid) w.waits || has (is_dying w tid) w.threads

-- a thread that is bound before steps is told of its end by them, or is bound behind them
abbrev TellsEnd : ℕ → World → List Basic → Type 0
TellsEnd tid w bs =
    is_bound tid w ≡ true → (has (tells_end tid) (entries_of bs) || is_bound tid (world_after w bs)) ≡ true

tells_both : (tid : ℕ) (w : World) (xs ys : List Basic) → TellsEnd tid w xs → TellsEnd tid (world_after w xs) ys → TellsEnd tid w (xs ++ ys)
tells_both tid w xs ys one two bound =
    let all = ap (has (tells_end tid)) (entries-append xs ys) ∙ has-append (tells_end tid) (entries_of xs) (entries_of ys) in
    rw (all, after-append w xs ys) (parts (has (tells_end tid) (entries_of xs)) (has (tells_end tid) (entries_of ys)) (is_bound tid (world_after w xs)) (is_bound tid (world_after (world_after w xs) ys)) (one bound) two)
  where
    parts : (a b c d : Bool) → (a || c) ≡ true → (c ≡ true → (b || d) ≡ true) → ((a || b) || d) ≡ true
    parts true b c d is more = refl
    parts false b c d is more = more is

-- Basic steps
-- no wait ends untold, and no row goes
abbrev is_plain : Basic → Bool
is_plain (Leaves who) = false
is_plain (Frees o) = false
is_plain b = true

fair_plain : (o : World) (line : ScriptLine) (b : Basic) → IsFair o line b → is_plain b ≡ true
fair_plain o line (Leaves who) fair = absurd fair
fair_plain o line (Frees b) fair = absurd fair
fair_plain o line b fair = refl

are_plain : (o : World) (line : ScriptLine) (bs : List Basic) → AreFair o line bs → every is_plain bs ≡ true
are_plain o line [] fair = refl
are_plain o line (b ∷ bs) fair = and_from _ _ (fair_plain o line b fair.0) (are_plain o line bs fair.1)

others_wait : (tid who : ℕ) (xs : List WaitRow) → (who == tid) ≡ false → has (waits_as tid) (without (waits_as who) xs) ≡ has (waits_as tid) xs
others_wait tid who [] off = refl
others_wait tid who (x ∷ xs) off = grind (arith, nat_tests, others_wait tid who xs off)

others_die : (test : ℕ → Bool) (tid who : ℕ) (ts : List ThreadRow) → (who == tid) ≡ false → has (λ t. is_live_thread tid t && test t.process) (change (is_thread who) ended ts) ≡ has (λ t. is_live_thread tid t && test t.process) ts
others_die test tid who [] off = refl
others_die test tid who (t ∷ ts) off = grind (arith, nat_tests, others_die test tid who ts off)

stays_changed : {X : Type 0} (p s : X → Bool) (f : X → X) → ((x : X) → p x ≡ true → p (f x) ≡ true) → (xs : List X) → has p xs ≡ true → has p (change s f xs) ≡ true
stays_changed p s f keeps [] is = is
stays_changed p s f keeps (x ∷ xs) is = grind (arith, keeps x, stays_changed p s f keeps xs)

-- bound by a wait, or by a process that is to end
module _ (tid : ℕ) (w v : World) where
  bound_more : (has (waits_as tid) w.waits ≡ true → has (waits_as tid) v.waits ≡ true) → (has (is_dying w tid) w.threads ≡ true → has (is_dying v tid) v.threads ≡ true) → is_bound tid w ≡ true → is_bound tid v ≡ true
  bound_more one two = parts (has (waits_as tid) w.waits) (has (is_dying w tid) w.threads) (has (waits_as tid) v.waits) (has (is_dying v tid) v.threads) one two
    where
      parts : (a b c d : Bool) → (a ≡ true → c ≡ true) → (b ≡ true → d ≡ true) → (a || b) ≡ true → (c || d) ≡ true
      parts true b c d one two is = or_left c d (one refl)
      parts false b c d one two is = or_right c d (two is)

  -- other processes, of which as many are to end at least
  doom_more : v.waits ≡ w.waits → v.threads ≡ w.threads → ((n : ℕ) → has_doom w n ≡ true → has_doom v n ≡ true) → is_bound tid w ≡ true → is_bound tid v ≡ true
  doom_more waits threads more =
      bound_more (λ is. rw waits is) (λ is. subst (λ ts. has (is_dying v tid) ts ≡ true) (sym threads) (has-more (is_dying w tid) (is_dying v tid) (λ t one. and_from _ _ (first-true (is_live_thread tid t) _ one) (more t.process (second-true (is_live_thread tid t) _ one))) w.threads is))

changed_threads : (tid who : ℕ) (w : World) (f : ThreadRow → ThreadRow) → ((t : ThreadRow) → is_dying w tid (f t) ≡ is_dying w tid t) → is_bound tid w ≡ true → is_bound tid (record w { threads = change (is_thread who) f w.threads }) ≡ true
changed_threads tid who w f same = bound_more tid w (record w { threads = change (is_thread who) f w.threads }) (λ is. is) (λ is. rw (has-change (is_dying w tid) (is_thread who) f same w.threads) is)

changed_processes : (tid pid : ℕ) (w : World) (f : ProcessRow → ProcessRow) → ((n : ℕ) (p : ProcessRow) → (is_process n p && is_some p.doom) ≡ true → let q : ProcessRow = f p in (is_process n q && is_some q.doom) ≡ true) → is_bound tid w ≡ true → is_bound tid (record w { processes = change (is_process pid) f w.processes }) ≡ true
changed_processes tid pid w f keeps = doom_more tid w (record w { processes = change (is_process pid) f w.processes }) refl refl (λ n is. stays_changed (λ (p : ProcessRow). is_process n p && is_some p.doom) (is_process pid) f (keeps n) w.processes is)

step_bound : (tid : ℕ) (w : World) (b : Basic) → is_plain b ≡ true → is_bound tid w ≡ true → (has (tells_end tid) (told b) || is_bound tid (basic w b)) ≡ true
step_bound tid w (Leaves who) plain bound = absurd (cc)
step_bound tid w (Frees o) plain bound = absurd (cc)
step_bound tid w (Wakes who call status fields) plain bound = at (who == tid) refl
  where
    at : (own : Bool) → (who == tid) ≡ own → (has (tells_end tid) (told (Wakes who call status fields)) || is_bound tid (left_by who w)) ≡ true
    at true own = rw own refl
    at false off = or_right _ _ (bound_more tid w (left_by who w) (λ is. rw (others_wait tid who w.waits off) is) (λ is. is) bound)
step_bound tid w (Dies who status) plain bound = at (who == tid) refl
  where
    at : (own : Bool) → (who == tid) ≡ own → (has (tells_end tid) (told (Dies who status)) || is_bound tid (basic w (Dies who status))) ≡ true
    at true own = rw own refl
    at false off = or_right _ _ (bound_more tid w (basic w (Dies who status)) (λ is. rw (others_wait tid who w.waits off) is) (λ is. rw (others_die (has_doom w) tid who w.threads off) is) bound)
step_bound tid w (Awaits x) plain bound = bound_more tid w (basic w (Awaits x)) (λ is. has-kept (waits_as tid) w.waits x is) (λ is. is) bound
step_bound tid w (Receives who queue) plain bound = bound_more tid w (basic w (Receives who queue)) (λ is. rw (has-change (waits_as tid) (waits_at who queue) received (λ x. refl) w.waits) is) (λ is. is) bound
step_bound tid w (Accepts who a) plain bound = bound_more tid w (basic w (Accepts who a)) (λ is. rw (has-change (waits_as tid) (waits_as who) (accepted a) (λ x. refl) w.waits) is) (λ is. is) bound
step_bound tid w (DrawsIdentifier who) plain bound = changed_threads tid who w past_identifier (λ t. refl) bound
step_bound tid w (DrawsOrdinal who) plain bound = changed_threads tid who w past_ordinal (λ t. refl) bound
step_bound tid w (Registers who b) plain bound = changed_threads tid who w (registering b) (λ t. refl) bound
step_bound tid w (Unregisters who b) plain bound = changed_threads tid who w (unregistering b) (λ t. refl) bound
step_bound tid w (Acts who own) plain bound = changed_threads tid who w (acting own) (λ t. refl) bound
step_bound tid w (AddsThread t) plain bound = bound_more tid w (basic w (AddsThread t)) (λ is. is) (λ is. has-kept (is_dying w tid) w.threads t is) bound
step_bound tid w (AddsProcess p) plain bound = doom_more tid w (basic w (AddsProcess p)) refl refl (λ n is. has-kept (λ (q : ProcessRow). is_process n q && is_some q.doom) w.processes p is) bound
step_bound tid w (SetsDebug pid b) plain bound = changed_processes tid pid w (debugged b) (λ n p is. is) bound
step_bound tid w (SetsException pid b) plain bound = changed_processes tid pid w (excepted b) (λ n p is. is) bound
step_bound tid w (LetsGo pid) plain bound = changed_processes tid pid w portless (λ n p is. is) bound
step_bound tid w (Dooms pid code) plain bound = changed_processes tid pid w (doomed code) (λ n p is. and_from _ _ (first-true (is_process n p) (is_some p.doom) is) refl) bound
step_bound tid w b plain bound = or_right (has (tells_end tid) (told b)) (is_bound tid w) bound

plain_tells : (tid : ℕ) (w : World) (bs : List Basic) → every is_plain bs ≡ true → TellsEnd tid w bs
plain_tells tid w [] plain bound = bound
plain_tells tid w (b ∷ bs) plain bound =
    rw (has-append (tells_end tid) (told b) (entries_of bs))
    (parts (has (tells_end tid) (told b)) (has (tells_end tid) (entries_of bs)) (is_bound tid (basic w b)) (is_bound tid (world_after (basic w b) bs)) (step_bound tid w b (first-true (is_plain b) (every is_plain bs) plain) bound) (plain_tells tid (basic w b) bs (second-true (is_plain b) (every is_plain bs) plain)))
  where
    parts : (a b c d : Bool) → (a || c) ≡ true → (c ≡ true → (b || d) ≡ true) → ((a || b) || d) ≡ true
    parts true b c d is more = refl
    parts false b c d is more = more is

-- Settling
-- the wait of another thread ends
other_leaves : (tid who : ℕ) (w : World) → (who == tid) ≡ false → is_bound tid w ≡ true → is_bound tid (left_by who w) ≡ true
other_leaves tid who w off = bound_more tid w (left_by who w) (λ is. rw (others_wait tid who w.waits off) is) (λ is. is)

-- the process of a thread that waits is that of its wait
own_process : (w : World) (tid : ℕ) (t : ThreadRow) (x : WaitRow) (r : Raised) → GoesOn w tid t x r → every (is_sound_wait w) w.waits ≡ true → t.process ≡ x.process
own_process w tid t x r g sound =
    let its : x.thread ≡ tid = eqb-true x.thread tid (first-passes (waits_as tid) w.waits x g.waits) in
    let client : is_client w (waiter_of x) ≡ true = first-true (is_client w (waiter_of x)) (is_sound_as w x x.kind) (every-first (is_sound_wait w) (waits_as tid) w.waits x sound g.waits) in
    let found : live_thread w x.thread ≡ Some t = subst (λ n. live_thread w n ≡ Some t) (sym its) g.lives in
    let same : (t.process == x.process) ≡ true = rw found at client in
    eqb-true t.process x.process same

module _ (o : World) (line : ScriptLine) (tid : ℕ) where
  -- what is known of the world then
  record IsStanding (v : World) : Type 0 where
    turning : IsTurning o line v
    processes : HasProcesses v

  -- a marked event goes on
  on_tells : (v : World) (who : ℕ) → IsStanding v → TellsEnd tid v (go_on who v)
  on_tells v who is = on-holds (TellsEnd tid v) v who (λ bound. bound) (λ t x r g. at t x r g (behind_chance v x.process r.handled r.chance))
    where
      number : (t : ThreadRow) (x : WaitRow) (r : Raised) → GoesOn v who t x r → (x.thread == tid) ≡ true → (t.number == tid) ≡ true
      number t x r g own =
          let one : x.thread ≡ who = eqb-true x.thread who (first-passes (waits_as who) v.waits x g.waits) in
          let two : t.number ≡ who = eqb-true t.number who (first-true (t.number == who) t.live (first-passes (is_live_thread who) v.threads t g.lives)) in
          rw (two ∙ sym one) own

      heard : (t : ThreadRow) (x : WaitRow) (r : Raised) → GoesOn v who t x r → (h : Hearing) → (own : Bool) → (x.thread == tid) ≡ own → TellsEnd tid v (goes_on t x r (Heard h) v)
      heard t x r g h own at_own bound = by_own own at_own
        where
          u : World
          u = left_by x.thread v

          plain : every is_plain (send_event t r.code r.handled h u) ≡ true
          plain =
              let turning = is.turning in
              are_plain o line (send_event t r.code r.handled h u) (event_fair o line t r.code r.handled h u (all_filter HasItsCall (λ y. not (waits_as x.thread y)) v.waits turning.calls))

          y : WaitRow
          y = event_wait t r.code r.handled h

          z : World
          z = basic (basic u (DrawsIdentifier t.number)) (Awaits y)

          m : MessageRow
          m = row_of h.queue h.port (event_message (client_of t) t.next_identifier r.code h.chance)

          by_own : (own : Bool) → (x.thread == tid) ≡ own → (has (tells_end tid) (entries_of (goes_on t x r (Heard h) v)) || is_bound tid (world_after v (goes_on t x r (Heard h) v))) ≡ true
          by_own false off = plain_tells tid u (send_event t r.code r.handled h u) plain (other_leaves tid x.thread v off bound)
          by_own true own = plain_tells tid z (enter m z) plain (or_left _ _ (has-push (waits_as tid) u.waits y (number t x r g own)))

      unhandled : (t : ThreadRow) (x : WaitRow) (r : Raised) → GoesOn v who t x r → (own : Bool) → (x.thread == tid) ≡ own → is_bound tid v ≡ true → is_bound tid (basic (left_by x.thread v) (Dooms x.process r.code)) ≡ true
      unhandled t x r g false off bound =
          let u = left_by x.thread v in
          changed_processes tid x.process u (doomed r.code) (λ n p one. and_from _ _ (first-true (is_process n p) (is_some p.doom) one) refl) (other_leaves tid x.thread v off bound)
      unhandled t x r g true own bound =
          let turning = is.turning in
          let ready = turning.ready in
          let safe : IsSafe v = ready.safe in
          let s = safe.sound in
          let its : t.process ≡ x.process = own_process v who t x r g s.waits in
          let passes = first-passes (is_live_thread who) v.threads t g.lives in
          let lives : t.live ≡ true = second-true (t.number == who) t.live passes in
          let process : has (is_process t.process) v.processes ≡ true = standing t.live (has (is_process t.process) v.processes) lives (every-first (has_process v) (is_live_thread who) v.threads t is.processes g.lives) in
          let u = basic (left_by x.thread v) (Dooms x.process r.code) in
          let doomed_now : has_doom u t.process ≡ true = subst (λ n. has (λ (p : ProcessRow). is_process t.process p && is_some p.doom) (change (is_process n) (doomed r.code) v.processes) ≡ true) its (has-turned (is_process t.process) (λ (p : ProcessRow). is_process t.process p && is_some p.doom) (is_process t.process) (doomed r.code) (λ p one. one) (λ p one. and_from _ _ one refl) v.processes process) in
          or_right (has (waits_as tid) u.waits) (has (is_dying u tid) u.threads) (has-found (is_dying u tid) (is_live_thread who) v.threads t g.lives (and_from _ _ (and_from _ _ (number t x r g own) lives) doomed_now))
        where
          standing : (l h : Bool) → l ≡ true → (not l || h) ≡ true → h ≡ true
          standing true h live is = is
          standing false h live is = absurd (cc)

      at : (t : ThreadRow) (x : WaitRow) (r : Raised) → GoesOn v who t x r → (next : Next) → TellsEnd tid v (goes_on t x r next v)
      at t x r g Handled = plain_tells tid v (goes_on t x r Handled v) refl
      at t x r g (Heard h) = heard t x r g h (x.thread == tid) refl
      at t x r g Unhandled = unhandled t x r g (x.thread == tid) refl

  turn_tells : (n : ℕ) (bs : List Basic) → turn (turned o line n) ≡ Some bs → IsStanding (turned o line n) → TellsEnd tid (turned o line n) bs
  turn_tells n bs some is = at v.marks refl some
    where
      v : World
      v = turned o line n

      by_process : (p : Option ProcessRow) → v.marks ≡ [] → least (doomed_processes v) ≡ p → option_map (λ p. end_doomed p v) p ≡ Some bs → TellsEnd tid v bs
      by_process None unmarked none one = absurd (cc)
      by_process (Some p) unmarked found one =
          let same : end_doomed p v ≡ bs = cc in
          subst (TellsEnd tid v) same (plain_tells tid v (end_doomed p v) (are_plain o line (end_doomed p v) (doomed_fair o line n p unmarked found is.turning)))

      at : (ms : List ℕ) → v.marks ≡ ms → turn_by v ms ≡ Some bs → TellsEnd tid v bs
      at [] unmarked one = by_process (least (doomed_processes v)) unmarked refl one
      at (who ∷ later) marked one = let same : go_on who v ≡ bs = cc in subst (TellsEnd tid v) same (on_tells v who is)

  turn_stands : (n : ℕ) (bs : List Basic) → turn (turned o line n) ≡ Some bs → IsStanding (turned o line n) → IsStanding (world_after (turned o line n) bs)
  turn_stands n bs some is = record { turning = turned_after o line n bs some is.turning; processes = at v.marks refl some }
    where
      v : World
      v = turned o line n

      by_process : (p : Option ProcessRow) → least (doomed_processes v) ≡ p → option_map (λ p. end_doomed p v) p ≡ Some bs → HasProcesses (world_after v bs)
      by_process None none one = absurd (cc)
      by_process (Some p) found one =
          let same : end_doomed p v ≡ bs = cc in
          let turning = is.turning in
          subst (λ cs. HasProcesses (world_after v cs)) same (processes_end v p turning.ready is.processes)

      at : (ms : List ℕ) → v.marks ≡ ms → turn_by v ms ≡ Some bs → HasProcesses (world_after v bs)
      at [] unmarked one = by_process (least (doomed_processes v)) refl one
      at (who ∷ later) marked one = let same : go_on who v ≡ bs = cc in subst (λ cs. HasProcesses (world_after v cs)) same (processes_on v who is.processes)

  settle_tells : IsStanding (own_world o line) → TellsEnd tid (own_world o line) (settle (own_world o line))
  settle_tells = settle_holds o line IsStanding (TellsEnd tid) (λ v bound. bound) (tells_both tid) turn_tells turn_stands

-- Lines
-- in a settled world no thread is bound but by its wait
none_dying : (v : World) (tid : ℕ) → IsSettled v → has (is_dying v tid) v.threads ≡ false
none_dying v tid s = at (first (is_dying v tid) v.threads) refl
  where
    doom : (t : ThreadRow) → is_live v t.process ≡ true → (p : Option ProcessRow) → first (λ (p : ProcessRow). is_process t.process p && is_some p.doom) v.processes ≡ p → has_doom v t.process ≡ true → ⊥
    doom t lives None none is = let off = has-none (λ (p : ProcessRow). is_process t.process p && is_some p.doom) v.processes none in absurd (cc)
    doom t lives (Some p) found is =
        let passes = first-passes (λ (p : ProcessRow). is_process t.process p && is_some p.doom) v.processes p found in
        let number : p.number ≡ t.process = eqb-true p.number t.process (first-true (p.number == t.process) (is_some p.doom) passes) in
        let live : is_live v p.number ≡ true = subst (λ n. is_live v n ≡ true) (sym number) lives in
        let off = every-first (λ p. not (is_doomed v p)) (λ (p : ProcessRow). is_process t.process p && is_some p.doom) v.processes p s.doomed found in
        let both : is_doomed v p ≡ true = and_from _ _ (second-true (p.number == t.process) (is_some p.doom) passes) live in
        let never : not true ≡ true = rw both at off in
        absurd (cc)

    at : (o : Option ThreadRow) → first (is_dying v tid) v.threads ≡ o → has (is_dying v tid) v.threads ≡ false
    at None none = has-none (is_dying v tid) v.threads none
    at (Some t) found =
        let passes = first-passes (is_dying v tid) v.threads t found in
        let live : t.live ≡ true = second-true (t.number == tid) t.live (first-true (is_live_thread tid t) (has_doom v t.process) passes) in
        let lives : is_live v t.process ≡ true = has-found (lives_in t.process) (is_dying v tid) v.threads t found (and_from _ _ (same-number t.process) live) in
        absurd (doom t lives (first (λ (p : ProcessRow). is_process t.process p && is_some p.doom) v.processes) refl (second-true (is_live_thread tid t) (has_doom v t.process) passes))

-- rows that go end no wait
abbrev is_freeing : Basic → Bool
is_freeing (Frees o) = true
is_freeing b = false

free_waits : (tid : ℕ) (w : World) (b : Basic) → is_freeing b ≡ true → has (waits_as tid) w.waits ≡ true → has (waits_as tid) (basic w b).waits ≡ true
free_waits tid w (Frees o) is waits = rw (freed_waits w o.kind o.birth) waits
free_waits tid w b is waits = absurd (cc)

swept_waits : (tid : ℕ) (v : World) → has (waits_as tid) v.waits ≡ true → has (waits_as tid) (world_after v (sweep v)).waits ≡ true
swept_waits tid v waits = steps-keep is_freeing (λ u. has (waits_as tid) u.waits ≡ true) (free_waits tid) v (sweep v) (sweep_every is_freeing (λ _. refl) v) waits

bare_tells : (w : World) (line : ScriptLine) (tid : ℕ) → GivesBytes line → IsLawfulWorld w → HaveTheirCalls w → HasProcesses w → TellsEnd tid w (bare_steps line w)
unfolding bare_steps
bare_tells w line tid are t h all =
    let untold = t.single_closings in
    let fair = own_fair w line are (record { sound = t.sound; shut = untold.connects }) h in
    tells_both tid w (own_steps line w) (settle (own_world w line)) (plain_tells tid w (own_steps line w) (are_plain w line _ fair))
    (settle_tells w line tid (record {
      turning = record { ready = lawful-readied w line t; calls = fair_keep w line w (own_steps line w) fair h };
      processes = processes_own w line t.sound untold.connects all;
    }))

pub waits_told : (w : World) (line : ScriptLine) → GivesBytes line → IsLawfulWorld w → HaveTheirCalls w → HasProcesses w → WaitsEndAsTold w line
waits_told w line are t h all tid waits gone =
    let v = world_after w (bare_steps line w) in
    let bound = bare_tells w line tid are t h all (or_left _ _ waits) in
    let dying = none_dying v tid (bare-settled w line (lawful-readied w line t)) in
    rw (step_tells w line) (by_wait (has (tells_end tid) (entries_of (bare_steps line w))) (has (waits_as tid) v.waits) (has (is_dying v tid) v.threads) bound dying (λ on. still (stepped (λ u. has (waits_as tid) u.waits ≡ true) w line (swept_waits tid) on)))
  where
    still : has (waits_as tid) (step w line).world.waits ≡ true → ⊥
    still on = absurd (cc)

    by_wait : (a b c : Bool) → (a || (b || c)) ≡ true → c ≡ false → (b ≡ true → ⊥) → a ≡ true
    by_wait true b c is off never = refl
    by_wait false true c is off never = absurd (never refl)
    by_wait false false c is off never = absurd (cc)

-- so along the lines
pub waits_along : (w : World) (lines : List (Option ScriptLine)) → AllByRecursion SaidBytes lines → HaveTheirCalls w → HasProcesses w → IsLawfulWorld w → Along WaitsEndAsTold w lines
waits_along w [] are h all t = tt
waits_along w (None ∷ later) are h all t = waits_along w later are.1 h all t
waits_along w (Some line ∷ later) are h all t =
    let untold = t.single_closings in
    let right = steps_right w line are.0 t h in
    (waits_told w line are.0 t h all, waits_along (step w line).world later are.1 (steps_keep w line w _ right h) (processes_step w line t.sound untold.connects (lawful-readied w line t) all) (lawful_step w line t))
