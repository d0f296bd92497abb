-- What NtTerminateThread and NtTerminateProcess tell is right: connects of other processes end by the ports to which
-- the process alone has handles, where it ends with its last thread.
use Rattle.std.proofs.Common.{Bool, List, [], arith, false, inl, not, refl, subst, sym, true, ℕ, ◌∙◌, ◌∷◌, ◌≡◌}
use Rattle.std.specs.List.{AllByRecursion}
use Rattle.std.specs.Prelude.{Contains, None, Ok, Option, Some, ◌==◌, ◌||◌}
use Rattle.std.proofs.lemmas.Bool.{and_from, eqb-true}
use Rattle.std.proofs.lemmas.Bool.Decides.{nat_tests}
use Rattle.lpc_base.specs.Rows.{every, has, passes, when}
use Rattle.lpc_base.proofs.RowWords.{every-more, first-passes, has_none-more}
use Rattle.lpc_base.proofs.Bools.{first-true, second-true}
use Rattle.lpc_base.specs.declared.birth.Birth.{Birth}
use Rattle.lpc_base.specs.declared.status.Status.{Status}
use Rattle.lpc_base.specs.declared.status.TheConstants.{PORT_CONNECTION_REFUSED}
use Rattle.lpc_model.specs.declared.entry.CallName.{CallName}
use Rattle.lpc_model.specs.declared.entry.CallName.TheVariants.{NtTerminateProcess, NtTerminateThread}
use Rattle.lpc_model.specs.declared.line.ProcArg.{ProcArg}
use Rattle.lpc_model.specs.Basics.{Basic, DropsHandle, LetsGo, basic, in_turn, world_after}
use Rattle.lpc_model.specs.Close.{close_handle, close_port, is_accepted_across, is_last, is_offered_to}
use Rattle.lpc_model.specs.Death.{answer_unless, code_status, die, end_process, end_threads, nt_terminate_process, nt_terminate_thread, post_deaths}
use Rattle.lpc_model.specs.Targets.{process_target, thread_target}
use Rattle.lpc_model.specs.Fields.{info}
use Rattle.lpc_model.specs.Found.{handles_of, is_live, is_live_thread, live_thread, live_threads, lives_in}
use Rattle.lpc_model.specs.Lines.{ScriptLine, run, terminate_process, terminate_thread}
use Rattle.lpc_model.specs.SoundWaits.{HasSoundWaits, is_sound_as, is_sound_wait, waiter_of}
use Rattle.lpc_model.specs.Tests.{is_client, live_test}
use Rattle.lpc_model.specs.World.{HandleRow, ThreadRow, WaitRow, World}
use Rattle.lpc_model.proofs.Steps.Closing.{behind}
use Rattle.lpc_model.proofs.Steps.Ending.{answered_end, behind_dead, behind_told, first-at, rows-left, thread-ends, turn-pass}
use Rattle.lpc_model.proofs.Calls.Holding.{Holds, bind_holds}
use Rattle.lpc_model.proofs.Steps.Rows.{has-found}
use Rattle.lpc_model.proofs.Sound.Terminate.{IsSafe, handle-safe, lets-safe, told-safe}
use Rattle.lpc_model.proofs.Steps.InTurn.{after-append}
use Rattle.lpc_replay.specs.Connects.{IsEndedBy, lives_beside}
use Rattle.lpc_replay.specs.Ends.{IsEndedAlone, IsEndedWithOthers}
use Rattle.lpc_replay.proofs.Fair.{AreFair, HasItsCall, HaveTheirCalls, IsFair}
use Rattle.lpc_replay.proofs.FairClose.{IsKnown, connect_ends, contained, known_call, knows_first, refusal_right}
use Rattle.lpc_replay.proofs.FairClosing.{HasRefusal, KeepKnown, Knows, close-keeps, handles-all, keeps_known, knows-all, port_on}
use Rattle.lpc_replay.proofs.FairDying.{HasEnd, beside_told, deaths_fair, deaths_keep, die_keeps, dies_fair}
use Rattle.lpc_replay.proofs.Holding.{all_append, all_more}
use Rattle.lpc_replay.proofs.OnlyHandles.{HasFewer, IsLone, fewer_dropped, fewer_first, fewer_same, lone, lone_before}

-- Waits of other processes
-- a wait that is known, and is of another process
abbrev IsOfOthers : World → ℕ → WaitRow → Type 0
IsOfOthers w pid x = IsKnown w x × ((x.process == pid) ≡ false)

-- a sound wait is of a process that lives
lives_on : (v : World) (pid : ℕ) → is_live v pid ≡ false → (x : WaitRow) → is_sound_wait v x ≡ true → not (x.process == pid) ≡ true
lives_on v pid gone x is = at (x.process == pid) refl
  where
    of : (o : Option ThreadRow) → live_thread v x.thread ≡ o → passes o (λ t. t.process == x.process) ≡ true → (x.process == pid) ≡ true → is_live v pid ≡ true
    of None none is own = absurd (cc)
    of (Some t) found is own =
        let one : t.process ≡ x.process = eqb-true _ _ is in
        let two : x.process ≡ pid = eqb-true _ _ own in
        let three : t.process ≡ pid = one ∙ two in
        let its : (t.process == pid) ≡ true = rw three (grind (arith, nat_tests)) in
        let lives : t.live ≡ true = second-true (t.number == x.thread) t.live (first-passes (is_live_thread x.thread) v.threads t found) in
        has-found (lives_in pid) (is_live_thread x.thread) v.threads t found (and_from (t.process == pid) t.live its lives)

    at : (own : Bool) → (x.process == pid) ≡ own → not own ≡ true
    at false other = refl
    at true own = let alive = of (live_thread v x.thread) refl (first-true (is_client v (waiter_of x)) (is_sound_as v x x.kind) is) own in absurd (cc)

of_others : (w : World) (pid : ℕ) (xs : List WaitRow) → every (λ x. not (x.process == pid)) xs ≡ true → AllByRecursion (IsKnown w) xs → AllByRecursion (IsOfOthers w pid) xs
of_others w pid [] all known = tt
of_others w pid (x ∷ xs) all known =
    let here : (x.process == pid) ≡ false = grind arith in
    let later : every (λ (x : WaitRow). not (x.process == pid)) xs ≡ true = grind arith in
    ((known.0, here), of_others w pid xs later known.1)

knows_others : (w v : World) (pid : ℕ) → HasSoundWaits v → is_live v pid ≡ false → Knows (IsKnown w) w v → Knows (IsOfOthers w pid) w v
knows_others w v pid sound gone k = record { waits = of_others w pid v.waits (every-more (is_sound_wait v) _ (lives_on v pid gone) v.waits sound) k.waits; pairs = k.pairs }

-- Handles that are closed in turn
module _ (o : World) (line : ScriptLine) (w : World) (pid : ℕ)
    (answers : (b : Birth) (x : WaitRow) → IsLone w pid b → IsOfOthers w pid x → (is_offered_to b x || is_accepted_across b w x) ≡ true → HasRefusal o line x) where
  other_call : (x : WaitRow) → IsOfOthers w pid x → HasItsCall x
  other_call x k = known_call w x k.0

  abbrev closes : HandleRow → World → List Basic
  closes r v = when (is_last r v) (close_port r.object.birth v)

  closes_keep : (r : HandleRow) (v : World) → KeepKnown (closes r v)
  closes_keep r v = at (is_last r v)
    where
      at : (last : Bool) → KeepKnown (when last (close_port r.object.birth v))
      at true = close-keeps r.object.birth v
      at false = refl

  closes_fair : (r : HandleRow) (rows : List HandleRow) (v : World) → handles_of v pid ≡ r ∷ rows → HasFewer w v pid → Knows (IsOfOthers w pid) w v → AreFair o line (closes r v)
  closes_fair r rows v same fewer k = at (is_last r v) refl
    where
      at : (last : Bool) → is_last r v ≡ last → AreFair o line (when last (close_port r.object.birth v))
      at false off = tt
      at true last =
          let b = r.object.birth in
          let only = lone_before w v pid b fewer (lone v pid r rows same last) in
          port_on o line w (IsOfOthers w pid) other_call b
          (λ x q is. answers b x only q (grind (arith, is)))
          (λ x q is. answers b x only q (grind (arith, is))) v k

  handles_fair : (rows : List HandleRow) (v : World) → handles_of v pid ≡ rows → IsSafe v → HasFewer w v pid → Knows (IsOfOthers w pid) w v → AreFair o line (in_turn (close_handle pid) rows v)
  handles_fair [] v same safe fewer k = tt
  handles_fair (r ∷ rows) v same safe fewer k =
      let u = world_after v (closes r v) in
      let drop = DropsHandle pid r.value ∷ [] in
      let is : behind (close_handle pid r) v ≡ basic u (DropsHandle pid r.value) = after-append v (closes r v) drop in
      let known = knows-all (IsOfOthers w pid) w v (closes r v) (closes_keep r v) k in
      all_append (IsFair o line) (close_handle pid r v) (in_turn (close_handle pid) rows (behind (close_handle pid r) v))
      (all_append (IsFair o line) (closes r v) drop (closes_fair r rows v same fewer k) (tt, tt))
      (handles_fair rows (behind (close_handle pid r) v) (rows-left v pid r rows same safe.sound) (handle-safe v pid r (first-at v pid r rows same) safe)
      (subst (λ v. HasFewer w v pid) (sym is) (fewer_dropped w u pid r.value (fewer_same w v u pid (handles-all v (closes r v) (closes_keep r v)) fewer)))
      (subst (Knows (IsOfOthers w pid) w) (sym is) (record { waits = known.waits; pairs = known.pairs })))

-- All parts of an end
module _ (o : World) (line : ScriptLine) (w : World) (pid : ℕ) (code : Status) (ts : List ThreadRow) (ends : AllByRecursion (HasEnd o line code) ts) (safe : IsSafe w) (h : HaveTheirCalls w)
    (answers : is_live (behind_told code ts w) pid ≡ false → (b : Birth) (x : WaitRow) → IsLone w pid b → IsOfOthers w pid x → (is_offered_to b x || is_accepted_across b w x) ≡ true → HasRefusal o line x) where
  dying_keeps : KeepKnown (in_turn (die code) ts w)
  dying_keeps = turn-pass keeps_known (die code) (λ t v. die_keeps code t v) ts w

  telling_keeps : KeepKnown (in_turn post_deaths ts (behind_dead code ts w))
  telling_keeps = turn-pass keeps_known post_deaths deaths_keep ts (behind_dead code ts w)

  dead_known : Knows (IsKnown w) w (behind_dead code ts w)
  dead_known = knows-all (IsKnown w) w w (in_turn (die code) ts w) dying_keeps (knows_first w h)

  told_known : Knows (IsKnown w) w (behind_told code ts w)
  told_known = knows-all (IsKnown w) w (behind_dead code ts w) (in_turn post_deaths ts (behind_dead code ts w)) telling_keeps dead_known

  same_handles : (behind_told code ts w).handles ≡ w.handles
  same_handles = handles-all (behind_dead code ts w) (in_turn post_deaths ts (behind_dead code ts w)) telling_keeps ∙ handles-all w (in_turn (die code) ts w) dying_keeps

  pub end_fair : AreFair o line (end_threads pid code ts w)
  unfolding end_threads
  end_fair =
      all_append (IsFair o line) (in_turn (die code) ts w) _ (dies_fair o line w (IsKnown w) (known_call w) code ts w ends safe (knows_first w h))
      (all_append (IsFair o line) (in_turn post_deaths ts (behind_dead code ts w)) _ (deaths_fair o line w (IsKnown w) (known_call w) ts (behind_dead code ts w) dead_known)
      (at (is_live (behind_told code ts w) pid) refl))
    where
      at : (lives : Bool) → is_live (behind_told code ts w) pid ≡ lives → AreFair o line (when (not lives) (end_process pid (behind_told code ts w)))
      at true lives = tt
      at false gone =
          let two = behind_told code ts w in
          let three = basic two (LetsGo pid) in
          let end = lets-safe two pid (told-safe code ts w safe) in
          let s = end.sound in
          let known : Knows (IsKnown w) w three = record { waits = told_known.waits; pairs = told_known.pairs } in (
            tt,
            all_append (IsFair o line) (in_turn (close_handle pid) (handles_of three pid) three) _
                (handles_fair o line w pid (answers gone) (handles_of three pid) three refl end (fewer_first w three pid same_handles) (knows_others w three pid s.waits gone known)) (tt, tt),
          )

-- The calls
answered_fair : (w : World) (line : ScriptLine) (by : ThreadRow) (call : CallName) (own : Bool) (pid : ℕ) (code : Status) (ts : List ThreadRow) → AreFair w line (answer_unless own by call) → AreFair w line (end_threads pid code ts w) → AreFair w line (answered_end by call own pid code ts w)
answered_fair w line by call true pid code ts one two = two
answered_fair w line by call false pid code ts one two = (one.0, two)

unless_thread : (w : World) (line : ScriptLine) (by : ThreadRow) (own : Bool) → AreFair w line (answer_unless own by NtTerminateThread)
unless_thread w line by true = tt
unless_thread w line by false = ((tt, tt), tt)

unless_process : (w : World) (line : ScriptLine) (by : ThreadRow) (own : Bool) → AreFair w line (answer_unless own by NtTerminateProcess)
unless_process w line by true = tt
unless_process w line by false = ((tt, tt), tt)

pub terminate_thread_fair : (w : World) (tid : ℕ) (by : ThreadRow) (target : ProcArg) (code : ℕ) → live_thread w tid ≡ Some by → IsSafe w → HaveTheirCalls w → Holds (AreFair w (run tid (terminate_thread target code))) (nt_terminate_thread w by target code)
terminate_thread_fair w tid by target code live safe h =
    let line = run tid (terminate_thread target code) in
    thread-ends (AreFair w line) w by target code (λ t own at lives.
    answered_fair w line by NtTerminateThread own t.process (code_status code) (t ∷ []) (unless_thread w line by own)
    (end_fair w line w t.process (code_status code) (t ∷ []) (inl (alone t at lives), tt) safe h (λ gone b x only q is.
    let ended : IsEndedBy w tid (terminate_thread target code) x.thread PORT_CONNECTION_REFUSED (info [] ∷ []) = record {
      caller = by;
      process = t.process;
      port = b;
      wait = x;
      calls = live;
      ends_process = record { thread = t; names = at; its_process = refl; last = last t gone };
      opens = only.opens;
      alone = only.alone;
      waits = q.0.1;
      ends = is;
      its_wait = refl;
      other = q.1;
      refuses = refl;
      shows = refl;
    } in
    refusal_right w line x (connect_ends w b x is) q.0.0 (inl ended))))
  where
    alone : (t : ThreadRow) → thread_target w by target ≡ Ok t → t.live ≡ true → IsEndedAlone w tid target code t.number (code_status code)
    alone t at lives = record { caller = by; thread = t; calls = live; names = at; lives = lives; its_number = refl; its_code = refl }

    last : (t : ThreadRow) → is_live (behind_told (code_status code) (t ∷ []) w) t.process ≡ false → has (lives_beside t) w.threads ≡ false
    last t gone = sym (beside_told t (code_status code) w) ∙ has_none-more (lives_in t.process) (lives_beside t) (λ u off. grind (arith, off)) (behind_told (code_status code) (t ∷ []) w).threads gone

pub terminate_process_fair : (w : World) (tid : ℕ) (by : ThreadRow) (target : ProcArg) (code : ℕ) → live_thread w tid ≡ Some by → IsSafe w → HaveTheirCalls w → Holds (AreFair w (run tid (terminate_process target code))) (nt_terminate_process w by target code)
unfolding nt_terminate_process
terminate_process_fair w tid by target code live safe h =
    let line = run tid (terminate_process target code) in
    bind_holds (process_target w by target) _ (AreFair w line) (λ pid at.
    bind_holds (live_test w pid) _ (AreFair w line) (λ _ _.
    answered_fair w line by NtTerminateProcess (pid == by.process) pid (code_status code) (live_threads w pid) (unless_process w line by (pid == by.process))
    (end_fair w line w pid (code_status code) (live_threads w pid) (together pid at) safe h (λ gone b x only q is.
    let ended : IsEndedBy w tid (terminate_process target code) x.thread PORT_CONNECTION_REFUSED (info [] ∷ []) = record {
      caller = by;
      process = pid;
      port = b;
      wait = x;
      calls = live;
      ends_process = at;
      opens = only.opens;
      alone = only.alone;
      waits = q.0.1;
      ends = is;
      its_wait = refl;
      other = q.1;
      refuses = refl;
      shows = refl;
    } in
    refusal_right w line x (connect_ends w b x is) q.0.0 (inl ended)))))
  where
    with_others : (pid : ℕ) → process_target w by target ≡ Ok pid → (t : ThreadRow) → Contains (live_threads w pid) t → IsEndedWithOthers w tid target code t.number (code_status code)
    with_others pid at t lives = record { caller = by; process = pid; thread = t; calls = live; names = at; lives = lives; its_number = refl; its_code = refl }

    together : (pid : ℕ) → process_target w by target ≡ Ok pid → AllByRecursion (HasEnd w (run tid (terminate_process target code)) (code_status code)) (live_threads w pid)
    together pid at = all_more (Contains (live_threads w pid)) (HasEnd w (run tid (terminate_process target code)) (code_status code)) (λ t lives. inl (with_others pid at t lives)) (live_threads w pid) (contained (live_threads w pid))
