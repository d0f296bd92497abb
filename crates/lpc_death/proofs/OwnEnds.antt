-- What the calls do that end a thread or a process.
use Rattle.std.proofs.Common.{◌≡◌, ◌∙◌, ℕ, ◌+◌, List, [], ◌∷◌, ◌++◌, Bool, true, false, not, Option, Some, None, refl, ap, subst, sym}
use Rattle.std.specs.Prelude.{Err, Ok, Result, ◌==◌}
use Rattle.std.proofs.lemmas.Bool.{eqb-true}
use Rattle.lpc_base.specs.declared.status.Status.{Status}
use Rattle.lpc_base.proofs.RowWords.{first-passes}
use Rattle.lpc_base.proofs.Bools.{first-true, second-true}
use Rattle.lpc_model.specs.Basics.{Steps, Tells, doing, outcome_of, ◌▹◌}
use Rattle.lpc_model.specs.declared.entry.Outcome.TheVariants as outcome
use Rattle.lpc_model.specs.Death.{answer_unless, code_status, dying, end_threads, nt_terminate_process, nt_terminate_thread, terminate_process_steps, terminate_thread_steps}
use Rattle.lpc_model.specs.Targets.{process_target, thread_target}
use Rattle.lpc_model.specs.Refusal.{refuse_if}
use Rattle.lpc_model.specs.Then.{◌>>=◌}
use Rattle.lpc_model.specs.declared.line.ProcArg.{ProcArg}
use Rattle.lpc_base.specs.declared.status.TheConstants.{INVALID_CID, SUCCESS}
use Rattle.lpc_model.specs.Found.{is_live, is_live_thread, live_thread, live_threads}
use Rattle.lpc_model.specs.Lines.{ScriptCall, terminate_process, terminate_thread}
use Rattle.lpc_model.specs.Listed.{Listed}
use Rattle.lpc_model.specs.Machine.{call_steps, settled}
use Rattle.lpc_model.specs.Tests.{live_test}
use Rattle.lpc_model.specs.World.{ThreadRow, World}
use Rattle.lpc_model.specs.declared.entry.CallName.{CallName}
use Rattle.lpc_model.specs.declared.entry.CallName.TheVariants.{NtTerminateProcess, NtTerminateThread}
use Rattle.lpc_model.specs.declared.entry.Entry.TheVariants.{Answer}
use Rattle.lpc_model.specs.declared.entry.Outcome.{Outcome}
use Rattle.lpc_model.specs.declared.line.ProcArg.TheVariants.{Current}
use Rattle.lpc_model.proofs.Steps.Closing.{behind}
use Rattle.lpc_model.proofs.Steps.Ending.{behind_dead}
use Rattle.lpc_model.proofs.Calls.Usable.{live-number}
use Rattle.lpc_rows.specs.Called.{Served, called}
use Rattle.lpc_rows.specs.Does.{Took}
use Rattle.lpc_rows.specs.Kept.{Kept}
use Rattle.lpc_rows.specs.Ready.{caller, is_ready, thread_in}
use Rattle.lpc_rows.proofs.Finds.{not_ready}
use Rattle.lpc_death.specs.Ends.{CanEnd, ended_outcome, living_process, living_thread, told_unless, telling_ends}
use Rattle.lpc_steps.proofs.Composed.{took-then}
use Rattle.lpc_death.proofs.CanEnd.{one-dead}
use Rattle.lpc_death.proofs.Mute.{ends-gone}
use Rattle.lpc_death.proofs.Untelling.{one-ends}

-- The caller
pub caller-found : (w : World) (tid : ℕ) → is_ready w tid ≡ true → live_thread w tid ≡ Some (caller w tid)
unfolding caller
caller-found w tid ready = at (live_thread w tid) refl
  where
    at : (o : Option ThreadRow) → live_thread w tid ≡ o → o ≡ Some (thread_in o)
    at None none = absurd (not_ready w tid ready none)
    at (Some t) found = refl

-- lives, and has its number
record IsOwn (w : World) (tid : ℕ) (t : ThreadRow) : Type 0 where
  number : t.number ≡ tid
  live : t.live ≡ true
  found : live_thread w t.number ≡ Some t

own : (w : World) (tid : ℕ) → is_ready w tid ≡ true → IsOwn w tid (caller w tid)
own w tid ready =
    let t = caller w tid in
    let here = caller-found w tid ready in
    let passes = first-passes (is_live_thread tid) w.threads t here in
    let number = eqb-true t.number tid (first-true (t.number == tid) t.live passes) in
    record {
      number = number;
      live = second-true (t.number == tid) t.live passes;
      found = subst (λ n. live_thread w n ≡ Some t) (sym number) here;
    }

-- one thread ends in the parts in which the service does it
pub thread-ends-by : (w : World) (tid : ℕ) (code : Status) (t : ThreadRow) → CanEnd w → live_thread w tid ≡ Some t → (dying code tid ▹ telling_ends t.process) w ≡ end_threads t.process code (t ∷ []) w
thread-ends-by w tid code t can found =
    let number = live-number w tid t found in
    subst (λ n. (dying code n ▹ telling_ends t.process) w ≡ end_threads t.process code (t ∷ []) w) number
    (one-ends code t w can.threads can.registrations (subst (λ n. live_thread w n ≡ Some t) (sym number) found))

-- what holds behind its death
pub thread-dead : (P : World → Type 0) (w : World) (tid : ℕ) (code : Status) (t : ThreadRow) → live_thread w tid ≡ Some t → P (behind_dead code (t ∷ []) w) → P (behind (dying code tid) w)
thread-dead P w tid code t found is = subst (λ n. P (behind (dying code n) w)) (live-number w tid t found) (one-dead P code t w is)

-- Steps that are taken once the call is counted
pub took-counted : (f : Steps) (old mid new : Kept) (before after : Listed) → mid.rows ≡ old.rows → mid.loose ≡ old.loose → Took (f mid.rows) mid new before after → Took (f old.rows) old new before after
took-counted f old mid new before after rows loose took = rw (rows, loose) at took

-- the caller is what it names by itself
pub own-living : (w : World) (tid : ℕ) → is_ready w tid ≡ true → living_thread w (caller w tid) Current ≡ Ok (caller w tid)
own-living w tid ready = let its = own w tid ready in rw its.live refl

-- The calls
-- an answer, and then the threads end
pub outcome-ends : (own : Bool) (by : ThreadRow) (call : CallName) (pid : ℕ) (code : Status) (ts : List ThreadRow) (w : World) → ended_outcome own ≡ outcome_of ((doing (answer_unless own by call) ▹ end_threads pid code ts) w)
outcome-ends true by call pid code ts w = ends-gone pid code ts w
outcome-ends false by call pid code ts w = refl

pub answered-took : (own : Bool) (by : ThreadRow) (call : CallName) (f : Steps) (old new : Kept) (before between after : Listed) → between.list ≡ before.list ++ told_unless own by.number call → Took (f old.rows) old new between after
    → Took ((doing (answer_unless own by call) ▹ f) old.rows) old new before after
answered-took true by call f old new before between after list took = took-then (doing []) f old old new before between after (rw list refl) took
answered-took false by call f old new before between after list took = took-then (doing (Tells (Answer by.number call SUCCESS []) ∷ [])) f old old new before between after (rw list refl) took

thread-steps : (w : World) (by t : ThreadRow) (target : ProcArg) (code : ℕ) → living_thread w by target ≡ Ok t → call_steps by (terminate_thread target code) w ≡ (doing (answer_unless (t.number == by.number) by NtTerminateThread) ▹ end_threads t.process (code_status code) (t ∷ [])) w
unfolding nt_terminate_thread
thread-steps w by t target code is = at (thread_target w by target) is
  where
    at : (r : Result ThreadRow Status) → (r >>= (λ t. refuse_if (not t.live) INVALID_CID >>= (λ (u : Unit {0}). Ok t))) ≡ Ok t
        → settled by NtTerminateThread (r >>= (λ t. refuse_if (not t.live) INVALID_CID >>= (λ (u : Unit {0}). Ok (terminate_thread_steps by (code_status code) t w)))) ≡ (doing (answer_unless (t.number == by.number) by NtTerminateThread) ▹ end_threads t.process (code_status code) (t ∷ [])) w
    at (Err s) is = absurd (cc)
    at (Ok u) is = live u.live refl is
      where
        live : (l : Bool) → u.live ≡ l → (refuse_if (not l) INVALID_CID >>= (λ (v : Unit {0}). Ok u)) ≡ Ok t
            → settled by NtTerminateThread (refuse_if (not l) INVALID_CID >>= (λ (v : Unit {0}). Ok (terminate_thread_steps by (code_status code) u w))) ≡ (doing (answer_unless (t.number == by.number) by NtTerminateThread) ▹ end_threads t.process (code_status code) (t ∷ [])) w
        live true lives is = let same : u ≡ t = cc in ap (λ x. terminate_thread_steps by (code_status code) x w) same
        live false lives is = absurd (cc)

pub served-thread : (tid code : ℕ) (target : ProcArg) (t : ThreadRow) (own : Bool) (result : Outcome) (old mid new : Kept) (before between after : Listed) → living_thread old.rows (caller old.rows tid) target ≡ Ok t
    → (let by = caller old.rows tid in own ≡ (t.number == by.number)) → mid.rows ≡ old.rows → mid.loose ≡ old.loose → (let by = caller old.rows tid in between.list ≡ before.list ++ told_unless own by.number NtTerminateThread)
    → Took (end_threads t.process (code_status code) (t ∷ []) mid.rows) mid new between after → result ≡ ended_outcome own → new.calls ≡ old.calls + 1 → Served tid (terminate_thread target code) result old new before after
served-thread tid code target t own result old mid new before between after found own_is rows loose list took ends calls =
    let by = caller old.rows tid in
    let f : Steps = end_threads t.process (code_status code) (t ∷ []) in
    let steps = thread-steps old.rows by t target code found in
    let whole : Steps = doing (answer_unless own by NtTerminateThread) ▹ f in
    let is : whole old.rows ≡ called old.rows tid (terminate_thread target code) = ap (λ o. (doing (answer_unless o by NtTerminateThread) ▹ f) old.rows) own_is ∙ sym steps in
    record {
      takes = subst (λ bs. Took bs old new before after) is (answered-took own by NtTerminateThread f old new before between after list (took-counted f old mid new between after rows loose took));
      outcome = ends ∙ (outcome-ends own by NtTerminateThread t.process (code_status code) (t ∷ []) old.rows ∙ ap outcome_of is);
      calls = calls;
    }

thread-refused : (w : World) (by : ThreadRow) (target : ProcArg) (code : ℕ) (s : Status) → living_thread w by target ≡ Err s → call_steps by (terminate_thread target code) w ≡ Tells (Answer by.number NtTerminateThread s []) ∷ []
unfolding nt_terminate_thread
thread-refused w by target code s is = at (thread_target w by target) is
  where
    at : (r : Result ThreadRow Status) → (r >>= (λ t. refuse_if (not t.live) INVALID_CID >>= (λ (u : Unit {0}). Ok t))) ≡ Err s
        → settled by NtTerminateThread (r >>= (λ t. refuse_if (not t.live) INVALID_CID >>= (λ (u : Unit {0}). Ok (terminate_thread_steps by (code_status code) t w)))) ≡ Tells (Answer by.number NtTerminateThread s []) ∷ []
    at (Err e) is = let same : e ≡ s = cc in ap (λ x. Tells (Answer by.number NtTerminateThread x []) ∷ []) same
    at (Ok u) is = live u.live refl is
      where
        live : (l : Bool) → u.live ≡ l → (refuse_if (not l) INVALID_CID >>= (λ (v : Unit {0}). Ok u)) ≡ Err s
            → settled by NtTerminateThread (refuse_if (not l) INVALID_CID >>= (λ (v : Unit {0}). Ok (terminate_thread_steps by (code_status code) u w))) ≡ Tells (Answer by.number NtTerminateThread s []) ∷ []
        live true lives is = absurd (cc)
        live false lives is = let same : INVALID_CID ≡ s = cc in ap (λ x. Tells (Answer by.number NtTerminateThread x []) ∷ []) same

-- so with a process
process-steps : (w : World) (by : ThreadRow) (pid : ℕ) (target : ProcArg) (code : ℕ) → living_process w by target ≡ Ok pid → call_steps by (terminate_process target code) w ≡ (doing (answer_unless (pid == by.process) by NtTerminateProcess) ▹ end_threads pid (code_status code) (live_threads w pid)) w
unfolding nt_terminate_process
process-steps w by pid target code is = at (process_target w by target) is
  where
    at : (r : Result ℕ Status) → (r >>= (λ p. live_test w p >>= (λ (u : Unit {0}). Ok p))) ≡ Ok pid
        → settled by NtTerminateProcess (r >>= (λ p. live_test w p >>= (λ (u : Unit {0}). Ok (terminate_process_steps w by (code_status code) p w)))) ≡ (doing (answer_unless (pid == by.process) by NtTerminateProcess) ▹ end_threads pid (code_status code) (live_threads w pid)) w
    at (Err s) is = absurd (cc)
    at (Ok p) is = live (is_live w p) is
      where
        live : (l : Bool) → (refuse_if (not l) INVALID_CID >>= (λ (v : Unit {0}). Ok p)) ≡ Ok pid
            → settled by NtTerminateProcess (refuse_if (not l) INVALID_CID >>= (λ (v : Unit {0}). Ok (terminate_process_steps w by (code_status code) p w))) ≡ (doing (answer_unless (pid == by.process) by NtTerminateProcess) ▹ end_threads pid (code_status code) (live_threads w pid)) w
        live true is = let same : p ≡ pid = cc in ap (λ x. terminate_process_steps w by (code_status code) x w) same
        live false is = absurd (cc)

process-refused : (w : World) (by : ThreadRow) (target : ProcArg) (code : ℕ) (s : Status) → living_process w by target ≡ Err s → call_steps by (terminate_process target code) w ≡ Tells (Answer by.number NtTerminateProcess s []) ∷ []
unfolding nt_terminate_process
process-refused w by target code s is = at (process_target w by target) is
  where
    at : (r : Result ℕ Status) → (r >>= (λ p. live_test w p >>= (λ (u : Unit {0}). Ok p))) ≡ Err s
        → settled by NtTerminateProcess (r >>= (λ p. live_test w p >>= (λ (u : Unit {0}). Ok (terminate_process_steps w by (code_status code) p w)))) ≡ Tells (Answer by.number NtTerminateProcess s []) ∷ []
    at (Err e) is = let same : e ≡ s = cc in ap (λ x. Tells (Answer by.number NtTerminateProcess x []) ∷ []) same
    at (Ok p) is = live (is_live w p) is
      where
        live : (l : Bool) → (refuse_if (not l) INVALID_CID >>= (λ (v : Unit {0}). Ok p)) ≡ Err s
            → settled by NtTerminateProcess (refuse_if (not l) INVALID_CID >>= (λ (v : Unit {0}). Ok (terminate_process_steps w by (code_status code) p w))) ≡ Tells (Answer by.number NtTerminateProcess s []) ∷ []
        live true is = absurd (cc)
        live false is = let same : INVALID_CID ≡ s = cc in ap (λ x. Tells (Answer by.number NtTerminateProcess x []) ∷ []) same

pub served-process : (tid code : ℕ) (target : ProcArg) (pid : ℕ) (own : Bool) (result : Outcome) (old mid new : Kept) (before between after : Listed) → living_process old.rows (caller old.rows tid) target ≡ Ok pid
    → (let by = caller old.rows tid in own ≡ (pid == by.process)) → mid.rows ≡ old.rows → mid.loose ≡ old.loose → (let by = caller old.rows tid in between.list ≡ before.list ++ told_unless own by.number NtTerminateProcess)
    → Took (end_threads pid (code_status code) (live_threads mid.rows pid) mid.rows) mid new between after → result ≡ ended_outcome own → new.calls ≡ old.calls + 1 → Served tid (terminate_process target code) result old new before after
served-process tid code target pid own result old mid new before between after found own_is rows loose list took ends calls =
    let by = caller old.rows tid in
    let f : Steps = λ w. end_threads pid (code_status code) (live_threads w pid) w in
    let steps = process-steps old.rows by pid target code found in
    let whole : Steps = doing (answer_unless own by NtTerminateProcess) ▹ end_threads pid (code_status code) (live_threads old.rows pid) in
    let is : whole old.rows ≡ called old.rows tid (terminate_process target code) = ap (λ o. (doing (answer_unless o by NtTerminateProcess) ▹ end_threads pid (code_status code) (live_threads old.rows pid)) old.rows) own_is ∙ sym steps in
    record {
      takes = subst (λ bs. Took bs old new before after) is (answered-took own by NtTerminateProcess (end_threads pid (code_status code) (live_threads old.rows pid)) old new before between after list (took-counted f old mid new between after rows loose took));
      outcome = ends ∙ (outcome-ends own by NtTerminateProcess pid (code_status code) (live_threads old.rows pid) old.rows ∙ ap outcome_of is);
      calls = calls;
    }

-- a call that ends nothing
served-refusal : (tid n : ℕ) (call : ScriptCall) (name : CallName) (s : Status) (result : Outcome) (old new : Kept) (before after : Listed) → called old.rows tid call ≡ Tells (Answer n name s []) ∷ []
    → new.rows ≡ old.rows → new.loose ≡ old.loose → new.calls ≡ old.calls + 1 → after.list ≡ before.list ++ Answer n name s [] ∷ [] → result ≡ outcome.Answered s → Served tid call result old new before after
served-refusal tid n call name s result old new before after steps rows loose calls list result_is = record {
  takes = rw (steps, rows, loose, list) refl;
  outcome = rw (steps, result_is) refl;
  calls = calls;
}

pub served-thread-refused : (tid code : ℕ) (target : ProcArg) (s : Status) (result : Outcome) (old new : Kept) (before after : Listed) → living_thread old.rows (caller old.rows tid) target ≡ Err s → new.rows ≡ old.rows → new.loose ≡ old.loose → new.calls ≡ old.calls + 1
    → (let by = caller old.rows tid in after.list ≡ before.list ++ Answer by.number NtTerminateThread s [] ∷ []) → result ≡ outcome.Answered s → Served tid (terminate_thread target code) result old new before after
served-thread-refused tid code target s result old new before after refused rows loose calls list result_is =
    let by = caller old.rows tid in served-refusal tid by.number (terminate_thread target code) NtTerminateThread s result old new before after (thread-refused old.rows by target code s refused) rows loose calls list result_is

pub served-process-refused : (tid code : ℕ) (target : ProcArg) (s : Status) (result : Outcome) (old new : Kept) (before after : Listed) → living_process old.rows (caller old.rows tid) target ≡ Err s → new.rows ≡ old.rows → new.loose ≡ old.loose → new.calls ≡ old.calls + 1
    → (let by = caller old.rows tid in after.list ≡ before.list ++ Answer by.number NtTerminateProcess s [] ∷ []) → result ≡ outcome.Answered s → Served tid (terminate_process target code) result old new before after
served-process-refused tid code target s result old new before after refused rows loose calls list result_is =
    let by = caller old.rows tid in served-refusal tid by.number (terminate_process target code) NtTerminateProcess s result old new before after (process-refused old.rows by target code s refused) rows loose calls list result_is
