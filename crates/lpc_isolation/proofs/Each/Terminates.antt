-- NtTerminateThread and NtTerminateProcess in a view.
use Rattle.lpc_isolation.proofs.Plays.Lines.{seeing, own_given}
use Rattle.std.proofs.Common.{◌≡◌, ℕ, List, [], ◌∷◌, Bool, true, false, not, Some, refl, ap, sym, subst, ◌∙◌, Option}
use Rattle.std.specs.Prelude.{◌==◌, Result, Ok, Err}
use Rattle.std.proofs.lemmas.Bool.{not-false}
use Rattle.lpc_base.specs.declared.status.Status.{Status}
use Rattle.lpc_base.specs.declared.status.TheConstants.{INVALID_CID, SUCCESS}
use Rattle.lpc_model.specs.declared.entry.CallName.{CallName}
use Rattle.lpc_model.specs.declared.entry.CallName.TheVariants.{NtTerminateProcess, NtTerminateThread}
use Rattle.lpc_model.specs.declared.entry.Entry.{Entry}
use Rattle.lpc_model.specs.declared.entry.Entry.TheVariants.{Answer}
use Rattle.lpc_model.specs.declared.line.ProcArg.{ProcArg}
use Rattle.lpc_model.specs.Refusal.{refuse_if}
use Rattle.lpc_model.specs.Then.{◌>>=◌}
use Rattle.lpc_model.specs.World.{Birth, ThreadRow, World, Contents, Impersonation}
use Rattle.lpc_model.specs.Found.{is_live, live_thread, live_threads}
use Rattle.lpc_model.specs.Basics.{Basic, Tells, world_after}
use Rattle.lpc_model.specs.Death.{code_status, end_threads, nt_terminate_process, nt_terminate_thread, terminate_process_steps, terminate_thread_steps}
use Rattle.lpc_model.specs.Targets.{process_target, thread_target}
use Rattle.lpc_model.specs.Tests.{live_test}
use Rattle.lpc_model.specs.Lines.{ScriptCall, terminate_process, terminate_thread}
use Rattle.lpc_model.specs.Circle.{Group, Whose}
use Rattle.lpc_model.proofs.Steps.Ending.{answered_end}
use Rattle.lpc_model.proofs.Calls.Holding.{Holds, bind_holds, holds_ok, not_refused}
use Rattle.lpc_model.proofs.Calls.Outcomes.{AreDoomed, all as all_live, one}
use Rattle.lpc_isolation.proofs.Views.Alone.{HasFineRows}
use Rattle.lpc_isolation.proofs.Gone.Served.{served}
use Rattle.lpc_isolation.proofs.Views.View.{view}
use Rattle.lpc_isolation.proofs.Rows.Fair.{Fair}
use Rattle.lpc_isolation.proofs.Views.Seen.{bind-same}
use Rattle.lpc_isolation.proofs.Views.Callers.{Answered, Led, answered-bind, on_ok}
use Rattle.lpc_isolation.proofs.Each.Sends.{Caller}
use Rattle.lpc_isolation.proofs.Each.Listens.{own_entry}
use Rattle.lpc_isolation.proofs.Each.Refuses.{Refuses, bind, if_refuses}
use Rattle.lpc_isolation.proofs.Each.Instances.{At, Leading, caller, leads_by}
use Rattle.lpc_isolation.proofs.Gone.Thin.{Alive, Closed, is_live-thin, thin, threads-thin}
use Rattle.lpc_isolation.proofs.Each.Closes.{tells-led}
use Rattle.lpc_isolation.proofs.Calls.Doomed.{doomed-part, doomed-remains, doomed-whose, steady}
use Rattle.lpc_isolation.proofs.Endings.Parts.{Part, Remains, Steady}
use Rattle.lpc_isolation.proofs.Endings.Threads.{lives-view, threads-view}
use Rattle.lpc_isolation.proofs.Calls.Aims.{process-thin, process-view, process-whose, refuses-process, refuses-thread, thread-thin, thread-view}

-- A call that ends threads of a process
-- whether its own thread is among them, so that it has no answer; the process, and the threads
pub record Aim : Type 0 where
  pub own : Bool
  pub pid : ℕ
  pub threads : List ThreadRow

pub record EndsThreads (call : ScriptCall) (code : Status) : Type 0 where
  pub name : CallName
  pub aim : World → ThreadRow → Result Aim Status
  pub is : (w : World) (by : ThreadRow) → served w by call ≡ (aim w by >>= (λ a. Ok (answered_end by name a.own a.pid code a.threads w)))
  pub refuses : (w : World) (by : ThreadRow) → Refuses (aim w by)
  pub leads : (m : Group) (known : List ℕ → Birth) (v : World) (by : ThreadRow) (e : Entry) (o : Option Impersonation) (a : Aim) → aim v by ≡ Ok a → leads_by m known v by call e o ≡ answered_end by name a.own a.pid code a.threads v
  -- it reads no bytes
  pub blind : (k : Contents) (v : World) → seeing k v call ≡ v
  -- it aims alike in a view, and where rows have gone
  pub seen : (m : Group) (c : ℕ) (w : World) (by : ThreadRow) → m by.process ≡ true → Fair m c w → aim (view m w) by ≡ aim w by
  pub thinly : (k : Alive) (u : World) (by : ThreadRow) → Closed k u → aim (thin k u) by ≡ aim u by
  -- they are what the call's tests find
  pub doomed : (w : World) (by : ThreadRow) → Holds (λ a. AreDoomed w by a.own a.pid a.threads) (aim w by)

-- What it owes
module _ (call : ScriptCall) (code : Status) (e : EndsThreads call code) where
  abbrev told_first : ThreadRow → Entry
  told_first by = Answer by.number e.name SUCCESS []

  abbrev ends : Aim → World → List Basic
  ends a w = end_threads a.pid code a.threads w

  abbrev ends_told : ThreadRow → Aim → World → List Basic
  ends_told by a w = answered_end by e.name a.own a.pid code a.threads w

  -- whatever holds of the steps, and of them behind an answer, holds of what the call does
  doomed-by : (w : World) (by : ThreadRow) (a : Aim) → e.aim w by ≡ Ok a → AreDoomed w by a.own a.pid a.threads
  doomed-by w by a at = holds_ok (λ (a : Aim). AreDoomed w by a.own a.pid a.threads) (e.aim w by) a (e.doomed w by) at

  part : (m : Group) (c : ℕ) (u w : World) (by : ThreadRow) (a : Aim) → Caller m c u w by → e.aim w by ≡ Ok a → Part m c u a.pid (Steady m c u) (end_threads a.pid code a.threads)
  part m c u w by a k at = doomed-part m c u w by a.own a.pid code a.threads k (doomed-by w by a at)

  group-of : (m : Group) (c : ℕ) (w : World) (by : ThreadRow) (a : Aim) → Fair m c w → e.aim w by ≡ Ok a → m a.pid ≡ m by.process
  group-of m c w by a f at = doomed-whose m c w by a.own a.pid a.threads f (doomed-by w by a at)

  remains : (k : Alive) (u : World) (by : ThreadRow) (a : Aim) → live_thread u by.number ≡ Some by → Closed k u → e.aim u by ≡ Ok a → Remains k (end_threads a.pid code a.threads)
  remains k u by a live c at = doomed-remains k u by a.own a.pid code a.threads live c (doomed-by u by a at)

  pub refuses-ends : (w : World) (by : ThreadRow) → Refuses (served w by call)
  refuses-ends w by = subst Refuses (sym (e.is w by)) (bind (e.aim w by) _ (e.refuses w by) (λ a. tt))

  -- the view changes by the same steps in it
  led-ends : (m : Group) (c : ℕ) (u : World) (d : Whose) (w : World) (by : ThreadRow) (a : Aim) → Caller m c u w by → e.aim w by ≡ Ok a → m by.process ≡ true → Led m c u d w (ends_told by a w) (ends_told by a (view m w))
  led-ends m c u d w by a k at inside = by-own a.own
    where
      p : Part m c u a.pid (Steady m c u) (end_threads a.pid code a.threads)
      p = part m c u w by a k at

      l : Led m c u d w (ends a w) (ends a (view m w))
      l = p.led d w (steady m c u w by k) (group-of m c w by a k.fair at ∙ inside)

      by-own : (own : Bool) → Led m c u d w (answered_end by e.name own a.pid code a.threads w) (answered_end by e.name own a.pid code a.threads (view m w))
      by-own true = l
      by-own false = tells-led m c u d w (told_first by) (ends a w) (ends a (view m w)) l

  pub own-ends : (m : Group) (c : ℕ) (u : World) (d : Whose) (w : World) (by : ThreadRow) (known : List ℕ → Birth) (k : Contents) → At m c w by known → u.used_threads ≡ w.used_threads → by.process ≡ c → Answered (λ bs led. HasFineRows m c (world_after w bs) → Led m c u d w bs led) (served w by call) (served (seeing k (view m w) call) by call)
  own-ends m c u d w by known bytes a0 used mine =
      let k = caller m c w by known u a0 used in
      let inside : m by.process ≡ true = ap m mine ∙ a0.c_in in
      let P : List Basic → List Basic → Type 0 = λ bs led. HasFineRows m c (world_after w bs) → Led m c u d w bs led in
      subst (λ v. Answered P (served w by call) (served v by call)) (sym (e.blind bytes (view m w)))
      (subst (λ r. Answered P r (served (view m w) by call)) (sym (e.is w by))
      (subst (λ r. Answered P (e.aim w by >>= (λ a. Ok (ends_told by a w))) r) (sym (e.is (view m w) by ∙ ap (λ r. r >>= (λ a. Ok (ends_told by a (view m w)))) (e.seen m c w by inside a0.fair)))
      (answered-bind P (e.aim w by) (λ a. Ok (ends_told by a w)) (λ a. Ok (ends_told by a (view m w))) (λ a at fine. led-ends m c u d w by a k at inside))))

  pub leads-ends : (m : Group) (c : ℕ) (u : World) (d : Whose) (w : World) (by : ThreadRow) (known : List ℕ → Birth) → At m c w by known → u.used_threads ≡ w.used_threads → m by.process ≡ true → (by.process == c) ≡ false → Holds (λ bs. HasFineRows m c (world_after w bs) → Leading m c u d w by known call bs) (served w by call)
  leads-ends m c u d w by known a0 used by_in other =
      let k = caller m c w by known u a0 used in
      let P : List Basic → Type 0 = λ bs. HasFineRows m c (world_after w bs) → Leading m c u d w by known call bs in
      subst (Holds P) (sym (e.is w by)) (bind_holds (e.aim w by) _ P (λ a at fine.
      subst (Led m c u d w (ends_told by a w)) (sym (e.leads m known (view m w) by (own_entry (ends_told by a w)) (own_given (ends_told by a w)) a (e.seen m c w by by_in a0.fair ∙ at))) (led-ends m c u d w by a k at by_in)))

  pub alike-ends : (k : Alive) (u : World) (by : ThreadRow) → live_thread u by.number ≡ Some by → Closed k u → served (thin k u) by call ≡ served u by call
  alike-ends k u by live c =
      e.is (thin k u) by ∙ ap (λ r. r >>= (λ a. Ok (ends_told by a (thin k u)))) (e.thinly k u by c)
      ∙ bind-same (e.aim u by) (λ a. Ok (ends_told by a (thin k u))) (λ a. Ok (ends_told by a u)) (λ a at. ap (λ bs. Ok bs) (by-own a at a.own)) ∙ sym (e.is u by)
    where
      by-own : (a : Aim) → e.aim u by ≡ Ok a → (own : Bool) → answered_end by e.name own a.pid code a.threads (thin k u) ≡ answered_end by e.name own a.pid code a.threads u
      by-own a at true = let r = remains k u by a live c at in r.alike u c
      by-own a at false = let r = remains k u by a live c at in ap (λ bs. Tells (told_first by) ∷ bs) (r.alike u c)

-- binds in turn
bind-again : {A B C : Type 0} (r : Result A Status) (f : A → Result B Status) (g : B → Result C Status) → ((r >>= f) >>= g) ≡ (r >>= (λ x. f x >>= g))
bind-again (Ok x) f g = refl
bind-again (Err s) f g = refl

-- NtTerminateThread
abbrev thread_aim : ProcArg → World → ThreadRow → Result Aim Status
thread_aim target w by = thread_target w by target >>= (λ t. refuse_if (not t.live) INVALID_CID >>= (λ _. Ok (record { own = t.number == by.number; pid = t.process; threads = t ∷ [] })))

thread-is : (w : World) (by : ThreadRow) (target : ProcArg) (code : ℕ) → nt_terminate_thread w by target code ≡ (thread_aim target w by >>= (λ a. Ok (answered_end by NtTerminateThread a.own a.pid (code_status code) a.threads w)))
unfolding nt_terminate_thread
thread-is w by target code = sym (bind-again (thread_target w by target) _ _ ∙ bind-same (thread_target w by target) _ _ (λ t at. bind-again (refuse_if (not t.live) INVALID_CID) _ _))

live-of : (t : ThreadRow) (u : Unit {0}) → refuse_if (not t.live) INVALID_CID ≡ Ok u → t.live ≡ true
live-of t u is = not-false t.live (not_refused (not t.live) INVALID_CID u is)

pub thread-ends-it : (target : ProcArg) (code : ℕ) → EndsThreads (terminate_thread target code) (code_status code)
thread-ends-it target code = record {
  name = NtTerminateThread;
  aim = thread_aim target;
  is = λ w by. thread-is w by target code;
  refuses = λ w by. bind (thread_target w by target) _ (refuses-thread w by target) (λ t. bind (refuse_if (not t.live) INVALID_CID) _ (if_refuses (not t.live) INVALID_CID refl) (λ _. tt));
  leads = λ m known v by e o a at. leads (thread_target v by target) v by a at;
  blind = λ k v. refl;
  seen = λ m c w by inside f. ap (λ r. r >>= (λ (t : ThreadRow). refuse_if (not t.live) INVALID_CID >>= (λ _. Ok (record { own = t.number == by.number; pid = t.process; threads = t ∷ [] })))) (thread-view m c w by target inside f);
  thinly = λ k u by c. ap (λ r. r >>= (λ (t : ThreadRow). refuse_if (not t.live) INVALID_CID >>= (λ _. Ok (record { own = t.number == by.number; pid = t.process; threads = t ∷ [] })))) (thread-thin k u by target c);
  doomed = λ w by. bind_holds (thread_target w by target) _ (λ (a : Aim). AreDoomed w by a.own a.pid a.threads) (λ t at. bind_holds (refuse_if (not t.live) INVALID_CID) _ (λ (a : Aim). AreDoomed w by a.own a.pid a.threads) (λ v is. one target t at (live-of t v is)));
}
  where
    aimed : (t : ThreadRow) (v : World) (by : ThreadRow) (e : Bool) (a : Aim) → (refuse_if e INVALID_CID >>= (λ _. Ok (record { own = t.number == by.number; pid = t.process; threads = t ∷ [] }))) ≡ Ok a → terminate_thread_steps by (code_status code) t v ≡ answered_end by NtTerminateThread a.own a.pid (code_status code) a.threads v
    aimed t v by true a at = absurd (cc)
    aimed t v by false a at =
        let b : Aim = record { own = t.number == by.number; pid = t.process; threads = t ∷ [] } in
        let same : b ≡ a = cc in ap (λ (a : Aim). answered_end by NtTerminateThread a.own a.pid (code_status code) a.threads v) same

    leads : (r : Result ThreadRow Status) (v : World) (by : ThreadRow) (a : Aim) → (r >>= (λ (t : ThreadRow). refuse_if (not t.live) INVALID_CID >>= (λ _. Ok (record { own = t.number == by.number; pid = t.process; threads = t ∷ [] })))) ≡ Ok a → on_ok r (λ t. terminate_thread_steps by (code_status code) t v) ≡ answered_end by NtTerminateThread a.own a.pid (code_status code) a.threads v
    leads (Ok t) v by a at = aimed t v by (not t.live) a at
    leads (Err s) v by a at = absurd (cc)

-- NtTerminateProcess
abbrev process_aims : World → ThreadRow → ℕ → Result Aim Status
process_aims w by pid = live_test w pid >>= (λ _. Ok (record { own = pid == by.process; pid = pid; threads = live_threads w pid }))

abbrev process_aim : ProcArg → World → ThreadRow → Result Aim Status
process_aim target w by = process_target w by target >>= process_aims w by

process-is : (w : World) (by : ThreadRow) (target : ProcArg) (code : ℕ) → nt_terminate_process w by target code ≡ (process_aim target w by >>= (λ a. Ok (answered_end by NtTerminateProcess a.own a.pid (code_status code) a.threads w)))
unfolding nt_terminate_process
process-is w by target code = sym (bind-again (process_target w by target) _ _ ∙ bind-same (process_target w by target) _ _ (λ pid at. bind-again (live_test w pid) _ _))

process-seen : (m : Group) (w : World) (by : ThreadRow) (pid : ℕ) → m pid ≡ true → process_aims (view m w) by pid ≡ process_aims w by pid
process-seen m w by pid inside = rw (lives-view m w pid inside, threads-view m w pid inside) refl

process-thinly : (k : Alive) (u : World) (by : ThreadRow) (pid : ℕ) → Closed k u → process_aims (thin k u) by pid ≡ process_aims u by pid
process-thinly k u by pid c = rw (is_live-thin k u pid c, threads-thin k u pid c) refl

pub process-ends-it : (target : ProcArg) (code : ℕ) → EndsThreads (terminate_process target code) (code_status code)
process-ends-it target code = record {
  name = NtTerminateProcess;
  aim = process_aim target;
  is = λ w by. process-is w by target code;
  refuses = λ w by. bind (process_target w by target) _ (refuses-process w by target) (λ pid. bind (live_test w pid) _ (if_refuses (not (is_live w pid)) INVALID_CID refl) (λ _. tt));
  leads = λ m known v by e o a at. leads (process_target v by target) v by a at;
  blind = λ k v. refl;
  seen = λ m c w by inside f. ap (λ r. r >>= process_aims (view m w) by) (process-view m c w by target inside f)
      ∙ bind-same (process_target w by target) (process_aims (view m w) by) (process_aims w by) (λ pid at. process-seen m w by pid (holds_ok (λ pid. m pid ≡ m by.process) (process_target w by target) pid (process-whose m c w by target f) at ∙ inside));
  thinly = λ k u by c. ap (λ r. r >>= process_aims (thin k u) by) (process-thin k u by target c) ∙ bind-same (process_target u by target) (process_aims (thin k u) by) (process_aims u by) (λ pid at. process-thinly k u by pid c);
  doomed = λ w by. bind_holds (process_target w by target) _ (λ (a : Aim). AreDoomed w by a.own a.pid a.threads) (λ pid at. bind_holds (live_test w pid) _ (λ (a : Aim). AreDoomed w by a.own a.pid a.threads) (λ v is. all_live target pid at (not-false (is_live w pid) (not_refused (not (is_live w pid)) INVALID_CID v is))));
}
  where
    aimed : (pid : ℕ) (v : World) (by : ThreadRow) (e : Bool) (a : Aim) → (refuse_if e INVALID_CID >>= (λ _. Ok (record { own = pid == by.process; pid = pid; threads = live_threads v pid }))) ≡ Ok a → terminate_process_steps v by (code_status code) pid v ≡ answered_end by NtTerminateProcess a.own a.pid (code_status code) a.threads v
    aimed pid v by true a at = absurd (cc)
    aimed pid v by false a at =
        let b : Aim = record { own = pid == by.process; pid = pid; threads = live_threads v pid } in
        let same : b ≡ a = cc in ap (λ (a : Aim). answered_end by NtTerminateProcess a.own a.pid (code_status code) a.threads v) same

    leads : (r : Result ℕ Status) (v : World) (by : ThreadRow) (a : Aim) → (r >>= process_aims v by) ≡ Ok a → on_ok r (λ pid. terminate_process_steps v by (code_status code) pid v) ≡ answered_end by NtTerminateProcess a.own a.pid (code_status code) a.threads v
    leads (Ok pid) v by a at = aimed pid v by (not (is_live v pid)) a at
    leads (Err s) v by a at = absurd (cc)
