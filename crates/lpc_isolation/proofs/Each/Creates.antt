-- NtCreateProcess and NtCreateThread in a view.
use Rattle.lpc_isolation.proofs.Gone.Restful.{made-settled}
use Rattle.std.proofs.Common.{◌≡◌, ℕ, List, [], ◌∷◌, ◌++◌, Bool, true, false, cond, not, Option, Some, None, refl, ap, sym, subst, ◌∙◌, arith}
use Rattle.std.specs.Prelude.{◌&&◌, ◌||◌, ◌==◌, nat_le, option_map, if◌then◌else◌, is_none, is_some, Ok}
use Rattle.std.proofs.lemmas.Bool.{and_from, eqb-true}
use Rattle.lpc_base.specs.Rows.{count, every, first, has, passes, which}
use Rattle.lpc_base.proofs.RowWords.{every-push, every-true, first-passes}
use Rattle.lpc_base.proofs.RowWords.{first-kept as pushed-kept}
use Rattle.lpc_base.proofs.RowMaps.{every-first}
use Rattle.lpc_base.proofs.Bools.{first-true, or-last, same-number, second-true}
use Rattle.lpc_base.specs.declared.limits.TheConstants.{CHILD_LIMIT, THREAD_LIMIT}
use Rattle.lpc_base.specs.declared.status.TheConstants.{INVALID_CID, OBJECT_NAME_COLLISION, QUOTA_EXCEEDED, SUCCESS}
use Rattle.lpc_model.specs.declared.entry.CallName.TheVariants.{NtCreateProcess, NtCreateThread}
use Rattle.lpc_model.specs.declared.entry.Entry.TheVariants.{Answer}
use Rattle.lpc_model.specs.declared.line.ProcArg.{ProcArg}
use Rattle.lpc_model.specs.Fields.{first_thread, h}
use Rattle.lpc_model.specs.Words.{is_id}
use Rattle.lpc_model.specs.World.{Birth, ProcessRow, ThreadRow, UsedThread, World, Token}
use Rattle.lpc_model.specs.Found.{free_handle, is_live, is_used_thread, live_count, lives_in, process_name, thread_name, was_process, was_thread, token_of, live_thread}
use Rattle.lpc_model.specs.Basics.{AddsProcess, AddsThread, Basic, DrawsOrdinal, Tells, basic, used, world_after}
use Rattle.lpc_model.specs.Creation.{child_count_test, create_process_steps, gives_life, is_live_child, live_children, making_process, making_thread, new_process, new_thread, nt_create_process, nt_create_thread, second_birth, second_handle, thread_test, unused_test, unused_thread_test}
use Rattle.lpc_model.specs.Targets.{process_target}
use Rattle.lpc_model.specs.Tests.{handles_test, live_test, next_birth}
use Rattle.lpc_model.specs.Lines.{create_process, create_thread}
use Rattle.lpc_model.specs.Circle.{Group, Whose, is_fine_call, is_fine_process, is_no_outsider, is_no_outsiders_thread, owned, owner}
use Rattle.lpc_model.proofs.Calls.Creating.{process-made, tested-further}
use Rattle.lpc_model.proofs.Calls.Holding.{Holds, bind_holds, holds_ok}
use Rattle.lpc_isolation.proofs.Gone.Served.{served}
use Rattle.lpc_isolation.proofs.Views.Alone.{HasFineRows}
use Rattle.lpc_isolation.proofs.Views.View.{our_process, our_used, view}
use Rattle.lpc_isolation.proofs.Views.Basics.{are_ours, run-ours}
use Rattle.lpc_isolation.proofs.Views.Filters.{first-kept, first-none_kept, has-inside}
use Rattle.lpc_isolation.proofs.Rows.Fair.{Fair, are_fair, are_together, is_homed, keeps-fair, together-of}
use Rattle.lpc_isolation.proofs.Views.Seen.{bind-same, free-view, token-view}
use Rattle.lpc_isolation.proofs.Views.Apart.{are_apart}
use Rattle.lpc_isolation.proofs.Views.Callers.{Answered, Led, answered-same, handles_test-view, led-same, unseen-thread}
use Rattle.lpc_isolation.proofs.Each.Connects.{every-last}
use Rattle.lpc_isolation.proofs.Endings.Threads.{lives-view, threads-view}
use Rattle.lpc_isolation.proofs.Rows.Asked.{Asked}
use Rattle.lpc_isolation.proofs.Rows.Ids.{Numbered, of_number}
use Rattle.lpc_isolation.proofs.Plays.Lines.{OnceUsed}
use Rattle.lpc_isolation.proofs.Calls.Lines.{Begins}
use Rattle.lpc_isolation.proofs.Each.Refuses.{Refuses, bind, handles, if_refuses}
use Rattle.lpc_isolation.proofs.Memory.Knows.{AllKnown}
use Rattle.lpc_isolation.proofs.Memory.Calls.{Hears, still-hears, unnoted}
use Rattle.lpc_isolation.proofs.Rows.Paths.{are_paths}
use Rattle.lpc_isolation.proofs.Rows.Sent.{are_sent}
use Rattle.lpc_isolation.proofs.Each.Instances.{At, Leading}
use Rattle.lpc_isolation.proofs.Gone.Thin.{Alive, Closed, is_live-thin, process_alive, process_closed, thin, thread_closed, threads-thin, Behind}
use Rattle.lpc_isolation.proofs.Gone.ThinCalls.{AreClosed, token-thin}
use Rattle.lpc_isolation.proofs.Gone.Fine.{FineAfter, kept-last}
use Rattle.lpc_isolation.proofs.Calls.Aims.{process-thin, process-view, process-whose, refuses-process}
use Rattle.lpc_isolation.proofs.Calls.Laws.{Lawful, Room, at-most, home-live}

-- whatever holds of the steps holds of the call
on-process : (P : List Basic → Type 0) (w : World) (by : ThreadRow) (pid tid : ℕ) → (was_process w pid ≡ false → was_thread w tid ≡ false → P (making_process w by pid tid)) → Holds P (served w by (create_process pid tid))
on-process P w by pid tid all = process-made P w by pid tid all

on-thread : (P : List Basic → Type 0) (w : World) (by : ThreadRow) (target : ProcArg) (tid : ℕ) → ((pid : ℕ) → process_target w by target ≡ Ok pid → is_live w pid ≡ true → was_thread w tid ≡ false → P (making_thread w by tid pid)) → Holds P (served w by (create_thread target tid))
unfolding nt_create_thread
on-thread P w by target tid all =
    bind_holds (process_target w by target) _ P (λ pid at.
    bind_holds (thread_test w tid pid) _ P (λ u is.
    let found = holds_ok (λ _. (is_live w pid ≡ true) × (was_thread w tid ≡ false)) (thread_test w tid pid) u (tested-further w tid pid) is in
    bind_holds (handles_test w by.process 1) _ P (λ _ _. all pid at found.0 found.1)))

-- Whose it is
-- a process that a call makes is the caller's group's, as the circle has it then
made-group : (m : Group) (c : ℕ) (by : ThreadRow) (pid : ℕ) (token : Token) (ps : List ProcessRow) → every (is_fine_process m) (ps ++ new_process pid (Some by.process) (next_birth by) token ∷ []) ≡ true → m pid ≡ m by.process
made-group m c by pid token ps fine = at (m pid) (m by.process) (every-last (is_fine_process m) ps (new_process pid (Some by.process) (next_birth by) token) fine)
  where
    at : (a b : Bool) → (false || (if a then b else not b)) ≡ true → a ≡ b
    at true true is = refl
    at true false is = absurd (cc)
    at false true is = absurd (cc)
    at false false is = refl

target-group : (m : Group) (c : ℕ) (w : World) (by : ThreadRow) (target : ProcArg) (pid : ℕ) → Fair m c w → process_target w by target ≡ Ok pid → m pid ≡ m by.process
target-group m c w by target pid f at = holds_ok (λ pid. m pid ≡ m by.process) (process_target w by target) pid (process-whose m c w by target f) at

-- the owner of a number stays
pub kept-owner : (us : List UsedThread) (u : UsedThread) (tid pid : ℕ) → option_map (λ (u : UsedThread). u.process) (first (is_used_thread tid) us) ≡ Some pid → option_map (λ (u : UsedThread). u.process) (first (is_used_thread tid) (us ++ u ∷ [])) ≡ Some pid
kept-owner us u tid pid own = at (first (is_used_thread tid) us) refl own
  where
    at : (o : Option UsedThread) → first (is_used_thread tid) us ≡ o → option_map (λ (u : UsedThread). u.process) o ≡ Some pid → option_map (λ (u : UsedThread). u.process) (first (is_used_thread tid) (us ++ u ∷ [])) ≡ Some pid
    at None none own = absurd (cc)
    at (Some x) some own = rw (pushed-kept (is_used_thread tid) us u x some) own

-- what it tells is its caller's
process-begins : (w : World) (by : ThreadRow) (pid tid : ℕ) → owner w by.number ≡ Some by.process → Begins w by.number (making_process w by pid tid)
process-begins w by pid tid own = record {
  step = Tells (Answer by.number NtCreateProcess SUCCESS (h (free_handle w by.process) ∷ first_thread (second_handle w by) ∷ []));
  rest = DrawsOrdinal by.number ∷ DrawsOrdinal by.number ∷ AddsProcess (new_process pid (Some by.process) (next_birth by) (token_of w by.process)) ∷ AddsThread (new_thread tid pid (second_birth by)) ∷ gives_life by (free_handle w by.process) (process_name (next_birth by)) ∷ gives_life by (second_handle w by) (thread_name (second_birth by)) ∷ [];
  entry = Answer by.number NtCreateProcess SUCCESS (h (free_handle w by.process) ∷ first_thread (second_handle w by) ∷ []);
  is = refl;
  told = λ _. refl;
  own = refl;
  whose = λ _ d. ap owned (kept-owner w.used_threads (used (new_thread tid pid (second_birth by))) by.number by.process own ∙ sym own);
  accepted = refl;
  done = refl;
}

thread-begins : (w : World) (by : ThreadRow) (tid pid : ℕ) → owner w by.number ≡ Some by.process → Begins w by.number (making_thread w by tid pid)
thread-begins w by tid pid own = record {
  step = Tells (Answer by.number NtCreateThread SUCCESS (h (free_handle w by.process) ∷ []));
  rest = DrawsOrdinal by.number ∷ AddsThread (new_thread tid pid (next_birth by)) ∷ gives_life by (free_handle w by.process) (thread_name (next_birth by)) ∷ [];
  entry = Answer by.number NtCreateThread SUCCESS (h (free_handle w by.process) ∷ []);
  is = refl;
  told = λ _. refl;
  own = refl;
  whose = λ _ d. ap owned (kept-owner w.used_threads (used (new_thread tid pid (next_birth by))) by.number by.process own ∙ sym own);
  accepted = refl;
  done = refl;
}

-- Numbers
pub id-most : (n : ℕ) → is_id n ≡ true → nat_le n 2147483647 ≡ true
id-most n is = second-true _ _ is

-- a process that lives has a number that was used
live-most : (m : Group) (c : ℕ) (w : World) (pid : ℕ) → Fair m c w → Numbered w → is_live w pid ≡ true → nat_le pid 2147483647 ≡ true
live-most m c w pid f n live = at (first (lives_in pid) w.threads) refl live
  where
    used_by : (t : ThreadRow) (o : Option UsedThread) → first (is_used_thread t.number) w.used_threads ≡ o → passes o (λ u. u.process == t.process) ≡ true → nat_le t.process 2147483647 ≡ true
    used_by t None none is = absurd (cc)
    used_by t (Some u) some is = subst (λ i. nat_le i 2147483647 ≡ true) (eqb-true u.process t.process is) (first-true _ _ (every-first of_number (is_used_thread t.number) w.used_threads u n some))

    at : (o : Option ThreadRow) → first (lives_in pid) w.threads ≡ o → is_some o ≡ true → nat_le pid 2147483647 ≡ true
    at None none is = absurd (cc)
    at (Some t) some is =
        let homed : is_homed w.used_threads t ≡ true = every-first (is_homed w.used_threads) (lives_in pid) w.threads t f.threads some in
        subst (λ i. nat_le i 2147483647 ≡ true) (eqb-true t.process pid (first-true _ _ (first-passes (lives_in pid) w.threads t some))) (used_by t (first (is_used_thread t.number) w.used_threads) refl homed)

-- Rows that are fair
fair-rows : (t u s : Bool) → t ≡ true → u ≡ false → s ≡ true → ((t && true) && ((not u && t) && (s && (s && true)))) ≡ true
fair-rows t u s one two three = grind arith

fair-row : (t u s : Bool) → t ≡ true → u ≡ false → s ≡ true → ((not u && t) && (s && true)) ≡ true
fair-row t u s one two three = grind arith

process-fair : (m : Group) (c : ℕ) (w : World) (by : ThreadRow) (pid tid : ℕ) → m pid ≡ m by.process → was_thread w tid ≡ false → are_fair m c w (making_process w by pid tid) ≡ true
process-fair m c w by pid tid same unused = fair-rows (are_together m pid by.process) (was_thread w tid) (by.process == by.process) (together-of m pid by.process same) unused (same-number by.process)

thread-fair : (m : Group) (c : ℕ) (w : World) (by : ThreadRow) (tid pid : ℕ) → m pid ≡ m by.process → was_thread w tid ≡ false → are_fair m c w (making_thread w by tid pid) ≡ true
thread-fair m c w by tid pid same unused = fair-row (are_together m pid by.process) (was_thread w tid) (by.process == by.process) (together-of m pid by.process same) unused (same-number by.process)

-- An outsider's
process-apart : (m : Group) (c : ℕ) (u : World) (d : Whose) (w : World) (by : ThreadRow) (pid tid : ℕ) → Fair m c w → owner w by.number ≡ Some by.process → owner u by.number ≡ Some by.process → m by.process ≡ false → m pid ≡ false → are_apart m c u d w (making_process w by pid tid) ≡ true
process-apart m c u d w by pid tid f own here out pid_out =
    let v : World = basic w (DrawsOrdinal by.number) in
    let first_draw = unseen-thread m c w by.number by.process f own out in
    let next_draw = unseen-thread m c v by.number by.process (keeps-fair m c w (DrawsOrdinal by.number) refl f) own out in
    rw (here, out, first_draw, next_draw, pid_out) refl

thread-apart : (m : Group) (c : ℕ) (u : World) (d : Whose) (w : World) (by : ThreadRow) (tid pid : ℕ) → Fair m c w → owner w by.number ≡ Some by.process → owner u by.number ≡ Some by.process → m by.process ≡ false → m pid ≡ false → are_apart m c u d w (making_thread w by tid pid) ≡ true
thread-apart m c u d w by tid pid f own here out pid_out = rw (here, out, unseen-thread m c w by.number by.process f own out, pid_out) refl

-- A member's
process-ours : (m : Group) (w : World) (by : ThreadRow) (pid tid : ℕ) → m pid ≡ true → are_ours m w (making_process w by pid tid) ≡ true
process-ours m w by pid tid inside = rw inside refl

thread-ours : (m : Group) (w : World) (by : ThreadRow) (tid pid : ℕ) → m pid ≡ true → are_ours m w (making_thread w by tid pid) ≡ true
thread-ours m w by tid pid inside = rw inside refl

-- the second handle in a view
second-view : (m : Group) (w : World) (by : ThreadRow) → m by.process ≡ true → second_handle (view m w) by ≡ second_handle w by
second-view m w by inside =
    let b : ℕ → Basic = λ n. gives_life by n (process_name (next_birth by)) in
    ap (λ n. free_handle (basic (view m w) (b n)) by.process) (free-view m w by.process inside)
    ∙ ap (λ v. free_handle v by.process) (sym (run-ours m w (b (free_handle w by.process) ∷ []) refl))
    ∙ free-view m (basic w (b (free_handle w by.process))) by.process inside

steps-view : (m : Group) (w : World) (by : ThreadRow) (pid tid : ℕ) → m by.process ≡ true → making_process (view m w) by pid tid ≡ making_process w by pid tid
steps-view m w by pid tid inside =
    ap (λ t. create_process_steps by t pid tid (free_handle (view m w) by.process) (second_handle (view m w) by)) (token-view m w by.process inside)
    ∙ ap (λ n. create_process_steps by (token_of w by.process) pid tid n (second_handle (view m w) by)) (free-view m w by.process inside)
    ∙ ap (create_process_steps by (token_of w by.process) pid tid (free_handle w by.process)) (second-view m w by inside)

-- c's tests in its view
-- a number that is no outsider's
none-inside : {X : Type 0} (k q : X → Bool) (xs : List X) → has q xs ≡ false → has q (which k xs) ≡ false
none-inside k q [] none = refl
none-inside k q (x ∷ xs) none = grind (arith, none-inside k q xs)

number-view : (m : Group) (w : World) (pid : ℕ) → is_no_outsider m w pid ≡ true → was_process (view m w) pid ≡ was_process w pid
number-view m w pid fine = at (m pid) (was_process w pid) refl refl fine
  where
    at : (a b : Bool) → m pid ≡ a → was_process w pid ≡ b → (a || not b) ≡ true → was_process (view m w) pid ≡ was_process w pid
    at true b inside was ok = has-inside (λ n. true) m (λ n. n == pid) (λ n any is. ap m (eqb-true n pid is) ∙ inside) w.used_processes (every-true w.used_processes)
    at false false out none ok = none-inside m (λ n. n == pid) w.used_processes none ∙ sym none
    at false true out was ok = absurd (cc)

thread-number-view : (m : Group) (w : World) (tid : ℕ) → is_no_outsiders_thread m w tid ≡ true → was_thread (view m w) tid ≡ was_thread w tid
thread-number-view m w tid fine = at (first (is_used_thread tid) w.used_threads) refl fine
  where
    at : (o : Option UsedThread) → first (is_used_thread tid) w.used_threads ≡ o → (is_none (option_map (λ (u : UsedThread). u.process) o) || passes (option_map (λ (u : UsedThread). u.process) o) m) ≡ true → was_thread (view m w) tid ≡ was_thread w tid
    at None none ok = ap is_some (first-none_kept (our_used m) (is_used_thread tid) w.used_threads none ∙ sym none)
    at (Some u) some ok = ap is_some (first-kept (our_used m) (is_used_thread tid) w.used_threads u some ok ∙ sym some)

-- the live processes that c made
count-agree : {X : Type 0} (p k test other : X → Bool) → ((x : X) → p x ≡ true → k x ≡ true → other x ≡ test x) → ((x : X) → p x ≡ true → test x ≡ true → k x ≡ true) → (xs : List X) → every p xs ≡ true → count other (which k xs) ≡ count test xs
count-agree p k test other same inside [] all = refl
count-agree p k test other same inside (x ∷ xs) all = grind (arith, same x, inside x, count-agree p k test other same inside xs)

child-inside : (m : Group) (w : World) (c : ℕ) (p : ProcessRow) → m c ≡ true → is_fine_process m p ≡ true → is_live_child w c p ≡ true → m p.number ≡ true
child-inside m w c p c_in fine is = at p.maker refl (first-true _ _ is)
  where
    group : (a b : Bool) → b ≡ true → (false || (if a then b else not b)) ≡ true → a ≡ true
    group true b is ok = refl
    group false true is ok = absurd (cc)
    group false false is ok = absurd (cc)

    at : (o : Option ℕ) → p.maker ≡ o → passes o (λ i. i == c) ≡ true → m p.number ≡ true
    at None none is = absurd (cc)
    at (Some i) some is =
        let ok : (false || (if m p.number then m i else not (m i))) ≡ true = rw some at fine in
        group (m p.number) (m i) (ap m (eqb-true i c is) ∙ c_in) ok

children-view : (m : Group) (c : ℕ) (w : World) → m c ≡ true → HasFineRows m c w → live_children (view m w) c ≡ live_children w c
children-view m c w c_in fine =
    count-agree (is_fine_process m) (our_process m) (is_live_child w c) (is_live_child (view m w) c)
    (λ p ok inside. ap (λ e. passes p.maker (λ i. i == c) && e) (lives-view m w p.number inside))
    (λ p ok is. child-inside m w c p c_in ok is) w.processes fine.0

process-same : (m : Group) (c : ℕ) (w : World) (by : ThreadRow) (known : List ℕ → Birth) (pid tid : ℕ) → At m c w by known → by.process ≡ c → is_fine_call m w (create_process pid tid) ≡ true → served (view m w) by (create_process pid tid) ≡ served w by (create_process pid tid)
unfolding nt_create_process
process-same m c w by known pid tid a mine fine =
    let inside : m by.process ≡ true = ap m mine ∙ a.c_in in
    let children : live_children (view m w) by.process ≡ live_children w by.process = subst (λ i. live_children (view m w) i ≡ live_children w i) (sym mine) (children-view m c w a.c_in a.fine) in
    let test : handles_test (view m w) by.process 2 ≡ handles_test w by.process 2 = subst (λ p. handles_test (view m w) p 2 ≡ handles_test w p 2) (sym mine) (handles_test-view m c w 2 a.c_in a.fair) in
    rw (number-view m w pid (first-true _ _ fine), thread-number-view m w tid (second-true (is_no_outsider m w pid) _ fine), children, test)
    (bind-same (unused_test w pid tid) _ _ (λ _ _. bind-same (child_count_test w by.process) _ _ (λ _ _. bind-same (handles_test w by.process 2) _ _ (λ _ _. ap (λ bs. Ok bs) (steps-view m w by pid tid inside)))))

thread-same : (m : Group) (c : ℕ) (w : World) (by : ThreadRow) (known : List ℕ → Birth) (target : ProcArg) (tid : ℕ) → At m c w by known → by.process ≡ c → is_fine_call m w (create_thread target tid) ≡ true → served (view m w) by (create_thread target tid) ≡ served w by (create_thread target tid)
unfolding nt_create_thread
thread-same m c w by known target tid a mine fine =
    let inside : m by.process ≡ true = ap m mine ∙ a.c_in in
    let test : handles_test (view m w) by.process 1 ≡ handles_test w by.process 1 = subst (λ p. handles_test (view m w) p 1 ≡ handles_test w p 1) (sym mine) (handles_test-view m c w 1 a.c_in a.fair) in
    rw (process-view m c w by target inside a.fair) (bind-same (process_target w by target) _ _ (λ pid at.
    let pid_in : m pid ≡ true = target-group m c w by target pid a.fair at ∙ inside in
    rw (lives-view m w pid pid_in, threads-view m w pid pid_in, thread-number-view m w tid fine, test, free-view m w by.process inside) refl))

-- Where rows have gone
children-thin : (k : Alive) (u : World) (pid : ℕ) → Closed k u → live_children (thin k u) pid ≡ live_children u pid
children-thin k u pid c =
    count-agree (process_closed k) (process_alive k) (is_live_child u pid) (is_live_child (thin k u) pid)
    (λ p closed alive. ap (λ e. passes p.maker (λ i. i == pid) && e) (is_live-thin k u p.number c))
    (λ p closed is. or-last (k.homes p.number) (k.processes p.birth) (home-live k u p.number c (second-true (passes p.maker (λ i. i == pid)) _ is)) closed) u.processes c.processes

process-alike : (k : Alive) (u : World) (by : ThreadRow) (pid tid : ℕ) → live_thread u by.number ≡ Some by → Closed k u → served (thin k u) by (create_process pid tid) ≡ served u by (create_process pid tid)
unfolding nt_create_process
process-alike k u by pid tid live c = rw (children-thin k u by.process c, token-thin k u by live c) refl

thread-alike : (k : Alive) (u : World) (by : ThreadRow) (target : ProcArg) (tid : ℕ) → Closed k u → served (thin k u) by (create_thread target tid) ≡ served u by (create_thread target tid)
unfolding nt_create_thread
thread-alike k u by target tid c =
    rw (process-thin k u by target c) (bind-same (process_target u by target) _ _ (λ pid at. rw (is_live-thin k u pid c, threads-thin k u pid c) refl))

-- the circle's word on the process, where the line ends: it lives
process-fine : (m : Group) (c : ℕ) (after u : World) (by : ThreadRow) (pid tid : ℕ) → HasFineRows m c after → was_process u pid ≡ false → FineAfter m c after u (making_process u by pid tid)
process-fine m c after u by pid tid fine unused rest =
    let v : World = world_after u (making_process u by pid tid) in
    let r : Behind after v = rest (made-settled u by pid tid unused) in
    let k : Alive = r.alive in
    let p : ProcessRow = new_process pid (Some by.process) (next_birth by) (token_of u by.process) in
    let t : ThreadRow = new_thread tid pid (second_birth by) in
    let drawn : World = basic (basic u (DrawsOrdinal by.number)) (DrawsOrdinal by.number) in
    let closed : Closed k v = r.closed in
    let home : k.homes pid ≡ true = last (k.threads t.birth) (k.homes pid) (every-last (thread_closed k) drawn.threads t closed.threads) in
    let stands : k.processes p.birth ≡ true = or-last (k.homes pid) (k.processes p.birth) home (every-last (process_closed k) u.processes p closed.processes) in
    let here : every (is_fine_process m) (which (process_alive k) (u.processes ++ p ∷ [])) ≡ true = subst (λ (w : World). every (is_fine_process m) w.processes ≡ true) r.same fine.0 in
    and_from _ _ (kept-last (is_fine_process m) (process_alive k) u.processes p here stands) refl
  where
    last : (a h : Bool) → (not true || (a && h)) ≡ true → h ≡ true
    last a h is = grind arith

-- what it names is alive
names-process : (p t h : Bool) → p ≡ true → t ≡ true → h ≡ true → ((p && true) && ((t && ((t && h) && true)) && (p && (t && true)))) ≡ true
names-process p t h one two three = grind arith

names-thread : (t h : Bool) → t ≡ true → h ≡ true → ((t && ((t && h) && true)) && (t && true)) ≡ true
names-thread t h one two = grind arith

process-stands : (k : Alive) (u : World) (by : ThreadRow) (pid tid : ℕ) → Room k u by (create_process pid tid) → was_process u pid ≡ false → AreClosed k (making_process u by pid tid)
process-stands k u by pid tid room new = names-process (k.processes (next_birth by)) (k.threads (second_birth by)) (k.homes pid) room.process room.second (room.home pid (rw (same-number pid, new) refl))

-- refusals
process-refuses : (pid tid : ℕ) → (w : World) (by : ThreadRow) → Refuses (served w by (create_process pid tid))
unfolding nt_create_process
process-refuses pid tid w by =
    bind (unused_test w pid tid) _ (if_refuses (was_process w pid || was_thread w tid) OBJECT_NAME_COLLISION refl) (λ _.
    bind (child_count_test w by.process) _ (if_refuses (nat_le CHILD_LIMIT (live_children w by.process)) QUOTA_EXCEEDED refl) (λ _.
    bind (handles_test w by.process 2) _ (handles w by.process 2) (λ _. tt)))

-- NtCreateProcess
pub process-lawful : (pid tid : ℕ) → Lawful (create_process pid tid)
process-lawful pid tid = record {
  begins = λ m c w by known a. on-process (Begins w by.number) w by pid tid (λ _ _. process-begins w by pid tid a.own);
  once = λ m c w by known a once. on-process (λ bs. OnceUsed (world_after w bs)) w by pid tid (λ _ unused t. at-most t w.used_threads (used (new_thread tid pid (second_birth by))) unused (once t));
  numbered = λ m c w by known a ids n. on-process (λ bs. Numbered (world_after w bs)) w by pid tid (λ _ _. every-push of_number w.used_threads (used (new_thread tid pid (second_birth by))) n (and_from _ _ (id-most pid (first-true _ _ ids)) (id-most tid (second-true _ _ ids))));
  refuses = λ w by. process-refuses pid tid w by;
  fair = λ m c w by known a. on-process (λ bs. HasFineRows m c (world_after w bs) → are_fair m c w bs ≡ true) w by pid tid (λ _ unused fine. process-fair m c w by pid tid (made-group m c by pid (token_of w by.process) w.processes fine.0) unused);
  paths = λ m c w by known a all. on-process (λ bs. are_paths w bs ≡ true) w by pid tid (λ _ _. refl);
  asked = λ m c w by known a b. on-process (λ bs. Asked (world_after w bs)) w by pid tid (λ _ _. record { sorts = b.sorts; own = b.own; one = b.one; marked = b.marked });
  sent = λ u by s live. on-process (λ bs. are_sent u bs ≡ true) u by pid tid (λ _ _. refl);
  apart = λ m c d w by known a out. on-process (λ bs. HasFineRows m c (world_after w bs) → are_apart m c (world_after w bs) d w bs ≡ true) w by pid tid (λ _ _ fine.
      process-apart m c (world_after w (making_process w by pid tid)) d w by pid tid a.fair a.own (kept-owner w.used_threads (used (new_thread tid pid (second_birth by))) by.number by.process a.own) out (made-group m c by pid (token_of w by.process) w.processes fine.0 ∙ out));
  own = λ m c d w by known k a mine fine right. own-after m c d w by known a mine fine;
  leads = λ m c d w by known a by_in other. on-process (λ bs. HasFineRows m c (world_after w bs) → Leading m c (world_after w bs) d w by known (create_process pid tid) bs) w by pid tid (λ _ _ fine.
      subst (Led m c (world_after w (making_process w by pid tid)) d w (making_process w by pid tid)) (sym (steps-view m w by pid tid by_in)) (led-same m c (world_after w (making_process w by pid tid)) d w (making_process w by pid tid) (process-ours m w by pid tid (made-group m c by pid (token_of w by.process) w.processes fine.0 ∙ by_in))));
  hears = λ m c d w by known memo a owned n b all out. on-process (λ bs. HasFineRows m c (world_after w bs) → Hears m c (world_after w bs) d w memo bs) w by pid tid (λ _ _ fine.
      still-hears m c (world_after w (making_process w by pid tid)) d w memo (making_process w by pid tid) all (refl, refl));
  notes = λ m c w by known memo a owned n b all by_in. on-process (λ bs. AllKnown m (cond (by.process == c) memo memo) (world_after w bs)) w by pid tid (λ _ _. unnoted m memo w (by.process == c) all);
  alike = λ k u by live s ports c. process-alike k u by pid tid live c;
  stands = λ k u by live s c room. on-process (AreClosed k) u by pid tid (λ new _. process-stands k u by pid tid room new);
  fine = λ m c after u by idle f. on-process (FineAfter m c after u) u by pid tid (λ unused _. process-fine m c after u by pid tid f unused);
}
  where
    own-after : (m : Group) (c : ℕ) (d : Whose) (w : World) (by : ThreadRow) (known : List ℕ → Birth) → At m c w by known → by.process ≡ c → is_fine_call m w (create_process pid tid) ≡ true → Answered (λ bs led. HasFineRows m c (world_after w bs) → Led m c (world_after w bs) d w bs led) (served w by (create_process pid tid)) (served (view m w) by (create_process pid tid))
    own-after m c d w by known a mine fine =
        answered-same (λ bs led. HasFineRows m c (world_after w bs) → Led m c (world_after w bs) d w bs led) (served w by (create_process pid tid)) (served (view m w) by (create_process pid tid)) (process-same m c w by known pid tid a mine fine)
        (on-process (λ bs. HasFineRows m c (world_after w bs) → Led m c (world_after w bs) d w bs bs) w by pid tid (λ _ _ after.
        led-same m c (world_after w (making_process w by pid tid)) d w (making_process w by pid tid) (process-ours m w by pid tid (made-group m c by pid (token_of w by.process) w.processes after.0 ∙ ap m mine ∙ a.c_in))))

-- refusals
thread-refuses : (target : ProcArg) (tid : ℕ) → (w : World) (by : ThreadRow) → Refuses (served w by (create_thread target tid))
unfolding nt_create_thread
thread-refuses target tid w by =
    bind (process_target w by target) _ (refuses-process w by target) (λ pid.
    bind (thread_test w tid pid) _ (bind (live_test w pid) _ (if_refuses (not (is_live w pid)) INVALID_CID refl) (λ _. bind (unused_thread_test w tid) _ (if_refuses (was_thread w tid) OBJECT_NAME_COLLISION refl) (λ _. if_refuses (nat_le THREAD_LIMIT (live_count w pid)) QUOTA_EXCEEDED refl))) (λ _.
    bind (handles_test w by.process 1) _ (handles w by.process 1) (λ _. tt)))

-- NtCreateThread
pub thread-lawful : (target : ProcArg) (tid : ℕ) → Lawful (create_thread target tid)
thread-lawful target tid = record {
  begins = λ m c w by known a. on-thread (Begins w by.number) w by target tid (λ pid _ _ _. thread-begins w by tid pid a.own);
  once = λ m c w by known a once. on-thread (λ bs. OnceUsed (world_after w bs)) w by target tid (λ pid _ _ unused t. at-most t w.used_threads (used (new_thread tid pid (next_birth by))) unused (once t));
  numbered = λ m c w by known a ids n. on-thread (λ bs. Numbered (world_after w bs)) w by target tid (λ pid _ live _. every-push of_number w.used_threads (used (new_thread tid pid (next_birth by))) n (and_from _ _ (live-most m c w pid a.fair n live) (id-most tid ids)));
  refuses = λ w by. thread-refuses target tid w by;
  fair = λ m c w by known a. on-thread (λ bs. HasFineRows m c (world_after w bs) → are_fair m c w bs ≡ true) w by target tid (λ pid at _ unused fine. thread-fair m c w by tid pid (target-group m c w by target pid a.fair at) unused);
  paths = λ m c w by known a all. on-thread (λ bs. are_paths w bs ≡ true) w by target tid (λ _ _ _ _. refl);
  asked = λ m c w by known a b. on-thread (λ bs. Asked (world_after w bs)) w by target tid (λ _ _ _ _. record { sorts = b.sorts; own = b.own; one = b.one; marked = b.marked });
  sent = λ u by s live. on-thread (λ bs. are_sent u bs ≡ true) u by target tid (λ _ _ _ _. refl);
  apart = λ m c d w by known a out. on-thread (λ bs. HasFineRows m c (world_after w bs) → are_apart m c (world_after w bs) d w bs ≡ true) w by target tid (λ pid at _ _ fine.
      thread-apart m c (world_after w (making_thread w by tid pid)) d w by tid pid a.fair a.own (kept-owner w.used_threads (used (new_thread tid pid (next_birth by))) by.number by.process a.own) out (target-group m c w by target pid a.fair at ∙ out));
  own = λ m c d w by known k a mine fine right. own-after m c d w by known a mine fine;
  leads = λ m c d w by known a by_in other. on-thread (λ bs. HasFineRows m c (world_after w bs) → Leading m c (world_after w bs) d w by known (create_thread target tid) bs) w by target tid (λ pid at _ _ fine.
      rw (process-view m c w by target by_in a.fair, at, free-view m w by.process by_in) (led-same m c (world_after w (making_thread w by tid pid)) d w (making_thread w by tid pid) (thread-ours m w by tid pid (target-group m c w by target pid a.fair at ∙ by_in))));
  hears = λ m c d w by known memo a owned n b all out. on-thread (λ bs. HasFineRows m c (world_after w bs) → Hears m c (world_after w bs) d w memo bs) w by target tid (λ pid _ _ _ fine.
      still-hears m c (world_after w (making_thread w by tid pid)) d w memo (making_thread w by tid pid) all (refl, refl));
  notes = λ m c w by known memo a owned n b all by_in. on-thread (λ bs. AllKnown m (cond (by.process == c) memo memo) (world_after w bs)) w by target tid (λ _ _ _ _. unnoted m memo w (by.process == c) all);
  alike = λ k u by live s ports c. thread-alike k u by target tid c;
  stands = λ k u by live s c room. on-thread (AreClosed k) u by target tid (λ pid _ lives _. names-thread (k.threads (next_birth by)) (k.homes pid) room.thread (home-live k u pid c lives));
  fine = λ m c after u by idle f. on-thread (FineAfter m c after u) u by target tid (λ _ _ _ _ _. refl);
}
  where
    own-after : (m : Group) (c : ℕ) (d : Whose) (w : World) (by : ThreadRow) (known : List ℕ → Birth) → At m c w by known → by.process ≡ c → is_fine_call m w (create_thread target tid) ≡ true → Answered (λ bs led. HasFineRows m c (world_after w bs) → Led m c (world_after w bs) d w bs led) (served w by (create_thread target tid)) (served (view m w) by (create_thread target tid))
    own-after m c d w by known a mine fine =
        answered-same (λ bs led. HasFineRows m c (world_after w bs) → Led m c (world_after w bs) d w bs led) (served w by (create_thread target tid)) (served (view m w) by (create_thread target tid)) (thread-same m c w by known target tid a mine fine)
        (on-thread (λ bs. HasFineRows m c (world_after w bs) → Led m c (world_after w bs) d w bs bs) w by target tid (λ pid at _ _ after.
        led-same m c (world_after w (making_thread w by tid pid)) d w (making_thread w by tid pid) (thread-ours m w by tid pid (target-group m c w by target pid a.fair at ∙ ap m mine ∙ a.c_in))))
