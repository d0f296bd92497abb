-- What a call on a process or a thread is of, in a view, and where rows that nothing names have gone.
use Rattle.std.proofs.Common.{◌≡◌, ℕ, Bool, true, not, Some, refl, ap, ◌∙◌}
use Rattle.std.proofs.lemmas.Bool.{and_from, not-false}
use Rattle.std.specs.Prelude.{◌||◌, Result, Ok}
use Rattle.lpc_base.specs.Rows.{every, first}
use Rattle.lpc_base.proofs.RowWords.{first-passes}
use Rattle.lpc_base.proofs.RowMaps.{every-first}
use Rattle.lpc_base.proofs.Bools.{or-last, same-number}
use Rattle.lpc_base.proofs.Births.{birth-same}
use Rattle.lpc_base.specs.declared.status.Status.{Status}
use Rattle.lpc_base.specs.declared.status.TheConstants.{ACCESS_DENIED, INVALID_HANDLE, OBJECT_TYPE_MISMATCH}
use Rattle.lpc_model.specs.declared.entry.ObjectKind.{ObjectKind}
use Rattle.lpc_model.specs.declared.entry.ObjectKind.TheVariants as kind
use Rattle.lpc_model.specs.declared.line.ProcArg.{ProcArg}
use Rattle.lpc_model.specs.declared.line.ProcArg.TheVariants.{By, Current}
use Rattle.lpc_model.specs.Refusal.{found_or, refuse_if}
use Rattle.lpc_model.specs.Then.{◌>>=◌}
use Rattle.lpc_model.specs.World.{Birth, ProcessRow, ThreadRow, World}
use Rattle.lpc_model.specs.Found.{handle_at, handles_of, has_value, is_born_process, is_born_thread, is_live_thread, is_table, live_thread, lives_in, same_kind}
use Rattle.lpc_model.specs.Targets.{LIFE_RIGHT, process_target, thread_target}
use Rattle.lpc_model.specs.Tests.{includes, object_test, own_handle}
use Rattle.lpc_model.specs.Circle.{Group}
use Rattle.lpc_model.proofs.Calls.Holding.{Holds, bind_holds, found_holds, found_ok, holds_ok, not_refused}
use Rattle.lpc_isolation.proofs.Views.View.{of_birth, our_process, our_thread, view}
use Rattle.lpc_isolation.proofs.Rows.Fair.{Fair, is_fair_life, is_fair_process, together}
use Rattle.lpc_isolation.proofs.Views.Filters.{first-inside, first-where}
use Rattle.lpc_isolation.proofs.Views.Seen.{bind-same, object-own, object-view}
use Rattle.lpc_isolation.proofs.Each.Refuses.{Refuses, bind, found, if_refuses}
use Rattle.lpc_isolation.proofs.Gone.Thin.{Alive, Closed, alive_as, handle_closed, process_alive, thin, thread_alive}
use Rattle.lpc_isolation.proofs.Gone.ThinCalls.{rows-closed}

-- Refusals
refuses-object : (w : World) (by : ThreadRow) (k : ObjectKind) (value : ℕ) → Refuses (object_test w by k LIFE_RIGHT value)
refuses-object w by k value =
    bind (own_handle w by value) _ (found (handle_at w by.process value) INVALID_HANDLE refl) (λ r.
    bind (refuse_if (not (same_kind r.object.kind k)) OBJECT_TYPE_MISMATCH) _ (if_refuses (not (same_kind r.object.kind k)) OBJECT_TYPE_MISMATCH refl) (λ _.
    bind (refuse_if (not (includes r.access LIFE_RIGHT)) ACCESS_DENIED) _ (if_refuses (not (includes r.access LIFE_RIGHT)) ACCESS_DENIED refl) (λ _. tt)))

pub refuses-thread : (w : World) (by : ThreadRow) (target : ProcArg) → Refuses (thread_target w by target)
refuses-thread w by Current = tt
refuses-thread w by (By handle) = bind (object_test w by kind.Thread LIFE_RIGHT handle) _ (refuses-object w by kind.Thread handle) (λ b. found (first (is_born_thread b) w.threads) INVALID_HANDLE refl)

pub refuses-process : (w : World) (by : ThreadRow) (target : ProcArg) → Refuses (process_target w by target)
refuses-process w by Current = tt
refuses-process w by (By handle) = bind (object_test w by kind.Process LIFE_RIGHT handle) _ (refuses-object w by kind.Process handle) (λ b. bind (found_or (first (is_born_process b) w.processes) INVALID_HANDLE) _ (found (first (is_born_process b) w.processes) INVALID_HANDLE refl) (λ p. tt))

-- Whose it is: the caller's group's
born-with : (m : Group) (by : ThreadRow) (b x : Birth) (pid : ℕ) → b.process ≡ by.process → x ≡ b → m pid ≡ m x.process → m pid ≡ m by.process
born-with m by b x pid own same tied = tied ∙ ap (λ (b : Birth). m b.process) same ∙ ap m own

pub thread-whose : (m : Group) (c : ℕ) (w : World) (by : ThreadRow) (target : ProcArg) → Fair m c w → Holds (λ t. m t.process ≡ m by.process) (thread_target w by target)
thread-whose m c w by Current f = refl
thread-whose m c w by (By handle) f =
    let P : ThreadRow → Type 0 = λ t. m t.process ≡ m by.process in
    bind_holds (object_test w by kind.Thread LIFE_RIGHT handle) _ P (λ b at.
    found_holds P (first (is_born_thread b) w.threads) INVALID_HANDLE (λ t here.
    born-with m by b t.birth t.process (holds_ok (λ b. b.process ≡ by.process) (object_test w by kind.Thread LIFE_RIGHT handle) b (object-own m c w by kind.Thread LIFE_RIGHT handle f) at)
    (birth-same t.birth b (first-passes (is_born_thread b) w.threads t here)) (together m t.process t.birth.process (every-first (is_fair_life m) (is_born_thread b) w.threads t f.lives here))))

pub process-whose : (m : Group) (c : ℕ) (w : World) (by : ThreadRow) (target : ProcArg) → Fair m c w → Holds (λ pid. m pid ≡ m by.process) (process_target w by target)
process-whose m c w by Current f = refl
process-whose m c w by (By handle) f =
    let P : ℕ → Type 0 = λ pid. m pid ≡ m by.process in
    bind_holds (object_test w by kind.Process LIFE_RIGHT handle) _ P (λ b at.
    bind_holds (found_or (first (is_born_process b) w.processes) INVALID_HANDLE) _ P (λ p is.
    let here = found_ok (first (is_born_process b) w.processes) INVALID_HANDLE p is in
    born-with m by b p.birth p.number (holds_ok (λ b. b.process ≡ by.process) (object_test w by kind.Process LIFE_RIGHT handle) b (object-own m c w by kind.Process LIFE_RIGHT handle f) at)
    (birth-same p.birth b (first-passes (is_born_process b) w.processes p here)) (together m p.number p.birth.process (every-first (is_fair_process m) (is_born_process b) w.processes p f.processes here))))

-- In a view
born-inside : (m : Group) (c : ℕ) (w : World) (by : ThreadRow) (k : ObjectKind) (value : ℕ) (b : Birth) → m by.process ≡ true → Fair m c w → object_test w by k LIFE_RIGHT value ≡ Ok b → m b.process ≡ true
born-inside m c w by k value b inside f at = ap m (holds_ok (λ b. b.process ≡ by.process) (object_test w by k LIFE_RIGHT value) b (object-own m c w by k LIFE_RIGHT value f) at) ∙ inside

pub thread-view : (m : Group) (c : ℕ) (w : World) (by : ThreadRow) (target : ProcArg) → m by.process ≡ true → Fair m c w → thread_target (view m w) by target ≡ thread_target w by target
thread-view m c w by Current inside f = refl
thread-view m c w by (By handle) inside f =
    ap (λ r. r >>= (λ b. found_or (first (is_born_thread b) (view m w).threads) INVALID_HANDLE)) (object-view m w by kind.Thread LIFE_RIGHT handle inside)
    ∙ bind-same (object_test w by kind.Thread LIFE_RIGHT handle) (λ b. found_or (first (is_born_thread b) (view m w).threads) INVALID_HANDLE) (λ b. found_or (first (is_born_thread b) w.threads) INVALID_HANDLE)
    (λ b at. ap (λ o. found_or o INVALID_HANDLE) (first-where (is_fair_life m) (our_thread m) (is_born_thread b)
    (λ t fair is. together m t.process t.birth.process fair ∙ of_birth m t.birth b is ∙ born-inside m c w by kind.Thread handle b inside f at) w.threads f.lives))

abbrev numbered_process : World → Birth → Result ℕ Status
numbered_process w b = found_or (first (is_born_process b) w.processes) INVALID_HANDLE >>= (λ p. Ok p.number)

pub process-view : (m : Group) (c : ℕ) (w : World) (by : ThreadRow) (target : ProcArg) → m by.process ≡ true → Fair m c w → process_target (view m w) by target ≡ process_target w by target
process-view m c w by Current inside f = refl
process-view m c w by (By handle) inside f =
    ap (λ r. r >>= numbered_process (view m w)) (object-view m w by kind.Process LIFE_RIGHT handle inside)
    ∙ bind-same (object_test w by kind.Process LIFE_RIGHT handle) (numbered_process (view m w)) (numbered_process w)
    (λ b at. ap (λ o. found_or o INVALID_HANDLE >>= (λ (p : ProcessRow). Ok p.number)) (first-where (is_fair_process m) (our_process m) (is_born_process b)
    (λ p fair is. together m p.number p.birth.process fair ∙ of_birth m p.birth b is ∙ born-inside m c w by kind.Process handle b inside f at) w.processes f.processes))

-- Where rows have gone
kind-process : (k : Alive) (s : ObjectKind) (b : Birth) → alive_as k s b ≡ true → same_kind s kind.Process ≡ true → k.processes b ≡ true
kind-process k kind.Process b live is = live
kind-process k e b live is = absurd (cc)

kind-thread : (k : Alive) (s : ObjectKind) (b : Birth) → alive_as k s b ≡ true → same_kind s kind.Thread ≡ true → k.threads b ≡ true
kind-thread k kind.Thread b live is = live
kind-thread k e b live is = absurd (cc)

object-lives : (k : Alive) (u : World) (by : ThreadRow) (s : ObjectKind) (value : ℕ) (f : Birth → Bool) → ((t : ObjectKind) (b : Birth) → alive_as k t b ≡ true → same_kind t s ≡ true → f b ≡ true) → Closed k u → Holds (λ b. f b ≡ true) (object_test u by s LIFE_RIGHT value)
object-lives k u by s value f lives c =
    let P : Birth → Type 0 = λ b. f b ≡ true in
    bind_holds (own_handle u by value) _ P (λ h at.
    bind_holds (refuse_if (not (same_kind h.object.kind s)) OBJECT_TYPE_MISMATCH) _ P (λ v is.
    bind_holds (refuse_if (not (includes h.access LIFE_RIGHT)) ACCESS_DENIED) _ P (λ _ _.
    let closed : handle_closed k h ≡ true = every-first (handle_closed k) (has_value value) (handles_of u by.process) h (rows-closed k by.process u.handles (first (is_table by.process) u.handles) refl c.tables) (found_ok (handle_at u by.process value) INVALID_HANDLE h at) in
    lives h.object.kind h.object.birth closed (not-false (same_kind h.object.kind s) (not_refused (not (same_kind h.object.kind s)) OBJECT_TYPE_MISMATCH v is)))))

pub thread-thin : (k : Alive) (u : World) (by : ThreadRow) (target : ProcArg) → Closed k u → thread_target (thin k u) by target ≡ thread_target u by target
thread-thin k u by Current c = refl
thread-thin k u by (By handle) c =
    bind-same (object_test u by kind.Thread LIFE_RIGHT handle) (λ b. found_or (first (is_born_thread b) (thin k u).threads) INVALID_HANDLE) (λ b. found_or (first (is_born_thread b) u.threads) INVALID_HANDLE)
    (λ b at. ap (λ o. found_or o INVALID_HANDLE) (first-inside (thread_alive k) (is_born_thread b)
    (λ t is. ap k.threads (birth-same t.birth b is) ∙ holds_ok (λ b. k.threads b ≡ true) (object_test u by kind.Thread LIFE_RIGHT handle) b (object-lives k u by kind.Thread handle k.threads (kind-thread k) c) at) u.threads))

pub process-thin : (k : Alive) (u : World) (by : ThreadRow) (target : ProcArg) → Closed k u → process_target (thin k u) by target ≡ process_target u by target
process-thin k u by Current c = refl
process-thin k u by (By handle) c =
    bind-same (object_test u by kind.Process LIFE_RIGHT handle) (numbered_process (thin k u)) (numbered_process u)
    (λ b at. ap (λ o. found_or o INVALID_HANDLE >>= (λ (p : ProcessRow). Ok p.number)) (first-inside (process_alive k) (is_born_process b)
    (λ p is. ap k.processes (birth-same p.birth b is) ∙ holds_ok (λ b. k.processes b ≡ true) (object_test u by kind.Process LIFE_RIGHT handle) b (object-lives k u by kind.Process handle k.processes (kind-process k) c) at) u.processes))

-- What holds of each row that lives in a process holds of the thread, where it lives
pub thread-row : (p : ThreadRow → ThreadRow → Bool) (w : World) (by : ThreadRow) (target : ProcArg) → live_thread w by.number ≡ Some by → Holds (λ t. t.live ≡ true → every (p t) w.threads ≡ true → p t t ≡ true) (thread_target w by target)
thread-row p w by Current live = λ _ all. every-first (p by) (is_live_thread by.number) w.threads by all live
thread-row p w by (By handle) live =
    let P : ThreadRow → Type 0 = λ t. t.live ≡ true → every (p t) w.threads ≡ true → p t t ≡ true in
    bind_holds (object_test w by kind.Thread LIFE_RIGHT handle) _ P (λ b at.
    found_holds P (first (is_born_thread b) w.threads) INVALID_HANDLE (λ t here lives all. every-first (p t) (is_born_thread b) w.threads t all here))

pub lives-row : (p : ThreadRow → Bool) (t : ThreadRow) → t.live ≡ true → (not (lives_in t.process t) || p t) ≡ true → p t ≡ true
lives-row p t live is = or-last (lives_in t.process t) (p t) (and_from _ _ (same-number t.process) live) is
