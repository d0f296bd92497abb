-- The calls that make processes and threads: what their steps keep, the calls do.
use Rattle.std.proofs.Common.{◌≡◌, ℕ, List, [], ◌∷◌, ◌++◌, true, false, not, Some, refl, subst, arith}
use Rattle.std.specs.Prelude.{◌||◌}
use Rattle.lpc_base.specs.Rows.{change, first, has}
use Rattle.lpc_base.specs.declared.status.TheConstants.{INVALID_CID, OBJECT_NAME_COLLISION}
use Rattle.lpc_base.proofs.Bools.{first-off, second-off}
use Rattle.lpc_base.proofs.RowWords.{first-behind}
use Rattle.lpc_model.specs.World.{HandleRow, HandleTable, ObjectName, ThreadRow, Token, World}
use Rattle.lpc_model.specs.Found.{free_handle, is_live, is_table, process_name, rows_in, thread_name, token_of, was_process, was_thread}
use Rattle.lpc_model.specs.Basics.{AddsProcess, AddsThread, Basic, DrawsOrdinal, basic, no_handles, with_handle, world_after}
use Rattle.lpc_model.specs.Lines.{ProcArg}
use Rattle.lpc_model.specs.Targets.{LIFE_ACCESS, process_target}
use Rattle.lpc_model.specs.Tests.{handle_row, handles_test, live_test, next_birth}
use Rattle.lpc_model.specs.Creation.{child_count_test, create_process_steps, create_thread_steps, gives_life, making_process, new_process, new_thread, nt_create_process, nt_create_thread, second_birth, second_handle, thread_count_test, thread_test, unused_test, unused_thread_test}
use Rattle.lpc_model.proofs.Calls.Holding.{Holds, bind_holds, holds_any, holds_ok, not_refused}
use Rattle.lpc_model.proofs.Calls.Usable.{CanCall}
use Rattle.lpc_model.proofs.Steps.Rows.{first-change}

-- the tests of a further thread find its process live, and its number unused
pub tested-further : (w : World) (tid pid : ℕ) → Holds (λ _. (is_live w pid ≡ true) × (was_thread w tid ≡ false)) (thread_test w tid pid)
tested-further w tid pid =
    let P : Unit {0} → Type 0 = λ _. (is_live w pid ≡ true) × (was_thread w tid ≡ false) in
    bind_holds (live_test w pid) _ P (λ u is.
    let off = not_refused (not (is_live w pid)) INVALID_CID u is in
    let lives : is_live w pid ≡ true = grind arith in
    bind_holds (unused_thread_test w tid) _ P (λ v new. holds_any ((is_live w pid ≡ true) × (was_thread w tid ≡ false)) (lives, not_refused (was_thread w tid) OBJECT_NAME_COLLISION v new) (thread_count_test w pid)))

-- the steps of a call that isn't refused: both numbers are new
pub process-made : (P : List Basic → Type 0) (w : World) (by : ThreadRow) (pid tid : ℕ)
    → (was_process w pid ≡ false → was_thread w tid ≡ false → P (create_process_steps by (token_of w by.process) pid tid (free_handle w by.process) (second_handle w by)))
    → Holds P (nt_create_process w by pid tid)
unfolding nt_create_process
process-made P w by pid tid all =
    bind_holds (unused_test w pid tid) _ P (λ u is.
    let neither = not_refused (was_process w pid || was_thread w tid) OBJECT_NAME_COLLISION u is in
    bind_holds (child_count_test w by.process) _ P (λ _ _.
    bind_holds (handles_test w by.process 2) _ P (λ _ _.
    all (first-off (was_process w pid) (was_thread w tid) neither) (second-off (was_process w pid) (was_thread w tid) neither))))

-- the process lives, and the thread's number is new
pub thread-made : (P : List Basic → Type 0) (w : World) (by : ThreadRow) (target : ProcArg) (tid : ℕ)
    → ((pid : ℕ) → is_live w pid ≡ true → was_thread w tid ≡ false → P (create_thread_steps by tid pid (free_handle w by.process)))
    → Holds P (nt_create_thread w by target tid)
unfolding nt_create_thread
thread-made P w by target tid all =
    bind_holds (process_target w by target) _ P (λ pid _.
    bind_holds (thread_test w tid pid) _ P (λ u is.
    let found = holds_ok (λ _. (is_live w pid ≡ true) × (was_thread w tid ≡ false)) (thread_test w tid pid) u (tested-further w tid pid) is in
    bind_holds (handles_test w by.process 1) _ P (λ _ _. all pid found.0 found.1)))

-- The worlds between
-- behind what a thread draws, it makes
abbrev pub booted : World → ThreadRow → Token → ℕ → ℕ → World
booted w by token pid tid = basic (basic w (AddsProcess (new_process pid (Some by.process) (next_birth by) token))) (AddsThread (new_thread tid pid (second_birth by)))

abbrev pub threaded : World → ThreadRow → ℕ → ℕ → World
threaded w by tid pid = basic w (AddsThread (new_thread tid pid (next_birth by)))

-- a table of handles that is made behind others
pub rows-behind : (hs : List HandleTable) (pid n : ℕ) (h : HandleRow) → has (is_table pid) hs ≡ true
    → rows_in (first (is_table pid) (change (is_table pid) (with_handle h) (hs ++ no_handles n ∷ []))) ≡ rows_in (first (is_table pid) (change (is_table pid) (with_handle h) hs))
rows-behind hs pid n h home =
    rw (first-change (is_table pid) (is_table pid) (with_handle h) (λ t. refl) (hs ++ no_handles n ∷ []), first-change (is_table pid) (is_table pid) (with_handle h) (λ t. refl) hs, first-behind (is_table pid) hs (no_handles n ∷ []) home) refl

module _ (P : World → Type 0) (w : World) (by : ThreadRow) (c : CanCall w by) (draws : (v : World) → P v → P (basic v (DrawsOrdinal by.number)))
    (gives : (v : World) (o : ObjectName) → P v → P (basic v (gives_life by (free_handle v by.process) o))) where
  -- what each step keeps
  pub process-keeps : (pid tid : ℕ) → (P (basic (basic w (DrawsOrdinal by.number)) (DrawsOrdinal by.number)) → P (booted (basic (basic w (DrawsOrdinal by.number)) (DrawsOrdinal by.number)) by (token_of w by.process) pid tid)) → P w → P (world_after w (making_process w by pid tid))
  process-keeps pid tid makes start =
      let made : World = booted (basic (basic w (DrawsOrdinal by.number)) (DrawsOrdinal by.number)) by (token_of w by.process) pid tid in
      let one : P made = makes (draws (basic w (DrawsOrdinal by.number)) (draws w start)) in
      let value = free_handle w by.process in
      let same : free_handle made by.process ≡ value = rw (first-behind (is_table by.process) w.handles (no_handles pid ∷ []) c.home) refl in
      let given : World = basic made (gives_life by value (process_name (next_birth by))) in
      let two : P given = subst (λ n. P (basic made (gives_life by n (process_name (next_birth by))))) same (gives made (process_name (next_birth by)) one) in
      let next : free_handle given by.process ≡ second_handle w by = rw (rows-behind w.handles by.process pid (handle_row value (process_name (next_birth by)) LIFE_ACCESS) c.home) refl in
      subst (λ n. P (basic given (gives_life by n (thread_name (second_birth by))))) next (gives given (thread_name (second_birth by)) two)
