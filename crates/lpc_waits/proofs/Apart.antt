-- Rows of which no two have one thread.
use Rattle.std.proofs.Common.{◌≡◌, ◌≤◌, ℕ, Bool, true, false, List, [], ◌∷◌, ◌++◌}
use Rattle.lpc_base.specs.Rows.{change, count, has, without}
use Rattle.lpc_base.proofs.Differ.{differ-change, differ-push, differ-without, one-row}
use Rattle.lpc_waits.specs.Table.{WaitingThread, is_of, are_apart}

abbrev thread : WaitingThread → ℕ
thread row = row.thread

-- a change that keeps each row's thread
pub apart_change : (test : WaitingThread → Bool) (f : WaitingThread → WaitingThread) → ((row : WaitingThread) → let changed = f row in changed.thread ≡ row.thread) → (rows : List WaitingThread) → are_apart rows ≡ true → are_apart (change test f rows) ≡ true
apart_change = differ-change thread

pub apart_without : (test : WaitingThread → Bool) (rows : List WaitingThread) → are_apart rows ≡ true → are_apart (without test rows) ≡ true
apart_without = differ-without thread

pub apart_push : (rows : List WaitingThread) (new : WaitingThread) → are_apart rows ≡ true → has (is_of new.thread) rows ≡ false → are_apart (rows ++ new ∷ []) ≡ true
apart_push = differ-push thread

-- a thread has one row at most
pub one_row : (tid : ℕ) (rows : List WaitingThread) → are_apart rows ≡ true → count (is_of tid) rows ≤ 1
one_row = one-row thread
