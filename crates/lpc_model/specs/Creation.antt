-- Processes and threads that are made: by a directive, or by a call of a thread.
use Rattle.std.specs.Prelude.{ℕ, ◌+◌, ◌&&◌, ◌||◌, ◌==◌, nat_le, Bool, true, List, [], ◌∷◌, Option, None, Some, Result, Ok}
use Rattle.lpc_base.specs.Rows.{count, passes}
use Rattle.lpc_base.specs.declared.limits.TheConstants.{CHILD_LIMIT, THREAD_LIMIT}
use Rattle.lpc_base.specs.declared.status.Status.{Status}
use Rattle.lpc_base.specs.declared.status.TheConstants.{OBJECT_NAME_COLLISION, QUOTA_EXCEEDED, SUCCESS}
use Rattle.lpc_model.specs.declared.entry.CallName.TheVariants.{NtCreateProcess, NtCreateThread}
use Rattle.lpc_model.specs.declared.entry.Entry.TheVariants.{Answer}
use Rattle.lpc_model.specs.Refusal.{refuse_if}
use Rattle.lpc_model.specs.Then.{◌>>=◌}
use Rattle.lpc_model.specs.World.{Birth, ObjectName, ProcessRow, ThreadRow, Token, World}
use Rattle.lpc_model.specs.Found.{free_handle, is_live, live_count, process_name, thread_name, token_of, was_process, was_thread}
use Rattle.lpc_model.specs.Basics.{AddsHandle, AddsProcess, AddsThread, Basic, DrawsOrdinal, Tells, basic}
use Rattle.lpc_model.specs.Fields.{first_thread, h}
use Rattle.lpc_model.specs.Lines.{ProcArg}
use Rattle.lpc_model.specs.Targets.{LIFE_ACCESS, process_target}
use Rattle.lpc_model.specs.Tests.{handle_row, handles_test, live_test, next_birth}

-- What is made
-- a process, and a live thread that has drawn and registered nothing yet
abbrev pub new_process : ℕ → Option ℕ → Birth → Token → ProcessRow
new_process pid maker birth token = record {
  number = pid;
  maker = maker;
  birth = birth;
  token = token;
  debug_port = None;
  exception_port = None;
  doom = None;
}

abbrev pub new_thread : ℕ → ℕ → Birth → ThreadRow
new_thread tid pid birth = record {
  number = tid;
  process = pid;
  birth = birth;
  live = true;
  next_identifier = 1;
  next_ordinal = 1;
  registrations = [];
  own = None;
}

-- Tests
-- neither number was ever used
abbrev pub unused_test : World → ℕ → ℕ → Result Unit Status
unused_test w pid tid = refuse_if (was_process w pid || was_thread w tid) OBJECT_NAME_COLLISION

-- the thread number was never used
abbrev pub unused_thread_test : World → ℕ → Result Unit Status
unused_thread_test w tid = refuse_if (was_thread w tid) OBJECT_NAME_COLLISION

-- the process has fewer than 64 live threads
abbrev pub thread_count_test : World → ℕ → Result Unit Status
thread_count_test w pid = refuse_if (nat_le THREAD_LIMIT (live_count w pid)) QUOTA_EXCEEDED

-- the tests of a further thread
abbrev pub thread_test : World → ℕ → ℕ → Result Unit Status
thread_test w tid pid = do
  _ ← live_test w pid
  _ ← unused_thread_test w tid
  thread_count_test w pid

-- a live process that the process made; how many it has, of which 64 may be
abbrev pub is_live_child : World → ℕ → ProcessRow → Bool
is_live_child w pid p = passes p.maker (λ m. m == pid) && is_live w p.number

abbrev pub live_children : World → ℕ → ℕ
live_children w pid = count (is_live_child w pid) w.processes

abbrev pub child_count_test : World → ℕ → Result Unit Status
child_count_test w pid = refuse_if (nat_le CHILD_LIMIT (live_children w pid)) QUOTA_EXCEEDED

-- Calls
-- the maker's process gets a handle to what it made
abbrev pub gives_life : ThreadRow → ℕ → ObjectName → Basic
gives_life by value object = AddsHandle by.process (handle_row value object LIFE_ACCESS)

-- the birth of what a thread makes behind its next
abbrev pub second_birth : ThreadRow → Birth
second_birth by = record (next_birth by) { ordinal = by.next_ordinal + 1 }

-- The caller makes the process, with the token of its own, then its first thread, and gets a handle to each, in this order.
abbrev pub create_process_steps : ThreadRow → Token → ℕ → ℕ → ℕ → ℕ → List Basic
create_process_steps by token pid tid value second =
    Tells (Answer by.number NtCreateProcess SUCCESS (h value ∷ first_thread second ∷ []))
    ∷ DrawsOrdinal by.number
    ∷ DrawsOrdinal by.number
    ∷ AddsProcess (new_process pid (Some by.process) (next_birth by) token)
    ∷ AddsThread (new_thread tid pid (second_birth by))
    ∷ gives_life by value (process_name (next_birth by))
    ∷ gives_life by second (thread_name (second_birth by))
    ∷ []

-- the handle that is free next once the process has the first one
abbrev pub second_handle : World → ThreadRow → ℕ
second_handle w by =
    free_handle (basic w (gives_life by (free_handle w by.process) (process_name (next_birth by)))) by.process

-- with the least free handles
abbrev pub making_process : World → ThreadRow → ℕ → ℕ → List Basic
making_process w by pid tid =
    create_process_steps by (token_of w by.process) pid tid (free_handle w by.process) (second_handle w by)

-- NtCreateProcess: a number that was ever used, 64 live children, too many handles
unfoldable pub nt_create_process : World → ThreadRow → ℕ → ℕ → Result (List Basic) Status
nt_create_process w by pid tid = do
  _ ← unused_test w pid tid
  _ ← child_count_test w by.process
  _ ← handles_test w by.process 2
  Ok (making_process w by pid tid)

-- the caller makes a thread of a process, and gets a handle to it
abbrev pub create_thread_steps : ThreadRow → ℕ → ℕ → ℕ → List Basic
create_thread_steps by tid pid value =
    Tells (Answer by.number NtCreateThread SUCCESS (h value ∷ []))
    ∷ DrawsOrdinal by.number
    ∷ AddsThread (new_thread tid pid (next_birth by))
    ∷ gives_life by value (thread_name (next_birth by))
    ∷ []

-- with the least free handle
abbrev pub making_thread : World → ThreadRow → ℕ → ℕ → List Basic
making_thread w by tid pid = create_thread_steps by tid pid (free_handle w by.process)

-- NtCreateThread: the handle, a process that has ended, a thread number that was ever used, 64 live threads, too many
-- handles
unfoldable pub nt_create_thread : World → ThreadRow → ProcArg → ℕ → Result (List Basic) Status
nt_create_thread w by target tid = do
  pid ← process_target w by target
  _ ← thread_test w tid pid
  _ ← handles_test w by.process 1
  Ok (making_thread w by tid pid)
