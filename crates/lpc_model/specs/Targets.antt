-- What a call on a process or a thread is of: the caller's own, or what a handle names.
use Rattle.std.specs.Prelude.{ℕ, Result, Ok}
use Rattle.lpc_base.specs.Rows.{first}
use Rattle.lpc_base.specs.declared.status.Status.{Status}
use Rattle.lpc_base.specs.declared.status.TheConstants.{INVALID_HANDLE}
use Rattle.lpc_model.specs.declared.entry.ObjectKind.TheVariants as kind
use Rattle.lpc_model.specs.declared.line.ProcArg.TheVariants.{By, Current}
use Rattle.lpc_model.specs.Refusal.{found_or}
use Rattle.lpc_model.specs.Then.{◌>>=◌}
use Rattle.lpc_model.specs.World.{ThreadRow, World}
use Rattle.lpc_model.specs.Found.{is_born_process, is_born_thread}
use Rattle.lpc_model.specs.Tests.{object_test}
use Rattle.lpc_model.specs.Lines.{ProcArg}

-- the rights of a handle that a call makes to a process or a thread, and the right that the calls on one want
abbrev pub LIFE_ACCESS : ℕ
LIFE_ACCESS = 1

abbrev pub LIFE_RIGHT : ℕ
LIFE_RIGHT = 1

-- the caller, or the thread that a handle names; a handle's object stands, so its row is found
abbrev pub thread_target : World → ThreadRow → ProcArg → Result ThreadRow Status
thread_target w by Current = Ok by
thread_target w by (By handle) = do
  birth ← object_test w by kind.Thread LIFE_RIGHT handle
  found_or (first (is_born_thread birth) w.threads) INVALID_HANDLE

-- the caller's process, or the one that a handle names
abbrev pub process_target : World → ThreadRow → ProcArg → Result ℕ Status
process_target w by Current = Ok by.process
process_target w by (By handle) = do
  birth ← object_test w by kind.Process LIFE_RIGHT handle
  p ← found_or (first (is_born_process birth) w.processes) INVALID_HANDLE
  Ok p.number
