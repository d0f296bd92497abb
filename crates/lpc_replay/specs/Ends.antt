-- A thread ends only by the call that names it or its process, with the code of that call, or as its process is to end,
-- with the code that its row keeps.
use Rattle.std.specs.Prelude.{◌≡◌, ◌⊎◌, ℕ, true, Contains, [], Some, Ok}
use Rattle.std.specs.List.{AllByRecursion}
use Rattle.lpc_base.specs.declared.status.Status.{Status}
use Rattle.lpc_model.specs.declared.entry.Entry.{Entry}
use Rattle.lpc_model.specs.declared.entry.Entry.TheVariants.{Died}
use Rattle.lpc_model.specs.declared.line.ProcArg.{ProcArg}
use Rattle.lpc_model.specs.World.{ProcessRow, ThreadRow, World}
use Rattle.lpc_model.specs.Basics.{first_code}
use Rattle.lpc_model.specs.Death.{code_status}
use Rattle.lpc_model.specs.Found.{live_thread, live_threads}
use Rattle.lpc_model.specs.Lines.{ScriptLine, run, terminate_process, terminate_thread}
use Rattle.lpc_model.specs.Machine.{step}
use Rattle.lpc_model.specs.Settle.{doomed_processes, least}
use Rattle.lpc_model.specs.Targets.{process_target, thread_target}
use Rattle.lpc_replay.specs.Connects.{turned}

-- a call ends the thread, which lives and is the one that it names
pub record IsEndedAlone (w : World) (by : ℕ) (target : ProcArg) (code tid : ℕ) (status : Status) : Type 0 where
  pub caller : ThreadRow
  pub thread : ThreadRow
  pub calls : live_thread w by ≡ Some caller
  pub names : thread_target w caller target ≡ Ok thread
  pub lives : thread.live ≡ true
  pub its_number : thread.number ≡ tid
  pub its_code : status ≡ code_status code

-- a call ends the process that it names, of which the thread is a live one
pub record IsEndedWithOthers (w : World) (by : ℕ) (target : ProcArg) (code tid : ℕ) (status : Status) : Type 0 where
  pub caller : ThreadRow
  pub process : ℕ
  pub thread : ThreadRow
  pub calls : live_thread w by ≡ Some caller
  pub names : process_target w caller target ≡ Ok process
  pub lives : Contains (live_threads w process) thread
  pub its_number : thread.number ≡ tid
  pub its_code : status ≡ code_status code

-- A turn of settling ends the process of which the thread is a live one: no event is marked, and of the processes that are
-- to end it is the one of the least number. The code is the one that its row keeps.
pub record IsEndedAsDoomed (w : World) (line : ScriptLine) (tid : ℕ) (status : Status) : Type 0 where
  pub before : ℕ
  pub process : ProcessRow
  pub thread : ThreadRow
  pub unmarked : (turned w line before).marks ≡ []
  pub ends_process : least (doomed_processes (turned w line before)) ≡ Some process
  pub lives : Contains (live_threads (turned w line before) process.number) thread
  pub its_number : thread.number ≡ tid
  pub its_code : status ≡ code_status (first_code 0 process.doom)

-- the call ends the thread so: no other call does
abbrev pub IsEndedByCall : World → ScriptLine → ℕ → Status → Type 0
IsEndedByCall w (run by (terminate_thread target code)) tid status = IsEndedAlone w by target code tid status
IsEndedByCall w (run by (terminate_process target code)) tid status = IsEndedWithOthers w by target code tid status
IsEndedByCall w line tid status = ⊥

-- a thread that ends in a line's step ends so, by its call or as the world settles
abbrev pub HasEnder : World → ScriptLine → Entry → Type 0
HasEnder w line (Died tid status) = IsEndedByCall w line tid status ⊎ IsEndedAsDoomed w line tid status
HasEnder w line entry = Unit {0}

abbrev pub ThreadsEndAsNamed : World → ScriptLine → Type 0
ThreadsEndAsNamed w line = AllByRecursion (HasEnder w line) (step w line).entries
