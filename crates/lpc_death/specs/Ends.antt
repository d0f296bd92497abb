-- Threads of a process end, and the process with its last one: what is to end, what that needs of the world, and what it does
-- once they died.
use Rattle.std.specs.Prelude.{ℕ, not, Bool, List, [], ◌∷◌, Result, Ok, if◌then◌else◌}
use Rattle.lpc_base.specs.Rows.{given, when}
use Rattle.lpc_model.specs.declared.entry.CallName.{CallName}
use Rattle.lpc_model.specs.declared.entry.Entry.{Entry}
use Rattle.lpc_model.specs.declared.entry.Entry.TheVariants.{Answer}
use Rattle.lpc_model.specs.declared.entry.Outcome.{Outcome}
use Rattle.lpc_model.specs.declared.entry.Outcome.TheVariants.{Answered, Gone}
use Rattle.lpc_base.specs.declared.status.Status.{Status}
use Rattle.lpc_base.specs.declared.status.TheConstants.{INVALID_CID, SUCCESS}
use Rattle.lpc_model.specs.declared.line.ProcArg.{ProcArg}
use Rattle.lpc_model.specs.Refusal.{refuse_if}
use Rattle.lpc_model.specs.Targets.{process_target, thread_target}
use Rattle.lpc_model.specs.Tests.{live_test}
use Rattle.lpc_model.specs.Then.{◌>>=◌}
use Rattle.lpc_model.specs.Basics.{Steps, provided, ◌▹◌}
use Rattle.lpc_model.specs.Deaths.{HasLivingRegistrations, HasSingleRegistrations}
use Rattle.lpc_model.specs.Found.{is_live}
use Rattle.lpc_model.specs.World.{ThreadRow, World}
use Rattle.lpc_closing.specs.Closing.{CanCloseAll}
use Rattle.lpc_death.specs.Dying.{telling_all}
use Rattle.lpc_model.specs.Death.{end_process}
use Rattle.lpc_model.specs.Lawful.{HasThreadsOnce}
use Rattle.lpc_model.specs.Settle.{doomed_processes, end_doomed, least}

-- threads can end: besides what the closing of all handles needs, no two threads have one number, live threads alone have
-- registrations, and a thread has a port registered once
pub record CanEnd (w : World) : Type 0 where
  pub close : CanCloseAll w
  pub threads : HasThreadsOnce w
  pub registrations : HasLivingRegistrations w
  pub single : HasSingleRegistrations w

-- all that isn't told yet of the threads of a process is told, and the process ends if none of them lives
abbrev pub telling_ends : ℕ → Steps
telling_ends pid = telling_all pid ▹ provided (λ w. not (is_live w pid)) (end_process pid)

-- the doomed process of the least number ends; nothing does where none is doomed
abbrev pub doomed_turn : Steps
doomed_turn w = given (least (doomed_processes w)) (λ p. end_doomed p w)

-- the live thread that a call is to end, and the live process
abbrev pub living_thread : World → ThreadRow → ProcArg → Result ThreadRow Status
living_thread w by target = do
  t ← thread_target w by target
  _ ← refuse_if (not t.live) INVALID_CID
  Ok t

abbrev pub living_process : World → ThreadRow → ProcArg → Result ℕ Status
living_process w by target = do
  pid ← process_target w by target
  _ ← live_test w pid
  Ok pid

-- how a call ends for its thread that ends its own thread, or another; the entries before those of the ends
abbrev pub ended_outcome : Bool → Outcome
ended_outcome own = if own then Gone else Answered SUCCESS

abbrev pub told_unless : Bool → ℕ → CallName → List Entry
told_unless own tid call = when (not own) (Answer tid call SUCCESS [] ∷ [])
