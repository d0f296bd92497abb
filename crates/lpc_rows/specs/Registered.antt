-- The ports that are to be told of threads' ends.
use Rattle.std.specs.Prelude.{ℕ, ◌<◌, ◌==◌, ◌&&◌, Bool, List, None, Option, Some, if◌then◌else◌, length, map, not, option_and_then}
use Rattle.lpc_base.specs.declared.birth.Birth.{Birth}
use Rattle.lpc_base.specs.declared.limits.TheConstants.{REGISTRATION_LIMIT}
use Rattle.lpc_base.specs.Rows.{change, each, given, has, which}
use Rattle.lpc_model.specs.Basics.{ended}
use Rattle.lpc_model.specs.Found.{is_accepted, is_thread, same_birth, wait_of}
use Rattle.lpc_message.specs.declared.message.ClientId.{ClientId}
use Rattle.lpc_model.specs.Tests.{client_of}
use Rattle.lpc_model.specs.World.{ThreadRow, WaitRow, World}
use Rattle.lpc_rows.specs.Clauses.{thread_row}
use Rattle.lpc_rows.specs.declared.death.Death as code

-- the ports that a thread registered
abbrev pub registrations_of : World → ℕ → List Birth
registrations_of w tid = given (thread_row w tid) (λ t. t.registrations)

-- it registered this port
abbrev pub has_registered : World → ℕ → Birth → Bool
has_registered w tid b = has (same_birth b) (registrations_of w tid)

-- it may register a further one
abbrev pub HasFewRegistrations : World → ℕ → Type 0
HasFewRegistrations w tid = length (registrations_of w tid) < REGISTRATION_LIMIT

-- a thread of the process has ended
abbrev pub has_ended_in : ℕ → ThreadRow → Bool
has_ended_in pid t = (t.process == pid) && not t.live

-- what a port is to be told of a thread that has ended: which thread, and under which birth; and which port that is
pub record Death : Type 0 where
  pub client : ClientId
  pub birth : Birth
  pub port : Birth

abbrev pub death_by : ThreadRow → Birth → Death
death_by t b = record { client = client_of t; birth = t.birth; port = b }

abbrev pub death_shown : code.Death → Death
death_shown u = record { client = u.client; birth = u.birth; port = u.registered }

-- what the ports that a thread registered are to be told of it
abbrev pub deaths_of : ThreadRow → List Death
deaths_of t = map (death_by t) t.registrations

-- what isn't told yet of the threads of a process that have ended, thread by thread in the order of making, and of each in
-- the order of registration
abbrev pub untold_of : World → ℕ → List Death
untold_of w pid = each deaths_of (which (has_ended_in pid) w.threads)

-- a thread has ended
abbrev pub with_ended : World → ℕ → World
with_ended w tid = record w { threads = change (is_thread tid) ended w.threads }

-- the client port of a thread's accepted connect
abbrev pub accepted_port_in : WaitRow → Option Birth
accepted_port_in x = if is_accepted x then Some x.port else None

abbrev pub accepted_port : World → ℕ → Option Birth
accepted_port w tid = option_and_then accepted_port_in (wait_of w tid)
