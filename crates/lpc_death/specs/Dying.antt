-- How the threads of a process end, and what is told of those that have ended.
use Rattle.std.specs.Prelude.{ℕ, ◌+◌, [], ◌∷◌, length, None, Option, Some, if◌then◌else◌, option_and_then}
use Rattle.lpc_base.specs.declared.birth.Birth.{Birth}
use Rattle.lpc_base.specs.declared.status.Status.{Status}
use Rattle.lpc_base.specs.Rows.{count, given}
use Rattle.lpc_model.specs.Basics.{Steps, Unregisters, doing, in_turn, ◌▹◌}
use Rattle.lpc_model.specs.Death.{die, end_message, end_post}
use Rattle.lpc_model.specs.Entering.{enter}
use Rattle.lpc_model.specs.Found.{is_offered, live_threads, wait_of}
use Rattle.lpc_model.specs.declared.message.Message.{Message}
use Rattle.lpc_model.specs.World.{MessageRow, WaitRow, World}
use Rattle.lpc_rows.specs.Kept.{is_alive}
use Rattle.lpc_rows.specs.Registered.{Death, untold_of}

-- the live threads of a process end, in the order in which they were made
abbrev pub dying_all : Status → ℕ → Steps
dying_all code pid w = in_turn (die code) (live_threads w pid) w

-- the client port of a thread's connect that isn't accepted
abbrev pub offered_port_in : WaitRow → Option Birth
offered_port_in x = if is_offered x then Some x.port else None

abbrev pub offered_port : World → ℕ → Option Birth
offered_port w tid = option_and_then offered_port_in (wait_of w tid)

-- a port is told of a thread that has ended
abbrev pub untold_message : Death → Message
untold_message u = end_message u.client u.birth

abbrev pub told_row : World → Death → Option MessageRow
told_row w u = end_post w u.port (untold_message u)

abbrev pub telling_one : Death → Steps
telling_one u = doing (Unregisters u.client.thread u.port ∷ []) ▹ (λ w. given (told_row w u) (λ m. enter m w))

-- all that isn't told yet of a process's threads is told
abbrev pub telling_all : ℕ → Steps
telling_all pid w = in_turn telling_one (untold_of w pid) w

-- there is room for an entry of each live thread and of each wait
abbrev pub ending_entries : World → ℕ
ending_entries w = count is_alive w.threads + length w.waits
