-- Endings: threads end, and a process with its last one.
use Rattle.std.specs.Prelude.{ℕ, Bool, List, [], ◌∷◌, ◌==◌, not, Option, None, Some, option_and_then, option_map, Result, Ok}
use Rattle.lpc_base.specs.Rows.{given, when}
use Rattle.lpc_base.specs.declared.status.Status.{Status}
use Rattle.lpc_base.specs.declared.status.TheConstants.{INVALID_CID, SUCCESS}
use Rattle.lpc_message.specs.declared.kind.TheConstants.{CLIENT_DIED}
use Rattle.lpc_message.specs.declared.message.ClientId.{ClientId}
use Rattle.lpc_model.specs.declared.entry.CallName.{CallName}
use Rattle.lpc_model.specs.declared.entry.CallName.TheVariants.{NtTerminateProcess, NtTerminateThread}
use Rattle.lpc_model.specs.declared.entry.Entry.TheVariants.{Answer}
use Rattle.lpc_model.specs.Refusal.{refuse_if}
use Rattle.lpc_model.specs.Then.{◌>>=◌}
use Rattle.lpc_model.specs.World.{Birth, Message, MessageRow, ThreadRow, WaitRow, World}
use Rattle.lpc_model.specs.Message.{made}
use Rattle.lpc_model.specs.Found.{handles_of, is_accepted, is_connect, is_live, live_threads, port_row, route, wait_of}
use Rattle.lpc_model.specs.Basics.{Basic, Dies, DropsOwned, DropsViewsOf, Steps, Tells, Unregisters, Withdraws, doing, in_turn, provided, ◌▹◌, LetsGo}
use Rattle.lpc_model.specs.Entering.{enter, row_of}
use Rattle.lpc_model.specs.Targets.{process_target, thread_target}
use Rattle.lpc_model.specs.Tests.{client_of, live_test}
use Rattle.lpc_model.specs.Close.{birth_bytes, close_handle, cut_pair}
use Rattle.lpc_model.specs.Lines.{ProcArg}

-- Ending threads
-- the client port of a connect whose thread ends is cut off from its other end, where the connect was accepted, and its
-- views go
abbrev pub end_client : Option WaitRow → Steps
end_client None = doing []
end_client (Some x) =
    provided (λ w. is_accepted x) (cut_pair x.port) ▹ provided (λ w. is_connect x) (doing (DropsOwned x.port ∷ []))

-- 1: a thread ends with its wait, by its number; its own message leaves its queue, where it still stands there
abbrev pub dying : Status → ℕ → Steps
dying code tid w = (doing (Dies tid code ∷ Withdraws tid ∷ []) ▹ end_client (wait_of w tid)) w

abbrev pub die : Status → ThreadRow → Steps
die code t = dying code t.number

-- 2: that a thread has ended is posted on each port that it registered, where that is open and has a way: a message in
-- the thread's name, whose data name it by its birth
abbrev pub end_message : ClientId → Birth → Message
end_message client birth = made CLIENT_DIED client 0 (birth_bytes birth)

abbrev pub end_post : World → Birth → Message → Option MessageRow
end_post w port m = option_and_then (λ p. option_map (λ queue. row_of queue p m) (route w p)) (port_row w port)

abbrev pub died_message : ThreadRow → Message
died_message t = end_message (client_of t) t.birth

abbrev pub death_post : World → ThreadRow → Birth → Option MessageRow
death_post w t port = end_post w port (died_message t)

-- the registration goes, and then the message enters
abbrev pub post_death : ThreadRow → Birth → Steps
post_death t b =
    doing (Unregisters t.number b ∷ []) ▹ (λ w. given (death_post w t b) (λ m. enter m w))

abbrev pub post_deaths : ThreadRow → Steps
post_deaths t = in_turn (post_death t) t.registrations

-- Ending a process
-- its handles are closed by rising value, in the world that its threads left
abbrev pub close_handles : ℕ → Steps
close_handles pid w = in_turn (close_handle pid) (handles_of w pid) w

-- its debug and exception ports are let go, then its handles are closed, and then its views go
abbrev pub end_process : ℕ → Steps
end_process pid = doing (LetsGo pid ∷ []) ▹ close_handles pid ▹ doing (DropsViewsOf pid ∷ [])

-- threads of a process end: all of them with their waits, then they are told of, and then the process ends with its
-- last one
unfoldable pub end_threads : ℕ → Status → List ThreadRow → Steps
end_threads pid code threads =
    in_turn (die code) threads
    ▹ in_turn post_deaths threads
    ▹ provided (λ w. not (is_live w pid)) (end_process pid)

-- The calls
-- a call that ends its own thread has no answer
abbrev pub answer_unless : Bool → ThreadRow → CallName → List Basic
answer_unless ends by call = when (not ends) (Tells (Answer by.number call SUCCESS []) ∷ [])

-- the status with which what a call names is to end
abbrev pub code_status : ℕ → Status
code_status code = record { 0 = code }

-- NtTerminateThread: the handle, a thread that has ended
abbrev pub terminate_thread_steps : ThreadRow → Status → ThreadRow → Steps
terminate_thread_steps by code t =
    doing (answer_unless (t.number == by.number) by NtTerminateThread) ▹ end_threads t.process code (t ∷ [])

unfoldable pub nt_terminate_thread : World → ThreadRow → ProcArg → ℕ → Result (List Basic) Status
nt_terminate_thread w by target code = do
  t ← thread_target w by target
  _ ← refuse_if (not t.live) INVALID_CID
  Ok (terminate_thread_steps by (code_status code) t w)

-- NtTerminateProcess: the handle, a process that has ended
abbrev pub terminate_process_steps : World → ThreadRow → Status → ℕ → Steps
terminate_process_steps w by code pid =
    doing (answer_unless (pid == by.process) by NtTerminateProcess) ▹ end_threads pid code (live_threads w pid)

unfoldable pub nt_terminate_process : World → ThreadRow → ProcArg → ℕ → Result (List Basic) Status
nt_terminate_process w by target code = do
  pid ← process_target w by target
  _ ← live_test w pid
  Ok (terminate_process_steps w by (code_status code) pid w)
