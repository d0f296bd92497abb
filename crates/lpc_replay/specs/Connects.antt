-- A connect returns only by its answer, the completion of its connection or the refusal that names it, or by a closing:
-- that of a handle, or those that the end of a process brings, by a call or as the world settles.
use Rattle.std.specs.Prelude.{◌≡◌, ◌⊎◌, ℕ, ◌==◌, ◌&&◌, ◌||◌, Bool, true, false, not, Contains, List, [], ◌∷◌, Some, Ok}
use Rattle.std.specs.List.{AllByRecursion}
use Rattle.lpc_base.specs.Rows.{every, has}
use Rattle.lpc_base.specs.declared.birth.Birth.{Birth}
use Rattle.lpc_base.specs.declared.status.Status.{Status}
use Rattle.lpc_base.specs.declared.status.TheConstants.{PORT_CONNECTION_REFUSED, SUCCESS}
use Rattle.lpc_model.specs.declared.entry.CallName.TheVariants.{NtConnectPort}
use Rattle.lpc_model.specs.declared.entry.Entry.{Entry}
use Rattle.lpc_model.specs.declared.entry.Entry.TheVariants.{Answer, Wakes}
use Rattle.lpc_model.specs.declared.entry.Field.{Field}
use Rattle.lpc_model.specs.declared.line.ProcArg.{ProcArg}
use Rattle.lpc_model.specs.World.{HandleRow, ProcessRow, ThreadRow, WaitRow, World}
use Rattle.lpc_model.specs.Basics.{DropsHandle, basic, world_after}
use Rattle.lpc_model.specs.Found.{free_handle, has_handle_to, is_open, is_table, is_thread, live_thread, lives_in}
use Rattle.lpc_model.specs.Fields.{completion_fields, info}
use Rattle.lpc_model.specs.Lines.{ScriptCall, ScriptLine, accept_connect_port, close, complete_connect_port, run, terminate_process, terminate_thread}
use Rattle.lpc_model.specs.Close.{is_accepted_across, is_offered_to}
use Rattle.lpc_model.specs.Closings.{shuts}
use Rattle.lpc_model.specs.Tests.{own_handle}
use Rattle.lpc_model.specs.Connect.{Completable, ConnectAnswer, acceptance_of, answer_test, complete_test}
use Rattle.lpc_model.specs.Targets.{process_target, thread_target}
use Rattle.lpc_model.specs.Machine.{own_steps, step}
use Rattle.lpc_model.specs.Settle.{doomed_processes, least, turns}

-- A completion wakes the thread: the call's handle names a server port that can be completed, on whose other end the
-- thread's accepted connect waits. The thread is told its handle, the least that is free in its process, the most bytes
-- of a message, and what its acceptance has: the bytes of the answer that accepted it; where its own view lies in the
-- server's process, if it offered one; and where the server's view lies in its process, and that view's size, if the
-- server offered one.
pub record IsCompletedBy (w : World) (by handle tid : ℕ) (status : Status) (fields : List Field) : Type 0 where
  pub caller : ThreadRow
  pub found : Completable
  pub calls : live_thread w by ≡ Some caller
  pub completable : complete_test w caller handle ≡ Ok found
  pub its_wait : found.wait.thread ≡ tid
  pub succeeds : status ≡ SUCCESS
  pub shows : fields ≡ completion_fields (free_handle w found.wait.process) (acceptance_of found.wait)

-- A refusal wakes the thread: the call's message names the thread's connect, which was received and isn't accepted, to
-- a connection port that the caller's process reaches. The thread is told the message's data.
pub record IsRefusedBy (w : World) (by : ℕ) (bytes : List ℕ) (tid : ℕ) (status : Status) (fields : List Field) : Type 0 where
  pub caller : ThreadRow
  pub found : ConnectAnswer
  pub calls : live_thread w by ≡ Some caller
  pub names : answer_test w caller bytes ≡ Ok found
  pub its_wait : found.wait.thread ≡ tid
  pub refuses : status ≡ PORT_CONNECTION_REFUSED
  pub shows : fields ≡ info found.message.body ∷ []

-- A closing wakes the thread: the call's handle is the last one of a port, which is open before that handle goes, and
-- isn't behind it. The thread's connect isn't accepted and is to that port, or it is accepted and its connection isn't
-- completed, and the port is an end of it. The thread is told no data.
pub record IsClosedBy (w : World) (by handle tid : ℕ) (status : Status) (fields : List Field) : Type 0 where
  pub caller : ThreadRow
  pub row : HandleRow
  pub wait : WaitRow
  pub calls : live_thread w by ≡ Some caller
  pub names : own_handle w caller handle ≡ Ok row
  pub last : shuts w (basic w (DropsHandle caller.process row.value)) row ≡ true
  pub waits : Contains w.waits wait
  pub ends : (is_offered_to row.object.birth wait || is_accepted_across row.object.birth w wait) ≡ true
  pub its_wait : wait.thread ≡ tid
  pub refuses : status ≡ PORT_CONNECTION_REFUSED
  pub shows : fields ≡ info [] ∷ []

-- The end of a process
-- another thread that lives in the thread's process
abbrev pub lives_beside : ThreadRow → ThreadRow → Bool
lives_beside t u = lives_in t.process u && not (is_thread t.number u)

-- the thread that a call is to end is the last one of the process that lives
pub record EndsLastThread (w : World) (by : ThreadRow) (target : ProcArg) (pid : ℕ) : Type 0 where
  pub thread : ThreadRow
  pub names : thread_target w by target ≡ Ok thread
  pub its_process : thread.process ≡ pid
  pub last : has (lives_beside thread) w.threads ≡ false

-- a call ends the process, with all of its threads or with the last one
abbrev pub EndsProcess : World → ThreadRow → ScriptCall → ℕ → Type 0
EndsProcess w by (terminate_thread target code) pid = EndsLastThread w by target pid
EndsProcess w by (terminate_process target code) pid = process_target w by target ≡ Ok pid
EndsProcess w by call pid = ⊥

-- no other process has a handle to the port
abbrev pub is_only_with : World → ℕ → Birth → Bool
is_only_with w pid b = every (λ t. is_table pid t || not (has_handle_to b t)) w.handles

-- The end of a process wakes the thread, which is of another one: the call ends the process, which alone has handles to
-- an open port. The thread's connect isn't accepted and is to that port, or it is accepted and its connection isn't
-- completed, and the port is an end of it. The thread is told no data. A connect of the process itself ends with its
-- thread instead, and has no answer.
pub record IsEndedBy (w : World) (by : ℕ) (call : ScriptCall) (tid : ℕ) (status : Status) (fields : List Field) : Type 0 where
  pub caller : ThreadRow
  pub process : ℕ
  pub port : Birth
  pub wait : WaitRow
  pub calls : live_thread w by ≡ Some caller
  pub ends_process : EndsProcess w caller call process
  pub opens : is_open w port ≡ true
  pub alone : is_only_with w process port ≡ true
  pub waits : Contains w.waits wait
  pub ends : (is_offered_to port wait || is_accepted_across port w wait) ≡ true
  pub its_wait : wait.thread ≡ tid
  pub other : (wait.process == process) ≡ false
  pub refuses : status ≡ PORT_CONNECTION_REFUSED
  pub shows : fields ≡ info [] ∷ []

-- the call ends the thread's connect so: no other call does
abbrev pub IsAnsweredByCall : World → ScriptLine → ℕ → Status → List Field → Type 0
IsAnsweredByCall w (run by (complete_connect_port handle)) tid status fields = IsCompletedBy w by handle tid status fields
IsAnsweredByCall w (run by (accept_connect_port context bytes false view)) tid status fields =
    IsRefusedBy w by bytes tid status fields
IsAnsweredByCall w (run by (close handle)) tid status fields = IsClosedBy w by handle tid status fields
IsAnsweredByCall w (run by (terminate_thread target code)) tid status fields =
    IsEndedBy w by (terminate_thread target code) tid status fields
IsAnsweredByCall w (run by (terminate_process target code)) tid status fields =
    IsEndedBy w by (terminate_process target code) tid status fields
IsAnsweredByCall w line tid status fields = ⊥

-- Settling
-- the world that a line's directive or call leaves, and the one behind so many turns of its settling
abbrev pub own_world : World → ScriptLine → World
own_world w line = world_after w (own_steps line w)

abbrev pub turned : World → ScriptLine → ℕ → World
turned w line n = world_after (own_world w line) (turns n (own_world w line))

-- A turn of settling wakes the thread, which is of another process than the one that ends by it: no event is marked, and
-- of the processes that are to end this is the one of the least number, which alone has handles to an open port. The
-- thread's connect isn't accepted and is to that port, or it is accepted and its connection isn't completed, and the port
-- is an end of it. The thread is told no data.
pub record IsEndedByTurn (w : World) (line : ScriptLine) (tid : ℕ) (status : Status) (fields : List Field) : Type 0 where
  pub before : ℕ
  pub process : ProcessRow
  pub port : Birth
  pub wait : WaitRow
  pub unmarked : (turned w line before).marks ≡ []
  pub ends_process : least (doomed_processes (turned w line before)) ≡ Some process
  pub opens : is_open (turned w line before) port ≡ true
  pub alone : is_only_with (turned w line before) process.number port ≡ true
  pub waits : Contains (turned w line before).waits wait
  pub ends : (is_offered_to port wait || is_accepted_across port (turned w line before) wait) ≡ true
  pub its_wait : wait.thread ≡ tid
  pub other : (wait.process == process.number) ≡ false
  pub refuses : status ≡ PORT_CONNECTION_REFUSED
  pub shows : fields ≡ info [] ∷ []

-- the line ends the thread's connect so, by its call or as the world settles
abbrev pub IsAnsweredBy : World → ScriptLine → ℕ → Status → List Field → Type 0
IsAnsweredBy w line tid status fields =
    IsAnsweredByCall w line tid status fields ⊎ IsEndedByTurn w line tid status fields

-- a connect that wakes is answered so by its line; its own call answers no success
abbrev pub HasAnswer : World → ScriptLine → Entry → Type 0
HasAnswer w line (Wakes tid NtConnectPort status fields) = IsAnsweredBy w line tid status fields
HasAnswer w line (Answer tid NtConnectPort status fields) = not (status.0 == SUCCESS.0) ≡ true
HasAnswer w line entry = Unit {0}

-- each connect that returns in a line's step, unless its own call is refused, is answered by that line
abbrev pub ConnectsReturnByAnswer : World → ScriptLine → Type 0
ConnectsReturnByAnswer w line = AllByRecursion (HasAnswer w line) (step w line).entries
