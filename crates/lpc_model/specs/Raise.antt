-- Exceptions: the chances that one has, and the calls of which it comes.
use Rattle.std.specs.Prelude.{ℕ, Bool, List, [], ◌∷◌, ◌++◌, ◌==◌, ◌||◌, not, Option, None, Some, is_some, option_and_then, option_map, Result, Ok, if◌then◌else◌}
use Rattle.byteorder.specs.Endian.{little_bytes}
use Rattle.lpc_base.specs.Rows.{first, given}
use Rattle.lpc_base.specs.declared.status.Status.{Status}
use Rattle.lpc_base.specs.declared.status.TheConstants.{INVALID_PARAMETER, PORT_ALREADY_SET, SUCCESS}
use Rattle.lpc_message.specs.declared.kind.TheConstants.{DEBUG_EVENT, EXCEPTION}
use Rattle.lpc_message.specs.declared.message.ClientId.{ClientId}
use Rattle.lpc_model.specs.declared.entry.CallName.TheVariants.{NtSetInformationProcess}
use Rattle.lpc_model.specs.declared.entry.CallName.TheVariants as call
use Rattle.lpc_model.specs.declared.entry.Entry.TheVariants.{Answer, Waits}
use Rattle.lpc_model.specs.Refusal.{refuse_if}
use Rattle.lpc_model.specs.Then.{◌>>=◌}
use Rattle.lpc_model.specs.World.{Birth, Chance, Event, FirstDebug, LastDebug, LastException, Message, PortRow, ProcessRow, Raised, ThreadRow, WaitRow, World}
use Rattle.lpc_model.specs.Message.{made}
use Rattle.lpc_model.specs.Found.{is_process, live_thread, port_row, route, wait_of}
use Rattle.lpc_model.specs.Basics.{Awaits, Basic, Dooms, DrawsIdentifier, Leaves, SetsDebug, SetsException, Steps, Tells, doing, ◌▹◌}
use Rattle.lpc_model.specs.Entering.{enter, row_of, woken}
use Rattle.lpc_model.specs.Fields.{id}
use Rattle.lpc_model.specs.Lines.{ProcArg}
use Rattle.lpc_model.specs.Targets.{process_target}
use Rattle.lpc_model.specs.Tests.{client_of, live_test, own_wait, port_test}

-- Chances
-- the port that is told of an exception at a chance, where it is set
abbrev pub event_port : Chance → ProcessRow → Option Birth
event_port chance p = elim chance [
  | LastException ↦ p.exception_port
  | _ ↦ p.debug_port
]

abbrev pub event_port_of : World → ℕ → Chance → Option Birth
event_port_of w pid chance = option_and_then (event_port chance) (first (is_process pid) w.processes)

-- where an event is sent: the chance, the port, and the queue that it enters
pub record Hearing : Type 0 where
  pub chance : Chance
  pub port : PortRow
  pub queue : Birth

-- where the port of a chance is set and has a route
abbrev pub heard_on : World → Chance → PortRow → Option Hearing
heard_on w chance port = option_map (λ queue. record { chance = chance; port = port; queue = queue }) (route w port)

abbrev pub heard_at : World → Chance → Birth → Option Hearing
heard_at w chance b = option_and_then (heard_on w chance) (port_row w b)

abbrev pub hearing_at : World → ℕ → Chance → Option Hearing
hearing_at w pid chance = option_and_then (heard_at w chance) (event_port_of w pid chance)

-- what becomes of an exception: its frame handlers handle it, an event is sent, or nothing handles it
pub data Next : Type 0 where
  Handled : Next
  Heard : Hearing → Next
  Unhandled : Next

-- a chance is passed over where it has no port
abbrev pub heard_or : Option Hearing → Next → Next
heard_or (Some h) later = Heard h
heard_or None later = later

-- the chances in order, from each on
abbrev pub from_exception : World → ℕ → Next
from_exception w pid = heard_or (hearing_at w pid LastException) Unhandled

abbrev pub from_last : World → ℕ → Next
from_last w pid = heard_or (hearing_at w pid LastDebug) (from_exception w pid)

abbrev pub from_frames : World → ℕ → Bool → Next
from_frames w pid handled = if handled then Handled else from_last w pid

abbrev pub from_first : World → ℕ → Bool → Next
from_first w pid handled = heard_or (hearing_at w pid FirstDebug) (from_frames w pid handled)

-- what comes behind a chance
abbrev pub behind_chance : World → ℕ → Bool → Chance → Next
behind_chance w pid handled FirstDebug = from_frames w pid handled
behind_chance w pid handled LastDebug = from_exception w pid
behind_chance w pid handled LastException = Unhandled

-- Events
-- the type of an event, and its data: the code, and whether it is the first chance
abbrev pub event_kind : Chance → ℕ
event_kind chance = elim chance [
  | LastException ↦ EXCEPTION
  | _ ↦ DEBUG_EVENT
]

abbrev pub chance_number : Chance → ℕ
chance_number chance = elim chance [
  | FirstDebug ↦ 1
  | _ ↦ 2
]

abbrev pub event_message : ClientId → ℕ → ℕ → Chance → Message
event_message client identifier code chance =
    made (event_kind chance) client identifier (little_bytes 4 code ++ little_bytes 4 (chance_number chance))

abbrev pub raised : ℕ → Bool → Chance → Raised
raised code handled chance = record { code = code; handled = handled; chance = chance }

-- the wait for what is made of an event
abbrev pub event_wait : ThreadRow → ℕ → Bool → Hearing → WaitRow
event_wait t code handled h =
    own_wait t call.Raise (Event (raised code handled h.chance)) h.port.birth h.queue t.next_identifier

-- a thread's event is sent as a request: the thread draws its identifier, and waits
abbrev pub event_begun : ThreadRow → ℕ → Bool → Hearing → List Basic
event_begun t code handled h = DrawsIdentifier t.number ∷ Awaits (event_wait t code handled h) ∷ []

abbrev pub send_event : ThreadRow → ℕ → Bool → Hearing → Steps
send_event t code handled h =
    doing (event_begun t code handled h)
    ▹ enter (row_of h.queue h.port (event_message (client_of t) t.next_identifier code h.chance))

-- Raising
abbrev pub raise_told : ThreadRow → Basic
raise_told by = Tells (Waits by.number call.Raise (id by.next_identifier ∷ []))

abbrev pub raise_steps : ThreadRow → ℕ → Bool → Next → Steps
raise_steps by code handled Handled = doing (Tells (Answer by.number call.Raise SUCCESS []) ∷ [])
raise_steps by code handled (Heard h) =
    doing (raise_told by ∷ []) ▹ send_event by code handled h
raise_steps by code handled Unhandled = doing (Dooms by.process code ∷ [])

-- raise: no refusal
unfoldable pub raise_exception : World → ThreadRow → ℕ → Bool → Result (List Basic) Status
raise_exception w by code handled = Ok (raise_steps by code handled (from_first w by.process handled) w)

-- Going on
-- the exception of a thread that waits for what is made of its event
abbrev pub raised_in : WaitRow → Option Raised
raised_in x = elim x.kind [
  | Event r ↦ Some r
  | _ ↦ None
]

-- Its wait ends. It is told where the frame handlers handle the exception; else its event is sent at a later chance, or its
-- process is to end, and it waits no more.
abbrev pub goes_on : ThreadRow → WaitRow → Raised → Next → Steps
goes_on t x r Handled = doing (woken SUCCESS [] x ∷ [])
goes_on t x r (Heard h) = doing (Leaves x.thread ∷ []) ▹ send_event t r.code r.handled h
goes_on t x r Unhandled = doing (Leaves x.thread ∷ Dooms x.process r.code ∷ [])

abbrev pub going_on : World → ThreadRow → WaitRow → Raised → List Basic
going_on w t x r = goes_on t x r (behind_chance w x.process r.handled r.chance) w

unfoldable pub go_on : ℕ → Steps
go_on tid w =
    given (live_thread w tid) (λ t. given (wait_of w tid) (λ x. given (raised_in x) (going_on w t x)))

-- NtSetInformationProcess
-- the classes of the debug port and of the exception port
abbrev pub DEBUG_CLASS : ℕ
DEBUG_CLASS = 7

abbrev pub EXCEPTION_CLASS : ℕ
EXCEPTION_CLASS = 8

abbrev pub class_test : ℕ → Result Unit Status
class_test class = refuse_if (not ((class == DEBUG_CLASS) || (class == EXCEPTION_CLASS))) INVALID_PARAMETER

-- the chance at whose port a class is
abbrev pub class_chance : ℕ → Chance
class_chance class = if class == DEBUG_CLASS then FirstDebug else LastException

abbrev pub unset_test : World → ℕ → ℕ → Result Unit Status
unset_test w pid class = refuse_if (is_some (event_port_of w pid (class_chance class))) PORT_ALREADY_SET

abbrev pub sets_port : ℕ → ℕ → Birth → Basic
sets_port class pid b = if class == DEBUG_CLASS then SetsDebug pid b else SetsException pid b

abbrev pub set_told : ThreadRow → Basic
set_told by = Tells (Answer by.number NtSetInformationProcess SUCCESS [])

abbrev pub set_port_steps : ThreadRow → ℕ → ℕ → Birth → List Basic
set_port_steps by class pid b = set_told by ∷ sets_port class pid b ∷ []

-- the handle of the process, the handle of the port, a process that has ended, another class, a port that is set
unfoldable pub nt_set_information_process : World → ThreadRow → ProcArg → ℕ → ℕ → Result (List Basic) Status
nt_set_information_process w by target class handle = do
  pid ← process_target w by target
  port ← port_test w by handle
  _ ← live_test w pid
  _ ← class_test class
  _ ← unset_test w pid class
  Ok (set_port_steps by class pid port.birth)
