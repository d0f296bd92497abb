-- What contracts see of the waits: the rows in the order of waiting.
use Rattle.std.specs.Prelude.{ℕ, ◌+◌, ◌-◌, ◌==◌, ◌&&◌, ◌||◌, ◌++◌, ◌∷◌, Bool, true, false, List, [], Option, Some, None, is_some, not, option_and_then, option_map, if◌then◌else◌}
use Rattle.arrayvec.specs.ArrayVec.{ArrayVec}
use Rattle.lpc_base.specs.Rows.{change, differ_by, first, has, passes}
use Rattle.lpc_slots.specs.Table.{is_key}
use Rattle.lpc_slots.specs.declared.Key.{Key}
use Rattle.lpc_waits.specs.declared.Accepted.{Accepted}
use Rattle.lpc_waits.specs.declared.Offer.{Offer}
use Rattle.lpc_waits.specs.declared.Raised.{Raised}
use Rattle.lpc_waits.specs.declared.Wait.{Wait}
use Rattle.lpc_waits.specs.declared.WaitKind.{WaitKind}
use Rattle.lpc_waits.specs.declared.WaitKind.TheVariants.{Connect, Event, Listen, Receive, Request}

-- a thread that waits: for what and where, the message that it sent, what its connect offers, and what it was accepted
-- with
pub record WaitingThread : Type 0 where
  pub thread : ℕ
  pub wait : Wait
  pub message : ArrayVec ℕ
  pub offer : Option Offer
  pub accepted : Option Accepted

-- the rows, how many more go in without memory, and how many were ever made
pub record WaitTable : Type 0 where
  pub rows : List WaitingThread
  pub spare : ℕ
  pub made : ℕ

-- the row of a thread
abbrev pub is_of : ℕ → WaitingThread → Bool
is_of tid row = row.thread == tid

-- the row that a thread has, if it waits
abbrev pub row_of : WaitTable → ℕ → Option WaitingThread
row_of s tid = first (is_of tid) s.rows

-- the message of a thread's wait, what its connect offers, and what it was accepted with
abbrev pub message_of : WaitTable → ℕ → Option (List ℕ)
message_of s tid = option_map (λ row. row.message.items) (row_of s tid)

abbrev pub offer_of : WaitTable → ℕ → Option (Option Offer)
offer_of s tid = option_map (λ row. row.offer) (row_of s tid)

abbrev pub accepted_of : WaitTable → ℕ → Option (Option Accepted)
accepted_of s tid = option_map (λ row. row.accepted) (row_of s tid)

-- the thread of the first row that passes
abbrev pub first_thread : (WaitingThread → Bool) → WaitTable → Option ℕ
first_thread test s = option_map (λ row. row.thread) (first test s.rows)

-- the waits, that of a thread changed
abbrev pub with_row : WaitTable → ℕ → (WaitingThread → WaitingThread) → WaitTable
with_row s tid f = record s { rows = change (is_of tid) f s.rows }

-- no two rows have one thread
abbrev pub are_apart : List WaitingThread → Bool
are_apart rows = differ_by (λ row. row.thread) rows

-- the wait is a receive
abbrev pub is_receive : WaitKind → Bool
is_receive Request = false
is_receive Receive = true
is_receive Listen = false
is_receive Connect = false
is_receive (Event raised) = false

-- the wait is a listen
abbrev pub is_listen : WaitKind → Bool
is_listen Request = false
is_listen Receive = false
is_listen Listen = true
is_listen Connect = false
is_listen (Event raised) = false

-- the wait is a request, and a connect
abbrev pub is_request : WaitKind → Bool
is_request Request = true
is_request Receive = false
is_request Listen = false
is_request Connect = false
is_request (Event raised) = false

abbrev pub is_connect : WaitKind → Bool
is_connect Request = false
is_connect Receive = false
is_connect Listen = false
is_connect Connect = true
is_connect (Event raised) = false

-- the exception of whose event the wait is
abbrev pub raised_in : WaitKind → Option Raised
raised_in Request = None
raised_in Receive = None
raised_in Listen = None
raised_in Connect = None
raised_in (Event raised) = Some raised

-- the wait is for what is made of an event
abbrev pub is_event : WaitKind → Bool
is_event Request = false
is_event Receive = false
is_event Listen = false
is_event Connect = false
is_event (Event raised) = true

-- the wait is for the reply to what was sent: to a request, or to an event, which is sent as one
abbrev pub is_asking : WaitKind → Bool
is_asking kind = is_request kind || is_event kind

-- the exception of whose event a thread waits
abbrev pub raised_by : WaitTable → ℕ → Option Raised
raised_by s tid = option_and_then (λ row. raised_in row.wait.kind) (row_of s tid)

-- a connect of a process
abbrev pub is_connect_of : ℕ → WaitingThread → Bool
is_connect_of process row = is_connect row.wait.kind && (row.wait.process == process)

-- a wait takes what comes: a receive, and a listen where listens count
abbrev pub takes : Bool → WaitKind → Bool
takes with_listens kind = is_receive kind || (with_listens && is_listen kind)

-- a wait that takes what comes into this queue
abbrev pub is_taker_on : Key → Bool → WaitingThread → Bool
is_taker_on queue with_listens row = takes with_listens row.wait.kind && is_key row.wait.queue queue

-- a wait was made on this port, or is on its queue
abbrev pub is_wait_at : Key → WaitingThread → Bool
is_wait_at port row = is_key row.wait.port port || is_key row.wait.queue port

-- a wait was made on this port
abbrev pub is_made_on : Key → WaitingThread → Bool
is_made_on port row = is_key row.wait.port port

-- a wait was made on this port, or on the other, where there is one
abbrev pub is_made_at : Key → Option Key → WaitingThread → Bool
is_made_at port other row = is_made_on port row || passes other (is_key row.wait.port)

-- a connect that was accepted
abbrev pub is_accepted : WaitingThread → Bool
is_accepted row = is_connect row.wait.kind && is_some row.accepted

-- the port of such a row, and of the row of a thread
abbrev pub accepted_port_in : WaitingThread → Option Key
accepted_port_in row = if is_accepted row then Some row.wait.port else None

abbrev pub accepted_port : WaitTable → ℕ → Option Key
accepted_port s tid = option_and_then accepted_port_in (row_of s tid)

-- a connect that was accepted, and was made on this port
abbrev pub is_accepted_on : Key → WaitingThread → Bool
is_accepted_on port row = is_accepted row && is_key row.wait.port port

-- an accepted connect that was made on this port, or on the other, where there is one
abbrev pub is_accepted_at : Key → Option Key → WaitingThread → Bool
is_accepted_at port other row = is_accepted row && is_made_at port other row

-- a receive or a listen that was made on this port, or waits on the queue that the port is
abbrev pub is_receiver_at : Key → WaitingThread → Bool
is_receiver_at port row = takes true row.wait.kind && is_wait_at port row

-- a receive that was made on this port
abbrev pub is_receive_on : Key → WaitingThread → Bool
is_receive_on port row = is_receive row.wait.kind && is_key row.wait.port port

-- a request that was made on this port
abbrev pub is_request_on : Key → WaitingThread → Bool
is_request_on port row = is_request row.wait.kind && is_key row.wait.port port

-- a request on this queue that isn't received
abbrev pub is_unreceived_request_in : Key → WaitingThread → Bool
is_unreceived_request_in queue row =
    is_request row.wait.kind && (is_key row.wait.queue queue && not row.wait.received)

-- a thread is this one of the marked ones, and is among them
abbrev pub is_mark : ℕ → ℕ → Bool
is_mark tid mark = mark == tid

abbrev pub is_marked : List ℕ → WaitingThread → Bool
is_marked marks row = has (is_mark row.thread) marks

-- an event whose thread isn't among the marked ones
abbrev pub is_unmarked_event : List ℕ → WaitingThread → Bool
is_unmarked_event marks row = is_event row.wait.kind && not (is_marked marks row)

-- such an event that was sent on this port, and one on this queue that isn't received
abbrev pub is_event_on : List ℕ → Key → WaitingThread → Bool
is_event_on marks port row = is_unmarked_event marks row && is_key row.wait.port port

abbrev pub is_unreceived_event_in : List ℕ → Key → WaitingThread → Bool
is_unreceived_event_in marks queue row =
    is_unmarked_event marks row && (is_key row.wait.queue queue && not row.wait.received)

-- a connect that isn't accepted, and one that is on this queue
abbrev pub is_offered : WaitingThread → Bool
is_offered row = is_connect row.wait.kind && not (is_some row.accepted)

abbrev pub is_offered_to : Key → WaitingThread → Bool
is_offered_to queue row = is_offered row && is_key row.wait.queue queue

-- an offer is of this section, and a connect that isn't accepted offers it
abbrev pub offers : Key → Offer → Bool
offers section offer = is_key offer.section section

abbrev pub is_offering : Key → WaitingThread → Bool
is_offering section row = is_offered row && passes row.offer (offers section)

-- a thread's wait begins, without a message, without an offer and not accepted: it takes one place of the spare room, and
-- counts as made
abbrev pub begun_row : ℕ → Wait → WaitingThread
begun_row tid wait = record { thread = tid; wait = wait; message = record { items = [] }; offer = None; accepted = None }

abbrev pub begun : WaitTable → ℕ → Wait → WaitTable
begun s tid wait = record {
  rows = s.rows ++ begun_row tid wait ∷ [];
  spare = s.spare - 1;
  made = s.made + 1;
}

-- a row whose request, event or connection request is received
abbrev pub received : WaitingThread → WaitingThread
received row = record row { wait = record row.wait { received = true } }

-- a row with these bytes as its message
abbrev pub with_message : List ℕ → WaitingThread → WaitingThread
with_message bytes row = record row { message = record { items = bytes } }

-- a row with what its connect offers, or with nothing of it
abbrev pub with_offer : Option Offer → WaitingThread → WaitingThread
with_offer offer row = record row { offer = offer }

-- a row with what its connect was accepted with, or with nothing of it
abbrev pub with_accepted : Option Accepted → WaitingThread → WaitingThread
with_accepted accepted row = record row { accepted = accepted }
