-- Which waits end when a port is closed, by the reason for it, how they end, and what is told of the port's closing.
use Rattle.std.specs.Prelude.{◌≡◌, ℕ, Bool, false, true, List, Option, None, if◌then◌else◌}
use Rattle.lpc_base.specs.Rows.{passes}
use Rattle.lpc_base.specs.declared.status.TheConstants.{LPC_REPLY_LOST, PORT_DISCONNECTED}
use Rattle.lpc_model.specs.World.{Birth, MessageRow, WaitRow, World}
use Rattle.lpc_model.specs.Basics.{Basic, Steps, end_each}
use Rattle.lpc_model.specs.Close.{closed_message, end_accepted, end_offered, end_request, is_accepted_across, is_offered_to, is_queued_request, is_receive_across, is_receiver, is_request_across, is_request_on, server_of, closing_post, wake}
use Rattle.lpc_model.specs.Found.{is_client_port, is_connect, pair_of, port_row}
use Rattle.lpc_slots.specs.declared.Key.{Key}
use Rattle.lpc_rows.specs.Clauses.{birth_at, port_at}
use Rattle.lpc_rows.specs.Kept.{Kept, has_queued}
use Rattle.lpc_rows.specs.Ready.{waiter}
use Rattle.lpc_steps.specs.declared.closing.Closed.{Closed}
use Rattle.lpc_steps.specs.declared.ending.Ending.{Ending}
use Rattle.lpc_steps.specs.declared.ending.Ending.TheVariants.{AcceptedAcross, Offers, QueuedRequests, Receives, ReceivesAcross, Requests, RequestsAcross}

-- the wait ends for this reason when the port is closed
abbrev pub ends : Ending → Birth → World → WaitRow → Bool
ends Receives b w = is_receiver b
ends Requests b w = is_request_on b
ends QueuedRequests b w = is_queued_request b
ends Offers b w = is_offered_to b
ends RequestsAcross b w = is_request_across b w
ends ReceivesAcross b w = is_receive_across b w
ends AcceptedAcross b w = is_accepted_across b w

-- the message of such a wait leaves its queue
abbrev pub withdraws : Ending → Bool
withdraws Receives = false
withdraws Requests = true
withdraws QueuedRequests = true
withdraws Offers = true
withdraws RequestsAcross = true
withdraws ReceivesAcross = false
withdraws AcceptedAcross = false

-- such a wait is a connect
abbrev pub is_of_connects : Ending → Bool
is_of_connects Receives = false
is_of_connects Requests = false
is_of_connects QueuedRequests = false
is_of_connects Offers = true
is_of_connects RequestsAcross = false
is_of_connects ReceivesAcross = false
is_of_connects AcceptedAcross = true

-- where its message stays, no message of the thread's own stands in a queue
abbrev pub IsUnqueued : World → Ending → ℕ → Type 0
IsUnqueued w e tid = withdraws e ≡ false → has_queued w tid ≡ false

-- where such a wait is a connect, that of the thread is one
abbrev pub IsOfItsKind : World → Ending → ℕ → Type 0
IsOfItsKind w e tid = is_of_connects e ≡ true → is_connect (waiter w tid) ≡ true

-- a port's other end, where that is a client port
abbrev pub client_across : World → Birth → Option Birth
client_across w b =
    if passes (pair_of w b) (λ q. passes (port_row w q) is_client_port) then pair_of w b else None

-- the same of the port at a key
abbrev pub ends_at : Kept → Key → Ending → WaitRow → Bool
ends_at w port e = ends e (birth_at w port) w.rows

abbrev pub client_across_at : Kept → Key → Option Birth
client_across_at w port = client_across w.rows (birth_at w port)

-- how a wait ends for this reason
abbrev pub ending : Ending → WaitRow → List Basic
ending Receives = wake PORT_DISCONNECTED
ending Requests = end_request PORT_DISCONNECTED
ending QueuedRequests = end_request LPC_REPLY_LOST
ending Offers = end_offered
ending RequestsAcross = end_request LPC_REPLY_LOST
ending ReceivesAcross = wake PORT_DISCONNECTED
ending AcceptedAcross = end_accepted

-- all waits end that end for this reason, in the order of waiting
abbrev pub end_all : Ending → Birth → Steps
end_all e b = end_each (ends e b) (ending e)

-- the open connection port of a completed client port, and what is told of a port that is closed
abbrev pub server_at : Kept → Key → Option Birth
server_at w port = server_of w.rows (port_at w port)

abbrev pub told_at : Kept → Key → Option MessageRow
told_at w port = closing_post w.rows (port_at w port)

-- the message that this is told by
abbrev pub closed_row_of : Kept → Key → Closed → MessageRow
closed_row_of w port c = record {
  queue = birth_at w c.queue;
  sender = birth_at w port;
  context = c.context;
  message = closed_message (record { client = c.client; identifier = c.message_id }) c.birth;
}
