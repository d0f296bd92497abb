-- Closing: a handle goes, and a port is closed with its last one.
use Rattle.std.specs.Prelude.{ℕ, Bool, List, [], ◌∷◌, ◌++◌, ◌&&◌, ◌||◌, ◌==◌, not, Option, None, option_and_then, option_map, Result, Ok, if◌then◌else◌}
use Rattle.byteorder.specs.Endian.{little_bytes}
use Rattle.lpc_base.specs.Rows.{given, passes}
use Rattle.lpc_base.specs.declared.status.Status.{Status}
use Rattle.lpc_base.specs.declared.status.TheConstants.{LPC_REPLY_LOST, PORT_DISCONNECTED, SUCCESS}
use Rattle.lpc_message.specs.declared.kind.TheConstants.{PORT_CLOSED}
use Rattle.lpc_model.specs.declared.entry.CallName.TheVariants.{NtClose}
use Rattle.lpc_model.specs.declared.entry.Entry.TheVariants.{Answer}
use Rattle.lpc_model.specs.declared.entry.ObjectKind.TheVariants as kind
use Rattle.lpc_model.specs.Then.{◌>>=◌}
use Rattle.lpc_model.specs.World.{Birth, Creator, HandleRow, Message, MessageRow, PortRow, ThreadRow, WaitRow, World}
use Rattle.lpc_model.specs.Message.{made}
use Rattle.lpc_model.specs.Found.{handle_count, if_open, is_accepted, is_client_port, is_listen, is_made_on, is_offered, is_receive, is_request, is_the, pair_of, port_row, same_birth, same_kind, is_event, is_marked}
use Rattle.lpc_model.specs.Basics.{Basic, Cuts, DropsHandle, DropsOwned, Empties, Steps, Tells, Unbinds, Withdraws, doing, end_each, provided, ◌▹◌, Marks}
use Rattle.lpc_model.specs.Entering.{end_connect, enter, woken}
use Rattle.lpc_model.specs.Tests.{own_handle}

-- How waits end
-- a wait for a message ends, and an accepted connect, whose connection request was received; with a connect the views of
-- its client port go
abbrev pub wake : Status → WaitRow → List Basic
wake status x = woken status [] x ∷ []

abbrev pub end_accepted : WaitRow → List Basic
end_accepted x = end_connect [] x ∷ DropsOwned x.port ∷ []

-- a request ends, and a connect that isn't accepted: its message leaves its queue, where it still stands there.
abbrev pub end_request : Status → WaitRow → List Basic
end_request status x = woken status [] x ∷ Withdraws x.thread ∷ []

abbrev pub end_offered : WaitRow → List Basic
end_offered x = end_connect [] x ∷ Withdraws x.thread ∷ DropsOwned x.port ∷ []

-- an event is marked as not handled: its message leaves its queue, where it still stands there
abbrev pub mark_event : WaitRow → List Basic
mark_event x = Marks x.thread ∷ Withdraws x.thread ∷ []

-- Closing a port
-- 1: its name goes
abbrev pub drop_name : Birth → Steps
drop_name b = doing (Unbinds b ∷ [])

-- 2: receives and listens that were made on it, or wait on its queue, end
abbrev pub is_receiver : Birth → WaitRow → Bool
is_receiver b x = (is_receive x || is_listen x) && (is_made_on b x || same_birth x.queue b)

abbrev pub end_receives : Birth → Steps
end_receives b = end_each (λ w. is_receiver b) (wake PORT_DISCONNECTED)

-- 3: requests that were sent on it end
abbrev pub is_request_on : Birth → WaitRow → Bool
is_request_on b x = is_request x && is_made_on b x

abbrev pub end_requests : Birth → Steps
end_requests b = end_each (λ w. is_request_on b) (end_request PORT_DISCONNECTED)

-- and events that were sent on it are marked, if they aren't yet
abbrev pub is_unmarked_event : World → WaitRow → Bool
is_unmarked_event w x = is_event x && not (is_marked w x)

abbrev pub is_event_on : Birth → World → WaitRow → Bool
is_event_on b w x = is_unmarked_event w x && is_made_on b x

abbrev pub mark_events : Birth → Steps
mark_events b = end_each (is_event_on b) mark_event

-- 4: its queue is emptied: the requests in it end, the events in it are marked, and the connects to it that aren't
-- accepted end; its other messages go
abbrev pub is_queued_request : Birth → WaitRow → Bool
is_queued_request b x = is_request x && (same_birth x.queue b && not x.received)

abbrev pub is_queued_event : Birth → World → WaitRow → Bool
is_queued_event b w x = is_unmarked_event w x && (same_birth x.queue b && not x.received)

abbrev pub is_offered_to : Birth → WaitRow → Bool
is_offered_to b x = is_offered x && same_birth x.queue b

abbrev pub empty_queue : Birth → Steps
empty_queue b =
    end_each (λ w. is_queued_request b) (end_request LPC_REPLY_LOST)
    ▹ end_each (is_queued_event b) mark_event
    ▹ end_each (λ w. is_offered_to b) end_offered
    ▹ doing (Empties b ∷ [])

-- 5: It is cut off from its other end: requests that were sent there end, events that were sent there are marked, and
-- receives that wait there end, where the other end is a client port. A connect that was accepted and isn't completed
-- ends; nothing was sent or waits on its client port.
abbrev pub is_across : World → Birth → WaitRow → Bool
is_across w b x = is_the b (pair_of w x.port)

abbrev pub is_request_across : Birth → World → WaitRow → Bool
is_request_across b w x = is_request x && is_across w b x

abbrev pub is_event_across : Birth → World → WaitRow → Bool
is_event_across b w x = is_unmarked_event w x && is_across w b x

abbrev pub is_receive_across : Birth → World → WaitRow → Bool
is_receive_across b w x = is_receive x && (is_across w b x && passes (port_row w x.port) is_client_port)

abbrev pub is_accepted_across : Birth → World → WaitRow → Bool
is_accepted_across b w x = is_accepted x && (is_made_on b x || is_across w b x)

abbrev pub cut_pair : Birth → Steps
cut_pair b =
    end_each (is_request_across b) (end_request LPC_REPLY_LOST)
    ▹ end_each (is_event_across b) mark_event
    ▹ end_each (is_receive_across b) (wake PORT_DISCONNECTED)
    ▹ end_each (is_accepted_across b) end_accepted
    ▹ doing (Cuts b ∷ [])

-- a birth, as the data of a message name it
abbrev pub birth_bytes : Birth → List ℕ
birth_bytes b = little_bytes 4 b.maker ++ little_bytes 4 b.ordinal

-- 6: that a completed client port is closed is posted to its connection port, where that is open: a message of the
-- connect that made the port, with the context of the accept, whose data name the port by its birth
abbrev pub closed_message : Creator → Birth → Message
closed_message by b =
    made PORT_CLOSED by.client by.identifier (birth_bytes b)

abbrev pub closed_row : PortRow → Birth → Creator → MessageRow
closed_row p queue by =
    record { queue = queue; sender = p.birth; context = p.context; message = closed_message by p.birth }

-- the open connection port of a completed client port
abbrev pub server_of : World → PortRow → Option Birth
server_of w p = if_open w (if is_client_port p && p.completed then p.connection else None)

abbrev pub closing_post : World → PortRow → Option MessageRow
closing_post w p = option_and_then (λ queue. option_map (closed_row p queue) p.creator) (server_of w p)

abbrev pub post_closed : Birth → Steps
post_closed b w = given (port_row w b) (λ p. given (closing_post w p) (λ m. enter m w))

-- 7: the views that it owns go
abbrev pub drop_owned : Birth → Steps
drop_owned b = doing (DropsOwned b ∷ [])

-- the seven steps, the third in two, each in the world that the one before it left
unfoldable pub close_port : Birth → Steps
close_port b =
    drop_name b
    ▹ end_receives b
    ▹ end_requests b
    ▹ mark_events b
    ▹ empty_queue b
    ▹ cut_pair b
    ▹ post_closed b
    ▹ drop_owned b

-- Closing a handle
-- it is the last one of a port
abbrev pub is_last : HandleRow → World → Bool
is_last r w = same_kind r.object.kind kind.Port && (handle_count w r.object == 1)

-- A handle goes. The last handle of a port goes behind the seven steps, which need the port open.
abbrev pub close_handle : ℕ → HandleRow → Steps
close_handle pid r = provided (is_last r) (close_port r.object.birth) ▹ doing (DropsHandle pid r.value ∷ [])

-- NtClose: no such handle
abbrev pub close_steps : ThreadRow → HandleRow → Steps
close_steps by r = doing (Tells (Answer by.number NtClose SUCCESS []) ∷ []) ▹ close_handle by.process r

unfoldable pub nt_close : World → ThreadRow → ℕ → Result (List Basic) Status
nt_close w by value = do
  r ← own_handle w by value
  Ok (close_steps by r w)
