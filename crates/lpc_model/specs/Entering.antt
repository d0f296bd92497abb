-- Shared steps: a wake, a message that is taken, a message that enters a queue, a connect that ends.
use Rattle.std.specs.Prelude.{ℕ, Bool, List, [], ◌∷◌, ◌++◌, ◌&&◌, ◌||◌}
use Rattle.lpc_base.specs.declared.status.Status.{Status}
use Rattle.lpc_base.specs.declared.status.TheConstants.{PORT_CONNECTION_REFUSED, SUCCESS}
use Rattle.lpc_model.specs.declared.entry.Field.{Field}
use Rattle.lpc_base.specs.Rows.{first, given, when}
use Rattle.lpc_model.specs.World.{Birth, Listen, Message, MessageRow, PortRow, WaitRow}
use Rattle.lpc_model.specs.Message.{asks, is_connection_request}
use Rattle.lpc_model.specs.Found.{context_of, is_listen, is_receive, same_birth}
use Rattle.lpc_model.specs.Basics.{Basic, Enters, Receives, Steps, Takes, TakesConnect, Wakes}
use Rattle.lpc_model.specs.Fields.{info, msg, receipt}

-- a wait ends, and its thread is told
abbrev pub woken : Status → List Field → WaitRow → Basic
woken status fields x = Wakes x.thread x.call status fields

-- a message that is taken is received, where its sender waits for an answer
abbrev pub received_steps : MessageRow → List Basic
received_steps m = when (asks m.message) (Receives m.message.header.client.thread m.queue ∷ [])

-- the oldest message of its queue is taken
abbrev pub take_steps : MessageRow → List Basic
take_steps m = Takes m.queue ∷ received_steps m

-- the oldest connection request of its queue is taken
abbrev pub take_connect_steps : MessageRow → List Basic
take_connect_steps m = TakesConnect m.queue ∷ received_steps m

-- the waiter takes what enters a queue, which is a connection request or isn't: a receive takes each message, a listen
-- connection requests alone
abbrev pub takes_from : Birth → Bool → WaitRow → Bool
takes_from q connects x = (is_receive x || (is_listen x && connects)) && same_birth x.queue q

abbrev pub takes : MessageRow → WaitRow → Bool
takes m x = takes_from m.queue (is_connection_request m.message) x

-- a waiter takes the message: a receive the oldest one, a listen the oldest connection request
abbrev pub given_steps : WaitRow → MessageRow → List Basic
given_steps x m = elim x.kind [
  | Listen ↦ take_connect_steps m
  | _ ↦ take_steps m
]

-- what a waiter is shown of the message that it takes: a listen the message alone, a receive its context too
abbrev pub shown : WaitRow → MessageRow → List Field
shown x m = elim x.kind [
  | Listen ↦ msg m.message ∷ []
  | _ ↦ receipt m
]

-- A message enters its queue. Where a thread waits there that takes it, the one that has waited longest does so at
-- once; a queue on which a thread waits holds nothing that it would take.
abbrev pub enter : MessageRow → Steps
enter m w =
    Enters m ∷ given (first (takes m) w.waits) (λ x. given_steps x m ++ woken SUCCESS (shown x m) x ∷ [])

-- a message that is sent on a port, in the queue that it enters
abbrev pub row_of : Birth → PortRow → Message → MessageRow
row_of queue port m = record { queue = queue; sender = port.birth; context = context_of port; message = m }

-- a connect ends unsuccessfully: its thread is told so, with the bytes of a refusal
abbrev pub end_connect : List ℕ → WaitRow → Basic
end_connect bytes x = woken PORT_CONNECTION_REFUSED (info bytes ∷ []) x
