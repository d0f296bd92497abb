-- The blocks and chains that the ports lend: which messages blocks hold, and which of them a port's chains stand for.
use Rattle.std.specs.Prelude.{Bool, List}
use Rattle.lpc_base.specs.Rows.{which}
use Rattle.lpc_slots.specs.declared.Key.{Key}
use Rattle.lpc_slots.specs.declared.chain.Links.{Links}
use Rattle.lpc_slots.specs.declared.chain.Chain.{Chain}
use Rattle.lpc_slots.specs.Chain.{StandsFor}
use Rattle.lpc_slots.specs.Table.{Table, is_key, keys_of, listed, parts}
use Rattle.lpc_ports.specs.declared.messages.Block.{Block}
use Rattle.lpc_ports.specs.Table.{QueuedMessage}

-- what a block holds but its links, and its links on each chain
abbrev pub queued_of : Block → QueuedMessage
queued_of block = record { queue = block.queue; message = block.message }

abbrev pub in_queue_of : Block → Links
in_queue_of block = block.in_queue

abbrev pub of_sender_of : Block → Links
of_sender_of block = block.of_sender

-- the messages that blocks hold, in the order of making
abbrev pub messages_of : Table Block → List (Key × QueuedMessage)
messages_of blocks = parts queued_of (listed blocks)

-- the port in whose queue a message stands, and the one on which it was sent
abbrev pub queue_of : QueuedMessage → Key
queue_of row = row.queue

abbrev pub sender_of : QueuedMessage → Key
sender_of row = row.message.sender

-- a message is this port's
abbrev pub is_by : (QueuedMessage → Key) → Key → Key × QueuedMessage → Bool
is_by owner port row = is_key (owner row.1) port

-- the keys of a port's messages, in order
abbrev pub keys_by : (QueuedMessage → Key) → Key → List (Key × QueuedMessage) → List Key
keys_by owner port messages = keys_of (which (is_by owner port) messages)

-- a chain stands for the messages in a port's queue, and for those that were sent on it
abbrev pub IsQueue : Table Block → Chain 0 → Key → List (Key × QueuedMessage) → Type 0
IsQueue blocks chain port messages = StandsFor in_queue_of blocks chain (keys_by queue_of port messages)

abbrev pub IsSent : Table Block → Chain 1 → Key → List (Key × QueuedMessage) → Type 0
IsSent blocks chain port messages = StandsFor of_sender_of blocks chain (keys_by sender_of port messages)
