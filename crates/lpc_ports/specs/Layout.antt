-- How the two tables lay out ports and messages: each port has a chain of the messages in its queue and a chain of
-- those that were sent on it. No public clause cites this module.
use Rattle.std.specs.Prelude.{◌≡◌, ℕ, ◌≤◌, ◌<◌, ◌-◌, ◌^◌, ◌&&◌, ◌++◌, Bool, true, List, [], ◌∷◌, Some, option_map, is_some}
use Rattle.std.specs.Option.{option_map_or}
use Rattle.lpc_base.specs.Rows.{count, every, has, without}
use Rattle.lpc_slots.specs.declared.Key.{Key}
use Rattle.lpc_slots.specs.declared.chain.Links.{Links}
use Rattle.lpc_slots.specs.declared.chain.Chain.{Chain}
use Rattle.lpc_slots.specs.Table.{Table, at, at_key, is_key, listed, keys_of, parts}
use Rattle.lpc_slots.specs.Chain.{IsAway, IsDistinct, StandsFor}
use Rattle.lpc_ports.specs.declared.rows.PortRow.{PortRow}
use Rattle.lpc_ports.specs.declared.Port.{Port}
use Rattle.lpc_ports.specs.declared.messages.Block.{Block}
use Rattle.lpc_ports.specs.Lent.{in_queue_of, is_by, keys_by, messages_of, of_sender_of, queue_of, queued_of, sender_of}
use Rattle.lpc_message.specs.declared.kind.TheConstants.{DATAGRAM}
use Rattle.lpc_ports.specs.Table.{PortTable, QueuedMessage, is_datagram_of, is_of_type, row_at}

-- a block with other links on a chain
abbrev pub with_in_queue : Block → Links → Block
with_in_queue block links = record block { in_queue = links }

abbrev pub with_of_sender : Block → Links → Block
with_of_sender block links = record block { of_sender = links }

-- the chains of a port, and the port without them
abbrev pub queued_chain : PortRow → Chain 0
queued_chain row = row.queued

abbrev pub sent_chain : PortRow → Chain 1
sent_chain row = row.sent

abbrev pub port_of : PortRow → Port
port_of row = row.port

abbrev pub ports_of : Table PortRow → List (Key × Port)
ports_of ports = parts port_of (listed ports)

-- a stored number of a port; 0 where the port has no row
abbrev pub number_at : (PortRow → ℕ) → Table PortRow → Key → ℕ
number_at number ports port = option_map_or number (at ports port) 0

-- how many ports have a port as their other end, and as their connection port, as it is stored
abbrev pub paired_at : Table PortRow → Key → ℕ
paired_at ports port = number_at (λ row. row.paired) ports port

abbrev pub connected_at : Table PortRow → Key → ℕ
connected_at ports port = number_at (λ row. row.connected) ports port

-- each port's chain stands for its messages of the list
abbrev pub Stand : {LIST : ℕ} → (Block → Links) → (PortRow → Chain LIST) → (QueuedMessage → Key) → Table PortRow → Table Block → List (Key × QueuedMessage) → Type 0
Stand links_of chain_of owner ports blocks messages =
    (port : Key) (row : PortRow) → at ports port ≡ Some row → StandsFor links_of blocks (chain_of row) (keys_by owner port messages)

abbrev pub QueuesStand : Table PortRow → Table Block → List (Key × QueuedMessage) → Type 0
QueuesStand = Stand in_queue_of queued_chain queue_of

abbrev pub SendersStand : Table PortRow → Table Block → List (Key × QueuedMessage) → Type 0
SendersStand = Stand of_sender_of sent_chain sender_of

-- each port's stored number is that of the messages that were sent on it
abbrev pub IsCounted : Table PortRow → List (Key × QueuedMessage) → Type 0
IsCounted ports messages = (port : Key) (row : PortRow) → at ports port ≡ Some row → row.sent_count ≡ count (is_by sender_of port) messages

abbrev pub SentCounted : Table PortRow → Table Block → List (Key × QueuedMessage) → Type 0
SentCounted ports blocks messages = IsCounted ports messages

-- each port's stored number of datagrams is that of those that were sent on it
abbrev pub AreDatagrams : Table PortRow → List (Key × QueuedMessage) → Type 0
AreDatagrams ports messages = (port : Key) (row : PortRow) → at ports port ≡ Some row → row.datagrams ≡ count (is_datagram_of port) messages

abbrev pub DatagramsCounted : Table PortRow → Table Block → List (Key × QueuedMessage) → Type 0
DatagramsCounted ports blocks messages = AreDatagrams ports messages

-- the chains of what was sent stand, and the numbers are theirs
abbrev pub SentStand : Table PortRow → Table Block → List (Key × QueuedMessage) → Type 0
SentStand ports blocks messages = SendersStand ports blocks messages × SentCounted ports blocks messages

-- one more can be counted at a port
abbrev pub HasFewSent : Table PortRow → Key → Type 0
HasFewSent ports port = (row : PortRow) → at ports port ≡ Some row → row.sent_count < 2 ^ 64 - 1

abbrev pub HasFewDatagrams : Table PortRow → Key → Type 0
HasFewDatagrams ports port = (row : PortRow) → at ports port ≡ Some row → row.datagrams < 2 ^ 64 - 1

-- a message was sent on this port, and is a datagram or not
abbrev pub IsSentAs : Key → Bool → QueuedMessage → Type 0
IsSentAs sender datagram value = (sender_of value ≡ sender) × (is_of_type DATAGRAM value.message ≡ datagram)

-- a message that is counted: it stands under this key
pub record IsDatagramPlaced (key sender : Key) (datagram : Bool) (messages : List (Key × QueuedMessage)) : Type 0 where
  pub value : QueuedMessage
  pub distinct : IsDistinct (keys_of messages)
  pub there : row_at messages key ≡ Some value
  pub sent : IsSentAs sender datagram value

-- each message was sent on a port that was made by then
abbrev pub IsSentBefore : ℕ → List (Key × QueuedMessage) → Type 0
IsSentBefore made [] = Unit {0}
IsSentBefore made (row ∷ rows) = ((sender_of row.1).generation ≤ made) × IsSentBefore made rows

-- a message stands in the queue of a port that has a row
abbrev pub is_open : Table PortRow → Key × QueuedMessage → Bool
is_open ports row = is_some (at ports (queue_of row.1))

-- each port's chains stand for its messages, each message stands in the queue of a port that has a row, and no port to
-- come finds one that was sent on it
pub record InOrder (ports : Table PortRow) (blocks : Table Block) : Type 0 where
  pub queues : QueuesStand ports blocks (messages_of blocks)
  pub senders : SendersStand ports blocks (messages_of blocks)
  pub stood_in : every (is_open ports) (messages_of blocks) ≡ true
  pub counts : IsCounted ports (messages_of blocks)
  pub datagrams : AreDatagrams ports (messages_of blocks)
  pub young : IsSentBefore ports.made (messages_of blocks)

-- a message of this key, of this port, stands in the list, and no two have one key
pub record IsPlaced (owner : QueuedMessage → Key) (key port : Key) (messages : List (Key × QueuedMessage)) : Type 0 where
  pub distinct : IsDistinct (keys_of messages)
  pub stands : has (λ row. is_key row.0 key && is_by owner port row) messages ≡ true

-- nothing changes but links and chains
pub record ChangesLinks (old_ports new_ports : Table PortRow) (old_blocks new_blocks : Table Block) : Type 0 where
  pub ports : (key : Key) → option_map port_of (at new_ports key) ≡ option_map port_of (at old_ports key)
  pub blocks : (key : Key) → option_map queued_of (at new_blocks key) ≡ option_map queued_of (at old_blocks key)
  pub paired : (key : Key) → paired_at new_ports key ≡ paired_at old_ports key
  pub connected : (key : Key) → connected_at new_ports key ≡ connected_at old_ports key
  pub port_spare : new_ports.spare ≡ old_ports.spare
  pub port_made : new_ports.made ≡ old_ports.made
  pub block_spare : new_blocks.spare ≡ old_blocks.spare
  pub block_made : new_blocks.made ≡ old_blocks.made

-- what contracts see of the two tables
abbrev pub seen : Table PortRow → Table Block → PortTable
seen ports blocks = record {
  ports = ports_of ports;
  messages = messages_of blocks;
  port_room = ports.spare;
  message_room = blocks.spare;
  ports_made = ports.made;
  messages_made = blocks.made;
}

-- the chains or numbers stand for some list in which this message is, and it is this port's
abbrev pub HasPlaced : (Table PortRow → Table Block → List (Key × QueuedMessage) → Type 0) → Table PortRow → Table Block → (QueuedMessage → Key) → Key → Key → Type 0
HasPlaced stand ports blocks owner port key =
    (messages : List (Key × QueuedMessage)) × stand ports blocks messages × IsPlaced owner key port messages

-- what a change of links makes of the lists that chains stand for or that numbers count, told of each list: they are as
-- they were, a message of a port comes behind the others, or one of a port goes
module _ (stand : Table PortRow → Table Block → List (Key × QueuedMessage) → Type 0) (old_ports new_ports : Table PortRow) (old_blocks new_blocks : Table Block) where
  abbrev pub Keeps : Type 0
  Keeps = (messages : List (Key × QueuedMessage)) → stand old_ports old_blocks messages → stand new_ports new_blocks messages

  abbrev pub Enters : (QueuedMessage → Key) → Key → Key → Type 0
  Enters owner port key =
      (messages : List (Key × QueuedMessage)) (value : QueuedMessage) → stand old_ports old_blocks messages → IsDistinct (keys_of messages) → IsAway (Some key) (keys_of messages) → owner value ≡ port
      → stand new_ports new_blocks (messages ++ (key, value) ∷ [])

  abbrev pub Leaves : (QueuedMessage → Key) → Key → Key → Type 0
  Leaves owner port key =
      (messages : List (Key × QueuedMessage)) → stand old_ports old_blocks messages → IsPlaced owner key port messages
      → stand new_ports new_blocks (without (at_key key) messages)

-- what a change makes of the numbers of datagrams, told of each list: a message comes, or one goes
abbrev pub EntersDatagrams : Table PortRow → Table PortRow → Key → Key → Bool → Type 0
EntersDatagrams old new sender key datagram =
    (messages : List (Key × QueuedMessage)) (value : QueuedMessage) → AreDatagrams old messages → IsSentAs sender datagram value
    → AreDatagrams new (messages ++ (key, value) ∷ [])

abbrev pub LeavesDatagrams : Table PortRow → Table PortRow → Key → Key → Bool → Type 0
LeavesDatagrams old new sender key datagram =
    (messages : List (Key × QueuedMessage)) → AreDatagrams old messages → IsDatagramPlaced key sender datagram messages
    → AreDatagrams new (without (at_key key) messages)

-- the numbers are those of some list in which this message is
abbrev pub HasDatagramPlaced : Table PortRow → Key → Key → Bool → Type 0
HasDatagramPlaced ports sender key datagram =
    (messages : List (Key × QueuedMessage)) × AreDatagrams ports messages × IsDatagramPlaced key sender datagram messages
