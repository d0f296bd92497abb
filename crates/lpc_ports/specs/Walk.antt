-- How a walk along a queue's chain goes through the messages of the queue. No public clause cites this module.
use Rattle.std.specs.Prelude.{Bool, List, [], ◌∷◌, Option, None, Some, if◌then◌else◌}
use Rattle.lpc_base.specs.Rows.{which}
use Rattle.lpc_message.specs.declared.kind.TheConstants.{CONNECTION_REQUEST}
use Rattle.lpc_slots.specs.declared.Key.{Key}
use Rattle.lpc_slots.specs.Table.{is_key}
use Rattle.lpc_ports.specs.Table.{QueuedMessage, is_in, is_of_type}

-- the messages of a queue
abbrev pub queue_rows : Key → List (Key × QueuedMessage) → List (Key × QueuedMessage)
queue_rows queue messages = which (is_in queue) messages

-- the rows from a key on; none where there is no key
abbrev pub rows_from : Option Key → List (Key × QueuedMessage) → List (Key × QueuedMessage)
rows_from None rows = []
rows_from (Some key) [] = []
rows_from (Some key) (row ∷ rows) = if is_key row.0 key then row ∷ rows else rows_from (Some key) rows

-- a message is a connection request, in whatever queue it stands
abbrev pub is_connect : Key × QueuedMessage → Bool
is_connect row = is_of_type CONNECTION_REQUEST row.1.message
