-- Client ports of whose closing no message tells yet, the messages that tell of closings, and those whose place is owed.
use Rattle.std.specs.Prelude.{◌≡◌, ℕ, ◌&&◌, ◌||◌, not, Bool, true}
use Rattle.lpc_base.specs.Rows.{has}
use Rattle.lpc_base.specs.declared.port_kind.PortKind.{PortKind}
use Rattle.lpc_base.specs.declared.port_kind.PortKind.TheVariants.{Client}
use Rattle.lpc_model.specs.Found.{is_client_port, is_port}
use Rattle.lpc_model.specs.Message.{asks, tells_closing}
use Rattle.lpc_model.specs.SingleClosings.{is_closing_of}
use Rattle.lpc_model.specs.World.{Birth, PortRow, World}
use Rattle.lpc_model.specs.declared.message.Message.{Message}

-- the client port of a birth
abbrev pub is_client_of : Birth → PortRow → Bool
is_client_of b p = is_port b p && is_client_port p

-- a message has a place that is owed: that of its sender's own message where it asks, that of its port's closing where it
-- tells of one
abbrev pub is_owed : Message → Bool
is_owed m = asks m || tells_closing m

-- a client port stands of whose closing no message in a queue tells
abbrev pub owes_closing : World → Birth → Bool
owes_closing w b = has (is_client_of b) w.ports && not (has (is_closing_of b) w.messages)

-- a message that tells of a closing is of such a port
abbrev pub TellsOnce : World → Message → Birth → Type 0
TellsOnce w m sender = tells_closing m ≡ true → owes_closing w sender ≡ true

-- how many places for messages a port of a kind is owed: a client port one, for the message that tells of its closing
abbrev pub closing_places : PortKind → ℕ
closing_places kind = elim kind [
  | Client ↦ 1
  | _ ↦ 0
]
