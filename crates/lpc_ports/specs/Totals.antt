-- How many messages and ports of some kinds there are. No public clause cites this module.
use Rattle.std.specs.Prelude.{◌≡◌, ◌+◌, ◌-◌, ℕ, Bool, List, if◌then◌else◌}
use Rattle.lpc_base.specs.Rows.{count}
use Rattle.lpc_base.specs.declared.port_kind.PortKind.{PortKind}
use Rattle.lpc_message.specs.declared.kind.TheConstants.{PORT_CLOSED}
use Rattle.lpc_slots.specs.declared.Key.{Key}
use Rattle.lpc_ports.specs.declared.Port.{Port}
use Rattle.lpc_ports.specs.declared.messages.Message.{Message}
use Rattle.lpc_ports.specs.declared.totals.Totals.{Totals}
use Rattle.lpc_ports.specs.Table.{QueuedMessage, asks, is_asking, is_client, is_client_kind, is_closing, is_of_type}

-- one where it is so
abbrev pub one_if : Bool → ℕ
one_if so = if so then 1 else 0

-- the numbers when a message comes, and when one goes
abbrev pub gained : Totals → Message → Totals
gained totals message = record totals {
  asking = totals.asking + one_if (asks message);
  closings = totals.closings + one_if (is_of_type PORT_CLOSED message);
}

abbrev pub lost : Totals → Message → Totals
lost totals message = record totals {
  asking = totals.asking - one_if (asks message);
  closings = totals.closings - one_if (is_of_type PORT_CLOSED message);
}

-- the numbers when a port comes, and when one goes
abbrev pub gained_port : Totals → PortKind → Totals
gained_port totals kind = record totals { clients = totals.clients + one_if (is_client_kind kind) }

abbrev pub lost_port : Totals → PortKind → Totals
lost_port totals kind = record totals { clients = totals.clients - one_if (is_client_kind kind) }

-- they are those of these ports and messages
pub record AreTotals (totals : Totals) (ports : List (Key × Port)) (messages : List (Key × QueuedMessage)) : Type 0 where
  pub asking : totals.asking ≡ count is_asking messages
  pub closings : totals.closings ≡ count is_closing messages
  pub clients : totals.clients ≡ count is_client ports
