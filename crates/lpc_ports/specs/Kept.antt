-- What holds of the ports at each time. No public clause cites this module.
use Rattle.std.specs.Prelude.{Bool}
use Rattle.lpc_slots.specs.Table.{Table}
use Rattle.lpc_ports.specs.declared.rows.PortRow.{PortRow}
use Rattle.lpc_ports.specs.declared.messages.Block.{Block}
use Rattle.lpc_ports.specs.declared.totals.Totals.{Totals}
use Rattle.lpc_ports.specs.Layout.{InOrder, ports_of}
use Rattle.lpc_ports.specs.Lent.{messages_of}
use Rattle.lpc_ports.specs.Names.{AreNames}
use Rattle.lpc_ports.specs.Totals.{AreTotals}

-- the tables are in order, and the numbers are theirs
pub record IsKept (ports : Table PortRow) (blocks : Table Block) (numbers : Totals) (whole : Bool) : Type 0 where
  pub order : InOrder ports blocks
  pub totals : AreTotals numbers (ports_of ports) (messages_of blocks)
  pub names : AreNames ports whole
