use Rattle.std.proofs.Common.{◌≡◌, None, length}
use Rattle.lpc_base.specs.Rows.{first}
use Rattle.lpc_slots.specs.Chain.{first_or}
use Rattle.lpc_slots.specs.Table.{keys_of}
use Rattle.lpc_waits.specs.Lent.{keyed}
use Rattle.lpc_waits.specs.Layout.{by_port}
use Rattle.lpc_waits.specs.Sought.{is_found_on}
use Rattle.lpc_waits.specs.Walk.{chain_rows, rows_from}
use Rattle.lpc_waits.proofs.chains.Chains.first_on.Given as goal

-- the walk stands at a row of the chain or behind the last one, and no row before it is the one
abbrev pub invariant-loop-next : goal.invariant-loop-next
invariant-loop-next l = record {
  stands : first_or None (keys_of (rows_from l.next (chain_rows by_port (length l.self.ports.chains.items) l.port.index l.rows))) ≡ l.next;
  walked : first (is_found_on l.port l.sought l.marks) (rows_from l.next (chain_rows by_port (length l.self.ports.chains.items) l.port.index l.rows)) ≡ first (is_found_on l.port l.sought l.marks) (keyed l.rows);
}

abbrev pub decreases-loop-next : goal.decreases-loop-next
decreases-loop-next l = length (rows_from l.next (chain_rows by_port (length l.self.ports.chains.items) l.port.index l.rows))
