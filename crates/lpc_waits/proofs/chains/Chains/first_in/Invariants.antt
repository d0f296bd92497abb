use Rattle.std.proofs.Common.{◌≡◌, None, length}
use Rattle.lpc_base.specs.Rows.{first}
use Rattle.lpc_slots.specs.Chain.{first_or}
use Rattle.lpc_slots.specs.Table.{keys_of}
use Rattle.lpc_waits.specs.Lent.{keyed}
use Rattle.lpc_waits.specs.Layout.{by_queue}
use Rattle.lpc_waits.specs.Numbers.{apart}
use Rattle.lpc_waits.specs.Sought.{is_found_in, is_taking}
use Rattle.lpc_waits.specs.Walk.{chain_rows, rows_from}
use Rattle.lpc_waits.proofs.chains.Chains.first_in.Given as goal

-- the walk stands at a row of the chain or behind the last one, and no row before it is the one
abbrev pub invariant-loop-next : goal.invariant-loop-next
invariant-loop-next l = record {
  stands : first_or None (keys_of (rows_from l.next (chain_rows by_queue (length l.self.queues.chains.items) (apart l.queue.index (is_taking l.sought)) l.rows))) ≡ l.next;
  walked : first (is_found_in l.queue l.sought l.marks) (rows_from l.next (chain_rows by_queue (length l.self.queues.chains.items) (apart l.queue.index (is_taking l.sought)) l.rows)) ≡ first (is_found_in l.queue l.sought l.marks) (keyed l.rows);
}

abbrev pub decreases-loop-next : goal.decreases-loop-next
decreases-loop-next l = length (rows_from l.next (chain_rows by_queue (length l.self.queues.chains.items) (apart l.queue.index (is_taking l.sought)) l.rows))
