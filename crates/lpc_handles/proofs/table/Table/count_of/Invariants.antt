use Rattle.std.proofs.Common.{◌≡◌, ◌+◌, ◌≤◌, drop}
use Rattle.lpc_base.specs.Rows.{count}
use Rattle.lpc_handles.specs.Handles.{is_named}
use Rattle.lpc_handles.proofs.table.Table.count_of.Given as goal

abbrev pub invariant-loop-row : goal.invariant-loop-row
invariant-loop-row g l = record {
  sum : l.named + count (is_named g.O.PartialEq.eq l.object) (drop l.row-index l.row-items) ≡ count (is_named g.O.PartialEq.eq l.object) l.self.rows;
  most : l.named ≤ l.row-index;
}
