use Rattle.std.proofs.Common.{◌≡◌, drop}
use Rattle.lpc_base.specs.Rows.{has}
use Rattle.lpc_handles.specs.Handles.{is_named}
use Rattle.lpc_handles.proofs.table.Table.names.Given as goal

abbrev pub invariant-loop-row : goal.invariant-loop-row
invariant-loop-row g l = has (is_named g.O.PartialEq.eq l.object) (drop l.row-index l.row-items) ≡ has (is_named g.O.PartialEq.eq l.object) l.self.rows
