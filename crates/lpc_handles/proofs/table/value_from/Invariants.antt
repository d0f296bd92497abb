use Rattle.std.proofs.Common.{◌≡◌, drop}
use Rattle.lpc_base.specs.Rows.{first}
use Rattle.lpc_handles.specs.Handles.{is_from}
use Rattle.lpc_handles.proofs.table.value_from.Given as goal

abbrev pub invariant-loop-other : goal.invariant-loop-other
invariant-loop-other g l = first (is_from l.value) (drop l.other-index l.rows) ≡ first (is_from l.value) l.rows
