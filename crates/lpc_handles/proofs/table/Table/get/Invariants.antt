use Rattle.std.proofs.Common.{◌≡◌, drop}
use Rattle.lpc_handles.specs.Handles.{at}
use Rattle.lpc_handles.proofs.table.Table.get.Given as goal

abbrev pub invariant-loop-other : goal.invariant-loop-other
invariant-loop-other g l = at (drop l.other-index l.other-items) l.value ≡ at l.self.rows l.value
