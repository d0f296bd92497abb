use Rattle.std.proofs.Common.{◌≡◌, ◌≤◌, ◌++◌, take, vec_capacity}
use Rattle.lpc_states.specs.Rows.{lines, mark_row}
use Rattle.lpc_snapshot.proofs.waits.put_marks.Given as goal

abbrev pub invariant-loop-tid : goal.invariant-loop-tid
invariant-loop-tid l = record {
  text : l.into.items ≡ l.initial.into.items ++ lines mark_row (take l.tid-index l.marks);
  room : vec_capacity l.initial.into ≤ vec_capacity l.into;
}
