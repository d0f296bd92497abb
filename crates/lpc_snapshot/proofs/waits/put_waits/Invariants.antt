use Rattle.std.proofs.Common.{◌≡◌, ◌≤◌, ◌++◌, take, vec_capacity}
use Rattle.lpc_states.specs.Rows.{lines, wait_row}
use Rattle.lpc_snapshot.proofs.waits.put_waits.Given as goal

abbrev pub invariant-loop-place : goal.invariant-loop-place
invariant-loop-place l = record {
  text : l.into.items ≡ l.initial.into.items ++ lines wait_row (take l.place l.world.rows.waits);
  room : vec_capacity l.initial.into ≤ vec_capacity l.into;
}
