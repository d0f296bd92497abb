use Rattle.std.proofs.Common.{◌≡◌, ◌≤◌, ◌++◌, take, vec_capacity}
use Rattle.lpc_states.specs.Rows.{lines, thread_row}
use Rattle.lpc_snapshot.proofs.lives.put_threads.Given as goal

abbrev pub invariant-loop-place : goal.invariant-loop-place
invariant-loop-place l = record {
  text : l.into.items ≡ l.initial.into.items ++ lines (thread_row l.world.rows) (take l.place l.world.rows.threads);
  room : vec_capacity l.initial.into ≤ vec_capacity l.into;
}
