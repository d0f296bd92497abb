use Rattle.std.proofs.Common.{◌≡◌, ◌≤◌, ◌++◌, map, take, vec_capacity}
use Rattle.lpc_rows.specs.Shown.{birth_of, shown_handle}
use Rattle.lpc_states.specs.Rows.{handle_row, lines}
use Rattle.lpc_snapshot.proofs.handles.put_handles_of.Given as goal

abbrev pub invariant-loop-value : goal.invariant-loop-value
invariant-loop-value l = record {
  text : l.into.items ≡ l.initial.into.items ++ lines (handle_row l.part.process) (map (shown_handle (birth_of l.world.births)) (take l.value-index l.rows));
  room : vec_capacity l.initial.into ≤ vec_capacity l.into;
}
