use Rattle.std.proofs.Common.{◌≡◌, ◌≤◌, ◌++◌, map, take, vec_capacity}
use Rattle.std.specs.List.{flat_map}
use Rattle.lpc_rows.specs.Shown.{birth_of, shown_part}
use Rattle.lpc_states.specs.Rows.{handle_row, lines}
use Rattle.lpc_snapshot.proofs.handles.put_handles.Given as goal

abbrev pub invariant-loop-part : goal.invariant-loop-part
invariant-loop-part l = record {
  text : l.into.items ≡ l.initial.into.items ++ flat_map (λ t. lines (handle_row t.process) t.rows) (map (shown_part (birth_of l.world.births)) (take l.part-index l.parts));
  room : vec_capacity l.initial.into ≤ vec_capacity l.into;
}
