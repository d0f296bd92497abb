use Rattle.std.proofs.Common.{◌≡◌, ◌≤◌, ◌++◌, map, take, vec_capacity}
use Rattle.std.specs.List.{flat_map}
use Rattle.lpc_rows.specs.Shown.{birth_of, shown_space}
use Rattle.lpc_states.specs.Rows.{lines, view_row}
use Rattle.lpc_snapshot.proofs.views.put_views.Given as goal

abbrev pub invariant-loop-part : goal.invariant-loop-part
invariant-loop-part l = record {
  text : l.into.items ≡ l.initial.into.items ++ flat_map (λ t. lines (view_row t.process) t.rows) (map (shown_space (birth_of l.world.births)) (take l.part-index l.parts));
  room : vec_capacity l.initial.into ≤ vec_capacity l.into;
}
