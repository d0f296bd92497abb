use Rattle.std.proofs.Common.{◌≡◌, ◌≤◌, ◌++◌, map, take, vec_capacity}
use Rattle.lpc_rows.specs.Shown.{birth_of, shown_view}
use Rattle.lpc_states.specs.Rows.{lines, view_row}
use Rattle.lpc_snapshot.proofs.views.put_views_of.Given as goal

abbrev pub invariant-loop-view : goal.invariant-loop-view
invariant-loop-view l = record {
  text : l.into.items ≡ l.initial.into.items ++ lines (view_row l.part.process) (map (shown_view (birth_of l.world.births)) (take l.view-index l.views));
  room : vec_capacity l.initial.into ≤ vec_capacity l.into;
}
