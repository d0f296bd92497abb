use Rattle.std.proofs.Common.{◌≡◌, ◌≤◌, ◌++◌, take, vec_capacity}
use Rattle.lpc_states.specs.Rows.{lines, section_row}
use Rattle.lpc_snapshot.proofs.sections.put_sections.Given as goal

abbrev pub invariant-loop-place : goal.invariant-loop-place
invariant-loop-place l = record {
  text : l.into.items ≡ l.initial.into.items ++ lines (section_row l.world.rows) (take l.place l.world.rows.sections);
  room : vec_capacity l.initial.into ≤ vec_capacity l.into;
}
