use Rattle.std.proofs.Common.{◌≡◌, ◌≤◌, ◌++◌, take, vec_capacity}
use Rattle.lpc_states.specs.Rows.{lines, port_row}
use Rattle.lpc_snapshot.proofs.ports.put_ports.Given as goal

abbrev pub invariant-loop-place : goal.invariant-loop-place
invariant-loop-place l = record {
  text : l.into.items ≡ l.initial.into.items ++ lines (port_row l.world.rows) (take l.place l.world.rows.ports);
  room : vec_capacity l.initial.into ≤ vec_capacity l.into;
}
