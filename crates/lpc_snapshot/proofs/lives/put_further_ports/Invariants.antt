use Rattle.std.proofs.Common.{◌≡◌, ◌≤◌, ◌++◌, map, take, vec_capacity}
use Rattle.std.specs.List.{flat_map}
use Rattle.lpc_procs.specs.declared.rows.Registration.{Registration}
use Rattle.lpc_states.specs.Values.{behind_comma, port_text}
use Rattle.lpc_snapshot.proofs.lives.put_further_ports.Given as goal

abbrev pub invariant-loop-port : goal.invariant-loop-port
invariant-loop-port l = record {
  text : l.into.items ≡ l.initial.into.items ++ flat_map (behind_comma port_text) (map (λ (r : Registration). r.birth) (take l.port-index l.ports));
  room : vec_capacity l.initial.into ≤ vec_capacity l.into;
}
