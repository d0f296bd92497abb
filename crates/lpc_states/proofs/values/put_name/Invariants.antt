use Rattle.std.proofs.Common.{◌≡◌, ◌≤◌, ◌++◌, take, vec_capacity}
use Rattle.lpc_states.specs.Values.{spelled}
use Rattle.lpc_states.proofs.values.put_name.Given as goal

abbrev pub invariant-loop-byte : goal.invariant-loop-byte
invariant-loop-byte l = record {
  text : l.into.items ≡ l.initial.into.items ++ spelled (take l.byte-index l.bytes);
  room : vec_capacity l.initial.into ≤ vec_capacity l.into;
}
