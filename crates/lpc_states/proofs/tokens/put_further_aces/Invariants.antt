use Rattle.std.proofs.Common.{◌≡◌, ◌≤◌, ◌++◌, take, vec_capacity}
use Rattle.std.specs.List.{flat_map}
use Rattle.lpc_states.specs.Values.{ace_text, behind_comma}
use Rattle.lpc_states.proofs.tokens.put_further_aces.Given as goal

abbrev pub invariant-loop-ace : goal.invariant-loop-ace
invariant-loop-ace l = record {
  text : l.into.items ≡ l.initial.into.items ++ flat_map (behind_comma ace_text) (take l.ace-index l.aces);
  room : vec_capacity l.initial.into ≤ vec_capacity l.into;
}
