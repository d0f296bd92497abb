use Rattle.std.proofs.Common.{◌≡◌, ◌≤◌, ◌++◌, take, vec_capacity}
use Rattle.std.specs.List.{flat_map}
use Rattle.lpc_states.specs.Values.{behind_comma, sid_text}
use Rattle.lpc_states.proofs.tokens.put_further_sids.Given as goal

abbrev pub invariant-loop-sid : goal.invariant-loop-sid
invariant-loop-sid l = record {
  text : l.into.items ≡ l.initial.into.items ++ flat_map (behind_comma sid_text) (take l.sid-index l.sids);
  room : vec_capacity l.initial.into ≤ vec_capacity l.into;
}
