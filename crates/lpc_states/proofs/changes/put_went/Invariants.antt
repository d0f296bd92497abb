use Rattle.std.proofs.Common.{◌≡◌, ◌≤◌, ◌++◌, length, vec_capacity}
use Rattle.std.specs.List.{flat_map}
use Rattle.lpc_model.specs.Script.{script_lines}
use Rattle.lpc_transcript.specs.Printing.{BeginsWith}
use Rattle.lpc_states.specs.Changes.{went}
use Rattle.lpc_states.specs.Searching.{IsBehind}
use Rattle.lpc_states.proofs.changes.put_went.Given as goal

-- the text so far, with that of the rows that are left, is all of it
abbrev pub invariant-loop-rest : goal.invariant-loop-rest
invariant-loop-rest l = record {
  text : l.into.items ++ flat_map (went l.line (script_lines l.after)) (script_lines l.rest) ≡ l.initial.into.items ++ flat_map (went l.line (script_lines l.after)) (script_lines l.before);
  begins : BeginsWith l.into.items l.initial.into.items;
  room : vec_capacity l.initial.into ≤ vec_capacity l.into;
  behind : IsBehind l.after l.ahead;
}

abbrev pub decreases-loop-rest : goal.decreases-loop-rest
decreases-loop-rest l = length l.rest
