use Rattle.std.proofs.Common.{◌≡◌, ◌≤◌, take}
use Rattle.std.specs.Prelude.{count_by}
use Rattle.lpc_storm.specs.Summary.{is_replied}
use Rattle.lpc_replay.proofs.storm.replies_in.Given as goal

abbrev pub invariant-loop-entry : goal.invariant-loop-entry
invariant-loop-entry l = record {
  is : l.count ≡ count_by is_replied (take l.entry-index l.entries);
  few : l.count ≤ l.entry-index;
}
