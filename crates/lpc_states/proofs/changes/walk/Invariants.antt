use Rattle.std.proofs.Common.{◌≡◌, length}
use Rattle.lpc_base.specs.Rows.{has}
use Rattle.lpc_model.specs.Script.{script_lines}
use Rattle.lpc_states.specs.Searching.{IsBehind, is_sought}
use Rattle.lpc_states.proofs.changes.walk.Given as goal

-- what is looked for stands ahead, or nowhere
abbrev pub invariant-loop-ahead : goal.invariant-loop-ahead
invariant-loop-ahead l = record {
  same : has (is_sought l.by l.wanted) (script_lines l.ahead) ≡ has (is_sought l.by l.wanted) (script_lines l.rows);
  behind : IsBehind l.rows l.ahead;
}

abbrev pub decreases-loop-ahead : goal.decreases-loop-ahead
decreases-loop-ahead l = length l.ahead
