use Rattle.std.proofs.Common.{◌≡◌, drop}
use Rattle.lpc_base.specs.Rows.{first}
use Rattle.lpc_procs.specs.Kept.{rows_in}
use Rattle.lpc_procs.proofs.searches.first_row.Given as goal

abbrev pub invariant-loop-place : goal.invariant-loop-place
invariant-loop-place g l = first (g.Q.Test.test l.asked) (drop l.place (rows_in l.rows)) ≡ first (g.Q.Test.test l.asked) (rows_in l.rows)
