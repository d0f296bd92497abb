use Rattle.std.proofs.Common.{◌≡◌, ◌+◌, drop}
use Rattle.lpc_base.specs.Rows.{count}
use Rattle.lpc_procs.specs.Kept.{rows_in}
use Rattle.lpc_procs.proofs.searches.count_rows.Given as goal

abbrev pub invariant-loop-place : goal.invariant-loop-place
invariant-loop-place g l = l.counted + count (g.Q.Test.test l.asked) (drop l.place (rows_in l.rows)) ≡ count (g.Q.Test.test l.asked) (rows_in l.rows)
