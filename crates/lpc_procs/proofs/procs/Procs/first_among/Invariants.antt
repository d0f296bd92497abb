use Rattle.std.proofs.Common.{◌≡◌, drop}
use Rattle.lpc_base.specs.Rows.{first}
use Rattle.lpc_procs.specs.Kept.{rows_of}
use Rattle.lpc_procs.proofs.procs.Procs.first_among.Given as goal

-- no thread of a member before the walk's place passes
abbrev pub invariant-loop-member : goal.invariant-loop-member
invariant-loop-member g l = first (g.Q.Test.test l.asked) (rows_of l.self.threads (drop l.member-index l.members)) ≡ first (g.Q.Test.test l.asked) (rows_of l.self.threads l.members)
