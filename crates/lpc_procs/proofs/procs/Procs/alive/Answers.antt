use Rattle.lpc_base.proofs.RowWords.{count-bound}
use Rattle.lpc_procs.specs.Kept.{rows_in}
use Rattle.lpc_procs.specs.declared.rows.ThreadRow.{ThreadRow}
use Rattle.lpc_procs.proofs.procs.Procs.alive.Goals as goal

pub returns-clause-bound : goal.returns-clause-bound
returns-clause-bound c = rw (← c.self.view_is, c.self.invariant.all.living) (count-bound (λ (t : ThreadRow). t.live) (rows_in c.self.inside.threads))
