use Rattle.lpc_procs.specs.Kept.{rows_in}
use Rattle.lpc_procs.proofs.Stored.{all-bound}
use Rattle.lpc_procs.proofs.procs.Procs.registrations.Goals as goal

pub returns-clause-bound : goal.returns-clause-bound
returns-clause-bound c = rw (← c.self.view_is, c.self.invariant.all.told) (all-bound (rows_in c.self.inside.threads) c.self.invariant.all.limited)
