use Rattle.lpc_procs.specs.Kept.{rows_in}
use Rattle.lpc_procs.proofs.Counts.{life-at}
use Rattle.lpc_procs.proofs.procs.Procs.process_in.Goals as goal

pub returns : goal.returns
returns c = record { life = rw (← c.self.view_is, c.is_peopled.ensures) (life-at (rows_in c.self.inside.threads) (rows_in c.self.inside.processes) c.args.place c.row_at-p.result.now c.row_at-p.ensures c.self.invariant.all.counts) }
