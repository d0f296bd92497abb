use Rattle.std.proofs.Common.{sym, ◌∙◌}
use Rattle.lpc_procs.specs.Kept.{rows_in}
use Rattle.lpc_procs.proofs.Counts.{children-counted}
use Rattle.lpc_procs.proofs.procs.Procs.live_children.Goals as goal

pub returns-in-Some : goal.returns-in-Some
returns-in-Some c = record { count = rw (← c.self.view_is) (c.in-Some.ensures.count ∙ c.self.invariant.tallied c.in-Some.ensures.whole c.args.pid ∙ sym (children-counted (rows_in c.self.inside.threads) c.args.pid (rows_in c.self.inside.processes) c.self.invariant.all.counts)) }

pub returns-in-None : goal.returns-in-None
returns-in-None c = record { count = rw (← c.self.view_is) (c.count_rows.ensures ∙ sym (children-counted (rows_in c.self.inside.threads) c.args.pid (rows_in c.self.inside.processes) c.self.invariant.all.counts)) }
