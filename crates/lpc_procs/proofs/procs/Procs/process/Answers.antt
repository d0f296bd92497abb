use Rattle.std.proofs.Common.{option_map, ap, ◌∙◌}
use Rattle.lpc_procs.specs.declared.rows.Counted.{Counted}
use Rattle.lpc_procs.proofs.Tables.{its-process, no-process, process-at}
use Rattle.lpc_procs.proofs.procs.Procs.process.Goals as goal

pub unreachable-requires : goal.unreachable-requires
unreachable-requires c = no-process c.self.invariant c.args.pid c.process_key.result c.process_key.ensures c.in-None.ensures.value (rw (← c.self.view_is) at c.requires)

pub returns : goal.returns
returns c = rw (← c.self.view_is) (process-at c.self.invariant c.args.pid ∙ ap (option_map (λ (p : Counted). p.row)) (its-process c.self.invariant c.args.pid c.process_key.result c.in-Some.process.now c.process_key.ensures c.in-Some.ensures.value))
