use Rattle.std.proofs.Common.{ap, sym, ◌∙◌}
use Rattle.lpc_slots.specs.Table.{at}
use Rattle.lpc_procs.proofs.Tables.{thread-at}
use Rattle.lpc_procs.proofs.procs.Procs.found_thread.Goals as goal

pub returns : goal.returns
returns c = rw (← c.self.view_is) (c.get.ensures.value ∙ ap (at c.self.inside.threads) c.thread_key.ensures ∙ sym (thread-at c.self.invariant c.args.tid))
