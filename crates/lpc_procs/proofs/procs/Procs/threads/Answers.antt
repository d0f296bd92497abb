use Rattle.std.proofs.Common.{sym, ◌∙◌}
use Rattle.lpc_procs.proofs.Keyed.{rows-length}
use Rattle.lpc_procs.proofs.procs.Procs.threads.Goals as goal

pub returns : goal.returns
returns c = record { count = rw (← c.self.view_is) (c.count.ensures.number ∙ sym (rows-length c.self.inside.threads)) }
