use Rattle.std.proofs.Common.{sym, ◌∙◌}
use Rattle.lpc_procs.proofs.Placed.{numbers-has, used-has}
use Rattle.lpc_procs.proofs.procs.Procs.was_used.Goals as goal

pub returns-in-Process : goal.returns-in-Process
returns-in-Process c = record { used = rw (← c.self.view_is, c.in-Process.is) (c.has.ensures ∙ sym (numbers-has c.in-Process.pid c.self.inside.used_processes.entries)) }

pub returns-in-Thread : goal.returns-in-Thread
returns-in-Thread c = record { used = rw (← c.self.view_is, c.in-Thread.is) (c.has-in-Thread.ensures ∙ sym (used-has c.in-Thread.tid c.self.inside.used_threads.entries)) }
