use Rattle.std.proofs.Common.{rules, sym}
use Rattle.lpc_procs.specs.Kept.{rows_in}
use Rattle.lpc_procs.specs.Procs.{event_ports_of}
use Rattle.lpc_procs.proofs.Tagged.{none-has}
use Rattle.lpc_procs.proofs.Placed.{told-has}
use Rattle.lpc_procs.proofs.procs.Procs.is_event_port.Goals as goal

pub returns-then-is_unheard : goal.returns-then-is_unheard
returns-then-is_unheard c = record { told = sym (none-has event_ports_of c.args.birth c.args.self.now.processes (c.is_unheard.ensures.none c.if-is_unheard.true)) }

pub returns : goal.returns
returns c = record { told = rw (← c.self.view_is, ← told-has c.args.birth (rows_in c.self.inside.processes)) (search rules) }
