use Rattle.std.proofs.Common.{sym, arith}
use Rattle.lpc_procs.specs.Kept.{rows_in}
use Rattle.lpc_procs.proofs.Few.{few_processes}
use Rattle.lpc_procs.proofs.procs.Procs.event_ports_to.Goals as goal

pub returns-then-is_unheard-clause-count : goal.returns-then-is_unheard-clause-count
returns-then-is_unheard-clause-count c = sym (c.is_unheard.ensures.none c.if-is_unheard.true)

pub event_ports_to-requires : goal.event_ports_to-requires
event_ports_to-requires c =
    let most = few_processes 2147483648 (rows_in c.self.inside.processes) c.self.invariant.all.apart c.self.invariant.all.processes_low in
    record { few = omega (arith, most) }
