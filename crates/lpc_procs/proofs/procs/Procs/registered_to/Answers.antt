use Rattle.std.proofs.Common.{sym, arith}
use Rattle.lpc_procs.specs.Kept.{rows_in}
use Rattle.lpc_procs.proofs.Few.{few}
use Rattle.lpc_procs.proofs.Tagged.{none-registered_to}
use Rattle.lpc_procs.proofs.procs.Procs.registered_to.Goals as goal

pub returns-then-is_unregistered-clause-count : goal.returns-then-is_unregistered-clause-count
returns-then-is_unregistered-clause-count c = sym (none-registered_to c.args.birth c.args.self.now.threads (c.is_unregistered.ensures.none c.if-is_unregistered.true))

pub of_birth-requires : goal.of_birth-requires
of_birth-requires c =
    let most = few 2147483648 (rows_in c.self.inside.threads) c.self.invariant.all.rows.single c.self.invariant.all.rows.low in
    record { few = omega (arith, most) }
