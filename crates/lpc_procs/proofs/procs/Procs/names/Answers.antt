use Rattle.std.proofs.Common.{sym}
use Rattle.lpc_procs.specs.Procs.{registered_by}
use Rattle.lpc_procs.proofs.Tagged.{none-has}
use Rattle.lpc_procs.proofs.procs.Procs.names.Goals as goal

pub returns-then-is_unregistered : goal.returns-then-is_unregistered
returns-then-is_unregistered c = record { named = sym (none-has registered_by c.args.birth c.args.self.now.threads (c.is_unregistered.ensures.none c.if-is_unregistered.true)) }
