use Rattle.lpc_isolation.proofs.Gone.Said.{isolation_law}
use Rattle.lpc_isolation.proofs.law.law_isolation.Goals as goal

pub returns : goal.returns
returns c = record { alike = isolation_law }
