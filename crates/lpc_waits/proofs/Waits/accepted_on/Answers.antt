use Rattle.std.proofs.Common.{◌∙◌}
use Rattle.lpc_waits.specs.Table.{WaitingThread, first_thread}
use Rattle.lpc_waits.specs.declared.sought.Sought.TheVariants as sought
use Rattle.lpc_waits.proofs.Found.{plain_on}
use Rattle.lpc_waits.proofs.Waits.accepted_on.Goals as goal

pub returns : goal.returns
returns c = c.thread_on.ensures ∙ (λ i. first_thread (λ (row : WaitingThread). plain_on c.args.port sought.Accepted row i) c.args.self.now)
