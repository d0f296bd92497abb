use Rattle.std.proofs.Common.{◌∙◌}
use Rattle.lpc_waits.specs.Table.{WaitingThread, first_thread}
use Rattle.lpc_waits.specs.declared.sought.Sought.TheVariants as sought
use Rattle.lpc_waits.proofs.Found.{plain_in}
use Rattle.lpc_waits.proofs.Waits.offered_to.Goals as goal

pub returns : goal.returns
returns c = c.thread_in.ensures ∙ (λ i. first_thread (λ (row : WaitingThread). plain_in c.args.queue sought.Offered row i) c.args.self.now)
