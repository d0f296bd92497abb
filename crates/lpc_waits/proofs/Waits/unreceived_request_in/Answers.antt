use Rattle.std.proofs.Common.{◌∙◌}
use Rattle.lpc_waits.specs.Table.{WaitingThread, first_thread}
use Rattle.lpc_waits.proofs.Found.{unreceived_request}
use Rattle.lpc_waits.proofs.Waits.unreceived_request_in.Goals as goal

pub returns : goal.returns
returns c = c.thread_in.ensures ∙ (λ i. first_thread (λ (row : WaitingThread). unreceived_request c.args.queue row i) c.args.self.now)
