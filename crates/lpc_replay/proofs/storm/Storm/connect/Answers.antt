use Rattle.std.proofs.Common.{arith}
use Rattle.lpc_replay.proofs.Storming.{clients_end, clients_go}
use Rattle.lpc_replay.proofs.storm.Storm.connect.Goals as goal

pub loop-client-preserved : goal.loop-client-preserved
loop-client-preserved c =
    clients_go c.loop-client.self _ _ c.args.clients.now c.loop-client.client-index _ (omega arith) c.loop-client.invariant (rw c.connecting.ensures at c.in_ok-run_lines.ensures)

pub returns : goal.returns
returns c = clients_end c.loop-client.self _ c.args.clients.now c.loop-client.client-index (omega arith) c.loop-client.invariant
