use Rattle.lpc_ports.proofs.Named.{joined_by_connection, joined_by_pair}
use Rattle.lpc_ports.proofs.Ports.is_joined.Goals as goal

pub returns-then-paired_to-ne0 : goal.returns-then-paired_to-ne0
returns-then-paired_to-ne0 c = joined_by_pair c.args.port c.args.self.now.ports c.paired_to.result c.paired_to.ensures c.if-paired_to-ne0.true

pub returns-else-paired_to-ne0 : goal.returns-else-paired_to-ne0
returns-else-paired_to-ne0 c = joined_by_connection c.args.port c.args.self.now.ports c.paired_to.result c.paired_to.ensures c.connected_to.result c.connected_to.ensures c.if-paired_to-ne0.false
