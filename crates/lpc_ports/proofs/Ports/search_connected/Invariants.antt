use Rattle.std.proofs.Common.{◌≡◌, ◌+◌, drop}
use Rattle.lpc_base.specs.Rows.{count}
use Rattle.lpc_ports.specs.Table.{is_connected_to}
use Rattle.lpc_ports.proofs.Ports.search_connected.Given as goal

abbrev pub invariant-loop-place : goal.invariant-loop-place
invariant-loop-place l = l.connected + count (is_connected_to l.port) (drop l.place l.self.ports) ≡ count (is_connected_to l.port) l.self.ports
