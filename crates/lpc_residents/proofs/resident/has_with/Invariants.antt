use Rattle.std.proofs.Common.{◌≡◌, drop}
use Rattle.lpc_base.specs.Rows.{has}
use Rattle.lpc_model.specs.Residents.{is_with}
use Rattle.lpc_residents.proofs.resident.has_with.Given as goal

abbrev pub invariant-loop-connection : goal.invariant-loop-connection
invariant-loop-connection l = has (is_with l.process) (drop l.connection-index l.connections) ≡ has (is_with l.process) l.connections
