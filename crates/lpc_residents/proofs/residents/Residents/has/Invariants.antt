use Rattle.std.proofs.Common.{◌≡◌, drop}
use Rattle.lpc_base.specs.Rows.{has}
use Rattle.lpc_model.specs.Residents.{is_on}
use Rattle.lpc_residents.proofs.residents.Residents.has.Given as goal

abbrev pub invariant-loop-resident : goal.invariant-loop-resident
invariant-loop-resident l = has (is_on l.thread) (drop l.resident-index l.resident-items) ≡ has (is_on l.thread) l.resident-items
