use Rattle.std.proofs.Common.{◌≡◌, drop, is_some}
use Rattle.lpc_base.specs.Rows.{first}
use Rattle.lpc_model.specs.Residents.{base_told}
use Rattle.lpc_residents.proofs.fields.base_told.Given as goal

abbrev pub invariant-loop-at : goal.invariant-loop-at
invariant-loop-at l = first (λ field. is_some (base_told field)) (drop l.at l.fields) ≡ first (λ field. is_some (base_told field)) l.fields
