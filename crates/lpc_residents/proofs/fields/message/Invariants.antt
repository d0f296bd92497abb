use Rattle.std.proofs.Common.{◌≡◌, drop}
use Rattle.lpc_base.specs.Rows.{first}
use Rattle.lpc_residents.specs.Shown.{is_message}
use Rattle.lpc_residents.proofs.fields.message.Given as goal

abbrev pub invariant-loop-at : goal.invariant-loop-at
invariant-loop-at l = first is_message (drop l.at l.fields) ≡ first is_message l.fields
