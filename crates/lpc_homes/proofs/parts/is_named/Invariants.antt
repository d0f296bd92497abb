use Rattle.std.proofs.Common.{◌≡◌, drop}
use Rattle.lpc_base.specs.Rows.{has}
use Rattle.lpc_homes.specs.Parts.{has_name_of}
use Rattle.lpc_homes.proofs.parts.is_named.Given as goal

abbrev pub invariant-loop-part : goal.invariant-loop-part
invariant-loop-part l = has (has_name_of l.object) (drop l.part-index l.parts) ≡ has (has_name_of l.object) l.parts
