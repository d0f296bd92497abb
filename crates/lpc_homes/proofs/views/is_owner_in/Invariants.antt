use Rattle.std.proofs.Common.{◌≡◌, drop}
use Rattle.lpc_base.specs.Rows.{has}
use Rattle.lpc_homes.specs.Parts.{has_view_with}
use Rattle.lpc_homes.proofs.views.is_owner_in.Given as goal

abbrev pub invariant-loop-part : goal.invariant-loop-part
invariant-loop-part l = has (has_view_with l.owner) (drop l.part-index l.parts) ≡ has (has_view_with l.owner) l.parts
