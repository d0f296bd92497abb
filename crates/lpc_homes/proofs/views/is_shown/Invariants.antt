use Rattle.std.proofs.Common.{◌≡◌, drop}
use Rattle.lpc_base.specs.Rows.{has}
use Rattle.lpc_homes.specs.Parts.{has_view_of}
use Rattle.lpc_homes.proofs.views.is_shown.Given as goal

abbrev pub invariant-loop-part : goal.invariant-loop-part
invariant-loop-part l = has (has_view_of l.section) (drop l.part-index l.parts) ≡ has (has_view_of l.section) l.parts
