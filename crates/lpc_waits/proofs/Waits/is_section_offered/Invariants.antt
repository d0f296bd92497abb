use Rattle.std.proofs.Common.{◌≡◌, drop}
use Rattle.lpc_base.specs.Rows.{first}
use Rattle.lpc_waits.specs.Table.{is_offering}
use Rattle.lpc_waits.proofs.Waits.is_section_offered.Given as goal

abbrev pub invariant-loop-place : goal.invariant-loop-place
invariant-loop-place l = first (is_offering l.section) (drop l.place l.self.rows) ≡ first (is_offering l.section) l.self.rows
