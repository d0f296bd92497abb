use Rattle.std.proofs.Common.{◌≡◌, ◌+◌, drop}
use Rattle.lpc_base.specs.Rows.{count}
use Rattle.lpc_waits.specs.Table.{is_offering}
use Rattle.lpc_waits.proofs.Waits.offers.Given as goal

abbrev pub invariant-loop-place : goal.invariant-loop-place
invariant-loop-place l = l.offers + count (is_offering l.section) (drop l.place l.self.rows) ≡ count (is_offering l.section) l.self.rows
