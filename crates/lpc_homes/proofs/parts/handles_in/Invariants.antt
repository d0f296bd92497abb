use Rattle.std.proofs.Common.{◌≡◌, ◌+◌, ◌*◌, ◌≤◌, drop}
use Rattle.lpc_base.specs.Rows.{count}
use Rattle.lpc_base.specs.declared.limits.TheConstants.{HANDLE_LIMIT}
use Rattle.lpc_homes.specs.Parts.{all_rows, names_it}
use Rattle.lpc_homes.proofs.parts.handles_in.Given as goal

abbrev pub invariant-loop-part : goal.invariant-loop-part
invariant-loop-part l = record {
  sum : l.named + count (names_it l.object) (all_rows (drop l.part-index l.parts)) ≡ count (names_it l.object) (all_rows l.parts);
  most : l.named ≤ HANDLE_LIMIT * l.part-index;
}
