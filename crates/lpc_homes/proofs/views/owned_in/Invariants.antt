use Rattle.std.proofs.Common.{◌≡◌, ◌+◌, ◌*◌, ◌≤◌, drop}
use Rattle.lpc_base.specs.Rows.{count}
use Rattle.lpc_base.specs.declared.limits.TheConstants.{VIEW_LIMIT}
use Rattle.lpc_homes.specs.Parts.{all_views, goes_with}
use Rattle.lpc_homes.proofs.views.owned_in.Given as goal

abbrev pub invariant-loop-part : goal.invariant-loop-part
invariant-loop-part l = record {
  sum : l.owned + count (goes_with l.owner) (all_views (drop l.part-index l.parts)) ≡ count (goes_with l.owner) (all_views l.parts);
  most : l.owned ≤ VIEW_LIMIT * l.part-index;
}
