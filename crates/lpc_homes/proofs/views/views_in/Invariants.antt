use Rattle.std.proofs.Common.{◌≡◌, ◌+◌, ◌*◌, ◌≤◌, drop}
use Rattle.lpc_base.specs.Rows.{count}
use Rattle.lpc_base.specs.declared.limits.TheConstants.{VIEW_LIMIT}
use Rattle.lpc_homes.specs.Parts.{all_views}
use Rattle.lpc_views.specs.Views.{shows}
use Rattle.lpc_homes.proofs.views.views_in.Given as goal

abbrev pub invariant-loop-part : goal.invariant-loop-part
invariant-loop-part l = record {
  sum : l.shown + count (shows l.section) (all_views (drop l.part-index l.parts)) ≡ count (shows l.section) (all_views l.parts);
  most : l.shown ≤ VIEW_LIMIT * l.part-index;
}
