use Rattle.std.proofs.Common.{◌≡◌, ◌≢◌, drop}
use Rattle.lpc_sid.specs.Access.{grants_left}
use Rattle.lpc_sid.proofs.access.are_granted.Given as goal

abbrev pub invariant-loop-ace : goal.invariant-loop-ace
invariant-loop-ace l = record {
  cases : grants_left l.token l.wanted l.entries ≡ grants_left l.token l.left (drop l.ace-index l.entries);
  wanting : l.left ≢ 0;
}
