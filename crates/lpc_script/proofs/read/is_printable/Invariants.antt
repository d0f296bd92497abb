use Rattle.std.proofs.Common.{◌≡◌, ◌-◌, ◌≤◌, length, take}
use Rattle.std.specs.List.{list_all}
use Rattle.lpc_model.specs.Grammar.{is_printable}
use Rattle.lpc_script.proofs.read.is_printable.Given as goal

abbrev pub invariant-loop-start : goal.invariant-loop-start
invariant-loop-start l = record {
  printable : l.printable ≡ list_all is_printable (take l.start l.text);
  inside : l.start ≤ length l.text;
}

abbrev pub decreases-loop-start : goal.decreases-loop-start
decreases-loop-start l = length l.text - l.start
