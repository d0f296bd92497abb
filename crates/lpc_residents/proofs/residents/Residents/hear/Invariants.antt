use Rattle.std.proofs.Common.{◌≡◌, drop, map, true}
use Rattle.lpc_residents.specs.Kept.{heard_in, kept}
use Rattle.lpc_residents.specs.Shown.{entry_with}
use Rattle.lpc_residents.specs.Turns.{may_want}
use Rattle.lpc_residents.proofs.residents.Residents.hear.Given as goal

abbrev pub invariant-loop-entry : goal.invariant-loop-entry
invariant-loop-entry l = record {
  heard :
      heard_in kept l.in_turn l.self (map (entry_with l.out.read l.out.groups) (drop l.entry-index l.entries))
      ≡ heard_in kept l.in_turn l.fn.self l.out.list;
  wanting :
      may_want l.in_turn l.self (map (entry_with l.out.read l.out.groups) (drop l.entry-index l.entries)) ≡ true
      → may_want l.in_turn l.fn.self l.out.list ≡ true;
}
