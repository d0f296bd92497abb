use Rattle.std.proofs.Common.{◌≡◌, ◌+◌, drop}
use Rattle.lpc_names.specs.Kept.{name_length}
use Rattle.lpc_names.proofs.text.length_of_name.Given as goal

abbrev pub invariant-loop-at : goal.invariant-loop-at
invariant-loop-at l = l.at + name_length (drop l.at l.bytes) ≡ name_length l.bytes
