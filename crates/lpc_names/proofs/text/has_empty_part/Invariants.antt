use Rattle.std.proofs.Common.{◌≡◌, true, drop}
use Rattle.lpc_names.proofs.Paths.{has_empty}
use Rattle.lpc_names.proofs.text.has_empty_part.Given as goal

abbrev pub invariant-loop-byte : goal.invariant-loop-byte
invariant-loop-byte l = has_empty l.begins (drop l.byte-index l.names) ≡ has_empty true l.names
