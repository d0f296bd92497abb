use Rattle.std.proofs.Common.{◌≡◌, ◌+◌, length, take, true, [], ◌++◌, ◌||◌}
use Rattle.lpc_names.specs.Path.{is_empty}
use Rattle.lpc_names.specs.Walk as names
use Rattle.lpc_names.specs.Kept.{path_of, begins_part}
use Rattle.lpc_names.proofs.names.Names.way.Given as goal

abbrev pub invariant-loop-rest : goal.invariant-loop-rest
invariant-loop-rest g l = record {
  whole : take l.walked l.bytes ++ l.rest ≡ l.bytes;
  within : l.walked + length l.rest ≡ length l.bytes;
  begins : (is_empty (take l.walked l.bytes) || begins_part l.rest) ≡ true;
  same : names.way l.self.bindings (path_of (take l.walked l.bytes)) (path_of l.rest) ≡ names.way l.self.bindings [] (path_of l.bytes);
}

abbrev pub decreases-loop-rest : goal.decreases-loop-rest
decreases-loop-rest g l = length l.rest
