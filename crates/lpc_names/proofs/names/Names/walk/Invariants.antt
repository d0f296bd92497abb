use Rattle.std.proofs.Common.{◌≡◌}
use Rattle.lpc_names.specs.Walk as names
use Rattle.lpc_names.specs.Kept.{path_of}
use Rattle.lpc_names.proofs.names.Names.walk.Given as goal

abbrev pub invariant-loop-found : goal.invariant-loop-found
invariant-loop-found g l = names.walk_by l.left l.self.bindings (path_of l.path.items) ≡ names.walk l.self.bindings l.text

abbrev pub decreases-loop-found : goal.decreases-loop-found
decreases-loop-found g l = l.left
