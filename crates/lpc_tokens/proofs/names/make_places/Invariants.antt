use Rattle.std.proofs.Common.{◌≤◌, length, ◌-◌}
use Rattle.lpc_tokens.proofs.names.make_places.Given as goal

abbrev pub invariant-loop-places : goal.invariant-loop-places
invariant-loop-places l = length l.initial.places.items ≤ length l.places.items

abbrev pub decreases-loop-places : goal.decreases-loop-places
decreases-loop-places l = l.count - length l.places.items
