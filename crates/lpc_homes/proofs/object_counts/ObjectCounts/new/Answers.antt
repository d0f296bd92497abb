use Rattle.lpc_homes.proofs.Numbers.{none_held}
use Rattle.lpc_homes.proofs.object_counts.ObjectCounts.new.Goals as goal

pub invariant_of-result : goal.invariant_of-result
invariant_of-result c = rw c.none.ensures (none_held c.new.result c.new-2.result c.new.ensures.none c.new-2.ensures.none)
