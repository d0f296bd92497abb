use Rattle.std.proofs.Common.{◌≡◌, drop}
use Rattle.lpc_world.specs.Suspected.{suspecting_each}
use Rattle.lpc_world.proofs.suspects.Suspects.add_each.Given as goal

abbrev pub invariant-loop-r : goal.invariant-loop-r
invariant-loop-r l = suspecting_each (drop l.r-index l.registered) l.self ≡ suspecting_each l.registered l.fn.self
