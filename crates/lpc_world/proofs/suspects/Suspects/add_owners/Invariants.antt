use Rattle.std.proofs.Common.{◌≡◌, drop}
use Rattle.lpc_world.specs.Suspected.{suspecting_owners}
use Rattle.lpc_world.proofs.suspects.Suspects.add_owners.Given as goal

abbrev pub invariant-loop-view : goal.invariant-loop-view
invariant-loop-view l = suspecting_owners (drop l.view-index l.views) l.self ≡ suspecting_owners l.views l.fn.self
