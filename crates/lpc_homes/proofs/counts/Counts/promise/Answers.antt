use Rattle.std.proofs.Common.{arith}
use Rattle.lpc_homes.specs.declared.object.Object.TheVariants as kinds
use Rattle.lpc_homes.proofs.Recents.{recent-opened}
use Rattle.lpc_homes.proofs.counts.Counts.promise.Goals as goal

pub invariant_of-self : goal.invariant_of-self
invariant_of-self c =
    rw (c.reserve.ensures.entries) (recent-opened c.self.inside.counts.entries c.self.inside.recent c.open.new.self (kinds.Process c.default.result) (grind (arith, c.len-named.ensures.len, c.if-named-eq0.true)) c.self.invariant c.open.ensures)
