use Rattle.std.proofs.Common.{refl}
use Rattle.lpc_numbers.proofs.Nears.{far-opened, near-widened}
use Rattle.lpc_numbers.proofs.numbered.Numbered.reserve.Goals as goal

pub invariant_of-self : goal.invariant_of-self
invariant_of-self g c = (
  c.in-Ok.ensures.ok,
  rw (c.reserve.ensures.entries) (near-widened c.self.inside.map.entries c.self.inside.near c.widen.new.self c.self.invariant.1 c.widen.ensures),
  far-opened c.reserve.new.self.entries c.self.inside.far c.open.new.self (c.if-is_empty.ensures.0 refl) (rw (c.reserve.ensures.entries) c.self.invariant.2) c.open.ensures,
)

pub invariant_of-self-else-is_empty : goal.invariant_of-self-else-is_empty
invariant_of-self-else-is_empty g c = (
  c.in-Ok.ensures.ok,
  rw (c.reserve.ensures.entries) (near-widened c.self.inside.map.entries c.self.inside.near c.widen.new.self c.self.invariant.1 c.widen.ensures),
  rw (c.reserve.ensures.entries) c.self.invariant.2,
)
