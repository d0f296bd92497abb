use Rattle.std.proofs.Common.{None, refl, rules}
use Rattle.lpc_base.specs.Births.{same_birth}
use Rattle.lpc_numbers.proofs.Names.{none-kept}
use Rattle.lpc_numbers.proofs.Recents.{right-opened}
use Rattle.lpc_numbers.specs.Named.{number_in, spot_of}
use Rattle.lpc_numbers.proofs.named.Named.reserve.Goals as goal

pub invariant_of-self : goal.invariant_of-self
invariant_of-self c =
    let names = c.reserve.new.self.entries in
    (search rules, right-opened spot_of same_birth (number_in names) c.self.inside.recent c.open.new.self c.default.result None (none-kept names (c.if-is_empty.ensures.0 refl)) (rw (c.reserve.ensures.entries) c.self.invariant.1) c.open.ensures)
