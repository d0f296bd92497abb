use Rattle.std.proofs.Common.{None, rules}
use Rattle.lpc_base.proofs.Births.{birth-same}
use Rattle.lpc_base.specs.Births.{same_birth}
use Rattle.lpc_numbers.proofs.Names.{gone, gone-others, updated}
use Rattle.lpc_numbers.proofs.Recents.{right-noted}
use Rattle.lpc_numbers.specs.Named.{number_in, spot_of}
use Rattle.lpc_numbers.proofs.named.Named.remove_name.Goals as goal

pub returns-clause-firsts : goal.returns-clause-firsts
returns-clause-firsts c = rw (← c.self.view_is) (updated c.args.birth c.self.inside.names.entries c.swap_remove.new.self.entries None c.swap_remove.ensures.updates.0)

pub invariant_of-self : goal.invariant_of-self
invariant_of-self c =
    let old = c.self.inside.names.entries in
    let new = c.swap_remove.new.self.entries in
    let forgets = updated c.args.birth old new None c.swap_remove.ensures.updates.0 in (
      search rules,
      right-noted spot_of same_birth birth-same (number_in old) (number_in new) c.self.inside.recent c.note.new.self c.args.birth None
          (gone c.args.birth old new forgets) c.self.invariant.1 (rw (c.spot.ensures) at c.note.ensures) (gone-others c.args.birth old new forgets),
    )
