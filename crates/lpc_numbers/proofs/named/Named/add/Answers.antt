use Rattle.std.proofs.Common.{Some, rules}
use Rattle.lpc_base.proofs.Births.{birth-same}
use Rattle.lpc_base.specs.Births.{same_birth}
use Rattle.lpc_numbers.proofs.Names.{taken, taken-others}
use Rattle.lpc_numbers.proofs.Recents.{right-noted}
use Rattle.lpc_numbers.specs.Named.{number_in, spot_of}
use Rattle.lpc_numbers.proofs.named.Named.add.Goals as goal

pub invariant_of-self : goal.invariant_of-self
invariant_of-self c =
    let old = c.self.inside.names.entries in
    let new = c.note-is_new.new.names.entries in (
      search rules,
      right-noted spot_of same_birth birth-same (number_in old) (number_in new) c.self.inside.recent c.note.new.self c.args.birth (Some c.args.number)
          (taken c.args.birth old new c.args.number c.note-is_new.ensures.names c.note-is_new.result c.note-is_new.ensures.new c.if-is_new.true)
          c.self.invariant.1 (rw (c.spot.ensures) at c.note.ensures) (taken-others c.args.birth old new c.args.number c.note-is_new.ensures.names),
    )
