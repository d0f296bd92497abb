use Rattle.std.proofs.Common.{arith, ap, length}
use Rattle.std.proofs.lemmas.List.{length-map}
use Rattle.lpc_model.specs.Slots.{field_in}
use Rattle.lpc_model.proofs.Slots.{small-added}
use Rattle.lpc_model.proofs.entry.Fields.add_small.Goals as goal

pub invariant_of-self : goal.invariant_of-self
invariant_of-self c =
    let it = small-added c.self.inside.aside c.self.inside.list.items c.args.name c.args.value c.requires.small c.self.invariant.1 c.self.invariant.2 in
    (omega (arith, c.requires.room, ap length c.self.view_is, length-map c.self.inside.list.items (field_in c.self.inside.aside), c.push.ensures.len), rw c.push.ensures.items it.places, rw c.push.ensures.items it.large)
