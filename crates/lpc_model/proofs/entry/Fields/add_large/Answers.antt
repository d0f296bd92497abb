use Rattle.std.proofs.Common.{arith, ◌≡◌, ◌++◌, [], ◌∷◌, ap, ◌∙◌, false, length}
use Rattle.std.proofs.lemmas.List.{length-map}
use Rattle.lpc_model.specs.declared.entry.Field.{Field}
use Rattle.lpc_model.specs.Slots.{field_in, fields_in, has_large}
use Rattle.lpc_model.proofs.Slots.{large-added}
use Rattle.lpc_model.proofs.entry.Fields.add_large.Goals as goal

pub invariant_of-self : goal.invariant_of-self
invariant_of-self c =
    let none : has_large (fields_in c.self.inside.aside c.self.inside.list.items) ≡ false = ap has_large c.self.view_is ∙ c.requires.one in
    let it = large-added c.self.inside.aside c.self.inside.list.items c.args.name c.args.value c.requires.large none c.self.invariant.1 in
    (omega (arith, c.requires.room, ap length c.self.view_is, length-map c.self.inside.list.items (field_in c.self.inside.aside), c.push.ensures.len), rw c.push.ensures.items it.places, rw c.push.ensures.items it.large)

pub returns : goal.returns
returns c =
    let none : has_large (fields_in c.self.inside.aside c.self.inside.list.items) ≡ false = ap has_large c.self.view_is ∙ c.requires.one in
    let it = large-added c.self.inside.aside c.self.inside.list.items c.args.name c.args.value c.requires.large none c.self.invariant.1 in
    let field : Field = record { name = c.args.name; value = c.args.value } in
    rw c.push.ensures.items it.shows ∙ ap (λ xs. xs ++ field ∷ []) c.self.view_is
