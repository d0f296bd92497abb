use Rattle.std.proofs.Common.{rules, ap, ◌≡◌, ◌∙◌, [], ◌∷◌}
use Rattle.lpc_model.proofs.Shown.{groups_next}
use Rattle.lpc_model.specs.declared.entry.FieldName.TheVariants.{Groups}
use Rattle.lpc_model.specs.declared.entry.Value.TheVariants.{TokenGroups}
use Rattle.lpc_model.proofs.entry.Entries.push_groups.Goals as goal

pub returns-clause-list : goal.returns-clause-list
returns-clause-list c =
    let first = ap (λ v. v.reads) c.self.view_is ∙ c.requires.first in
    let added : c.add.new.self ≡ record { name = Groups; value = TokenGroups } ∷ [] = search rules in
    rw (c.push_reserved.ensures.items, added) (groups_next (record { read = c.self.inside.read.items; groups = c.args.groups.items }) _ _ _ c.args.tid c.args.call first (ap (λ v. v.list) c.self.view_is))
