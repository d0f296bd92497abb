use Rattle.std.proofs.Common.{◌≡◌, false, ap, sym, ◌∙◌}
use Rattle.std.specs.Prelude.{is_some, option_copied}
use Rattle.lpc_slots.specs.Table.{at}
use Rattle.lpc_rows.specs.Shown.{tables_of}
use Rattle.lpc_rows.proofs.FoundSections as sections
use Rattle.lpc_world.proofs.world.World.section.Goals as goal

pub unreachable-requires : goal.unreachable-requires
unreachable-requires c =
    let some = sections.present (tables_of c.self.inside.procs c.self.inside.parts.items c.self.inside.ports c.self.inside.waits c.self.inside.names c.self.inside.sections c.self.inside.tokens c.self.inside.token_names c.self.inside.marks) c.args.section (rw (← c.self.view_is) at c.requires) in
    let none : is_some (at c.self.inside.sections c.args.section) ≡ false = sym (ap is_some c.get.ensures.value) ∙ ap (λ o. is_some (option_copied o)) c.in-None.is in
    absurd (cc)

pub returns-clause-section : goal.returns-clause-section
returns-clause-section c = rw (← c.self.view_is) (sections.found (tables_of c.self.inside.procs c.self.inside.parts.items c.self.inside.ports c.self.inside.waits c.self.inside.names c.self.inside.sections c.self.inside.tokens c.self.inside.token_names c.self.inside.marks) c.self.invariant.kept.named c.args.section c.in-Some.row.now (sym c.get.ensures.value ∙ ap (λ o. option_copied o) c.in-Some.is))

pub returns-clause-birth : goal.returns-clause-birth
returns-clause-birth c = rw (← c.self.view_is) (sections.named (tables_of c.self.inside.procs c.self.inside.parts.items c.self.inside.ports c.self.inside.waits c.self.inside.names c.self.inside.sections c.self.inside.tokens c.self.inside.token_names c.self.inside.marks) c.self.invariant.kept.named c.args.section c.in-Some.row.now (sym c.get.ensures.value ∙ ap (λ o. option_copied o) c.in-Some.is))
