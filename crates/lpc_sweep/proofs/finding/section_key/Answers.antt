use Rattle.std.proofs.Common.{Some, ap, arith, length, option_map, subst, true, ◌≡◌, ◌∙◌}
use Rattle.std.proofs.lemmas.List.{length-map}
use Rattle.lpc_model.specs.World as model
use Rattle.lpc_rows.specs.Names.{Names, are_apart}
use Rattle.lpc_rows.specs.Shown.{shown_section}
use Rattle.lpc_sections.specs.Sections.{SectionRow}
use Rattle.lpc_slots.specs.Table.{listed}
use Rattle.lpc_sweep.proofs.Places as places
use Rattle.lpc_sweep.proofs.finding.section_key.Goals as goal

pub row-requires : goal.row-requires
row-requires c = omega (arith, c.requires, ap length c.sections.ensures.sections, length-map (listed c.sections.result.now) shown_section)

pub returns-clause-stands : goal.returns-clause-stands
returns-clause-stands c =
    let apart = subst (λ (names : Names). are_apart names ≡ true) c.sections.ensures.births c.sections.ensures.apart in
    rw c.sections.ensures.births (places.its_key (λ (s : SectionRow). s.birth) (listed c.sections.result.now) apart c.args.place (c.row.result.0, c.row.result.1.now) c.row.ensures)

pub returns-clause-birth : goal.returns-clause-birth
returns-clause-birth c =
    let apart = subst (λ (names : Names). are_apart names ≡ true) c.sections.ensures.births c.sections.ensures.apart in
    let found = ap (option_map (λ (s : model.SectionRow). s.birth)) (places.mapped_at shown_section (listed c.sections.result.now) c.args.place ∙ ap (option_map shown_section) c.row.ensures) in
    rw (c.sections.ensures.sections, c.sections.ensures.births) (found ∙ ap Some (places.its_name (λ (s : SectionRow). s.birth) (listed c.sections.result.now) apart c.args.place (c.row.result.0, c.row.result.1.now) c.row.ensures))
