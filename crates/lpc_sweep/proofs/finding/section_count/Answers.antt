use Rattle.std.proofs.Common.{List, ap, length, sym, ◌∙◌}
use Rattle.std.proofs.lemmas.List.{length-map}
use Rattle.lpc_model.specs.World.{SectionRow}
use Rattle.lpc_rows.specs.Shown.{shown_section}
use Rattle.lpc_slots.specs.Table.{listed}
use Rattle.lpc_sweep.proofs.finding.section_count.Goals as goal

pub returns : goal.returns
returns c = c.count.ensures.number ∙ sym (ap (λ (ss : List SectionRow). length ss) c.sections.ensures.sections ∙ length-map (listed c.sections.result.now) shown_section)
