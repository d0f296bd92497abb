use Rattle.std.proofs.Common.{ap}
use Rattle.lpc_model.specs.Found.{bytes_in}
use Rattle.lpc_sections.specs.Sections.{SectionRow}
use Rattle.lpc_slots.specs.Table.{listed}
use Rattle.lpc_snapshot.proofs.Places.{content_at, its_key, its_name}
use Rattle.lpc_snapshot.proofs.sections.section_at.Goals as goal

pub returns-clause-stands : goal.returns-clause-stands
returns-clause-stands c = rw c.sections.ensures.births (its_key (λ (s : SectionRow). s.birth) (listed c.sections.result.now) (rw c.sections.ensures.births at c.sections.ensures.apart) c.args.place _ c.row.ensures)

pub returns-clause-name : goal.returns-clause-name
returns-clause-name c = rw c.sections.ensures.births (its_name (λ (s : SectionRow). s.birth) (listed c.sections.result.now) (rw c.sections.ensures.births at c.sections.ensures.apart) c.args.place _ c.row.ensures)

pub returns-clause-content : goal.returns-clause-content
returns-clause-content c = rw c.sections.ensures.contents (ap bytes_in (content_at (listed c.sections.result.now) c.args.place _ (rw c.sections.ensures.births at c.sections.ensures.apart) c.row.ensures))
