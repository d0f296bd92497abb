use Rattle.std.proofs.Common.{◌∙◌}
use Rattle.lpc_ranges.specs.Calls.{section_shown}
use Rattle.lpc_ranges.proofs.Made.{made}
use Rattle.lpc_rows.specs.Callers.{shown_caller}
use Rattle.lpc_rows.specs.Names.{name_of}
use Rattle.lpc_ranges.proofs.sections.create.Goals as goal

pub returns-clause-takes : goal.returns-clause-takes
returns-clause-takes c = λ size prot new.
    made c.args.world.now.rows c.args.out.now.list c.args.world.now.loose (shown_caller c.args.by.now) size prot
    c.procs_draw_birth.new.self.rows c.sections_insert_reserved-section.new.self.rows c.give_handle-value.new.world.rows (section_shown c.args.section) c.push.new.self.list c.give_handle-value.new.world.loose c.give_handle-value.result (name_of c.sections_insert_reserved-section.new.self.births.sections c.sections_insert_reserved-section.result)
    c.procs_draw_birth.ensures.step.rows c.sections_insert_reserved-section.ensures.rows new c.give_handle-value.ensures.value (c.sections_insert_reserved-section.ensures.name ∙ c.requires.birth) c.give_handle-value.ensures.rows (rw (← c.handle_field.ensures) c.push.ensures.list) (c.give_handle-value.ensures.loose ∙ c.sections_insert_reserved-section.ensures.loose ∙ c.procs_draw_birth.ensures.loose)
