use Rattle.std.proofs.Common.{ap, ◌∙◌}
use Rattle.std.specs.Prelude.{option_copied}
use Rattle.lpc_model.specs.World.{World}
use Rattle.lpc_rows.specs.Names.{name_of}
use Rattle.lpc_rows.specs.Callers.{shown_caller}
use Rattle.lpc_rows.specs.Shown.{Births}
use Rattle.lpc_connect.proofs.Created.{created, drawn-birth}
use Rattle.lpc_connect.proofs.create.create.Goals as goal

pub returns-clause-takes : goal.returns-clause-takes
returns-clause-takes c =
    let w : World = c.args.world.now.rows in
    let birth = drawn-birth w c.args.by.now c.procs_draw_birth-birth.result c.requires.thread c.procs_draw_birth-birth.ensures.birth in
    created w c.args.out.now.list c.args.world.now.loose (shown_caller c.args.by.now) c.make-port.new.world.rows c.give_handle-value.new.world.rows c.push.new.self.list c.give_handle-value.new.world.loose c.give_handle-value.result (name_of c.make-port.new.world.births.ports c.make-port.result)
    c.give_handle-value.ensures.value (c.make-port.ensures.name ∙ birth) c.give_handle-value.ensures.rows (rw (← c.handle_field.ensures) c.push.ensures.list) (c.give_handle-value.ensures.loose ∙ c.make-port.ensures.loose ∙ c.procs_draw_birth-birth.ensures.loose)
    c.procs_draw_birth-birth.new.self.rows c.procs_draw_birth-birth.result (option_copied c.args.name) birth c.procs_draw_birth-birth.ensures.step.rows c.make-port.ensures.rows

pub returns-clause-name : goal.returns-clause-name
returns-clause-name c =
    let w : World = c.args.world.now.rows in
    ap (λ (n : Births). name_of n.ports c.make-port.result) c.give_handle-value.ensures.births
    ∙ c.make-port.ensures.name
    ∙ drawn-birth w c.args.by.now c.procs_draw_birth-birth.result c.requires.thread c.procs_draw_birth-birth.ensures.birth
