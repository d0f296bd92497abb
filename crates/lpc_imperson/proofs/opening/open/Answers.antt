use Rattle.std.proofs.Common.{◌≡◌, ◌∙◌}
use Rattle.lpc_base.specs.declared.birth.Birth.{Birth}
use Rattle.lpc_imperson.proofs.Opened.{drawn-birth, opened}
use Rattle.lpc_model.specs.Impersonation.{new_token}
use Rattle.lpc_model.specs.Tests.{next_birth}
use Rattle.lpc_model.specs.World.{ThreadRow, TokenRow}
use Rattle.lpc_rows.specs.Callers.{shown_caller}
use Rattle.lpc_rows.specs.Names.{name_of}
use Rattle.lpc_imperson.proofs.opening.open.Goals as goal

pub returns-clause-takes : goal.returns-clause-takes
returns-clause-takes c =
    let t : ThreadRow = shown_caller c.args.by.now in
    let drawn : c.procs_draw_birth-birth.result ≡ next_birth t = drawn-birth c.args.world.now.rows c.args.by.now c.procs_draw_birth-birth.result c.requires.thread c.procs_draw_birth-birth.ensures.birth in
    let row : Birth → TokenRow = λ b. record { birth = b; token = c.args.content.token; level = c.args.content.level } in
    let new : row c.procs_draw_birth-birth.result ≡ new_token t c.args.content = λ i. row (drawn i) in
    opened c.args.world.now.rows c.args.out.now.list c.args.world.now.loose t c.args.call c.args.content
    c.procs_draw_birth-birth.new.self.rows c.tokens_insert_reserved-token.new.self.rows c.give_handle-value.new.world.rows (row c.procs_draw_birth-birth.result) c.push.new.self.list c.give_handle-value.new.world.loose c.give_handle-value.result (name_of c.tokens_insert_reserved-token.new.self.births.tokens c.tokens_insert_reserved-token.result)
    c.procs_draw_birth-birth.ensures.step.rows c.tokens_insert_reserved-token.ensures.rows new c.give_handle-value.ensures.value (c.tokens_insert_reserved-token.ensures.name ∙ drawn) c.give_handle-value.ensures.rows (rw (← c.handle_field.ensures) c.push.ensures.list) (c.give_handle-value.ensures.loose ∙ c.tokens_insert_reserved-token.ensures.loose ∙ c.procs_draw_birth-birth.ensures.loose)
