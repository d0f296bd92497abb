use Rattle.std.proofs.Common.{◌≡◌, ap, sym, ◌∙◌}
use Rattle.lpc_model.specs.World.{World}
use Rattle.lpc_model.specs.Tests.{next_birth}
use Rattle.lpc_connect.specs.Sharing.{shown_sharing}
use Rattle.lpc_rows.specs.Names.{Names, name_of}
use Rattle.lpc_rows.specs.Ready.{waiter}
use Rattle.lpc_rows.specs.Callers.{shown_caller}
use Rattle.lpc_rows.specs.Shown.{Births, shown_acceptance}
use Rattle.lpc_connect.proofs.Accepted.{accepted, plain-fields, same-steps, same-waiter}
use Rattle.lpc_connect.proofs.Created.{drawn-birth}
use Rattle.lpc_connect.proofs.accept.accept_connect.Goals as goal

pub returns-clause-takes : goal.returns-clause-takes
returns-clause-takes c =
    let w : World = c.args.world.now.rows in
    let by = shown_caller c.args.by.now in
    let x = waiter w c.args.answer.now.thread in
    let drawn = c.procs_draw_birth-birth.new.self.births.ports in
    let made = c.ports_add-server.new.self.births.ports in
    let birth = drawn-birth w c.args.by.now c.procs_draw_birth-birth.result c.requires.row c.procs_draw_birth-birth.ensures.birth in
    let drew = ap (λ (n : Births). n.ports) c.procs_draw_birth-birth.ensures.step.births in
    let told = next_birth by in
    let same : waiter c.ports_add-server.new.self.rows c.args.answer.now.thread ≡ x =
    same-waiter w c.procs_draw_birth-birth.new.self.rows c.ports_add-server.new.self.rows c.args.by.now.number c.args.answer.now.thread _ c.procs_draw_birth-birth.ensures.step.rows c.ports_add-server.ensures.rows in
    let sections = c.ports_add-server.ensures.sections ∙ ap (λ (n : Births). n.sections) c.procs_draw_birth-birth.ensures.step.births in
    accepted w c.args.out.now.list c.args.world.now.loose by c.args.context (record { message = c.args.answer.now.message; wait = x })
    c.procs_draw_birth-birth.new.self.rows c.ports_add-server.new.self.rows c.map_shared.new.world.rows c.give_handle-value.new.world.rows c.waits_set_accepted.new.self.rows c.ports_join.new.self.rows c.push.new.self.list c.ports_join.new.self.loose
    c.procs_draw_birth-birth.result (name_of made c.ports_add-server.result) (name_of drawn c.waiting-wait.result.queue) (name_of made c.waiting-wait.result.port) c.give_handle-value.result c.args.answer.now.thread (shown_acceptance c.acceptance.result) c.shared_fields.result
    c.procs_draw_birth-birth.ensures.step.rows c.ports_add-server.ensures.rows (rw (c.map_shared.ensures.births) at c.give_handle-value.ensures.rows) c.waits_set_accepted.ensures.some
    (rw (← c.map_shared.ensures.births, ← c.give_handle-value.ensures.births, ← c.waits_set_accepted.ensures.births) c.ports_join.ensures.step.rows) c.push.ensures.list c.ports_join.ensures.loose
    c.give_handle-value.ensures.value c.ports_add-server.ensures.name birth
    (ap (λ (n : Names). name_of n c.waiting-wait.result.queue) drew ∙ sym c.waiting-wait.ensures.wait.queue)
    (c.ports_add-server.ensures.others.name c.waiting-wait.result.port (rw (drew) c.waiting-wait.ensures.wait.port_stands) ∙ ap (λ (n : Names). name_of n c.waiting-wait.result.port) drew ∙ sym c.waiting-wait.ensures.wait.port)
    (sym c.requires.thread)
    (shown_sharing c.args.world.now told x.port c.args.views)
    (c.map_shared.ensures.rows ∙ same-steps c.args.world.now c.ports_add-server.new.self c.ports_add-server.new.self.rows by x (waiter c.ports_add-server.new.self.rows c.args.answer.now.thread) (name_of made c.ports_add-server.result) told c.args.views same (c.ports_add-server.ensures.name ∙ birth) sections)
    (c.acceptance.ensures c.args.world.now told x.port) (c.shared_fields.ensures c.args.world.now told x.port)

pub push-requires-clause-plain : goal.push-requires-clause-plain
push-requires-clause-plain c =
    let told = next_birth (shown_caller c.args.by.now) in
    rw (c.shared_fields.ensures c.args.world.now told told) (plain-fields c.give_handle-value.result (shown_sharing c.args.world.now told told c.args.views))
