use Rattle.std.proofs.Common.{ap, refl, ◌∙◌}
use Rattle.lpc_model.specs.Fields.{completion_fields}
use Rattle.lpc_rows.specs.Names.{name_of}
use Rattle.lpc_rows.specs.Callers.{shown_caller}
use Rattle.lpc_connect.proofs.Completed.{completed}
use Rattle.lpc_connect.proofs.complete.complete.Goals as goal

pub returns-clause-takes : goal.returns-clause-takes
returns-clause-takes c =
    completed c.args.world.now.rows c.args.out.now.list c.args.world.now.loose (shown_caller c.args.by.now) (name_of c.args.world.now.births.ports c.args.connection.server) (name_of c.args.world.now.births.ports c.args.connection.client) c.args.connection.thread
    c.ports_set_completed.new.self.rows c.ports_set_completed-2.new.self.rows c.connects_finish-value.new.self.rows c.push.new.self.list c.push-2.new.self.list c.connects_finish-value.new.self.loose
    (name_of c.ports_set_completed.new.self.births.ports c.args.connection.client) (name_of c.ports_set_completed-2.new.self.births.ports c.args.connection.client) c.connects_finish-value.result c.waiting_call-call.result c.completion_fields.result
    c.ports_set_completed.ensures.step.rows c.ports_set_completed-2.ensures.step.rows
    (rw (c.ports_set_completed.ensures.step.births) refl) (rw (c.ports_set_completed-2.ensures.step.births, c.ports_set_completed.ensures.step.births) refl)
    c.connects_finish-value.ensures.value c.connects_finish-value.ensures.rows
    c.waiting_call-call.ensures.call c.requires.thread (c.completion_fields.ensures ∙ ap (completion_fields c.connects_finish-value.result) c.acceptance-accepted.ensures) (rw (← c.none.ensures) c.push.ensures.list) c.push-2.ensures.list c.connects_finish-value.ensures.loose
