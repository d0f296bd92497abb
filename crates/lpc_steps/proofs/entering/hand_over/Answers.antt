use Rattle.std.proofs.Common.{◌+◌, ap, length, arith}
use Rattle.lpc_base.specs.Rows.{without}
use Rattle.lpc_model.specs.Found.{waits_as}
use Rattle.lpc_model.specs.Message.{message_of}
use Rattle.lpc_model.specs.World.{World}
use Rattle.lpc_rows.specs.Ready.{waiter}
use Rattle.lpc_rows.specs.Shown.{row_with}
use Rattle.lpc_steps.proofs.Delivered.{delivered, one-fewer}
use Rattle.lpc_steps.proofs.entering.hand_over.Goals as goal

pub returns-clause-entries : goal.returns-clause-entries
returns-clause-entries c =
    let w = c.args.world.now in
    let m = row_with w.births c.args.queue c.args.sender c.args.context (message_of c.args.bytes.now) in
    let told = ap (λ (v : World). length v.waits) c.tell_wake.ensures.step.rows in
    let passed = ap (λ (v : World). length (without (waits_as c.args.tid) v.waits) + 1) c.pass.ensures.rows in
    let fewer = one-fewer w.rows m (waiter w.rows c.args.tid) c.args.tid c.requires.taker c.requires.quiet c.requires.single c.requires.waits in
    omega (arith, told, passed, fewer, c.tell_wake.ensures.spare)

pub returns-clause-takes : goal.returns-clause-takes
returns-clause-takes c =
    delivered c.args.world.now.rows c.pass.new.world.rows c.tell_wake.new.world.rows c.args.out.now.list c.tell_wake.new.out.list c.args.world.now.loose c.tell_wake.new.world.loose (row_with c.args.world.now.births c.args.queue c.args.sender c.args.context (message_of c.args.bytes.now)) (waiter c.args.world.now.rows c.args.tid) c.args.tid c.waiting_call-call.result c.taken_fields-fields.result
    c.requires.found c.waiting_call-call.ensures.thread c.waiting_call-call.ensures.call (c.taken_fields-fields.ensures.fields c.args.world.now.births c.args.queue c.args.sender)
    c.pass.ensures.rows c.tell_wake.ensures.step.rows c.tell_wake.ensures.list c.tell_wake.ensures.loose
