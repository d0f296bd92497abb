use Rattle.std.proofs.Common.{true, false, refl, sym, ◌∙◌}
use Rattle.lpc_base.specs.declared.status.TheConstants.{SUCCESS}
use Rattle.lpc_model.specs.declared.entry.CallName.TheVariants.{NtReplyWaitReceivePort}
use Rattle.lpc_model.specs.declared.entry.Entry.{Entry}
use Rattle.lpc_model.specs.declared.entry.Entry.TheVariants as entry
use Rattle.lpc_model.specs.World.{World, MessageRow}
use Rattle.lpc_model.specs.Fields.{receipt}
use Rattle.lpc_rows.specs.Shown.{pulled_row}
use Rattle.lpc_request.proofs.Received.{taken}
use Rattle.lpc_request.proofs.receive.take_or_wait.Goals as goal

pub returns-then-asked-clause-takes : goal.returns-then-asked-clause-takes
returns-then-asked-clause-takes c =
    let w : World = c.args.world.now.rows in
    let m : MessageRow = pulled_row c.args.world.now.births c.args.queue c.in-Some.taken in
    let own : Entry = entry.Answer c.args.by.now.number NtReplyWaitReceivePort SUCCESS (receipt m) in
    let made = rw (c.push.ensures.list, c.bytes_receipt.ensures, c.in-Some.ensures.loose) at c.make_reply.ensures.takes in
    let marked = rw (c.make_reply.ensures.births, c.in-Some.ensures.step.births, c.read_header.ensures, c.as_slice-in-Some.ensures.value) at c.waits_receive.ensures.step.rows in
    rw (← c.in-Some.ensures.message)
    (taken w c.args.out.now.list c.args.world.now.loose own c.args.replied.now m true c.ports_pull.new.self.rows c.make_reply.new.world.rows c.waits_receive.new.self.rows c.make_reply.new.out.list c.make_reply.new.world.loose c.waits_receive.new.self.loose
    (rw (c.as_slice.ensures.value) at (sym c.asks_for_answer-asked.ensures) ∙ c.if-asked.true) c.in-Some.ensures.step.rows made
    marked c.waits_receive.ensures.loose)

pub returns-else-asked-clause-takes : goal.returns-else-asked-clause-takes
returns-else-asked-clause-takes c =
    let w : World = c.args.world.now.rows in
    let m : MessageRow = pulled_row c.args.world.now.births c.args.queue c.in-Some.taken in
    let own : Entry = entry.Answer c.args.by.now.number NtReplyWaitReceivePort SUCCESS (receipt m) in
    let made = rw (c.push.ensures.list, c.bytes_receipt.ensures, c.in-Some.ensures.loose) at c.make_reply.ensures.takes in
    rw (← c.in-Some.ensures.message)
    (taken w c.args.out.now.list c.args.world.now.loose own c.args.replied.now m false c.ports_pull.new.self.rows c.make_reply.new.world.rows c.make_reply.new.world.rows c.make_reply.new.out.list c.make_reply.new.world.loose c.make_reply.new.world.loose
    (rw (c.as_slice.ensures.value) at (sym c.asks_for_answer-asked.ensures) ∙ c.if-asked.false) c.in-Some.ensures.step.rows made refl refl)
