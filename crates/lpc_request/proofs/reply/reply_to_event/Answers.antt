use Rattle.std.proofs.Common.{◌≡◌, refl, sym, ◌∙◌}
use Rattle.std.proofs.lemmas.List.{append-nil}
use Rattle.lpc_model.specs.World.{WaitRow}
use Rattle.lpc_rows.specs.Ready.{waiter}
use Rattle.lpc_rows.proofs.Finished.{own-waiter}
use Rattle.lpc_request.proofs.Replies.{waking-makes}
use Rattle.lpc_request.proofs.reply.reply_to_event.Goals as goal

pub returns-else-handles_event-clause-takes : goal.returns-else-handles_event-clause-takes
returns-else-handles_event-clause-takes c =
    let x : WaitRow = waiter c.args.world.now.rows c.args.answered in
    let own : x.thread ≡ c.args.answered = own-waiter c.args.world.now.rows c.args.answered c.requires.waits in
    let off = sym c.handles_event.ensures ∙ c.if-handles_event.false in
    rw (off, own, c.events_mark.ensures.step.rows, c.events_mark.ensures.loose, append-nil c.args.out.now.list) refl

pub returns-then-handles_event-clause-keeps : goal.returns-then-handles_event-clause-keeps
returns-then-handles_event-clause-keeps c =
    let x : WaitRow = waiter c.args.world.now.rows c.args.answered in
    waking-makes c.args.world.now c.wake.new.world x.thread c.wake.ensures.step.rows c.wake.ensures.step.made
