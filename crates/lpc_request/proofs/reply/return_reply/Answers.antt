use Rattle.std.proofs.Common.{◌≡◌, [], ◌∷◌, None, Some, ap, refl, sym, ◌∙◌}
use Rattle.lpc_model.specs.Message.{message_of}
use Rattle.lpc_model.specs.Raise.{raised_in}
use Rattle.lpc_model.specs.World.{WaitRow}
use Rattle.lpc_rows.specs.Does.{left_by}
use Rattle.lpc_rows.specs.Ready.{waiter}
use Rattle.lpc_rows.specs.Shown.{shown_raised}
use Rattle.lpc_request.proofs.Replies.{event-there, raised-of, to-event, to-request, waking-makes}
use Rattle.lpc_request.proofs.reply.return_reply.Goals as goal

pub reply_to_event-requires-clause-event : goal.reply_to_event-requires-clause-event
reply_to_event-requires-clause-event c =
    event-there c.args.world.now.rows c.args.answered (shown_raised c.in-Some.field-0) c.requires.waits
    (sym (raised-of c.args.world.now.rows c.args.answered c.requires.waits) ∙ sym c.in-Some.ensures.raised)

pub returns-in-Some-clause-takes : goal.returns-in-Some-clause-takes
returns-in-Some-clause-takes c =
    let x : WaitRow = waiter c.args.world.now.rows c.args.answered in
    let at : raised_in x ≡ Some (shown_raised c.in-Some.field-0) = sym (raised-of c.args.world.now.rows c.args.answered c.requires.waits) ∙ sym c.in-Some.ensures.raised in
    c.reply_to_event.ensures.takes ∙ ap (λ b. left_by c.args.world.now.rows c.args.out.now.list c.args.world.now.loose (b ∷ [])) (sym (to-event x (message_of c.args.message.now.now) (shown_raised c.in-Some.field-0) at))

pub returns-in-None-clause-takes : goal.returns-in-None-clause-takes
returns-in-None-clause-takes c =
    let x : WaitRow = waiter c.args.world.now.rows c.args.answered in
    let none : raised_in x ≡ None = sym (raised-of c.args.world.now.rows c.args.answered c.requires.waits) ∙ sym c.in-None.ensures.raised in
    rw (to-request x (message_of c.args.message.now.now) none, c.end_waiting-call.ensures.thread, c.push.ensures.list, c.bytes_field.ensures, c.as_reply.ensures.message, c.end_waiting-call.ensures.call, c.end_waiting-call.ensures.step.rows, c.end_waiting-call.ensures.loose) refl

pub returns-in-None-clause-keeps : goal.returns-in-None-clause-keeps
returns-in-None-clause-keeps c =
    let x : WaitRow = waiter c.args.world.now.rows c.args.answered in
    waking-makes c.args.world.now c.end_waiting-call.new.world c.args.answered c.end_waiting-call.ensures.step.rows c.end_waiting-call.ensures.step.made
