use Rattle.std.proofs.Common.{ap, sym, drop, ◌∙◌}
use Rattle.std.specs.Option.{option_copied}
use Rattle.lpc_message.specs.Layout.{header_of}
use Rattle.lpc_model.specs.Residents.{reply_message_to}
use Rattle.lpc_subsys.specs.Requests.{request_of}
use Rattle.lpc_residents.specs.Kept.{kept}
use Rattle.lpc_residents.proofs.Turns.{Server, begun-reply, call-reply}
use Rattle.lpc_residents.proofs.resident.Resident.make_call.Goals as goal

pub invariant_of-self-in-RepliesTo : goal.invariant_of-self-in-RepliesTo
invariant_of-self-in-RepliesTo c = c.reply.ensures.clients _ c.self.invariant

pub returns-in_ok-reply-in-RepliesTo-clause-begun : goal.returns-in_ok-reply-in-RepliesTo-clause-begun
returns-in_ok-reply-in-RepliesTo-clause-begun c =
    rw (← c.self.view_is) (λ w given. begun-reply w _ _ _ _ c.in-RepliesTo.is given c.in_ok-reply-in-RepliesTo.ensures.answered)

pub returns-in_ok-reply-in-RepliesTo-clause-call : goal.returns-in_ok-reply-in-RepliesTo-clause-call
returns-in_ok-reply-in-RepliesTo-clause-call c = λ w given.
    let asked = c.in-RepliesTo.asked in
    let request = request_of (drop 24 asked) (option_copied c.args.bytes) in
    call-reply w c.args.self.now asked (option_copied c.args.bytes) c.reply.new.buffer.items (ap (λ (r : Server). r.deed) (sym c.self.view_is) ∙ c.in-RepliesTo.is) given
    (c.in_ok-reply-in-RepliesTo.ensures.reply
    ∙ ap (λ (r : Server). reply_message_to asked (kept.replies r.clients (header_of asked).client.process request)) c.self.view_is)
