use Rattle.std.proofs.Common.{ap, ◌∙◌}
use Rattle.std.specs.Option.{option_copied}
use Rattle.lpc_message.specs.Layout.{header_of}
use Rattle.lpc_message.specs.declared.message.Header.{Header}
use Rattle.lpc_model.specs.Words.{made_message}
use Rattle.lpc_residents.proofs.Clients.{answers-asked, replies-asked}
use Rattle.lpc_residents.proofs.resident.reply.Goals as goal

pub returns-clause-answered : goal.returns-clause-answered
returns-clause-answered c =
    answers-asked c.args.server.now c.turn.new.self c.message-request.result.now c.args.asked.now (option_copied c.args.bytes) c.message-request.ensures.bytes c.turn.ensures.served c.in_ok-turn.ensures.answered

pub returns-clause-reply : goal.returns-clause-reply
returns-clause-reply c =
    let asked = c.args.asked.now in
    let replies = replies-asked c.args.server.now c.message-request.result.now asked (option_copied c.args.bytes) c.turn.new.reply.items c.message-request.ensures.bytes c.turn.ensures.served c.in_ok-turn.ensures.reply in
    c.write_message.ensures
    ∙ ap (λ (h : Header). made_message h.client h.message_id c.as_slice.result.now) (c.header-header.ensures ∙ ap header_of c.message-request.ensures.bytes)
    ∙ ap (made_message (header_of asked).client (header_of asked).message_id) (c.as_slice.ensures.value ∙ replies)
