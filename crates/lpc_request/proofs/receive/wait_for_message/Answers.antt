use Rattle.std.proofs.Common.{rules}
use Rattle.lpc_request.proofs.receive.wait_for_message.Goals as goal

pub waits_add-requires-clause-ready : goal.waits_add-requires-clause-ready
waits_add-requires-clause-ready c = c.make_reply.ensures.still.ready c.args.by.now.number (search rules)
