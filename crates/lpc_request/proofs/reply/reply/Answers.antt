use Rattle.std.proofs.Common.{◌≡◌, Err, Ok, rules}
use Rattle.lpc_model.specs.Message.{message_of}
use Rattle.lpc_model.specs.Request.{nt_reply_port, reply_test}
use Rattle.lpc_rows.specs.Clauses.{port_at}
use Rattle.lpc_rows.specs.Ready.{waiter}
use Rattle.lpc_request.proofs.reply.reply.Goals as goal

pub returns-clause-does : goal.returns-clause-does
unfolding nt_reply_port
returns-clause-does c =
    let found : reply_test c.args.world.now.rows (port_at c.args.world.now c.in_ok-port.port) (message_of c.in_ok-message.message.now) ≡ Ok (waiter c.args.world.now.rows c.in_ok-answered.answered) = rw (c.header.ensures) at c.in_ok-answered.ensures.found in
    rw (c.in_ok-port.ensures.port, c.in_ok-message.ensures.message, found) (search rules)

pub returns-in_err-answered-clause-does : goal.returns-in_err-answered-clause-does
unfolding nt_reply_port
returns-in_err-answered-clause-does c =
    let found : reply_test c.args.world.now.rows (port_at c.args.world.now c.in_ok-port.port) (message_of c.in_ok-message.message.now) ≡ Err c.in_err-answered.field-0.0 = rw (c.header.ensures) at c.in_err-answered.ensures.found in
    rw (c.in_ok-port.ensures.port, c.in_ok-message.ensures.message, found) (search rules)
