use Rattle.std.proofs.Common.{◌≡◌, Ok, sym}
use Rattle.lpc_model.specs.Message.{message_of}
use Rattle.lpc_model.specs.Request.{nt_reply_wait_receive_port, reply_test}
use Rattle.lpc_rows.specs.Clauses.{port_at}
use Rattle.lpc_rows.specs.Ready.{waiter}
use Rattle.lpc_request.proofs.receive.reply_and_receive.Goals as goal

pub returns-clause-does : goal.returns-clause-does
unfolding nt_reply_wait_receive_port
returns-clause-does c =
    let found : reply_test c.args.world.now.rows (port_at c.args.world.now c.in_ok-port.port) (message_of c.in_ok-message.message.now) ≡ Ok (waiter c.args.world.now.rows c.in_ok-thread.thread) = rw (c.header.ensures) at c.in_ok-thread.ensures.found in
    let takes = rw (c.requires.row) at c.take_or_wait.ensures.takes in
    let outcome = rw (c.requires.row) at c.take_or_wait.ensures.outcome in
    rw (c.in_ok-port.ensures.port, c.in_ok-message.ensures.message, c.in_ok-queue.ensures.queue, found) (λ i. Ok (record { left = sym takes i; outcome = sym outcome i }))
