use Rattle.std.proofs.Common.{arith}
use Rattle.lpc_steps.proofs.Endings.{length-rest}
use Rattle.lpc_steps.proofs.entering.deliver_bytes.Goals as goal

pub hand_over-requires-clause-spare : goal.hand_over-requires-clause-spare
hand_over-requires-clause-spare c =
    let one = length-rest c.args.world.now.rows.waits c.in-Some.tid c.receiver.ensures.single c.in-Some.ensures.waits in
    c.requires.spare (omega (arith, one))

pub hand_over-requires-clause-found : goal.hand_over-requires-clause-found
hand_over-requires-clause-found c = rw (c.asks_to_connect.ensures) at c.in-Some.ensures.found

pub hand_over-requires-clause-taker : goal.hand_over-requires-clause-taker
hand_over-requires-clause-taker c = rw (c.asks_to_connect.ensures) at c.in-Some.ensures.takes
