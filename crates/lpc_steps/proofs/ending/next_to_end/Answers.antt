use Rattle.std.proofs.Common.{arith}
use Rattle.lpc_rows.specs.Names.{name_of}
use Rattle.lpc_steps.proofs.NextEnding as next
use Rattle.lpc_steps.proofs.ending.next_to_end.Goals as goal

pub returns-then-count-eq0-clause-found : goal.returns-then-count-eq0-clause-found
returns-then-count-eq0-clause-found c =
    let w = c.args.world.now in
    next.none_waits w.births w.rows c.waits.result.now (record { waits = c.waits.ensures.waits; stand = c.waits.ensures.stand; apart = c.waits.ensures.apart; single = c.waits.ensures.single })
    c.args.ending (name_of w.births.ports c.args.port) (omega arith)

pub returns-clause-left : goal.returns-clause-left
returns-clause-left c =
    let w = c.args.world.now in
    next.left-by w.rows c.waits.ensures.single c.waits.ensures.taken c.waits.ensures.own c.args.ending (name_of w.births.ports c.args.port) c.first_to_end.result
    (record { found = c.first_to_end.ensures.found; waits = c.first_to_end.ensures.waits })

pub returns-clause-connect : goal.returns-clause-connect
returns-clause-connect c =
    let w = c.args.world.now in
    next.connect_of w.rows c.waits.ensures.single c.waits.ensures.taken c.waits.ensures.own c.args.ending (name_of w.births.ports c.args.port) c.first_to_end.result
    (record { found = c.first_to_end.ensures.found; waits = c.first_to_end.ensures.waits })
