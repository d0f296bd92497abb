use Rattle.std.proofs.Common.{arith}
use Rattle.lpc_homes.specs.Parts.{goes_with}
use Rattle.lpc_homes.proofs.Named.{seen_part}
use Rattle.lpc_homes.proofs.views.owned_in.Goals as goal

pub loop-part-preserved : goal.loop-part-preserved
loop-part-preserved c =
    let sum = seen_part (goes_with c.args.owner) c.args.parts.now c.loop-part.part-index c.loop-part.owned c.part-item.result c.loop-part-test.true c.part-item.is c.loop-part.invariant.sum in
    record { sum = rw c.owned-owned.ensures.count sum; most = omega (arith, c.loop-part.invariant.most, c.owned-owned.ensures.few) }
