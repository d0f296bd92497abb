use Rattle.std.proofs.Common.{arith}
use Rattle.lpc_views.specs.Views.{shows}
use Rattle.lpc_homes.proofs.Named.{seen_part}
use Rattle.lpc_homes.proofs.views.views_in.Goals as goal

pub loop-part-preserved : goal.loop-part-preserved
loop-part-preserved c =
    let sum = seen_part (shows c.args.section) c.args.parts.now c.loop-part.part-index c.loop-part.shown c.part-item.result c.loop-part-test.true c.part-item.is c.loop-part.invariant.sum in
    record { sum = rw c.count_of-shown.ensures.count sum; most = omega (arith, c.loop-part.invariant.most, c.count_of-shown.ensures.few) }
