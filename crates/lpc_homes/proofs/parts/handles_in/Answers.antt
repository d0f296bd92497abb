use Rattle.std.proofs.Common.{◌≡◌, ◌∙◌, arith}
use Rattle.lpc_base.specs.Rows.{count}
use Rattle.lpc_homes.specs.Parts.{names_it}
use Rattle.lpc_homes.proofs.Named.{counted_part, named_count}
use Rattle.lpc_homes.proofs.parts.handles_in.Goals as goal

pub loop-part-preserved : goal.loop-part-preserved
loop-part-preserved c =
    let here : c.count_of-named.result ≡ count (names_it c.args.object) c.part-item.result.handles.rows = c.count_of-named.ensures.count ∙ named_count c.args.object c.part-item.result.handles.rows in
    let sum = counted_part (names_it c.args.object) c.args.parts.now c.loop-part.part-index c.loop-part.named c.part-item.result c.loop-part-test.true c.part-item.is c.loop-part.invariant.sum in
    record { sum = rw here sum; most = omega (arith, c.loop-part.invariant.most, c.count_of-named.ensures.within) }
