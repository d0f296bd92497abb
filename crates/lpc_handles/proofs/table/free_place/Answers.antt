use Rattle.std.proofs.Common.{arith, length}
use Rattle.lpc_handles.proofs.Places.{least-at, placed-at, rises-at, stops-at, stops-behind, IsPlace}
use Rattle.lpc_handles.proofs.table.free_place.Given as given
use Rattle.lpc_handles.proofs.table.free_place.Goals as goal

stop : (g : given.Over) (c : goal.Then-row-value g) → IsPlace c.args.rows.now c.loop-index.index c.loop-index.value
stop g c = stops-at c.args.rows.now c.loop-index.index c.loop-index.value c.index-rows-index.result c.loop-index-test.true c.index-rows-index.is c.if-row-value.true c.loop-index.invariant.free c.loop-index.invariant.place

end : (g : given.Over) (c : goal.After-loop-index g) → IsPlace c.args.rows.now (length c.args.rows.now) c.loop-index.value
end g c = stops-behind c.args.rows.now c.loop-index.index c.loop-index.value c.loop-index.auto.index-end (omega (arith, c.loop-index-test.false)) c.loop-index.invariant.free c.loop-index.invariant.place

pub returns-then-row-value-clause-value : goal.returns-then-row-value-clause-value
returns-then-row-value-clause-value g c = least-at c.args.rows.now c.loop-index.index c.loop-index.value c.requires.rising (stop g c)

pub returns-then-row-value-clause-place : goal.returns-then-row-value-clause-place
returns-then-row-value-clause-place g c = λ row. placed-at c.args.rows.now c.loop-index.index c.loop-index.value row c.requires.rising (stop g c)

pub returns-then-row-value-clause-rises : goal.returns-then-row-value-clause-rises
returns-then-row-value-clause-rises g c = λ row. rises-at c.args.rows.now c.loop-index.index c.loop-index.value row c.requires.rising (stop g c)

pub returns-clause-value : goal.returns-clause-value
returns-clause-value g c = least-at c.args.rows.now (length c.args.rows.now) c.loop-index.value c.requires.rising (end g c)

pub returns-clause-place : goal.returns-clause-place
returns-clause-place g c = λ row. placed-at c.args.rows.now (length c.args.rows.now) c.loop-index.value row c.requires.rising (end g c)

pub returns-clause-rises : goal.returns-clause-rises
returns-clause-rises g c = λ row. rises-at c.args.rows.now (length c.args.rows.now) c.loop-index.value row c.requires.rising (end g c)
