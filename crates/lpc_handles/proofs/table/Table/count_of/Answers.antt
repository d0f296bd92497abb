use Rattle.std.proofs.Common.{length, ap, arith}
use Rattle.lpc_handles.proofs.table.Table.count_of.Goals as goal

pub overflow_add-named : goal.overflow_add-named
overflow_add-named g c = omega (arith, c.loop-row.invariant.most, c.loop-row-test.true, c.deref-row-items.ensures.len)

pub returns-clause-within : goal.returns-clause-within
returns-clause-within g c = omega (arith, c.loop-row.invariant.most, c.loop-row.auto.row-index-end, ap length c.deref-row-items.ensures.value, c.self.invariant.0)
