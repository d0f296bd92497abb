use Rattle.std.proofs.Common.{◌-◌, None, arith}
use Rattle.lpc_homes.proofs.Keyed.{one_less, updated}
use Rattle.lpc_homes.proofs.Recents.{recent-written}
use Rattle.lpc_homes.proofs.counts.Counts.take.Goals as goal

pub invariant_of-self-in-1 : goal.invariant_of-self-in-1
invariant_of-self-in-1 c =
    let old = c.self.inside.counts.entries in
    let new = c.swap_remove.new.self.entries in
    recent-written old new c.self.inside.recent c.note.new.self c.self.invariant c.args.object 0 (updated old new c.args.object None c.swap_remove.ensures.updates.0) (rw (c.spot.ensures) at c.note.ensures)

pub returns-in-1-clause-loses : goal.returns-in-1-clause-loses
returns-in-1-clause-loses c = rw (← c.self.view_is) (λ whole. record {
  whole = whole;
  counts = one_less c.self.inside.counts.entries c.swap_remove.new.self.entries c.args.object c.count_of.result 0 c.count_of.ensures (updated c.self.inside.counts.entries c.swap_remove.new.self.entries c.args.object None c.swap_remove.ensures.updates.0) (omega (arith, c.in-1.is));
})

pub returns-in_default-clause-loses : goal.returns-in_default-clause-loses
returns-in_default-clause-loses c = rw (← c.self.view_is) (λ whole. record {
  whole = c.put.ensures.whole whole;
  counts = one_less c.self.inside.counts.entries c.put.new.self.entries c.args.object c.count_of.result (c.count_of.result - 1) c.count_of.ensures (c.put.ensures.counts whole) (omega (arith, c.in_default));
})
