use Rattle.lpc_homes.proofs.Keyed.{one_more}
use Rattle.lpc_homes.proofs.counts.Counts.add.Goals as goal

pub returns-in-Some : goal.returns-in-Some
returns-in-Some c = rw (← c.self.view_is) (λ whole. record {
  whole = c.put.ensures.whole whole;
  counts = one_more c.self.inside.counts.entries c.put.new.self.entries c.args.object c.count_of.result c.in-Some.count c.count_of.ensures (c.put.ensures.counts whole) c.in-Some.ensures.1;
})
