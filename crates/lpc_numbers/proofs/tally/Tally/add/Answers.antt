use Rattle.lpc_numbers.proofs.Tallies.{one_more}
use Rattle.lpc_numbers.proofs.tally.Tally.add.Goals as goal

pub returns-in-Some : goal.returns-in-Some
returns-in-Some c = λ whole. record {
  whole = c.put.ensures.whole whole;
  counts = one_more c.args.self.now.entries c.put.new.self.entries c.args.number c.count_of.result c.in-Some.count c.count_of.ensures (c.put.ensures.counts whole) c.in-Some.ensures.1;
}
