use Rattle.lpc_homes.proofs.Recents.{recent-written}
use Rattle.lpc_homes.proofs.counts.Counts.put.Goals as goal

pub invariant_of-self : goal.invariant_of-self
invariant_of-self c =
    recent-written c.self.inside.counts.entries c.write-written.new.counts.entries c.self.inside.recent c.note.new.self c.self.invariant c.args.object c.args.count (c.write-written.ensures.written c.if-written.true) (rw (c.spot.ensures) at c.note.ensures)
