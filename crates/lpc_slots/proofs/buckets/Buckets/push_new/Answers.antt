use Rattle.lpc_slots.proofs.Bucketed.{push_stand, reads}
use Rattle.lpc_slots.proofs.buckets.Buckets.push_new.Goals as goal

pub returns-clause-enters : goal.returns-clause-enters
returns-clause-enters g c rows stand distinct away =
    let chains = c.args.self.now.chains.items in
    let here = reads chains c.bucket-bucket.result c.index_mut.result.now c.bucket-bucket.ensures.within c.index_mut.ensures.value in
    push_stand g.T.Linked.links_of g.T.Linked.with_links c.args.slots.now c.push_new.new.slots chains c.bucket-bucket.result c.args.number c.args.key c.bucket-bucket.ensures.place c.index_mut.result.now c.push_new.new.self here rows stand c.push_new.ensures.chain c.push_new.ensures.links distinct away
