use Rattle.std.proofs.Common.{lit<}
use Rattle.lpc_slots.proofs.Bucketed.{reads, stands_on, unlink_stand}
use Rattle.lpc_slots.proofs.buckets.Buckets.unlink.Goals as goal

pub unlink-requires : goal.unlink-requires
unlink-requires g c =
    let chains = c.args.self.now.chains.items in
    let here = reads chains c.bucket-bucket.result c.index_mut.result.now c.bucket-bucket.ensures.within c.index_mut.ensures.value in
    (lit< tt, stands_on g.T.Linked.links_of g.T.Linked.with_links c.args.slots.now c.args.slots.now chains c.bucket-bucket.result c.args.number c.args.key c.bucket-bucket.ensures.place c.index_mut.result.now c.index_mut.result.now here c.requires.placed.0 c.requires.placed.1 c.requires.placed.2)

pub returns-clause-leaves : goal.returns-clause-leaves
returns-clause-leaves g c rows stand stands =
    let chains = c.args.self.now.chains.items in
    let here = reads chains c.bucket-bucket.result c.index_mut.result.now c.bucket-bucket.ensures.within c.index_mut.ensures.value in
    unlink_stand g.T.Linked.links_of g.T.Linked.with_links c.args.slots.now c.unlink.new.slots chains c.bucket-bucket.result c.args.number c.args.key c.bucket-bucket.ensures.place c.index_mut.result.now c.unlink.new.self here rows stand c.unlink.ensures.chain c.unlink.ensures.links stands

pub returns-clause-links : goal.returns-clause-links
returns-clause-links g c =
    let chains = c.args.self.now.chains.items in
    let here = reads chains c.bucket-bucket.result c.index_mut.result.now c.bucket-bucket.ensures.within c.index_mut.ensures.value in
    let at = stands_on g.T.Linked.links_of g.T.Linked.with_links c.args.slots.now c.args.slots.now chains c.bucket-bucket.result c.args.number c.args.key c.bucket-bucket.ensures.place c.index_mut.result.now c.index_mut.result.now here c.requires.placed.0 c.requires.placed.1 c.requires.placed.2 in
    (_, c.unlink.ensures.links at.0 at.1 at.2)
