use Rattle.std.proofs.Common.{refl, sym, lit<}
use Rattle.lpc_ports.specs.declared.rows.PortRow.{PortRow}
use Rattle.lpc_ports.specs.Layout.{queued_chain, sent_chain, with_in_queue, with_of_sender}
use Rattle.lpc_ports.specs.Lent.{in_queue_of, of_sender_of, queue_of, sender_of}
use Rattle.lpc_ports.proofs.Stand.{across_stand, changes_links, split_stand, unlink_none, unlink_stand}
use Rattle.lpc_ports.proofs.Counted.{counted_same}
use Rattle.lpc_ports.proofs.Datagrams.{datagrams_same}
use Rattle.lpc_ports.proofs.rows.unlink_queued.Goals as goal

pub unlink-requires : goal.unlink-requires
unlink-requires c =
    (lit< tt, split_stand in_queue_of with_in_queue queued_chain queue_of c.args.ports.now c.args.blocks.now c.args.queue c.args.key c.in-Some.row.now c.requires.placed.0 (sym c.in-Some.ensures.value) c.requires.placed.1 c.requires.placed.2)

pub returns-in-Some-clause-queues : goal.returns-in-Some-clause-queues
returns-in-Some-clause-queues c messages stand placed =
    let fresh : PortRow = (record { port = c.in-Some.row.now.port; queued = c.unlink.new.self; sent = c.in-Some.row.now.sent; sent_count = c.in-Some.row.now.sent_count; datagrams = c.in-Some.row.now.datagrams; paired = c.in-Some.row.now.paired; connected = c.in-Some.row.now.connected }) in
    unlink_stand in_queue_of with_in_queue queued_chain queue_of c.args.ports.now c.args.blocks.now c.unlink.new.slots c.args.queue c.args.key messages stand c.in-Some.row.now fresh (sym c.in-Some.ensures.value) c.unlink.ensures.chain c.unlink.ensures.links placed

pub returns-in-Some-clause-senders : goal.returns-in-Some-clause-senders
returns-in-Some-clause-senders c messages stand =
    let split = split_stand in_queue_of with_in_queue queued_chain queue_of c.args.ports.now c.args.blocks.now c.args.queue c.args.key c.in-Some.row.now c.requires.placed.0 (sym c.in-Some.ensures.value) c.requires.placed.1 c.requires.placed.2 in
    let fresh : PortRow = (record { port = c.in-Some.row.now.port; queued = c.unlink.new.self; sent = c.in-Some.row.now.sent; sent_count = c.in-Some.row.now.sent_count; datagrams = c.in-Some.row.now.datagrams; paired = c.in-Some.row.now.paired; connected = c.in-Some.row.now.connected }) in
    across_stand of_sender_of with_of_sender sent_chain sender_of c.args.ports.now c.args.blocks.now c.unlink.new.slots c.args.queue c.args.key messages stand c.in-Some.row.now fresh with_in_queue _ (sym c.in-Some.ensures.value) refl (λ _ _. refl) (c.unlink.ensures.links split.0 split.1 split.2)

pub returns-in-Some-clause-links : goal.returns-in-Some-clause-links
returns-in-Some-clause-links c =
    let split = split_stand in_queue_of with_in_queue queued_chain queue_of c.args.ports.now c.args.blocks.now c.args.queue c.args.key c.in-Some.row.now c.requires.placed.0 (sym c.in-Some.ensures.value) c.requires.placed.1 c.requires.placed.2 in
    let fresh : PortRow = (record { port = c.in-Some.row.now.port; queued = c.unlink.new.self; sent = c.in-Some.row.now.sent; sent_count = c.in-Some.row.now.sent_count; datagrams = c.in-Some.row.now.datagrams; paired = c.in-Some.row.now.paired; connected = c.in-Some.row.now.connected }) in
    changes_links c.args.ports.now c.args.queue c.in-Some.row.now fresh with_in_queue _ c.args.blocks.now c.unlink.new.slots (sym c.in-Some.ensures.value) refl refl refl (λ _ _. refl) (c.unlink.ensures.links split.0 split.1 split.2)

pub returns-in_default-clause-queues : goal.returns-in_default-clause-queues
returns-in_default-clause-queues c messages stand placed =
    unlink_none in_queue_of with_in_queue queued_chain queue_of c.args.ports.now c.args.blocks.now c.args.blocks.now c.args.queue c.args.key messages stand (sym c.in_default.ensures.value) placed

pub returns-in-Some-clause-counts : goal.returns-in-Some-clause-counts
returns-in-Some-clause-counts c messages counted =
    let fresh : PortRow = (record { port = c.in-Some.row.now.port; queued = c.unlink.new.self; sent = c.in-Some.row.now.sent; sent_count = c.in-Some.row.now.sent_count; datagrams = c.in-Some.row.now.datagrams; paired = c.in-Some.row.now.paired; connected = c.in-Some.row.now.connected }) in
    counted_same c.args.ports.now c.args.queue c.args.key messages counted c.in-Some.row.now fresh (sym c.in-Some.ensures.value) refl

pub returns-in-Some-clause-datagrams : goal.returns-in-Some-clause-datagrams
returns-in-Some-clause-datagrams c messages counted =
    let fresh : PortRow = (record { port = c.in-Some.row.now.port; queued = c.unlink.new.self; sent = c.in-Some.row.now.sent; sent_count = c.in-Some.row.now.sent_count; datagrams = c.in-Some.row.now.datagrams; paired = c.in-Some.row.now.paired; connected = c.in-Some.row.now.connected }) in
    datagrams_same c.args.ports.now c.args.queue c.args.key messages counted c.in-Some.row.now fresh (sym c.in-Some.ensures.value) refl
