use Rattle.std.proofs.Common.{◌-◌, arith, refl, sym, lit<}
use Rattle.lpc_ports.specs.declared.rows.PortRow.{PortRow}
use Rattle.lpc_ports.specs.Layout.{queued_chain, sent_chain, with_in_queue, with_of_sender}
use Rattle.lpc_ports.specs.Lent.{in_queue_of, of_sender_of, queue_of, sender_of}
use Rattle.lpc_ports.proofs.Stand.{across_stand, changes_links, split_stand, unlink_none, unlink_stand}
use Rattle.lpc_ports.proofs.Counted.{counted_unlink, counted_unlink_none, counts_on}
use Rattle.lpc_ports.proofs.Datagrams.{datagram_counted, datagrams_unlink, datagrams_unlink_none}
use Rattle.lpc_ports.proofs.rows.unlink_sent.Goals as goal

pub unlink-requires : goal.unlink-requires
unlink-requires c =
    (lit< tt, split_stand of_sender_of with_of_sender sent_chain sender_of c.args.ports.now c.args.blocks.now c.args.sender c.args.key c.in-Some.row.now c.requires.placed.0 (sym c.in-Some.ensures.value) c.requires.placed.1.0 c.requires.placed.2)

pub returns-in-Some-clause-senders : goal.returns-in-Some-clause-senders
returns-in-Some-clause-senders c messages stand placed =
    let fresh : PortRow = (record { port = c.in-Some.row.now.port; queued = c.in-Some.row.now.queued; sent = c.unlink.new.self; sent_count = c.in-Some.row.now.sent_count - 1; datagrams = c.minus-row.result; paired = c.in-Some.row.now.paired; connected = c.in-Some.row.now.connected }) in
    unlink_stand of_sender_of with_of_sender sent_chain sender_of c.args.ports.now c.args.blocks.now c.unlink.new.slots c.args.sender c.args.key messages stand c.in-Some.row.now fresh (sym c.in-Some.ensures.value) c.unlink.ensures.chain c.unlink.ensures.links placed

pub returns-in-Some-clause-queues : goal.returns-in-Some-clause-queues
returns-in-Some-clause-queues c messages stand =
    let split = split_stand of_sender_of with_of_sender sent_chain sender_of c.args.ports.now c.args.blocks.now c.args.sender c.args.key c.in-Some.row.now c.requires.placed.0 (sym c.in-Some.ensures.value) c.requires.placed.1.0 c.requires.placed.2 in
    let fresh : PortRow = (record { port = c.in-Some.row.now.port; queued = c.in-Some.row.now.queued; sent = c.unlink.new.self; sent_count = c.in-Some.row.now.sent_count - 1; datagrams = c.minus-row.result; paired = c.in-Some.row.now.paired; connected = c.in-Some.row.now.connected }) in
    across_stand in_queue_of with_in_queue queued_chain queue_of c.args.ports.now c.args.blocks.now c.unlink.new.slots c.args.sender c.args.key messages stand c.in-Some.row.now fresh with_of_sender _ (sym c.in-Some.ensures.value) refl (λ _ _. refl) (c.unlink.ensures.links split.0 split.1 split.2)

pub returns-in-Some-clause-links : goal.returns-in-Some-clause-links
returns-in-Some-clause-links c =
    let split = split_stand of_sender_of with_of_sender sent_chain sender_of c.args.ports.now c.args.blocks.now c.args.sender c.args.key c.in-Some.row.now c.requires.placed.0 (sym c.in-Some.ensures.value) c.requires.placed.1.0 c.requires.placed.2 in
    let fresh : PortRow = (record { port = c.in-Some.row.now.port; queued = c.in-Some.row.now.queued; sent = c.unlink.new.self; sent_count = c.in-Some.row.now.sent_count - 1; datagrams = c.minus-row.result; paired = c.in-Some.row.now.paired; connected = c.in-Some.row.now.connected }) in
    changes_links c.args.ports.now c.args.sender c.in-Some.row.now fresh with_of_sender _ c.args.blocks.now c.unlink.new.slots (sym c.in-Some.ensures.value) refl refl refl (λ _ _. refl) (c.unlink.ensures.links split.0 split.1 split.2)

pub returns-in_default-clause-senders : goal.returns-in_default-clause-senders
returns-in_default-clause-senders c messages stand placed =
    unlink_none of_sender_of with_of_sender sent_chain sender_of c.args.ports.now c.args.blocks.now c.args.blocks.now c.args.sender c.args.key messages stand (sym c.in_default.ensures.value) placed

pub overflow_sub-row : goal.overflow_sub-row
overflow_sub-row c =
    let one = counts_on sender_of c.args.key c.args.sender c.requires.placed.0 c.requires.placed.2 in
    let is = c.requires.placed.1.1 c.args.sender c.in-Some.row.now (sym c.in-Some.ensures.value) in
    omega (arith, one, is)

pub returns-in-Some-clause-counts : goal.returns-in-Some-clause-counts
returns-in-Some-clause-counts c messages counted placed =
    let fresh : PortRow = (record { port = c.in-Some.row.now.port; queued = c.in-Some.row.now.queued; sent = c.unlink.new.self; sent_count = c.in-Some.row.now.sent_count - 1; datagrams = c.minus-row.result; paired = c.in-Some.row.now.paired; connected = c.in-Some.row.now.connected }) in
    counted_unlink c.args.ports.now c.args.sender c.args.key messages counted c.in-Some.row.now fresh (sym c.in-Some.ensures.value) refl placed

pub returns-in_default-clause-counts : goal.returns-in_default-clause-counts
returns-in_default-clause-counts c messages counted placed = counted_unlink_none c.args.ports.now c.args.sender c.args.key messages counted (sym c.in_default.ensures.value) placed

pub minus-row-requires : goal.minus-row-requires
minus-row-requires c =
    datagram_counted c.args.ports.now c.args.sender c.args.key c.requires.counted.0 c.requires.counted.1 c.in-Some.row.now c.args.datagram (sym c.in-Some.ensures.value) c.requires.counted.2

pub returns-in-Some-clause-datagrams : goal.returns-in-Some-clause-datagrams
returns-in-Some-clause-datagrams c messages counted placed =
    let fresh : PortRow = (record { port = c.in-Some.row.now.port; queued = c.in-Some.row.now.queued; sent = c.unlink.new.self; sent_count = c.in-Some.row.now.sent_count - 1; datagrams = c.minus-row.result; paired = c.in-Some.row.now.paired; connected = c.in-Some.row.now.connected }) in
    datagrams_unlink c.args.ports.now c.args.sender c.args.key messages counted c.in-Some.row.now fresh c.args.datagram (sym c.in-Some.ensures.value) c.minus-row.ensures placed

pub returns-in_default-clause-datagrams : goal.returns-in_default-clause-datagrams
returns-in_default-clause-datagrams c messages counted placed = datagrams_unlink_none c.args.ports.now c.args.sender c.args.key messages counted c.args.datagram (sym c.in_default.ensures.value) placed
