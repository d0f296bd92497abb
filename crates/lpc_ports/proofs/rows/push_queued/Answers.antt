use Rattle.std.proofs.Common.{refl, sym, lit<}
use Rattle.lpc_ports.specs.declared.rows.PortRow.{PortRow}
use Rattle.lpc_ports.specs.Layout.{queued_chain, sent_chain, with_in_queue, with_of_sender}
use Rattle.lpc_ports.specs.Lent.{in_queue_of, of_sender_of, queue_of, sender_of}
use Rattle.lpc_ports.proofs.Stand.{across_stand, changes_links, push_none, push_stand}
use Rattle.lpc_ports.proofs.Counted.{counted_same}
use Rattle.lpc_ports.proofs.Datagrams.{datagrams_same}
use Rattle.lpc_ports.proofs.rows.push_queued.Goals as goal

pub push_back-requires : goal.push_back-requires
push_back-requires c = (lit< tt, c.requires.present)

pub returns-in-Some-clause-queues : goal.returns-in-Some-clause-queues
returns-in-Some-clause-queues c messages value stand distinct away is =
    let fresh : PortRow = (record { port = c.in-Some.row.now.port; queued = c.push_back.new.self; sent = c.in-Some.row.now.sent; sent_count = c.in-Some.row.now.sent_count; datagrams = c.in-Some.row.now.datagrams; paired = c.in-Some.row.now.paired; connected = c.in-Some.row.now.connected }) in
    push_stand in_queue_of with_in_queue queued_chain queue_of c.args.ports.now c.args.blocks.now c.push_back.new.slots c.args.queue c.args.key messages stand c.in-Some.row.now fresh (sym c.in-Some.ensures.value) value c.push_back.ensures.chain c.push_back.ensures.links distinct away is

pub returns-in-Some-clause-senders : goal.returns-in-Some-clause-senders
returns-in-Some-clause-senders c messages stand =
    let fresh : PortRow = (record { port = c.in-Some.row.now.port; queued = c.push_back.new.self; sent = c.in-Some.row.now.sent; sent_count = c.in-Some.row.now.sent_count; datagrams = c.in-Some.row.now.datagrams; paired = c.in-Some.row.now.paired; connected = c.in-Some.row.now.connected }) in
    across_stand of_sender_of with_of_sender sent_chain sender_of c.args.ports.now c.args.blocks.now c.push_back.new.slots c.args.queue c.args.key messages stand c.in-Some.row.now fresh with_in_queue _ (sym c.in-Some.ensures.value) refl (λ _ _. refl) c.push_back.ensures.links

pub returns-in-Some-clause-links : goal.returns-in-Some-clause-links
returns-in-Some-clause-links c =
    let fresh : PortRow = (record { port = c.in-Some.row.now.port; queued = c.push_back.new.self; sent = c.in-Some.row.now.sent; sent_count = c.in-Some.row.now.sent_count; datagrams = c.in-Some.row.now.datagrams; paired = c.in-Some.row.now.paired; connected = c.in-Some.row.now.connected }) in
    changes_links c.args.ports.now c.args.queue c.in-Some.row.now fresh with_in_queue _ c.args.blocks.now c.push_back.new.slots (sym c.in-Some.ensures.value) refl refl refl (λ _ _. refl) c.push_back.ensures.links

pub returns-in_default-clause-queues : goal.returns-in_default-clause-queues
returns-in_default-clause-queues c messages value stand distinct away is =
    push_none in_queue_of with_in_queue queued_chain queue_of c.args.ports.now c.args.blocks.now c.args.blocks.now c.args.queue c.args.key messages stand value (sym c.in_default.ensures.value) is

pub returns-in-Some-clause-counts : goal.returns-in-Some-clause-counts
returns-in-Some-clause-counts c messages counted =
    let fresh : PortRow = (record { port = c.in-Some.row.now.port; queued = c.push_back.new.self; sent = c.in-Some.row.now.sent; sent_count = c.in-Some.row.now.sent_count; datagrams = c.in-Some.row.now.datagrams; paired = c.in-Some.row.now.paired; connected = c.in-Some.row.now.connected }) in
    counted_same c.args.ports.now c.args.queue c.args.key messages counted c.in-Some.row.now fresh (sym c.in-Some.ensures.value) refl

pub returns-in-Some-clause-datagrams : goal.returns-in-Some-clause-datagrams
returns-in-Some-clause-datagrams c messages counted =
    let fresh : PortRow = (record { port = c.in-Some.row.now.port; queued = c.push_back.new.self; sent = c.in-Some.row.now.sent; sent_count = c.in-Some.row.now.sent_count; datagrams = c.in-Some.row.now.datagrams; paired = c.in-Some.row.now.paired; connected = c.in-Some.row.now.connected }) in
    datagrams_same c.args.ports.now c.args.queue c.args.key messages counted c.in-Some.row.now fresh (sym c.in-Some.ensures.value) refl
