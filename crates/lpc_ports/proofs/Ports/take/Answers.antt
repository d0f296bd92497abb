use Rattle.std.proofs.Common.{◌≡◌, ◌≢◌, ℕ, sym, ap, subst, ◌∙◌, is_some, IsSome, Some, None, option_map, true≢false}
use Rattle.lpc_base.specs.Rows.{without}
use Rattle.lpc_base.proofs.RowWords.{every-without}
use Rattle.lpc_slots.specs.declared.Key.{Key}
use Rattle.lpc_slots.specs.Table.{Table, at, at_key, listed, parts}
use Rattle.lpc_slots.proofs.Frames.{parts_without, removed_beside}
use Rattle.lpc_ports.specs.declared.messages.Block.{Block}
use Rattle.lpc_ports.specs.Table.{row_at, without_message}
use Rattle.lpc_ports.specs.Layout.{IsSentBefore, QueuesStand, SendersStand, is_open, ports_of, queued_chain, seen, sent_chain, with_in_queue, with_of_sender}
use Rattle.lpc_ports.specs.Lent.{in_queue_of, messages_of, of_sender_of, queue_of, queued_of, sender_of}
use Rattle.lpc_ports.proofs.Ordered.{away_gone, datagram_placed, gone, keys_apart, in_order, kept_block, kept_messages, kept_names, kept_open, kept_ports, kept_seen, placed_at, sent_without, shown_at}
use Rattle.lpc_ports.proofs.Stand.{beside_stand}
use Rattle.lpc_ports.proofs.Totalled.{asking_counted, closings_counted, totals_without}
use Rattle.lpc_ports.proofs.Ports.take.Goals as goal

pub remove_message-requires : goal.remove_message-requires
remove_message-requires c =
    let blocks = c.self.inside.blocks in
    let there = shown_at queued_of blocks c.args.message ∙ ap (option_map queued_of) (sym c.in-Some.ensures.value) in
    record {
      asking = asking_counted c.self.inside.totals (ports_of c.self.inside.ports) (messages_of blocks) c.self.invariant.totals c.args.message (queued_of c.in-Some.block.now) (keys_apart blocks) there;
      closings = closings_counted c.self.inside.totals (ports_of c.self.inside.ports) (messages_of blocks) c.self.invariant.totals c.args.message (queued_of c.in-Some.block.now) (keys_apart blocks) there;
    }

pub unlink_queued-requires : goal.unlink_queued-requires
unlink_queued-requires c =
    record { placed = (messages_of c.self.inside.blocks, c.self.invariant.order.queues, placed_at queue_of c.self.inside.blocks c.args.message c.in-Some.block.now (sym c.in-Some.ensures.value)) }

pub unlink_sent-requires : goal.unlink_sent-requires
unlink_sent-requires c =
    record {
      placed = (messages_of c.self.inside.blocks, (c.unlink_queued.ensures.senders (messages_of c.self.inside.blocks) c.self.invariant.order.senders, c.unlink_queued.ensures.counts (messages_of c.self.inside.blocks) c.self.invariant.order.counts), placed_at sender_of c.self.inside.blocks c.args.message c.in-Some.block.now (sym c.in-Some.ensures.value));
      counted = (messages_of c.self.inside.blocks, c.unlink_queued.ensures.datagrams (messages_of c.self.inside.blocks) c.self.invariant.order.datagrams, datagram_placed c.self.inside.blocks c.args.message c.in-Some.block.now c.is_datagram-datagram.result (sym c.in-Some.ensures.value) (sym c.is_datagram-datagram.ensures));
    }

pub invariant_of-self : goal.invariant_of-self
invariant_of-self c =
    let old = c.self.inside.blocks in
    let ports = c.self.inside.ports in
    let key = c.args.message in
    let ms = messages_of old in
    let left = without (at_key key) ms in
    let there : at old key ≡ Some c.in-Some.block.now = sym c.in-Some.ensures.value in
    let present : IsSome (at c.unlink_sent.new.blocks key) = kept_block _ _ _ _ c.unlink_sent.ensures.links key ∙ kept_block _ _ _ _ c.unlink_queued.ensures.links key ∙ ap is_some there in
    let taken = gone c.unlink_sent.new.blocks c.remove.new.self key c.remove.result c.remove.ensures.value present c.remove.ensures.table c.remove.ensures.listed in
    let beside : (q : Key) → q ≢ key → at c.remove.new.self q ≡ at c.unlink_sent.new.blocks q = λ q other. ap (λ (t : Table Block). at t q) taken.0 ∙ removed_beside c.unlink_sent.new.blocks key q other in
    let queues : QueuesStand c.unlink_sent.new.ports c.unlink_sent.new.blocks left = c.unlink_sent.ensures.queues left (c.unlink_queued.ensures.queues ms c.self.invariant.order.queues (placed_at queue_of old key c.in-Some.block.now there)) in
    let senders : SendersStand c.unlink_sent.new.ports c.unlink_sent.new.blocks left = c.unlink_sent.ensures.senders ms (c.unlink_queued.ensures.senders ms c.self.invariant.order.senders) (placed_at sender_of old key c.in-Some.block.now there) in
    let after : messages_of c.remove.new.self ≡ left =
    ap (parts queued_of) taken.1 ∙ parts_without queued_of key (listed c.unlink_sent.new.blocks)
    ∙ ap (without (at_key key)) (kept_messages _ _ _ _ c.unlink_sent.ensures.links ∙ kept_messages _ _ _ _ c.unlink_queued.ensures.links) in
    let made_is : c.unlink_sent.new.ports.made ≡ ports.made = c.unlink_sent.ensures.links.port_made ∙ c.unlink_queued.ensures.links.port_made in
    let order = in_order c.unlink_sent.new.ports c.remove.new.self left after
    (beside_stand in_queue_of with_in_queue queued_chain queue_of c.unlink_sent.new.ports c.unlink_sent.new.blocks c.remove.new.self key key left queues beside (away_gone key ms))
    (beside_stand of_sender_of with_of_sender sent_chain sender_of c.unlink_sent.new.ports c.unlink_sent.new.blocks c.remove.new.self key key left senders beside (away_gone key ms))
    (kept_open _ _ _ _ c.unlink_sent.ensures.links _ (kept_open _ _ _ _ c.unlink_queued.ensures.links _ (every-without (is_open ports) (at_key key) ms c.self.invariant.order.stood_in)))
    (subst (λ (made : ℕ). IsSentBefore made left) (sym made_is) (sent_without ports.made (at_key key) ms c.self.invariant.order.young))
    (c.unlink_sent.ensures.counts ms (c.unlink_queued.ensures.counts ms c.self.invariant.order.counts) (placed_at sender_of old key c.in-Some.block.now there))
    (c.unlink_sent.ensures.datagrams ms (c.unlink_queued.ensures.datagrams ms c.self.invariant.order.datagrams) (datagram_placed old key c.in-Some.block.now c.is_datagram-datagram.result there (sym c.is_datagram-datagram.ensures))) in
    let still : ports_of c.unlink_sent.new.ports ≡ ports_of ports = kept_ports _ _ _ _ c.unlink_sent.ensures.links ∙ kept_ports _ _ _ _ c.unlink_queued.ensures.links in
    let totals = totals_without c.self.inside.totals (ports_of ports) ms c.self.invariant.totals key (queued_of c.in-Some.block.now) (keys_apart old) (shown_at queued_of old key ∙ ap (option_map queued_of) there) in
    let names = kept_names _ _ _ _ c.unlink_sent.ensures.links c.self.inside.whole (kept_names _ _ _ _ c.unlink_queued.ensures.links c.self.inside.whole c.self.invariant.names) in
    record { order = order; totals = rw (c.remove_message.ensures, still, after) totals; names = names }

pub returns-clause-table : goal.returns-clause-table
returns-clause-table c =
    let old = c.self.inside.blocks in
    let key = c.args.message in
    let there : at old key ≡ Some c.in-Some.block.now = sym c.in-Some.ensures.value in
    let present : IsSome (at c.unlink_sent.new.blocks key) = kept_block _ _ _ _ c.unlink_sent.ensures.links key ∙ kept_block _ _ _ _ c.unlink_queued.ensures.links key ∙ ap is_some there in
    let taken = gone c.unlink_sent.new.blocks c.remove.new.self key c.remove.result c.remove.ensures.value present c.remove.ensures.table c.remove.ensures.listed in
    let same = kept_seen _ _ _ _ c.unlink_sent.ensures.links ∙ kept_seen _ _ _ _ c.unlink_queued.ensures.links in
    λ stands. rw (← c.self.view_is)
    ((λ i. record (seen c.unlink_sent.new.ports c.unlink_sent.new.blocks) {
      messages = (ap (parts queued_of) taken.1 ∙ parts_without queued_of key (listed c.unlink_sent.new.blocks)) i;
      message_room = ap (λ (t : Table Block). t.spare) taken.0 i;
      messages_made = ap (λ (t : Table Block). t.made) taken.0 i;
    })
    ∙ ap (λ s. without_message s key) same)

pub returns-in_default-clause-table : goal.returns-in_default-clause-table
returns-in_default-clause-table c = λ stands.
    let none : row_at c.args.self.now.messages c.args.message ≡ None = rw (← c.self.view_is) (shown_at queued_of c.self.inside.blocks c.args.message ∙ ap (option_map queued_of) (sym c.in_default.ensures.value)) in
    absurd (true≢false (sym stands ∙ ap is_some none))

pub returns-in_default-clause-apart : goal.returns-in_default-clause-apart
returns-in_default-clause-apart c = rw (← c.self.view_is) (keys_apart c.self.inside.blocks)

pub returns-clause-apart : goal.returns-clause-apart
returns-clause-apart c = rw (← c.self.view_is) (keys_apart c.self.inside.blocks)
