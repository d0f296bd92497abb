use Rattle.std.proofs.Common.{◌≡◌, arith, ◌≢◌, ◌≤◌, ℕ, refl, sym, ap, subst, ◌∙◌, is_some, IsSome, List, [], ◌∷◌, ◌++◌}
use Rattle.lpc_base.proofs.RowWords.{count-bound, every-push}
use Rattle.lpc_slots.specs.declared.Key.{Key}
use Rattle.lpc_slots.specs.Table.{Table, at, listed, parts}
use Rattle.lpc_slots.proofs.Frames.{at_inserted, inserted_beside, parts_push}
use Rattle.lpc_ports.specs.declared.messages.Block.{Block}
use Rattle.lpc_ports.specs.Table.{QueuedMessage, is_asking, is_closing, is_datagram_of, is_of_type, queued}
use Rattle.lpc_message.specs.declared.kind.TheConstants.{DATAGRAM}
use Rattle.lpc_ports.specs.Layout.{IsSentBefore, QueuesStand, SendersStand, IsCounted, is_open, port_of, ports_of, queued_chain, seen, sent_chain, with_in_queue, with_of_sender}
use Rattle.lpc_ports.specs.Lent.{in_queue_of, is_by, messages_of, of_sender_of, queue_of, queued_of, sender_of}
use Rattle.lpc_ports.proofs.Ordered.{in_order, kept_port, kept_block, kept_messages, kept_names, kept_open, kept_ports, kept_seen, length_shown, key_is_new, keys_apart, mapped_some, sent_push, shown_at, vacant_shown}
use Rattle.lpc_ports.proofs.Stand.{beside_stand}
use Rattle.lpc_ports.proofs.Totalled.{totals_push}
use Rattle.lpc_ports.proofs.Ports.send.Goals as goal

pub add_message-requires : goal.add_message-requires
add_message-requires c =
    let ms = messages_of c.self.inside.blocks in
    let rows = length_shown queued_of (listed c.self.inside.blocks) in
    let few = rw (← c.self.view_is) at c.requires.few in
    record {
      asking = let is = c.self.invariant.totals.asking in let below = count-bound is_asking ms in omega (arith, is, below, rows, c.count.ensures.number, c.count.ensures.most, few);
      closings = let is = c.self.invariant.totals.closings in let below = count-bound is_closing ms in omega (arith, is, below, rows, c.count.ensures.number, c.count.ensures.most, few);
    }

pub push_queued-requires : goal.push_queued-requires
push_queued-requires c = record { present = ap is_some (ap (λ (t : Table Block). at t c.insert_reserved-key.result) c.insert_reserved-key.ensures.table ∙ at_inserted c.self.inside.blocks c.insert_reserved-key.result _) }

pub push_sent-requires : goal.push_sent-requires
push_sent-requires c =
    let present = ap is_some (ap (λ (t : Table Block). at t c.insert_reserved-key.result) c.insert_reserved-key.ensures.table ∙ at_inserted c.self.inside.blocks c.insert_reserved-key.result _) in
    let ports = c.self.inside.ports in
    let old = c.self.inside.blocks in
    let counted : IsCounted c.push_queued.new.ports (messages_of old) = c.push_queued.ensures.counts (messages_of old) c.self.invariant.order.counts in
    record {
      present = kept_block _ _ _ _ c.push_queued.ensures.links c.insert_reserved-key.result ∙ present;
      few = λ row found.
          let is = counted c.args.sender row found in
          let below = count-bound (is_by sender_of c.args.sender) (messages_of old) in
          let rows = length_shown queued_of (listed old) in
          omega (arith, is, below, rows, c.count.ensures.number, c.count.ensures.most, (rw (← c.self.view_is) at c.requires.few));
      few_datagrams = λ row found.
          let is = c.push_queued.ensures.datagrams (messages_of old) c.self.invariant.order.datagrams c.args.sender row found in
          let below = count-bound (is_datagram_of c.args.sender) (messages_of old) in
          let rows = length_shown queued_of (listed old) in
          omega (arith, is, below, rows, c.count.ensures.number, c.count.ensures.most, (rw (← c.self.view_is) at c.requires.few));
    }

pub invariant_of-self : goal.invariant_of-self
invariant_of-self c =
    let old = c.self.inside.blocks in
    let mid = c.insert_reserved-key.new.self in
    let ports = c.self.inside.ports in
    let key = c.insert_reserved-key.result in
    let made = c.insert_reserved-key.ensures in
    let ms = messages_of old in
    let value : QueuedMessage = queued c.args.queue c.args.sender c.args.context c.args.bytes.now in
    let distinct = keys_apart old in
    let away = key_is_new old key made.vacant in
    let beside : (q : Key) → q ≢ key → at mid q ≡ at old q = λ q other. ap (λ (t : Table Block). at t q) made.table ∙ inserted_beside old key _ q other in
    let queues : QueuesStand ports mid ms = beside_stand in_queue_of with_in_queue queued_chain queue_of ports old mid c.args.queue key ms c.self.invariant.order.queues beside away in
    let senders : SendersStand ports mid ms = beside_stand of_sender_of with_of_sender sent_chain sender_of ports old mid c.args.sender key ms c.self.invariant.order.senders beside away in
    let after : messages_of c.push_sent.new.blocks ≡ ms ++ (key, value) ∷ [] =
    kept_messages _ _ _ _ c.push_sent.ensures.links ∙ kept_messages _ _ _ _ c.push_queued.ensures.links ∙ ap (parts queued_of) made.listed ∙ parts_push queued_of (listed old) key _
    ∙ ap (λ (bytes : List _). ms ++ (key, queued c.args.queue c.args.sender c.args.context bytes) ∷ []) c.held.ensures in
    let stands : IsSome (at ports c.args.queue) = sym (mapped_some port_of (at ports c.args.queue)) ∙ ap is_some (sym (shown_at port_of ports c.args.queue)) ∙ (rw (← c.self.view_is) at c.requires.queue) in
    let sender : IsSome (at ports c.args.sender) = sym (mapped_some port_of (at ports c.args.sender)) ∙ ap is_some (sym (shown_at port_of ports c.args.sender)) ∙ (rw (← c.self.view_is) at c.requires.sender) in
    let young : c.args.sender.generation ≤ c.push_queued.new.ports.made = c.push_sent.ensures.young (kept_port _ _ _ _ c.push_queued.ensures.links c.args.sender ∙ sender) in
    let made_is : c.push_sent.new.ports.made ≡ ports.made = c.push_sent.ensures.links.port_made ∙ c.push_queued.ensures.links.port_made in
    let sent_as = ap (λ (bytes : List _). is_of_type DATAGRAM (queued c.args.queue c.args.sender c.args.context bytes).message) (sym c.held.ensures) ∙ sym c.is_datagram-datagram.ensures in
    let order = in_order c.push_sent.new.ports c.push_sent.new.blocks (ms ++ (key, value) ∷ []) after
    (c.push_sent.ensures.queues (ms ++ (key, value) ∷ []) (c.push_queued.ensures.queues ms value queues distinct away refl))
    (c.push_sent.ensures.senders ms value (c.push_queued.ensures.senders ms senders) distinct away refl)
    (kept_open _ _ _ _ c.push_sent.ensures.links _ (kept_open _ _ _ _ c.push_queued.ensures.links _ (every-push (is_open ports) ms (key, value) c.self.invariant.order.stood_in stands)))
    (subst (λ (made : ℕ). IsSentBefore made (ms ++ (key, value) ∷ [])) (sym made_is) (sent_push ports.made ms (key, value) c.self.invariant.order.young (subst (λ (made : ℕ). c.args.sender.generation ≤ made) c.push_queued.ensures.links.port_made young)))
    (c.push_sent.ensures.counts ms value (c.push_queued.ensures.counts ms c.self.invariant.order.counts) distinct away refl)
    (c.push_sent.ensures.datagrams ms value (c.push_queued.ensures.datagrams ms c.self.invariant.order.datagrams) (refl, sent_as)) in
    let entered : QueuedMessage = queued c.args.queue c.args.sender c.args.context c.held.result.items in
    let shown : messages_of c.push_sent.new.blocks ≡ ms ++ (key, entered) ∷ [] =
    kept_messages _ _ _ _ c.push_sent.ensures.links ∙ kept_messages _ _ _ _ c.push_queued.ensures.links ∙ ap (parts queued_of) made.listed ∙ parts_push queued_of (listed old) key _ in
    let still : ports_of c.push_sent.new.ports ≡ ports_of ports = kept_ports _ _ _ _ c.push_sent.ensures.links ∙ kept_ports _ _ _ _ c.push_queued.ensures.links in
    let names = kept_names _ _ _ _ c.push_sent.ensures.links c.self.inside.whole (kept_names _ _ _ _ c.push_queued.ensures.links c.self.inside.whole c.self.invariant.names) in
    record { order = order; totals = rw (c.add_message.ensures, still, shown) (totals_push c.self.inside.totals (ports_of ports) ms c.self.invariant.totals key entered); names = names }

pub returns-clause-vacant : goal.returns-clause-vacant
returns-clause-vacant c = rw (← c.self.view_is) (vacant_shown queued_of c.self.inside.blocks c.insert_reserved-key.result c.insert_reserved-key.ensures.vacant)

pub returns-clause-table : goal.returns-clause-table
returns-clause-table c =
    let old = c.self.inside.blocks in
    let key = c.insert_reserved-key.result in
    let after : messages_of c.insert_reserved-key.new.self ≡ messages_of old ++ (key, queued c.args.queue c.args.sender c.args.context c.args.bytes.now) ∷ [] =
    ap (parts queued_of) c.insert_reserved-key.ensures.listed ∙ parts_push queued_of (listed old) key _
    ∙ ap (λ (bytes : List _). messages_of old ++ (key, queued c.args.queue c.args.sender c.args.context bytes) ∷ []) c.held.ensures in
    rw (← c.self.view_is)
    (kept_seen _ _ _ _ c.push_sent.ensures.links ∙ kept_seen _ _ _ _ c.push_queued.ensures.links
    ∙ (λ i. record (seen c.self.inside.ports old) {
      messages = after i;
      message_room = ap (λ (t : Table Block). t.spare) c.insert_reserved-key.ensures.table i;
      messages_made = ap (λ (t : Table Block). t.made) c.insert_reserved-key.ensures.table i;
    }))
