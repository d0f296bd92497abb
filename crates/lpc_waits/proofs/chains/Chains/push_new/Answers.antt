use Rattle.std.proofs.Common.{refl, sym, ap, subst, List, lit<}
use Rattle.lpc_slots.specs.declared.Key.{Key}
use Rattle.lpc_slots.specs.Table.{keys_of}
use Rattle.lpc_slots.specs.Chain.{StandsFor}
use Rattle.lpc_slots.proofs.Frames.{keys_push}
use Rattle.lpc_slots.specs.Buckets.{RelinksSome}
use Rattle.lpc_slots.proofs.Bucketed.{across_chain, across_stand}
use Rattle.lpc_waits.specs.Lent.{order_links}
use Rattle.lpc_waits.specs.declared.numbers.Numbers.{Numbers}
use Rattle.lpc_waits.specs.Layout.{by_port, by_process, by_queue, by_thread, port_links, process_links, queue_links, thread_links, with_order, with_port, with_process, with_queue, with_thread}
use Rattle.lpc_waits.proofs.Chained.{alone_across, enters_on}
use Rattle.lpc_waits.proofs.chains.Chains.push_new.Goals as goal

pub push_new-requires-2 : goal.push_new-requires-2
push_new-requires-2 c = (
  lit< tt,
  (
    c.requires.wide.ports,
    alone_across port_links c.args.rows.now c.push_new.new.slots c.args.key with_thread (λ _ _. refl) c.push_new.ensures.links
        c.requires.alone.ports,
  ),
)

pub push_new-requires-3 : goal.push_new-requires-3
push_new-requires-3 c = (
  lit< tt,
  (
    c.requires.wide.queues,
    alone_across queue_links c.push_new.new.slots c.push_new-2.new.slots c.args.key with_port (λ _ _. refl) c.push_new-2.ensures.links
        (alone_across queue_links c.args.rows.now c.push_new.new.slots c.args.key with_thread (λ _ _. refl) c.push_new.ensures.links
        c.requires.alone.queues),
  ),
)

pub push_new-requires-4 : goal.push_new-requires-4
push_new-requires-4 c = (
  lit< tt,
  (
    c.requires.wide.processes,
    alone_across process_links c.push_new-2.new.slots c.push_new-3.new.slots c.args.key with_queue (λ _ _. refl) c.push_new-3.ensures.links
        (alone_across process_links c.push_new.new.slots c.push_new-2.new.slots c.args.key with_port (λ _ _. refl) c.push_new-2.ensures.links
        (alone_across process_links c.args.rows.now c.push_new.new.slots c.args.key with_thread (λ _ _. refl) c.push_new.ensures.links
        c.requires.alone.processes)),
  ),
)

pub push_new-requires-5 : goal.push_new-requires-5
push_new-requires-5 c = (
  lit< tt,
  alone_across order_links c.push_new-3.new.slots c.push_new-4.new.slots c.args.key with_process (λ _ _. refl) c.push_new-4.ensures.links
      (alone_across order_links c.push_new-2.new.slots c.push_new-3.new.slots c.args.key with_queue (λ _ _. refl) c.push_new-3.ensures.links
      (alone_across order_links c.push_new.new.slots c.push_new-2.new.slots c.args.key with_port (λ _ _. refl) c.push_new-2.ensures.links
      (alone_across order_links c.args.rows.now c.push_new.new.slots c.args.key with_thread (λ _ _. refl) c.push_new.ensures.links
      c.requires.alone.order))),
)

pub returns-clause-enters : goal.returns-clause-enters
returns-clause-enters c all row on distinct away own =
    let r0 = c.args.rows.now in
    let r1 = c.push_new.new.slots in
    let r2 = c.push_new-2.new.slots in
    let r3 = c.push_new-3.new.slots in
    let r4 = c.push_new-4.new.slots in
    let r5 = c.push_new-5.new.slots in
    let key = c.args.key in
    let numbers = c.args.numbers in
    let threads = enters_on thread_links by_thread r0 r1 c.args.self.now.threads.chains.items c.push_new.new.self.chains.items key numbers.thread c.push_new.ensures.enters all row on.threads distinct away (ap (λ (n : Numbers). n.thread) own) in
    let ports = enters_on port_links by_port r1 r2 c.args.self.now.ports.chains.items c.push_new-2.new.self.chains.items key numbers.port c.push_new-2.ensures.enters all row
    (across_stand port_links with_port r0 r1 c.args.self.now.ports.chains.items _ with_thread (λ _ _. refl) c.push_new.ensures.links on.ports) distinct away (ap (λ (n : Numbers). n.port) own) in
    let queues = enters_on queue_links by_queue r2 r3 c.args.self.now.queues.chains.items c.push_new-3.new.self.chains.items key numbers.queue c.push_new-3.ensures.enters all row
    (across_stand queue_links with_queue r1 r2 c.args.self.now.queues.chains.items _ with_port (λ _ _. refl) c.push_new-2.ensures.links
    (across_stand queue_links with_queue r0 r1 c.args.self.now.queues.chains.items _ with_thread (λ _ _. refl) c.push_new.ensures.links on.queues)) distinct away (ap (λ (n : Numbers). n.queue) own) in
    let processes = enters_on process_links by_process r3 r4 c.args.self.now.processes.chains.items c.push_new-4.new.self.chains.items key numbers.process c.push_new-4.ensures.enters all row
    (across_stand process_links with_process r2 r3 c.args.self.now.processes.chains.items _ with_queue (λ _ _. refl) c.push_new-3.ensures.links
    (across_stand process_links with_process r1 r2 c.args.self.now.processes.chains.items _ with_port (λ _ _. refl) c.push_new-2.ensures.links
    (across_stand process_links with_process r0 r1 c.args.self.now.processes.chains.items _ with_thread (λ _ _. refl) c.push_new.ensures.links on.processes))) distinct away (ap (λ (n : Numbers). n.process) own) in
    let order = subst (λ (ks : List Key). StandsFor order_links r5 c.push_new-5.new.self ks) (sym (keys_push all key row)) (c.push_new-5.ensures.chain (keys_of all)
    (across_chain order_links with_order r3 r4 c.args.self.now.order (keys_of all) with_process (λ _ _. refl) c.push_new-4.ensures.links
    (across_chain order_links with_order r2 r3 c.args.self.now.order (keys_of all) with_queue (λ _ _. refl) c.push_new-3.ensures.links
    (across_chain order_links with_order r1 r2 c.args.self.now.order (keys_of all) with_port (λ _ _. refl) c.push_new-2.ensures.links
    (across_chain order_links with_order r0 r1 c.args.self.now.order (keys_of all) with_thread (λ _ _. refl) c.push_new.ensures.links on.order)))) away) in
    let last : RelinksSome with_order r4 r5 = (_, c.push_new-5.ensures.links) in
    record {
      order = order;
      threads =
          across_stand thread_links with_thread r4 r5 c.push_new.new.self.chains.items _ with_order (λ _ _. refl) last
          (across_stand thread_links with_thread r3 r4 c.push_new.new.self.chains.items _ with_process (λ _ _. refl) c.push_new-4.ensures.links
          (across_stand thread_links with_thread r2 r3 c.push_new.new.self.chains.items _ with_queue (λ _ _. refl) c.push_new-3.ensures.links
          (across_stand thread_links with_thread r1 r2 c.push_new.new.self.chains.items _ with_port (λ _ _. refl) c.push_new-2.ensures.links threads)));
      ports =
          across_stand port_links with_port r4 r5 c.push_new-2.new.self.chains.items _ with_order (λ _ _. refl) last
          (across_stand port_links with_port r3 r4 c.push_new-2.new.self.chains.items _ with_process (λ _ _. refl) c.push_new-4.ensures.links
          (across_stand port_links with_port r2 r3 c.push_new-2.new.self.chains.items _ with_queue (λ _ _. refl) c.push_new-3.ensures.links ports));
      queues =
          across_stand queue_links with_queue r4 r5 c.push_new-3.new.self.chains.items _ with_order (λ _ _. refl) last
          (across_stand queue_links with_queue r3 r4 c.push_new-3.new.self.chains.items _ with_process (λ _ _. refl) c.push_new-4.ensures.links queues);
      processes = across_stand process_links with_process r4 r5 c.push_new-4.new.self.chains.items _ with_order (λ _ _. refl) last processes;
    }
