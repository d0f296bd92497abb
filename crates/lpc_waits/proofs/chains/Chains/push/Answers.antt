use Rattle.std.proofs.Common.{refl, sym, ap, subst, List}
use Rattle.lpc_slots.specs.declared.Key.{Key}
use Rattle.lpc_slots.specs.Table.{keys_of}
use Rattle.lpc_slots.specs.Chain.{StandsFor}
use Rattle.lpc_slots.proofs.Frames.{keys_push}
use Rattle.lpc_slots.specs.Buckets.{RelinksSome}
use Rattle.lpc_slots.proofs.Bucketed.{across_chain, across_stand}
use Rattle.lpc_waits.specs.Lent.{order_links}
use Rattle.lpc_waits.specs.declared.numbers.Numbers.{Numbers}
use Rattle.lpc_waits.specs.Layout.{by_port, by_process, by_queue, by_thread, port_links, process_links, queue_links, thread_links, with_order, with_port, with_process, with_queue, with_thread}
use Rattle.lpc_waits.proofs.Chained.{enters_on}
use Rattle.lpc_waits.proofs.chains.Chains.push.Goals as goal

pub returns-clause-enters : goal.returns-clause-enters
returns-clause-enters c all row on distinct away own =
    let r0 = c.args.rows.now in
    let r1 = c.push.new.slots in
    let r2 = c.push-2.new.slots in
    let r3 = c.push-3.new.slots in
    let r4 = c.push-4.new.slots in
    let r5 = c.push_back.new.slots in
    let key = c.args.key in
    let numbers = c.args.numbers in
    let threads = enters_on thread_links by_thread r0 r1 c.args.self.now.threads.chains.items c.push.new.self.chains.items key numbers.thread c.push.ensures.enters all row on.threads distinct away (ap (λ (n : Numbers). n.thread) own) in
    let ports = enters_on port_links by_port r1 r2 c.args.self.now.ports.chains.items c.push-2.new.self.chains.items key numbers.port c.push-2.ensures.enters all row
    (across_stand port_links with_port r0 r1 c.args.self.now.ports.chains.items _ with_thread (λ _ _. refl) c.push.ensures.links on.ports) distinct away (ap (λ (n : Numbers). n.port) own) in
    let queues = enters_on queue_links by_queue r2 r3 c.args.self.now.queues.chains.items c.push-3.new.self.chains.items key numbers.queue c.push-3.ensures.enters all row
    (across_stand queue_links with_queue r1 r2 c.args.self.now.queues.chains.items _ with_port (λ _ _. refl) c.push-2.ensures.links
    (across_stand queue_links with_queue r0 r1 c.args.self.now.queues.chains.items _ with_thread (λ _ _. refl) c.push.ensures.links on.queues)) distinct away (ap (λ (n : Numbers). n.queue) own) in
    let processes = enters_on process_links by_process r3 r4 c.args.self.now.processes.chains.items c.push-4.new.self.chains.items key numbers.process c.push-4.ensures.enters all row
    (across_stand process_links with_process r2 r3 c.args.self.now.processes.chains.items _ with_queue (λ _ _. refl) c.push-3.ensures.links
    (across_stand process_links with_process r1 r2 c.args.self.now.processes.chains.items _ with_port (λ _ _. refl) c.push-2.ensures.links
    (across_stand process_links with_process r0 r1 c.args.self.now.processes.chains.items _ with_thread (λ _ _. refl) c.push.ensures.links on.processes))) distinct away (ap (λ (n : Numbers). n.process) own) in
    let order = subst (λ (ks : List Key). StandsFor order_links r5 c.push_back.new.self ks) (sym (keys_push all key row)) (c.push_back.ensures.chain (keys_of all)
    (across_chain order_links with_order r3 r4 c.args.self.now.order (keys_of all) with_process (λ _ _. refl) c.push-4.ensures.links
    (across_chain order_links with_order r2 r3 c.args.self.now.order (keys_of all) with_queue (λ _ _. refl) c.push-3.ensures.links
    (across_chain order_links with_order r1 r2 c.args.self.now.order (keys_of all) with_port (λ _ _. refl) c.push-2.ensures.links
    (across_chain order_links with_order r0 r1 c.args.self.now.order (keys_of all) with_thread (λ _ _. refl) c.push.ensures.links on.order)))) away) in
    let last : RelinksSome with_order r4 r5 = (_, c.push_back.ensures.links) in
    record {
      order = order;
      threads =
          across_stand thread_links with_thread r4 r5 c.push.new.self.chains.items _ with_order (λ _ _. refl) last
          (across_stand thread_links with_thread r3 r4 c.push.new.self.chains.items _ with_process (λ _ _. refl) c.push-4.ensures.links
          (across_stand thread_links with_thread r2 r3 c.push.new.self.chains.items _ with_queue (λ _ _. refl) c.push-3.ensures.links
          (across_stand thread_links with_thread r1 r2 c.push.new.self.chains.items _ with_port (λ _ _. refl) c.push-2.ensures.links threads)));
      ports =
          across_stand port_links with_port r4 r5 c.push-2.new.self.chains.items _ with_order (λ _ _. refl) last
          (across_stand port_links with_port r3 r4 c.push-2.new.self.chains.items _ with_process (λ _ _. refl) c.push-4.ensures.links
          (across_stand port_links with_port r2 r3 c.push-2.new.self.chains.items _ with_queue (λ _ _. refl) c.push-3.ensures.links ports));
      queues =
          across_stand queue_links with_queue r4 r5 c.push-3.new.self.chains.items _ with_order (λ _ _. refl) last
          (across_stand queue_links with_queue r3 r4 c.push-3.new.self.chains.items _ with_process (λ _ _. refl) c.push-4.ensures.links queues);
      processes = across_stand process_links with_process r4 r5 c.push-4.new.self.chains.items _ with_order (λ _ _. refl) last processes;
    }
