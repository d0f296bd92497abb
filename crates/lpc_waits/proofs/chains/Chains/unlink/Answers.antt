use Rattle.std.proofs.Common.{lit<, refl, sym, ap, subst, List, ◌∷◌, ◌++◌}
use Rattle.lpc_slots.specs.declared.Key.{Key}
use Rattle.lpc_slots.specs.Chain.{StandsFor}
use Rattle.lpc_slots.proofs.Frames.{keys_without}
use Rattle.lpc_slots.specs.Buckets.{RelinksSome}
use Rattle.lpc_slots.proofs.Bucketed.{across_chain, across_stand}
use Rattle.lpc_waits.specs.Lent.{order_links}
use Rattle.lpc_waits.specs.declared.numbers.Numbers.{Numbers}
use Rattle.lpc_waits.specs.Layout.{by_port, by_process, by_queue, by_thread, port_links, process_links, queue_links, thread_links, with_order, with_port, with_process, with_queue, with_thread}
use Rattle.lpc_waits.proofs.Chained.{keeps, keeps_twice, leaves_on, placed_on, split_key}
use Rattle.lpc_waits.proofs.chains.Chains.unlink.Goals as goal

pub unlink-requires : goal.unlink-requires
unlink-requires c =
    let of = c.requires.stands.2 in
    let stand = c.requires.stands.1.threads in
    (lit< tt, (c.requires.wide.threads, (_, stand, placed_on thread_links by_thread c.args.rows.now c.args.rows.now c.args.self.now.threads.chains.items c.args.self.now.threads.chains.items c.args.key c.args.numbers.thread c.requires.stands.0 of.row of.distinct of.stands (ap (λ (n : Numbers). n.thread) of.own))))

pub unlink-requires-2 : goal.unlink-requires-2
unlink-requires-2 c =
    let of = c.requires.stands.2 in
    let stand = (across_stand port_links with_port c.args.rows.now c.unlink.new.slots c.args.self.now.ports.chains.items _ with_thread (λ _ _. refl) c.unlink.ensures.links c.requires.stands.1.ports) in
    (lit< tt, (c.requires.wide.ports, (_, stand, placed_on port_links by_port c.args.rows.now c.args.rows.now c.args.self.now.ports.chains.items c.args.self.now.ports.chains.items c.args.key c.args.numbers.port c.requires.stands.0 of.row of.distinct of.stands (ap (λ (n : Numbers). n.port) of.own))))

pub unlink-requires-3 : goal.unlink-requires-3
unlink-requires-3 c =
    let of = c.requires.stands.2 in
    let stand = (across_stand queue_links with_queue c.unlink.new.slots c.unlink-2.new.slots c.args.self.now.queues.chains.items _ with_port (λ _ _. refl) c.unlink-2.ensures.links (across_stand queue_links with_queue c.args.rows.now c.unlink.new.slots c.args.self.now.queues.chains.items _ with_thread (λ _ _. refl) c.unlink.ensures.links c.requires.stands.1.queues)) in
    (lit< tt, (c.requires.wide.queues, (_, stand, placed_on queue_links by_queue c.args.rows.now c.args.rows.now c.args.self.now.queues.chains.items c.args.self.now.queues.chains.items c.args.key c.args.numbers.queue c.requires.stands.0 of.row of.distinct of.stands (ap (λ (n : Numbers). n.queue) of.own))))

pub unlink-requires-4 : goal.unlink-requires-4
unlink-requires-4 c =
    let of = c.requires.stands.2 in
    let stand = (across_stand process_links with_process c.unlink-2.new.slots c.unlink-3.new.slots c.args.self.now.processes.chains.items _ with_queue (λ _ _. refl) c.unlink-3.ensures.links (across_stand process_links with_process c.unlink.new.slots c.unlink-2.new.slots c.args.self.now.processes.chains.items _ with_port (λ _ _. refl) c.unlink-2.ensures.links (across_stand process_links with_process c.args.rows.now c.unlink.new.slots c.args.self.now.processes.chains.items _ with_thread (λ _ _. refl) c.unlink.ensures.links c.requires.stands.1.processes))) in
    (lit< tt, (c.requires.wide.processes, (_, stand, placed_on process_links by_process c.args.rows.now c.args.rows.now c.args.self.now.processes.chains.items c.args.self.now.processes.chains.items c.args.key c.args.numbers.process c.requires.stands.0 of.row of.distinct of.stands (ap (λ (n : Numbers). n.process) of.own))))

pub unlink-requires-5 : goal.unlink-requires-5
unlink-requires-5 c =
    let of = c.requires.stands.2 in
    let keys = split_key c.args.key of.row c.requires.stands.0 of.stands in
    let stand =
    across_chain order_links with_order c.unlink-3.new.slots c.unlink-4.new.slots c.args.self.now.order _ with_process (λ _ _. refl) c.unlink-4.ensures.links
    (across_chain order_links with_order c.unlink-2.new.slots c.unlink-3.new.slots c.args.self.now.order _ with_queue (λ _ _. refl) c.unlink-3.ensures.links
    (across_chain order_links with_order c.unlink.new.slots c.unlink-2.new.slots c.args.self.now.order _ with_port (λ _ _. refl) c.unlink-2.ensures.links
    (across_chain order_links with_order c.args.rows.now c.unlink.new.slots c.args.self.now.order _ with_thread (λ _ _. refl) c.unlink.ensures.links c.requires.stands.1.order))) in
    (lit< tt, (keys.0, keys.1, subst (λ (ks : List Key). StandsFor order_links c.unlink-4.new.slots c.args.self.now.order ks) keys.2 stand))

pub returns-clause-leaves : goal.returns-clause-leaves
returns-clause-leaves c all on of =
    let threads = leaves_on thread_links by_thread c.args.rows.now c.unlink.new.slots c.args.self.now.threads.chains.items c.unlink.new.self.chains.items c.args.key c.args.numbers.thread c.unlink.ensures.leaves all of.row
    on.threads of.distinct of.stands (ap (λ (n : Numbers). n.thread) of.own) in
    let ports = leaves_on port_links by_port c.unlink.new.slots c.unlink-2.new.slots c.args.self.now.ports.chains.items c.unlink-2.new.self.chains.items c.args.key c.args.numbers.port c.unlink-2.ensures.leaves all of.row
    (across_stand port_links with_port c.args.rows.now c.unlink.new.slots c.args.self.now.ports.chains.items _ with_thread (λ _ _. refl) c.unlink.ensures.links on.ports) of.distinct of.stands (ap (λ (n : Numbers). n.port) of.own) in
    let queues = leaves_on queue_links by_queue c.unlink-2.new.slots c.unlink-3.new.slots c.args.self.now.queues.chains.items c.unlink-3.new.self.chains.items c.args.key c.args.numbers.queue c.unlink-3.ensures.leaves all of.row
    (across_stand queue_links with_queue c.unlink.new.slots c.unlink-2.new.slots c.args.self.now.queues.chains.items _ with_port (λ _ _. refl) c.unlink-2.ensures.links (across_stand queue_links with_queue c.args.rows.now c.unlink.new.slots c.args.self.now.queues.chains.items _ with_thread (λ _ _. refl) c.unlink.ensures.links on.queues)) of.distinct of.stands (ap (λ (n : Numbers). n.queue) of.own) in
    let processes = leaves_on process_links by_process c.unlink-3.new.slots c.unlink-4.new.slots c.args.self.now.processes.chains.items c.unlink-4.new.self.chains.items c.args.key c.args.numbers.process c.unlink-4.ensures.leaves all of.row
    (across_stand process_links with_process c.unlink-2.new.slots c.unlink-3.new.slots c.args.self.now.processes.chains.items _ with_queue (λ _ _. refl) c.unlink-3.ensures.links (across_stand process_links with_process c.unlink.new.slots c.unlink-2.new.slots c.args.self.now.processes.chains.items _ with_port (λ _ _. refl) c.unlink-2.ensures.links (across_stand process_links with_process c.args.rows.now c.unlink.new.slots c.args.self.now.processes.chains.items _ with_thread (λ _ _. refl) c.unlink.ensures.links on.processes))) of.distinct of.stands (ap (λ (n : Numbers). n.process) of.own) in
    let keys = split_key c.args.key of.row all of.stands in
    let stand =
    across_chain order_links with_order c.unlink-3.new.slots c.unlink-4.new.slots c.args.self.now.order _ with_process (λ _ _. refl) c.unlink-4.ensures.links
    (across_chain order_links with_order c.unlink-2.new.slots c.unlink-3.new.slots c.args.self.now.order _ with_queue (λ _ _. refl) c.unlink-3.ensures.links
    (across_chain order_links with_order c.unlink.new.slots c.unlink-2.new.slots c.args.self.now.order _ with_port (λ _ _. refl) c.unlink-2.ensures.links
    (across_chain order_links with_order c.args.rows.now c.unlink.new.slots c.args.self.now.order _ with_thread (λ _ _. refl) c.unlink.ensures.links on.order))) in
    let mine : StandsFor order_links c.unlink-4.new.slots c.args.self.now.order (keys.0 ++ c.args.key ∷ keys.1) = subst (λ (ks : List Key). StandsFor order_links c.unlink-4.new.slots c.args.self.now.order ks) keys.2 stand in
    let last : RelinksSome with_order c.unlink-4.new.slots c.unlink-5.new.slots = (_, c.unlink-5.ensures.links keys.0 keys.1 mine) in
    record {
      order = subst (λ (ks : List Key). StandsFor order_links c.unlink-5.new.slots c.unlink-5.new.self ks) (sym (keys_without c.args.key keys.0 keys.1 all of.distinct keys.2)) (c.unlink-5.ensures.chain keys.0 keys.1 mine);
      threads =
          across_stand thread_links with_thread c.unlink-4.new.slots c.unlink-5.new.slots c.unlink.new.self.chains.items _ with_order (λ _ _. refl) last
          (across_stand thread_links with_thread c.unlink-3.new.slots c.unlink-4.new.slots c.unlink.new.self.chains.items _ with_process (λ _ _. refl) c.unlink-4.ensures.links
          (across_stand thread_links with_thread c.unlink-2.new.slots c.unlink-3.new.slots c.unlink.new.self.chains.items _ with_queue (λ _ _. refl) c.unlink-3.ensures.links
          (across_stand thread_links with_thread c.unlink.new.slots c.unlink-2.new.slots c.unlink.new.self.chains.items _ with_port (λ _ _. refl) c.unlink-2.ensures.links threads)));
      ports =
          across_stand port_links with_port c.unlink-4.new.slots c.unlink-5.new.slots c.unlink-2.new.self.chains.items _ with_order (λ _ _. refl) last
          (across_stand port_links with_port c.unlink-3.new.slots c.unlink-4.new.slots c.unlink-2.new.self.chains.items _ with_process (λ _ _. refl) c.unlink-4.ensures.links
          (across_stand port_links with_port c.unlink-2.new.slots c.unlink-3.new.slots c.unlink-2.new.self.chains.items _ with_queue (λ _ _. refl) c.unlink-3.ensures.links ports));
      queues =
          across_stand queue_links with_queue c.unlink-4.new.slots c.unlink-5.new.slots c.unlink-3.new.self.chains.items _ with_order (λ _ _. refl) last
          (across_stand queue_links with_queue c.unlink-3.new.slots c.unlink-4.new.slots c.unlink-3.new.self.chains.items _ with_process (λ _ _. refl) c.unlink-4.ensures.links queues);
      processes = across_stand process_links with_process c.unlink-4.new.slots c.unlink-5.new.slots c.unlink-4.new.self.chains.items _ with_order (λ _ _. refl) last processes;
    }

pub returns-clause-rows : goal.returns-clause-rows
returns-clause-rows c =
    let of = c.requires.stands.2 in
    let r0 = c.args.rows.now in
    let r1 = c.unlink.new.slots in
    let r2 = c.unlink-2.new.slots in
    let r3 = c.unlink-3.new.slots in
    let r4 = c.unlink-4.new.slots in
    let r5 = c.unlink-5.new.slots in
    let keys = split_key c.args.key of.row c.requires.stands.0 of.stands in
    let stand =
    across_chain order_links with_order r3 r4 c.args.self.now.order _ with_process (λ _ _. refl) c.unlink-4.ensures.links
    (across_chain order_links with_order r2 r3 c.args.self.now.order _ with_queue (λ _ _. refl) c.unlink-3.ensures.links
    (across_chain order_links with_order r1 r2 c.args.self.now.order _ with_port (λ _ _. refl) c.unlink-2.ensures.links
    (across_chain order_links with_order r0 r1 c.args.self.now.order _ with_thread (λ _ _. refl) c.unlink.ensures.links c.requires.stands.1.order))) in
    let mine = subst (λ (ks : List Key). StandsFor order_links r4 c.args.self.now.order ks) keys.2 stand in
    let last : RelinksSome with_order r4 r5 = (_, c.unlink-5.ensures.links keys.0 keys.1 mine) in
    keeps_twice r0 r1 r5 (keeps with_thread (λ _ _. refl) r0 r1 c.unlink.ensures.links)
    (keeps_twice r1 r2 r5 (keeps with_port (λ _ _. refl) r1 r2 c.unlink-2.ensures.links)
    (keeps_twice r2 r3 r5 (keeps with_queue (λ _ _. refl) r2 r3 c.unlink-3.ensures.links)
    (keeps_twice r3 r4 r5 (keeps with_process (λ _ _. refl) r3 r4 c.unlink-4.ensures.links) (keeps with_order (λ _ _. refl) r4 r5 last))))
