use Rattle.std.proofs.Common.{◌≡◌, true, false, is_some, refl, ap, sym, ◌∙◌, length, option_map}
use Rattle.lpc_base.specs.Rows.{first}
use Rattle.lpc_slots.specs.declared.Key.{Key}
use Rattle.lpc_slots.specs.Buckets.{first_under}
use Rattle.lpc_waits.specs.Table.{WaitingThread, is_marked}
use Rattle.lpc_waits.specs.Lent.{keyed, waiting_of}
use Rattle.lpc_waits.specs.Layout.{by_queue, queue_links, with_queue}
use Rattle.lpc_waits.specs.Numbers.{apart}
use Rattle.lpc_waits.specs.Sought.{is_found_in, is_taking}
use Rattle.lpc_waits.specs.Walk.{is_beside}
use Rattle.lpc_waits.proofs.Beside.{found_in_beside, met, off_key, off_sought, marked_off}
use Rattle.lpc_waits.proofs.Walked.{all_from, begins_there, chain_of, fewer_after, first_among, met_here, passed_over, row_there, stands_after}
use Rattle.lpc_waits.proofs.chains.Chains.first_in.Goals as goal
use Rattle.lpc_waits.proofs.chains.Chains.first_in.Goals.{then-eq+then-is_met+in-Some-mark_place, else-eq, else-eq-via-then-eq+else-is_met, else-eq-via-else-eq}

pub loop-next-init : goal.loop-next-init
loop-next-init c =
    let rows = c.args.rows.now in
    let chains = c.args.self.now.queues.chains.items in
    let number = apart c.args.queue.index (is_taking c.args.sought) in
    let among = is_beside by_queue (length chains) number in
    let on = chain_of 3 queue_links rows chains by_queue number c.requires.on.queues (λ some. (c.requires.wide some).queues) in
    rw (c.front-next.ensures ∙ ap (first_under chains) (c.apart.ensures ∙ ap (apart c.args.queue.index) c.is_taking.ensures))
    (record {
      stands = begins_there queue_links with_queue (λ _ _. refl) (λ _ _ _. refl) rows among (first_under chains number) on;
      walked = ap (first (is_found_in c.args.queue c.args.sought c.args.marks.now)) (all_from queue_links with_queue (λ _ _. refl) (λ _ _ _. refl) rows among (first_under chains number) on) ∙ first_among (is_found_in c.args.queue c.args.sought c.args.marks.now) among (found_in_beside (length chains) c.args.queue c.args.sought c.args.marks.now) (keyed rows);
    })

pub returns-in-None-mark_place : goal.returns-in-None-mark_place
returns-in-None-mark_place c =
    let rows = c.args.rows.now in
    let chains = c.args.self.now.queues.chains.items in
    let number = apart c.args.queue.index (is_taking c.args.sought) in
    let among = is_beside by_queue (length chains) number in
    let on = chain_of 3 queue_links rows chains by_queue number c.requires.on.queues (λ some. (c.requires.wide some).queues) in
    let stands = rw c.in-Some.is at c.loop-next.invariant.stands in
    let walked = rw c.in-Some.is at c.loop-next.invariant.walked in
    let standing = c.in-Some-get.standing.now in
    let unmarked : is_marked c.args.marks.now (waiting_of standing) ≡ false = sym c.mark_place.ensures.marked ∙ ap is_some c.in-None-mark_place.is in
    let passes : (is_found_in c.args.queue c.args.sought c.args.marks.now) (c.in-Some.key, (waiting_of standing)) ≡ true = met _ _ _ (sym c.is_met.ensures ∙ c.if-is_met.true) unmarked (sym c.eq.ensures ∙ c.if-eq.true) in
    let here = met_here queue_links with_queue (λ _ _. refl) (λ _ _ _. refl) rows among (first_under chains number) on c.in-Some.key stands standing (sym c.in-Some-get.ensures.value) (is_found_in c.args.queue c.args.sought c.args.marks.now) passes in
    ap (option_map (λ (row : Key × WaitingThread). (row.0, row.1.thread))) (sym here ∙ walked)

pub loop-next-smaller : goal.loop-next-smaller
loop-next-smaller c =
    let rows = c.args.rows.now in
    let chains = c.args.self.now.queues.chains.items in
    let number = apart c.args.queue.index (is_taking c.args.sought) in
    let among = is_beside by_queue (length chains) number in
    let on = chain_of 3 queue_links rows chains by_queue number c.requires.on.queues (λ some. (c.requires.wide some).queues) in
    let stands = rw c.in-Some.is at c.loop-next.invariant.stands in
    rw c.in-Some.is
    (fewer_after queue_links with_queue (λ _ _. refl) (λ _ _ _. refl) rows among (first_under chains number) on c.in-Some.key stands c.in-Some-get.standing.now (sym c.in-Some-get.ensures.value))

pub loop-next-preserved : goal.loop-next-preserved
loop-next-preserved c =
    let rows = c.args.rows.now in
    let chains = c.args.self.now.queues.chains.items in
    let number = apart c.args.queue.index (is_taking c.args.sought) in
    let among = is_beside by_queue (length chains) number in
    let on = chain_of 3 queue_links rows chains by_queue number c.requires.on.queues (λ some. (c.requires.wide some).queues) in
    let stands = rw c.in-Some.is at c.loop-next.invariant.stands in
    let walked = rw c.in-Some.is at c.loop-next.invariant.walked in
    let standing = c.in-Some-get.standing.now in
    let fails : (is_found_in c.args.queue c.args.sought c.args.marks.now) (c.in-Some.key, (waiting_of standing)) ≡ false =
    elim c.if-eq.branch [
      | then-eq+then-is_met+in-Some-mark_place w ↦ marked_off _ _ _ (sym w.mark_place.ensures.marked ∙ ap is_some w.in-Some-mark_place.is)
      | else-eq w ↦
          elim w.else-eq.branch [
            | else-eq-via-then-eq+else-is_met v ↦ off_sought _ _ _ (sym v.is_met.ensures ∙ v.if-is_met.false)
            | else-eq-via-else-eq v ↦ off_key _ _ (sym c.eq.ensures ∙ v.if-eq.false)
          ]
    ] in
    record {
      stands = stands_after queue_links with_queue (λ _ _. refl) (λ _ _ _. refl) rows among (first_under chains number) on c.in-Some.key stands standing (sym c.in-Some-get.ensures.value);
      walked = passed_over queue_links with_queue (λ _ _. refl) (λ _ _ _. refl) rows among (first_under chains number) on c.in-Some.key stands standing (sym c.in-Some-get.ensures.value) (is_found_in c.args.queue c.args.sought c.args.marks.now) fails ∙ walked;
    }

pub unreachable-requires : goal.unreachable-requires
unreachable-requires c =
    let rows = c.args.rows.now in
    let chains = c.args.self.now.queues.chains.items in
    let number = apart c.args.queue.index (is_taking c.args.sought) in
    let among = is_beside by_queue (length chains) number in
    let on = chain_of 3 queue_links rows chains by_queue number c.requires.on.queues (λ some. (c.requires.wide some).queues) in
    let stands = rw c.in-Some.is at c.loop-next.invariant.stands in
    row_there queue_links with_queue (λ _ _. refl) (λ _ _ _. refl) rows among (first_under chains number) on c.in-Some.key stands (sym c.in-None.ensures.value)
