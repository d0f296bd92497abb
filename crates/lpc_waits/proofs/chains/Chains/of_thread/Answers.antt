use Rattle.std.proofs.Common.{refl, ap, sym, ◌∙◌, length, option_map, eq-eqb}
use Rattle.std.proofs.lemmas.Bool.{ne_eqb}
use Rattle.lpc_base.specs.Rows.{first}
use Rattle.lpc_slots.specs.declared.Key.{Key}
use Rattle.lpc_slots.specs.Buckets.{first_under}
use Rattle.lpc_waits.specs.Table.{WaitingThread}
use Rattle.lpc_waits.specs.Lent.{keyed, waiting_of}
use Rattle.lpc_waits.specs.Layout.{by_thread, thread_links, with_thread}
use Rattle.lpc_waits.specs.Sought.{is_by}
use Rattle.lpc_waits.specs.Walk.{is_beside}
use Rattle.lpc_waits.proofs.Beside.{by_beside}
use Rattle.lpc_waits.proofs.Walked.{all_from, begins_there, chain_of, fewer_after, first_among, met_here, passed_over, row_there, stands_after}
use Rattle.lpc_waits.proofs.chains.Chains.of_thread.Goals as goal

pub loop-next-init : goal.loop-next-init
loop-next-init c =
    let rows = c.args.rows.now in
    let chains = c.args.self.now.threads.chains.items in
    let among = is_beside by_thread (length chains) c.args.thread in
    let on = chain_of 1 thread_links rows chains by_thread c.args.thread c.requires.on.threads (λ some. (c.requires.wide some).threads) in
    rw c.front-next.ensures
    (record {
      stands = begins_there thread_links with_thread (λ _ _. refl) (λ _ _ _. refl) rows among (first_under chains c.args.thread) on;
      walked = ap (first (is_by c.args.thread)) (all_from thread_links with_thread (λ _ _. refl) (λ _ _ _. refl) rows among (first_under chains c.args.thread) on) ∙ first_among (is_by c.args.thread) among (by_beside (length chains) c.args.thread) (keyed rows);
    })

pub returns-then-standing-thread : goal.returns-then-standing-thread
returns-then-standing-thread c =
    let rows = c.args.rows.now in
    let chains = c.args.self.now.threads.chains.items in
    let among = is_beside by_thread (length chains) c.args.thread in
    let on = chain_of 1 thread_links rows chains by_thread c.args.thread c.requires.on.threads (λ some. (c.requires.wide some).threads) in
    let stands = rw c.in-Some.is at c.loop-next.invariant.stands in
    let walked = rw c.in-Some.is at c.loop-next.invariant.walked in
    let standing = c.in-Some-get.standing.now in
    let met = met_here thread_links with_thread (λ _ _. refl) (λ _ _ _. refl) rows among (first_under chains c.args.thread) on c.in-Some.key stands standing (sym c.in-Some-get.ensures.value) (is_by c.args.thread) (eq-eqb (waiting_of standing).thread c.args.thread c.if-standing-thread.true) in
    ap (option_map (λ (row : Key × WaitingThread). row.0)) (sym met ∙ walked)

pub loop-next-smaller : goal.loop-next-smaller
loop-next-smaller c =
    let rows = c.args.rows.now in
    let chains = c.args.self.now.threads.chains.items in
    let among = is_beside by_thread (length chains) c.args.thread in
    let on = chain_of 1 thread_links rows chains by_thread c.args.thread c.requires.on.threads (λ some. (c.requires.wide some).threads) in
    let stands = rw c.in-Some.is at c.loop-next.invariant.stands in
    rw c.in-Some.is
    (fewer_after thread_links with_thread (λ _ _. refl) (λ _ _ _. refl) rows among (first_under chains c.args.thread) on c.in-Some.key stands c.in-Some-get.standing.now (sym c.in-Some-get.ensures.value))

pub loop-next-preserved : goal.loop-next-preserved
loop-next-preserved c =
    let rows = c.args.rows.now in
    let chains = c.args.self.now.threads.chains.items in
    let among = is_beside by_thread (length chains) c.args.thread in
    let on = chain_of 1 thread_links rows chains by_thread c.args.thread c.requires.on.threads (λ some. (c.requires.wide some).threads) in
    let stands = rw c.in-Some.is at c.loop-next.invariant.stands in
    let walked = rw c.in-Some.is at c.loop-next.invariant.walked in
    let standing = c.in-Some-get.standing.now in
    record {
      stands = stands_after thread_links with_thread (λ _ _. refl) (λ _ _ _. refl) rows among (first_under chains c.args.thread) on c.in-Some.key stands standing (sym c.in-Some-get.ensures.value);
      walked = passed_over thread_links with_thread (λ _ _. refl) (λ _ _ _. refl) rows among (first_under chains c.args.thread) on c.in-Some.key stands standing (sym c.in-Some-get.ensures.value) (is_by c.args.thread) (ne_eqb (waiting_of standing).thread c.args.thread c.if-standing-thread.false) ∙ walked;
    }

pub unreachable-requires : goal.unreachable-requires
unreachable-requires c =
    let rows = c.args.rows.now in
    let chains = c.args.self.now.threads.chains.items in
    let among = is_beside by_thread (length chains) c.args.thread in
    let on = chain_of 1 thread_links rows chains by_thread c.args.thread c.requires.on.threads (λ some. (c.requires.wide some).threads) in
    let stands = rw c.in-Some.is at c.loop-next.invariant.stands in
    row_there thread_links with_thread (λ _ _. refl) (λ _ _ _. refl) rows among (first_under chains c.args.thread) on c.in-Some.key stands (sym c.in-None.ensures.value)
