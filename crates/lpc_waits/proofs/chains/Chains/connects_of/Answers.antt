use Rattle.std.proofs.Common.{◌≡◌, ℕ, Bool, true, false, cond, refl, ap, sym, ◌∙◌, length, eq-eqb, arith}
use Rattle.std.proofs.lemmas.Bool.{ne_eqb}
use Rattle.lpc_base.specs.Rows.{count}
use Rattle.lpc_base.proofs.RowWords.{count-bound}
use Rattle.lpc_slots.specs.Buckets.{first_under}
use Rattle.lpc_waits.specs.Lent.{keyed, waiting_of}
use Rattle.lpc_waits.specs.Layout.{by_process, process_links, with_process}
use Rattle.lpc_waits.specs.Numbers.{apart}
use Rattle.lpc_waits.specs.Sought.{is_connect_by}
use Rattle.lpc_waits.specs.Walk.{is_beside}
use Rattle.lpc_waits.proofs.Beside.{both, connect_beside, off_first, off_key}
use Rattle.lpc_waits.proofs.Chained.{length_keyed}
use Rattle.lpc_waits.proofs.Walked.{all_from, begins_there, chain_of, count_among, counted_on, fewer_after, row_there, stands_after}
use Rattle.lpc_waits.proofs.chains.Chains.connects_of.Goals as goal
use Rattle.lpc_waits.proofs.chains.Chains.connects_of.Goals.{then-is_connect+then-wait-process, else-is_connect, else-is_connect-via-then-is_connect+else-wait-process, else-is_connect-via-else-is_connect}

pub loop-next-init : goal.loop-next-init
loop-next-init c =
    let rows = c.args.rows.now in
    let chains = c.args.self.now.processes.chains.items in
    let number = apart c.args.process true in
    let among = is_beside by_process (length chains) number in
    let on = chain_of 4 process_links rows chains by_process number c.requires.on.processes (λ some. (c.requires.wide some).processes) in
    let all = ap (count (is_connect_by c.args.process)) (all_from process_links with_process (λ _ _. refl) (λ _ _ _. refl) rows among (first_under chains number) on) ∙ count_among (is_connect_by c.args.process) among (connect_beside (length chains) c.args.process) (keyed rows) in
    rw (c.front-next.ensures ∙ ap (first_under chains) c.apart.ensures)
    (record {
      stands = begins_there process_links with_process (λ _ _. refl) (λ _ _ _. refl) rows among (first_under chains number) on;
      walked = omega (arith, all);
    })

pub overflow_add-connects : goal.overflow_add-connects
overflow_add-connects c =
    let rows = c.args.rows.now in
    let chains = c.args.self.now.processes.chains.items in
    let number = apart c.args.process true in
    let among = is_beside by_process (length chains) number in
    let on = chain_of 4 process_links rows chains by_process number c.requires.on.processes (λ some. (c.requires.wide some).processes) in
    let stands = rw c.in-Some.is at c.loop-next.invariant.stands in
    let walked = rw c.in-Some.is at c.loop-next.invariant.walked in
    let standing = c.in-Some-get.standing.now in
    let passes : (is_connect_by c.args.process) (c.in-Some.key, (waiting_of standing)) ≡ true = both _ _ (sym c.is_connect.ensures ∙ c.if-is_connect.true) (eq-eqb (waiting_of standing).wait.process c.args.process c.if-wait-process.true) in
    let here = counted_on process_links with_process (λ _ _. refl) (λ _ _ _. refl) rows among (first_under chains number) on c.in-Some.key stands standing (sym c.in-Some-get.ensures.value) (is_connect_by c.args.process) in
    let one : ◌≡◌ {A = ℕ} (cond ((is_connect_by c.args.process) (c.in-Some.key, (waiting_of standing))) 1 0) 1 = ap {B = ℕ} (λ b. cond b 1 0) passes in
    omega (arith, here, one, walked, count-bound (is_connect_by c.args.process) (keyed rows), length_keyed rows, c.count.ensures.number, c.count.type_inv)

pub loop-next-smaller : goal.loop-next-smaller
loop-next-smaller c =
    let rows = c.args.rows.now in
    let chains = c.args.self.now.processes.chains.items in
    let number = apart c.args.process true in
    let among = is_beside by_process (length chains) number in
    let on = chain_of 4 process_links rows chains by_process number c.requires.on.processes (λ some. (c.requires.wide some).processes) in
    let stands = rw c.in-Some.is at c.loop-next.invariant.stands in
    rw c.in-Some.is
    (fewer_after process_links with_process (λ _ _. refl) (λ _ _ _. refl) rows among (first_under chains number) on c.in-Some.key stands c.in-Some-get.standing.now (sym c.in-Some-get.ensures.value))

pub loop-next-preserved : goal.loop-next-preserved
loop-next-preserved c =
    let rows = c.args.rows.now in
    let chains = c.args.self.now.processes.chains.items in
    let number = apart c.args.process true in
    let among = is_beside by_process (length chains) number in
    let on = chain_of 4 process_links rows chains by_process number c.requires.on.processes (λ some. (c.requires.wide some).processes) in
    let stands = rw c.in-Some.is at c.loop-next.invariant.stands in
    let walked = rw c.in-Some.is at c.loop-next.invariant.walked in
    let standing = c.in-Some-get.standing.now in
    let here = counted_on process_links with_process (λ _ _. refl) (λ _ _ _. refl) rows among (first_under chains number) on c.in-Some.key stands standing (sym c.in-Some-get.ensures.value) (is_connect_by c.args.process) in
    let one : (b : Bool) → (is_connect_by c.args.process) (c.in-Some.key, (waiting_of standing)) ≡ b → ◌≡◌ {A = ℕ} (cond ((is_connect_by c.args.process) (c.in-Some.key, (waiting_of standing))) 1 0) (cond b 1 0) = λ b is. ap {B = ℕ} (λ o. cond o 1 0) is in
    record {
      stands = stands_after process_links with_process (λ _ _. refl) (λ _ _ _. refl) rows among (first_under chains number) on c.in-Some.key stands standing (sym c.in-Some-get.ensures.value);
      walked =
          elim c.if-is_connect.branch [
            | then-is_connect+then-wait-process w ↦ omega (arith, w.connects-is, here, one true (both _ _ (sym c.is_connect.ensures ∙ w.if-is_connect.true) (eq-eqb (waiting_of standing).wait.process c.args.process w.if-wait-process.true)), walked)
            | else-is_connect w ↦
                let off : (is_connect_by c.args.process) (c.in-Some.key, (waiting_of standing)) ≡ false =
                elim w.else-is_connect.branch [
                  | else-is_connect-via-then-is_connect+else-wait-process v ↦ off_key _ _ (ne_eqb (waiting_of standing).wait.process c.args.process v.if-wait-process.false)
                  | else-is_connect-via-else-is_connect v ↦ off_first _ _ (sym c.is_connect.ensures ∙ v.if-is_connect.false)
                ] in
                omega (arith, w.connects-is, here, one false off, walked)
          ];
    }

pub unreachable-requires : goal.unreachable-requires
unreachable-requires c =
    let rows = c.args.rows.now in
    let chains = c.args.self.now.processes.chains.items in
    let number = apart c.args.process true in
    let among = is_beside by_process (length chains) number in
    let on = chain_of 4 process_links rows chains by_process number c.requires.on.processes (λ some. (c.requires.wide some).processes) in
    let stands = rw c.in-Some.is at c.loop-next.invariant.stands in
    row_there process_links with_process (λ _ _. refl) (λ _ _ _. refl) rows among (first_under chains number) on c.in-Some.key stands (sym c.in-None.ensures.value)
