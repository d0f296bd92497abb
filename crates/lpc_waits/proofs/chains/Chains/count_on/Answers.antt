use Rattle.std.proofs.Common.{◌≡◌, ℕ, Bool, true, false, cond, refl, ap, sym, ◌∙◌, length, arith}
use Rattle.lpc_base.specs.Rows.{count}
use Rattle.lpc_base.proofs.RowWords.{count-bound}
use Rattle.lpc_slots.specs.Buckets.{first_under}
use Rattle.lpc_waits.specs.Lent.{keyed, waiting_of}
use Rattle.lpc_waits.specs.Layout.{by_port, port_links, with_port}
use Rattle.lpc_waits.specs.Sought.{is_made_by}
use Rattle.lpc_waits.specs.Walk.{is_beside}
use Rattle.lpc_waits.proofs.Beside.{made_beside}
use Rattle.lpc_waits.proofs.Chained.{length_keyed}
use Rattle.lpc_waits.proofs.Walked.{all_from, begins_there, chain_of, count_among, counted_on, fewer_after, row_there, stands_after}
use Rattle.lpc_waits.proofs.chains.Chains.count_on.Goals as goal
use Rattle.lpc_waits.proofs.chains.Chains.count_on.Goals.{then-eq, else-eq}

pub loop-next-init : goal.loop-next-init
loop-next-init c =
    let rows = c.args.rows.now in
    let chains = c.args.self.now.ports.chains.items in
    let number = c.args.port.index in
    let among = is_beside by_port (length chains) number in
    let on = chain_of 2 port_links rows chains by_port number c.requires.on.ports (λ some. (c.requires.wide some).ports) in
    let all = ap (count (is_made_by c.args.port)) (all_from port_links with_port (λ _ _. refl) (λ _ _ _. refl) rows among (first_under chains number) on) ∙ count_among (is_made_by c.args.port) among (made_beside (length chains) c.args.port) (keyed rows) in
    rw (c.front-next.ensures)
    (record {
      stands = begins_there port_links with_port (λ _ _. refl) (λ _ _ _. refl) rows among (first_under chains number) on;
      walked = omega (arith, all);
    })

pub overflow_add-made : goal.overflow_add-made
overflow_add-made c =
    let rows = c.args.rows.now in
    let chains = c.args.self.now.ports.chains.items in
    let number = c.args.port.index in
    let among = is_beside by_port (length chains) number in
    let on = chain_of 2 port_links rows chains by_port number c.requires.on.ports (λ some. (c.requires.wide some).ports) in
    let stands = rw c.in-Some.is at c.loop-next.invariant.stands in
    let walked = rw c.in-Some.is at c.loop-next.invariant.walked in
    let standing = c.in-Some-get.standing.now in
    let passes : (is_made_by c.args.port) (c.in-Some.key, (waiting_of standing)) ≡ true = sym c.eq.ensures ∙ c.if-eq.true in
    let here = counted_on port_links with_port (λ _ _. refl) (λ _ _ _. refl) rows among (first_under chains number) on c.in-Some.key stands standing (sym c.in-Some-get.ensures.value) (is_made_by c.args.port) in
    let one : ◌≡◌ {A = ℕ} (cond ((is_made_by c.args.port) (c.in-Some.key, (waiting_of standing))) 1 0) 1 = ap {B = ℕ} (λ b. cond b 1 0) passes in
    omega (arith, here, one, walked, count-bound (is_made_by c.args.port) (keyed rows), length_keyed rows, c.count.ensures.number, c.count.type_inv)

pub loop-next-smaller : goal.loop-next-smaller
loop-next-smaller c =
    let rows = c.args.rows.now in
    let chains = c.args.self.now.ports.chains.items in
    let number = c.args.port.index in
    let among = is_beside by_port (length chains) number in
    let on = chain_of 2 port_links rows chains by_port number c.requires.on.ports (λ some. (c.requires.wide some).ports) in
    let stands = rw c.in-Some.is at c.loop-next.invariant.stands in
    rw c.in-Some.is
    (fewer_after port_links with_port (λ _ _. refl) (λ _ _ _. refl) rows among (first_under chains number) on c.in-Some.key stands c.in-Some-get.standing.now (sym c.in-Some-get.ensures.value))

pub loop-next-preserved : goal.loop-next-preserved
loop-next-preserved c =
    let rows = c.args.rows.now in
    let chains = c.args.self.now.ports.chains.items in
    let number = c.args.port.index in
    let among = is_beside by_port (length chains) number in
    let on = chain_of 2 port_links rows chains by_port number c.requires.on.ports (λ some. (c.requires.wide some).ports) in
    let stands = rw c.in-Some.is at c.loop-next.invariant.stands in
    let walked = rw c.in-Some.is at c.loop-next.invariant.walked in
    let standing = c.in-Some-get.standing.now in
    let here = counted_on port_links with_port (λ _ _. refl) (λ _ _ _. refl) rows among (first_under chains number) on c.in-Some.key stands standing (sym c.in-Some-get.ensures.value) (is_made_by c.args.port) in
    let one : (b : Bool) → (is_made_by c.args.port) (c.in-Some.key, (waiting_of standing)) ≡ b → ◌≡◌ {A = ℕ} (cond ((is_made_by c.args.port) (c.in-Some.key, (waiting_of standing))) 1 0) (cond b 1 0) = λ b is. ap {B = ℕ} (λ o. cond o 1 0) is in
    record {
      stands = stands_after port_links with_port (λ _ _. refl) (λ _ _ _. refl) rows among (first_under chains number) on c.in-Some.key stands standing (sym c.in-Some-get.ensures.value);
      walked =
          elim c.if-eq.branch [
            | then-eq w ↦ omega (arith, w.made-is, here, one true (sym c.eq.ensures ∙ w.if-eq.true), walked)
            | else-eq w ↦ omega (arith, w.made-is, here, one false (sym c.eq.ensures ∙ w.if-eq.false), walked)
          ];
    }

pub unreachable-requires : goal.unreachable-requires
unreachable-requires c =
    let rows = c.args.rows.now in
    let chains = c.args.self.now.ports.chains.items in
    let number = c.args.port.index in
    let among = is_beside by_port (length chains) number in
    let on = chain_of 2 port_links rows chains by_port number c.requires.on.ports (λ some. (c.requires.wide some).ports) in
    let stands = rw c.in-Some.is at c.loop-next.invariant.stands in
    row_there port_links with_port (λ _ _. refl) (λ _ _ _. refl) rows among (first_under chains number) on c.in-Some.key stands (sym c.in-None.ensures.value)
