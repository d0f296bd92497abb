use Rattle.std.proofs.Common.{◌≡◌, ◌+◌, ◌-◌, refl, sym, ap, ◌∙◌, is_some, true≢false, arith}
use Rattle.lpc_base.specs.Rows.{change, count}
use Rattle.lpc_base.proofs.RowWords.{count-bound, length-change}
use Rattle.lpc_waits.specs.Kept.{has_offer}
use Rattle.lpc_waits.specs.Lent.{keyed, shown, waiting_of}
use Rattle.lpc_waits.specs.Sought.{is_by}
use Rattle.lpc_waits.specs.Table.{is_of, with_offer}
use Rattle.lpc_waits.proofs.Begun.{length_seen}
use Rattle.lpc_waits.proofs.Changed.{count-one, kept_changed, seen_changed, within-one}
use Rattle.lpc_waits.proofs.Found.{found_there, row_found, row_missed}
use Rattle.lpc_waits.proofs.Waits.set_offer.Goals as goal

pub overflow_sub-others : goal.overflow_sub-others
overflow_sub-others c =
    let rows = c.self.inside.rows in
    let key = c.in-Some.key in
    let standing = c.in-Some-get_mut.standing.now in
    let is = sym c.of_thread.ensures ∙ c.in-Some.is in
    let there = sym c.in-Some-get_mut.ensures.value in
    let within = within-one has_offer c.args.tid (waiting_of standing) (shown (keyed rows)) (row_found rows c.args.tid key standing is there) in
    omega (arith, within, c.offer_count.ensures.count, c.self.invariant.offers_are)

pub overflow_add-self : goal.overflow_add-self
overflow_add-self c =
    let rows = c.self.inside.rows in
    let key = c.in-Some.key in
    let standing = c.in-Some-get_mut.standing.now in
    let is = sym c.of_thread.ensures ∙ c.in-Some.is in
    let there = sym c.in-Some-get_mut.ensures.value in
    let all = shown (keyed rows) in
    let one = count-one has_offer c.args.tid (with_offer c.args.offer) (waiting_of standing) all c.self.invariant.apart (row_found rows c.args.tid key standing is there) in
    let bound = count-bound has_offer (change (is_of c.args.tid) (with_offer c.args.offer) all) in
    omega (arith, one, bound, length-change (is_of c.args.tid) (with_offer c.args.offer) all, length_seen rows, c.count.ensures.number, c.count.type_inv, c.offer_count.ensures.count, c.offer_count-in-Some-get_mut.ensures.count, c.self.invariant.offers_are)

pub invariant_of-self : goal.invariant_of-self
invariant_of-self c =
    let rows = c.self.inside.rows in
    let key = c.in-Some.key in
    let standing = c.in-Some-get_mut.standing.now in
    let is = sym c.of_thread.ensures ∙ c.in-Some.is in
    let there = sym c.in-Some-get_mut.ensures.value in
    let all = shown (keyed rows) in
    let one = count-one has_offer c.args.tid (with_offer c.args.offer) (waiting_of standing) all c.self.invariant.apart (row_found rows c.args.tid key standing is there) in
    let within = within-one has_offer c.args.tid (waiting_of standing) all (row_found rows c.args.tid key standing is there) in
    let now = c.self.inside.offering - c.offer_count.result + c.offer_count-in-Some-get_mut.result in
    let counted : now ≡ count has_offer (change (is_of c.args.tid) (with_offer c.args.offer) all) = omega (arith, one, within, c.offer_count.ensures.count, c.offer_count-in-Some-get_mut.ensures.count, c.self.invariant.offers_are) in
    kept_changed rows key (with_offer c.args.offer) (λ _. refl) c.self.inside.chains c.self.inside.events c.self.inside.offering c.args.tid c.self.invariant is standing there now (λ _. refl) (λ _. refl) counted

pub returns-in-Some-get_mut : goal.returns-in-Some-get_mut
returns-in-Some-get_mut c =
    let rows = c.self.inside.rows in
    let key = c.in-Some.key in
    let standing = c.in-Some-get_mut.standing.now in
    let is = sym c.of_thread.ensures ∙ c.in-Some.is in
    let there = sym c.in-Some-get_mut.ensures.value in
    record { table = rw (← c.self.view_is) (seen_changed rows key (with_offer c.args.offer) (λ _. refl) c.self.inside.chains c.self.inside.events c.self.inside.offering c.args.tid c.self.invariant is standing there) }

pub returns-in_default-get_mut : goal.returns-in_default-get_mut
returns-in_default-get_mut c =
    let there = found_there c.self.inside.rows (is_by c.args.tid) c.in-Some.key (sym c.of_thread.ensures ∙ c.in-Some.is) in
    absurd (true≢false (sym there ∙ ap is_some (sym c.in_default-get_mut.ensures.value)))

pub returns-in_default : goal.returns-in_default
returns-in_default c =
    let missed = row_missed c.self.inside.rows c.args.tid (sym c.of_thread.ensures ∙ c.in_default.is) in
    let waits = rw (← c.self.view_is) at c.requires.waits in
    absurd (true≢false (sym waits ∙ ap is_some missed))
