use Rattle.std.proofs.Common.{◌+◌, sym, ap, ◌∙◌, arith, cond}
use Rattle.lpc_slots.proofs.Walk.{count_fits, count_on}
use Rattle.lpc_waits.specs.Kept.{has_offer}
use Rattle.lpc_waits.specs.Lent.{keyed, shown, waiting_of}
use Rattle.lpc_waits.specs.Table.{is_offering}
use Rattle.lpc_waits.proofs.Begun.{length_seen}
use Rattle.lpc_waits.proofs.Chained.{shown_place}
use Rattle.lpc_waits.proofs.Found.{count-nothing, no-offer, place_shown}
use Rattle.lpc_waits.proofs.Waits.offers.Goals as goal
use Rattle.lpc_waits.proofs.Waits.offers.Goals.{then-is_offering, else-is_offering}

pub returns-then-self-eq0 : goal.returns-then-self-eq0
returns-then-self-eq0 c =
    rw (← c.self.view_is) (sym (count-nothing has_offer (is_offering c.args.section) (no-offer c.args.section) (shown (keyed c.self.inside.rows)) (sym c.self.invariant.offers_are ∙ c.if-self-eq0.true)))

pub overflow_add-offers : goal.overflow_add-offers
overflow_add-offers c =
    let rows = c.self.inside.rows in
    let row = (waiting_of c.row.result.1.now) in
    let here = place_shown (keyed rows) c.loop-place.place c.row.result.0 row (shown_place rows c.loop-place.place c.row.result.0 c.row.result.1.now c.row.ensures) in
    let so_far = rw (← c.self.view_is) at c.loop-place.invariant in
    let fits = count_fits (is_offering c.args.section) (shown (keyed rows)) c.loop-place.place row c.loop-place.offers here so_far (sym c.is_offering.ensures ∙ c.if-is_offering.true) in
    omega (arith, fits, length_seen rows, c.count-place-end.ensures.number)

pub loop-place-preserved : goal.loop-place-preserved
loop-place-preserved c =
    let rows = c.self.inside.rows in
    let row = (waiting_of c.row.result.1.now) in
    let here = place_shown (keyed rows) c.loop-place.place c.row.result.0 row (shown_place rows c.loop-place.place c.row.result.0 c.row.result.1.now c.row.ensures) in
    let so_far = rw (← c.self.view_is) at c.loop-place.invariant in
    let further = count_on (is_offering c.args.section) (shown (keyed rows)) c.loop-place.place row c.loop-place.offers here so_far in
    rw (← c.self.view_is)
    (elim c.if-is_offering.branch [
      | then-is_offering w ↦ omega (arith, further, w.offers-is, ap (λ b. cond b (c.loop-place.offers + 1) c.loop-place.offers) (sym c.is_offering.ensures ∙ w.if-is_offering.true))
      | else-is_offering w ↦ omega (arith, further, w.offers-is, ap (λ b. cond b (c.loop-place.offers + 1) c.loop-place.offers) (sym c.is_offering.ensures ∙ w.if-is_offering.false))
    ])
