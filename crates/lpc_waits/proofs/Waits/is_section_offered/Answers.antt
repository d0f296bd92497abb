use Rattle.std.proofs.Common.{is_some, ap, sym, ◌∙◌}
use Rattle.lpc_slots.proofs.Walk.{first_here, first_passed}
use Rattle.lpc_waits.specs.Kept.{has_offer}
use Rattle.lpc_waits.specs.Lent.{keyed, shown, waiting_of}
use Rattle.lpc_waits.specs.Table.{is_offering}
use Rattle.lpc_waits.proofs.Chained.{shown_place}
use Rattle.lpc_waits.proofs.Found.{no-offer, none-counted, place_shown}
use Rattle.lpc_waits.proofs.Waits.is_section_offered.Goals as goal

pub returns-then-self-eq0 : goal.returns-then-self-eq0
returns-then-self-eq0 c =
    let none = none-counted has_offer (is_offering c.args.section) (no-offer c.args.section) (shown (keyed c.self.inside.rows)) (sym c.self.invariant.offers_are ∙ c.if-self-eq0.true) in
    rw (← c.self.view_is) (sym (ap is_some none))

pub returns-then-is_offering : goal.returns-then-is_offering
returns-then-is_offering c =
    let rows = c.self.inside.rows in
    let row = (waiting_of c.row.result.1.now) in
    let here = place_shown (keyed rows) c.loop-place.place c.row.result.0 row (shown_place rows c.loop-place.place c.row.result.0 c.row.result.1.now c.row.ensures) in
    let so_far = rw (← c.self.view_is) at c.loop-place.invariant in
    let met = first_here (is_offering c.args.section) (shown (keyed rows)) c.loop-place.place row here (sym c.is_offering.ensures ∙ c.if-is_offering.true) in
    rw (← c.self.view_is) (ap is_some (sym met ∙ so_far))

pub loop-place-preserved : goal.loop-place-preserved
loop-place-preserved c =
    let rows = c.self.inside.rows in
    let row = (waiting_of c.row.result.1.now) in
    let here = place_shown (keyed rows) c.loop-place.place c.row.result.0 row (shown_place rows c.loop-place.place c.row.result.0 c.row.result.1.now c.row.ensures) in
    let so_far = rw (← c.self.view_is) at c.loop-place.invariant in
    rw (← c.self.view_is) (sym (first_passed (is_offering c.args.section) (shown (keyed rows)) c.loop-place.place row here (sym c.is_offering.ensures ∙ c.if-is_offering.false)) ∙ so_far)
