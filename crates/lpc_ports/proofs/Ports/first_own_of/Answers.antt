use Rattle.std.proofs.Common.{◌≡◌, true, false, sym, ap, ◌∙◌, option_map}
use Rattle.lpc_slots.proofs.Walk.{first_here, first_passed}
use Rattle.lpc_slots.specs.Table.{listed}
use Rattle.lpc_slots.specs.declared.Key.{Key}
use Rattle.lpc_ports.specs.Table.{QueuedMessage, is_own_of}
use Rattle.lpc_ports.specs.Lent.{messages_of, queued_of}
use Rattle.lpc_ports.proofs.Ordered.{none_asks, place_shown}
use Rattle.lpc_ports.proofs.Ports.first_own_of.Goals as goal

pub returns-then-is_own_of : goal.returns-then-is_own_of
returns-then-is_own_of c =
    let so_far = rw (← c.self.view_is) at c.loop-place.invariant in
    let passes : is_own_of c.args.thread (c.row.result.0, queued_of c.row.result.1.now) ≡ true = sym c.is_own_of.ensures ∙ c.if-is_own_of.true in
    let oldest = first_here (is_own_of c.args.thread) (messages_of c.self.inside.blocks) c.loop-place.place (c.row.result.0, queued_of c.row.result.1.now) (place_shown queued_of (listed c.self.inside.blocks) c.loop-place.place c.row.result.0 c.row.result.1.now c.row.ensures) passes in
    rw (← c.self.view_is) (ap (option_map (λ (row : Key × QueuedMessage). row.0)) (sym oldest ∙ so_far))

pub loop-place-preserved : goal.loop-place-preserved
loop-place-preserved c =
    let so_far = rw (← c.self.view_is) at c.loop-place.invariant in
    let off : is_own_of c.args.thread (c.row.result.0, queued_of c.row.result.1.now) ≡ false = sym c.is_own_of.ensures ∙ c.if-is_own_of.false in
    rw (← c.self.view_is) (sym (first_passed (is_own_of c.args.thread) (messages_of c.self.inside.blocks) c.loop-place.place (c.row.result.0, queued_of c.row.result.1.now) (place_shown queued_of (listed c.self.inside.blocks) c.loop-place.place c.row.result.0 c.row.result.1.now c.row.ensures) off) ∙ so_far)

pub returns-then-self-eq0 : goal.returns-then-self-eq0
returns-then-self-eq0 c =
    let none = none_asks c.args.thread (messages_of c.self.inside.blocks) (sym c.self.invariant.totals.asking ∙ c.if-self-eq0.true) in
    rw (← c.self.view_is) (ap (option_map (λ (row : Key × QueuedMessage). row.0)) (sym none))
