use Rattle.std.proofs.Common.{◌+◌, sym, ap, ◌∙◌, arith, cond}
use Rattle.lpc_slots.proofs.Walk.{count_fits, count_on}
use Rattle.lpc_slots.specs.Table.{listed}
use Rattle.lpc_ports.specs.Table.{is_connected_to}
use Rattle.lpc_ports.specs.Layout.{port_of, ports_of}
use Rattle.lpc_ports.proofs.Ordered.{length_shown, place_shown}
use Rattle.lpc_ports.proofs.Ports.search_connected.Goals as goal
use Rattle.lpc_ports.proofs.Ports.search_connected.Goals.{then-is_the, else-is_the}

pub overflow_add-connected : goal.overflow_add-connected
overflow_add-connected c =
    let so_far = rw (← c.self.view_is) at c.loop-place.invariant in
    let fits = count_fits (is_connected_to c.args.port) (ports_of c.self.inside.ports) c.loop-place.place (c.row.result.0, c.row.result.1.now.port) c.loop-place.connected (place_shown port_of (listed c.self.inside.ports) c.loop-place.place c.row.result.0 c.row.result.1.now c.row.ensures) so_far (sym c.is_the.ensures ∙ c.if-is_the.true) in
    omega (arith, fits, length_shown port_of (listed c.self.inside.ports), c.count-place-end.ensures.number)

pub loop-place-preserved : goal.loop-place-preserved
loop-place-preserved c =
    let so_far = rw (← c.self.view_is) at c.loop-place.invariant in
    let further = count_on (is_connected_to c.args.port) (ports_of c.self.inside.ports) c.loop-place.place (c.row.result.0, c.row.result.1.now.port) c.loop-place.connected (place_shown port_of (listed c.self.inside.ports) c.loop-place.place c.row.result.0 c.row.result.1.now c.row.ensures) so_far in
    rw (← c.self.view_is)
    (elim c.if-is_the.branch [
      | then-is_the w ↦ omega (arith, further, w.connected-is, ap (λ b. cond b (c.loop-place.connected + 1) c.loop-place.connected) (sym c.is_the.ensures ∙ w.if-is_the.true))
      | else-is_the w ↦ omega (arith, further, w.connected-is, ap (λ b. cond b (c.loop-place.connected + 1) c.loop-place.connected) (sym c.is_the.ensures ∙ w.if-is_the.false))
    ])
