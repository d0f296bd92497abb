use Rattle.std.proofs.Common.{◌≡◌, None, ap, sym, ◌∙◌, option_map}
use Rattle.lpc_base.specs.Rows.{first}
use Rattle.lpc_slots.specs.Chain.{first_or}
use Rattle.lpc_slots.specs.Table.{keys_of}
use Rattle.lpc_slots.specs.declared.Key.{Key}
use Rattle.lpc_ports.specs.Lent.{messages_of}
use Rattle.lpc_ports.specs.Table.{QueuedMessage}
use Rattle.lpc_ports.specs.Walk.{is_connect, queue_rows, rows_from}
use Rattle.lpc_ports.proofs.Ordered.{none_in_closed}
use Rattle.lpc_ports.proofs.Walked.{block_there, connect_none, fewer_after, first_walked, from_first, met_here, passed_over, stands_after}
use Rattle.lpc_ports.proofs.Ports.first_connect.Goals as goal

pub returns-in_err-get : goal.returns-in_err-get
returns-in_err-get c =
    let ms = messages_of c.self.inside.blocks in
    let none = connect_none c.args.queue ms (none_in_closed c.self.inside.ports c.args.queue ms (sym c.in_err-get.ensures.value) c.self.invariant.order.stood_in) in
    rw (← c.self.view_is) (c.from_residual.ensures ∙ sym (ap (option_map (λ (row : Key × QueuedMessage). row.0)) none))

pub loop-next-init : goal.loop-next-init
loop-next-init c =
    let ms = messages_of c.self.inside.blocks in
    let rows = queue_rows c.args.queue ms in
    let front : c.front-next.result ≡ first_or None (keys_of rows) = c.front-next.ensures ∙ (c.self.invariant.order.queues c.args.queue c.in_ok-get.field-0.now (sym c.in_ok-get.ensures.value)).first in
    let all = ap (λ o. rows_from o rows) front ∙ from_first rows in
    rw (← c.self.view_is)
    (record {
      stands = ap (λ rs. first_or None (keys_of rs)) all ∙ sym front;
      walked = ap (λ rs. option_map (λ (row : Key × QueuedMessage). row.0) (first is_connect rs)) all ∙ ap (option_map (λ (row : Key × QueuedMessage). row.0)) (sym (first_walked c.args.queue ms));
    })

pub unreachable-requires : goal.unreachable-requires
unreachable-requires c =
    let chain = c.self.invariant.order.queues c.args.queue c.in_ok-get.field-0.now (sym c.in_ok-get.ensures.value) in
    let stands = rw c.in-Some.is at (rw (← c.self.view_is) at c.loop-next.invariant.stands) in
    block_there c.self.inside.blocks c.in_ok-get.field-0.now.queued c.args.queue c.in-Some.key chain stands (sym c.in-None.ensures.value)

pub returns-then-is_connect : goal.returns-then-is_connect
returns-then-is_connect c =
    let chain = c.self.invariant.order.queues c.args.queue c.in_ok-get.field-0.now (sym c.in_ok-get.ensures.value) in
    let stands = rw c.in-Some.is at (rw (← c.self.view_is) at c.loop-next.invariant.stands) in
    let walked = rw c.in-Some.is at (rw (← c.self.view_is) at c.loop-next.invariant.walked) in
    let met = met_here c.self.inside.blocks c.in_ok-get.field-0.now.queued c.args.queue c.in-Some.key chain stands c.in-Some-get.block.now (sym c.in-Some-get.ensures.value) (sym c.is_connect.ensures ∙ c.if-is_connect.true) in
    rw (← c.self.view_is) (sym met ∙ walked)

pub loop-next-preserved : goal.loop-next-preserved
loop-next-preserved c =
    let chain = c.self.invariant.order.queues c.args.queue c.in_ok-get.field-0.now (sym c.in_ok-get.ensures.value) in
    let stands = rw c.in-Some.is at (rw (← c.self.view_is) at c.loop-next.invariant.stands) in
    let walked = rw c.in-Some.is at (rw (← c.self.view_is) at c.loop-next.invariant.walked) in
    let passed = passed_over c.self.inside.blocks c.in_ok-get.field-0.now.queued c.args.queue c.in-Some.key chain stands c.in-Some-get.block.now (sym c.in-Some-get.ensures.value) (sym c.is_connect.ensures ∙ c.if-is_connect.false) in
    rw (← c.self.view_is)
    (record {
      stands = stands_after c.self.inside.blocks c.in_ok-get.field-0.now.queued c.args.queue c.in-Some.key chain stands c.in-Some-get.block.now (sym c.in-Some-get.ensures.value);
      walked = ap (option_map (λ (row : Key × QueuedMessage). row.0)) passed ∙ walked;
    })

pub loop-next-smaller : goal.loop-next-smaller
loop-next-smaller c =
    let chain = c.self.invariant.order.queues c.args.queue c.in_ok-get.field-0.now (sym c.in_ok-get.ensures.value) in
    let stands = rw c.in-Some.is at (rw (← c.self.view_is) at c.loop-next.invariant.stands) in
    rw (← c.self.view_is, c.in-Some.is)
    (fewer_after c.self.inside.blocks c.in_ok-get.field-0.now.queued c.args.queue c.in-Some.key chain stands c.in-Some-get.block.now (sym c.in-Some-get.ensures.value))
