use Rattle.std.proofs.Common.{sym, ap, ◌∙◌, option_map}
use Rattle.lpc_slots.specs.declared.Key.{Key}
use Rattle.lpc_ports.specs.Table.{QueuedMessage, is_in}
use Rattle.lpc_ports.specs.Lent.{messages_of}
use Rattle.lpc_ports.proofs.Lists.{first_of_which}
use Rattle.lpc_ports.proofs.Ordered.{first_none, none_in_closed}
use Rattle.lpc_ports.proofs.Ports.first_message.Goals as goal

pub returns-in_err-get : goal.returns-in_err-get
returns-in_err-get c =
    let ms = messages_of c.self.inside.blocks in
    let none = first_none (is_in c.args.queue) ms (none_in_closed c.self.inside.ports c.args.queue ms (sym c.in_err-get.ensures.value) c.self.invariant.order.stood_in) in
    rw (← c.self.view_is) (c.from_residual.ensures ∙ sym (ap (option_map (λ (row : Key × QueuedMessage). row.0)) none))

pub returns : goal.returns
returns c =
    let ms = messages_of c.self.inside.blocks in
    rw (← c.self.view_is) (c.front.ensures ∙ (c.self.invariant.order.queues c.args.queue c.in_ok-get.field-0.now (sym c.in_ok-get.ensures.value)).first ∙ first_of_which (is_in c.args.queue) ms)
