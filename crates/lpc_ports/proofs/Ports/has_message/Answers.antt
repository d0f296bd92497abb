use Rattle.std.proofs.Common.{◌≡◌, ◌||◌, ap, sym, ◌∙◌, is_some, IsSome, true, false, true≢false}
use Rattle.lpc_base.specs.Rows.{has}
use Rattle.lpc_slots.specs.Table.{at}
use Rattle.lpc_ports.specs.Layout.{port_of}
use Rattle.lpc_ports.specs.Lent.{messages_of}
use Rattle.lpc_ports.specs.Table.{is_in, is_sent_on}
use Rattle.lpc_ports.proofs.Lists.{either_has, first_has}
use Rattle.lpc_ports.proofs.Ordered.{mapped_some, shown_at}
use Rattle.lpc_ports.proofs.Ports.has_message.Goals as goal

pub unreachable-requires : goal.unreachable-requires
unreachable-requires c =
    let stands : IsSome (at c.self.inside.ports c.args.port) = sym (mapped_some port_of (at c.self.inside.ports c.args.port)) ∙ ap is_some (sym (shown_at port_of c.self.inside.ports c.args.port)) ∙ (rw (← c.self.view_is) at c.requires) in
    true≢false (sym stands ∙ ap is_some (sym c.in-None.ensures.value))

pub returns-then-is_some : goal.returns-then-is_some
returns-then-is_some c =
    let ms = messages_of c.self.inside.blocks in
    let chain = (c.self.invariant.order.senders c.args.port c.in-Some.row.now (sym c.in-Some.ensures.value)).first in
    let sent : has (is_sent_on c.args.port) ms ≡ true = sym (ap is_some (c.front.ensures ∙ chain) ∙ first_has (is_sent_on c.args.port) ms) ∙ sym c.is_some.ensures ∙ c.if-is_some.true in
    rw (← c.self.view_is) (c.if-is_some.true ∙ sym (either_has c.args.port ms ∙ ap (λ b. b || has (is_in c.args.port) ms) sent))

pub returns-else-is_some : goal.returns-else-is_some
returns-else-is_some c =
    let ms = messages_of c.self.inside.blocks in
    let chain = (c.self.invariant.order.senders c.args.port c.in-Some.row.now (sym c.in-Some.ensures.value)).first in
    let queue = (c.self.invariant.order.queues c.args.port c.in-Some.row.now (sym c.in-Some.ensures.value)).first in
    let sent : has (is_sent_on c.args.port) ms ≡ false = sym (ap is_some (c.front.ensures ∙ chain) ∙ first_has (is_sent_on c.args.port) ms) ∙ sym c.is_some.ensures ∙ c.if-is_some.false in
    let queued = c.is_some-else-is_some.ensures ∙ ap is_some (c.front-else-is_some.ensures ∙ queue) ∙ first_has (is_in c.args.port) ms in
    rw (← c.self.view_is) (queued ∙ sym (either_has c.args.port ms ∙ ap (λ b. b || has (is_in c.args.port) ms) sent))
