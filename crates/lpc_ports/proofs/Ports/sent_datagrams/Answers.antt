use Rattle.std.proofs.Common.{ap, sym, ◌∙◌, is_some, IsSome, true≢false}
use Rattle.lpc_slots.specs.Table.{at}
use Rattle.lpc_ports.specs.Layout.{port_of}
use Rattle.lpc_ports.proofs.Ordered.{mapped_some, shown_at}
use Rattle.lpc_ports.proofs.Ports.sent_datagrams.Goals as goal

pub unreachable-requires : goal.unreachable-requires
unreachable-requires c =
    let stands : IsSome (at c.self.inside.ports c.args.sender) = sym (mapped_some port_of (at c.self.inside.ports c.args.sender)) ∙ ap is_some (sym (shown_at port_of c.self.inside.ports c.args.sender)) ∙ (rw (← c.self.view_is) at c.requires) in
    true≢false (sym stands ∙ ap is_some (sym c.in-None.ensures.value))

pub returns : goal.returns
returns c = rw (← c.self.view_is) (c.self.invariant.order.datagrams c.args.sender c.in-Some.row.now (sym c.in-Some.ensures.value))
