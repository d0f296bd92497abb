use Rattle.std.proofs.Common.{ap, sym, ◌∙◌, arith, is_some, IsSome, true≢false}
use Rattle.lpc_base.proofs.RowWords.{count-bound}
use Rattle.lpc_slots.specs.Table.{at, listed}
use Rattle.lpc_ports.specs.Layout.{port_of}
use Rattle.lpc_ports.specs.Lent.{messages_of, queued_of}
use Rattle.lpc_ports.specs.Table.{is_sent_on}
use Rattle.lpc_ports.proofs.Ordered.{length_shown, mapped_some, shown_at}
use Rattle.lpc_ports.proofs.Ports.sent_on.Goals as goal

pub unreachable-requires : goal.unreachable-requires
unreachable-requires c =
    let stands : IsSome (at c.self.inside.ports c.args.sender) = sym (mapped_some port_of (at c.self.inside.ports c.args.sender)) ∙ ap is_some (sym (shown_at port_of c.self.inside.ports c.args.sender)) ∙ (rw (← c.self.view_is) at c.requires) in
    true≢false (sym stands ∙ ap is_some (sym c.in-None.ensures.value))

pub returns-clause-number : goal.returns-clause-number
returns-clause-number c = rw (← c.self.view_is) (c.self.invariant.order.counts c.args.sender c.in-Some.row.now (sym c.in-Some.ensures.value))

pub returns-clause-most : goal.returns-clause-most
returns-clause-most c =
    let is = c.self.invariant.order.counts c.args.sender c.in-Some.row.now (sym c.in-Some.ensures.value) in
    let bound = count-bound (is_sent_on c.args.sender) (messages_of c.self.inside.blocks) in
    rw (← c.self.view_is) (omega (arith, is, bound, length_shown queued_of (listed c.self.inside.blocks), c.count.ensures.number, c.count.ensures.most))
