use Rattle.std.proofs.Common.{ap, sym, ◌∙◌, is_some, IsSome, option_map, true≢false}
use Rattle.lpc_slots.specs.Table.{at}
use Rattle.lpc_ports.specs.Lent.{queued_of}
use Rattle.lpc_ports.proofs.Ordered.{mapped_some, shown_at}
use Rattle.lpc_ports.proofs.Ports.block.Goals as goal

pub unreachable-requires : goal.unreachable-requires
unreachable-requires c =
    let stands : IsSome (at c.self.inside.blocks c.args.message) = sym (mapped_some queued_of (at c.self.inside.blocks c.args.message)) ∙ ap is_some (sym (shown_at queued_of c.self.inside.blocks c.args.message)) ∙ (rw (← c.self.view_is) at c.requires) in
    true≢false (sym stands ∙ ap is_some (sym c.in-None.ensures.value))

pub returns : goal.returns
returns c = rw (← c.self.view_is) (shown_at queued_of c.self.inside.blocks c.args.message ∙ ap (option_map queued_of) (sym c.in-Some.ensures.value))
