use Rattle.std.proofs.Common.{sym, ◌∙◌}
use Rattle.lpc_homes.specs.Parts.{has_view_with}
use Rattle.lpc_homes.proofs.Named.{passing_at}
use Rattle.lpc_homes.proofs.views.is_owner_in.Goals as goal

pub returns-then-owns : goal.returns-then-owns
returns-then-owns c =
    passing_at (has_view_with c.args.owner) c.args.parts.now c.loop-part.part-index c.part-item.result c.loop-part-test.true c.part-item.is c.loop-part.invariant (sym c.owns.ensures ∙ c.if-owns.true)
