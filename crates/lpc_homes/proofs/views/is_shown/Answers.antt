use Rattle.std.proofs.Common.{sym, ◌∙◌}
use Rattle.lpc_homes.specs.Parts.{has_view_of}
use Rattle.lpc_homes.proofs.Named.{passing_at}
use Rattle.lpc_homes.proofs.views.is_shown.Goals as goal

pub returns-then-shows : goal.returns-then-shows
returns-then-shows c =
    passing_at (has_view_of c.args.section) c.args.parts.now c.loop-part.part-index c.part-item.result c.loop-part-test.true c.part-item.is c.loop-part.invariant (sym c.shows.ensures ∙ c.if-shows.true)
