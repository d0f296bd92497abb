use Rattle.std.proofs.Common.{sym, ◌∙◌}
use Rattle.lpc_rows.specs.Clauses.{name_at}
use Rattle.lpc_sweep.proofs.HeldLives.{held-handled, held-living}
use Rattle.lpc_sweep.proofs.finding.is_object_held.Goals as goal

pub returns-then-held : goal.returns-then-held
returns-then-held c = c.if-held.true ∙ held-living c.args.world.now.rows (name_at c.args.world.now c.args.object) (sym c.requires.held ∙ c.if-held.true)

pub returns-else-held : goal.returns-else-held
returns-else-held c = c.has_handles.ensures ∙ held-handled c.args.world.now.rows (name_at c.args.world.now c.args.object) (sym c.requires.held ∙ c.if-held.false)
