use Rattle.std.proofs.Common.{sym, ◌∙◌}
use Rattle.lpc_model.proofs.Held.FreedPort.{swept_none_world}
use Rattle.lpc_sweep.proofs.Ahead.{none-unheld, none-unheld_lives}
use Rattle.lpc_sweep.proofs.freeing.free_unheld.Goals as goal

pub returns-else-is_loose-clause-rows : goal.returns-else-is_loose-clause-rows
returns-else-is_loose-clause-rows c = sym (swept_none_world _ (c.requires.still (sym c.is_loose.ensures ∙ c.if-is_loose.false)))

pub returns-else-is_loose-clause-held : goal.returns-else-is_loose-clause-held
returns-else-is_loose-clause-held c = none-unheld c.args.world.now.rows (c.requires.still (sym c.is_loose.ensures ∙ c.if-is_loose.false))

pub returns-else-is_loose-clause-living : goal.returns-else-is_loose-clause-living
returns-else-is_loose-clause-living c = none-unheld_lives c.args.world.now.rows (c.requires.still (sym c.is_loose.ensures ∙ c.if-is_loose.false))

pub free_unheld_ports-requires-clause-sections : goal.free_unheld_ports-requires-clause-sections
free_unheld_ports-requires-clause-sections c = c.free_lives.ensures.ahead.sections c.free_sections.ensures.held

pub free_unheld_ports-requires-clause-tokens : goal.free_unheld_ports-requires-clause-tokens
free_unheld_ports-requires-clause-tokens c = c.free_lives.ensures.ahead.tokens (c.free_sections.ensures.ahead.tokens c.free_tokens.ensures.held)
