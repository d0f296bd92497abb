use Rattle.std.proofs.Common.{sym, subst, ◌∙◌}
use Rattle.lpc_rows.specs.Kept.{Kept}
use Rattle.lpc_sweep.specs.Sweeping.{SweepsAhead}
use Rattle.lpc_sweep.proofs.Ahead.{ahead_same, process-ahead}
use Rattle.lpc_sweep.proofs.freeing.look_at_process.Goals as goal

pub free-requires-clause-can : goal.free-requires-clause-can
free-requires-clause-can c = c.requires

pub free-requires-clause-unheld : goal.free-requires-clause-unheld
free-requires-clause-unheld c = sym c.is_uncounted.ensures ∙ c.if-is_uncounted.true

pub clear_process-requires : goal.clear_process-requires
clear_process-requires c = record { held = λ there. sym c.is_uncounted.ensures ∙ c.if-is_uncounted.false }

pub returns-then-is_uncounted : goal.returns-then-is_uncounted
returns-then-is_uncounted c = process-ahead _ _ c.args.birth c.free.ensures.calls c.free.ensures.made c.free.ensures.room c.free.ensures.capacity c.free.ensures.lives c.requires c.free.ensures.rows (sym c.is_uncounted.ensures ∙ c.if-is_uncounted.true)

pub returns-else-is_uncounted : goal.returns-else-is_uncounted
returns-else-is_uncounted c = subst (λ (w : Kept). SweepsAhead c.args.world.now w) (sym c.clear_process.ensures) (ahead_same c.args.world.now c.requires)
