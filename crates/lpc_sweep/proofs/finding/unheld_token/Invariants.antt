use Rattle.std.proofs.Common.{◌≡◌, drop, not}
use Rattle.lpc_base.specs.Rows.{every, first}
use Rattle.lpc_model.specs.Found.{token_name}
use Rattle.lpc_model.specs.Sweep.{is_unheld}
use Rattle.lpc_sweep.proofs.finding.unheld_token.Given as goal

-- the tokens so far are held, so that the oldest that isn't is among the others
abbrev pub invariant-loop-place : goal.invariant-loop-place
invariant-loop-place l =
    (every (λ t. not (is_unheld l.world.rows (token_name t.birth))) (drop l.place l.world.rows.tokens)
    ≡ every (λ t. not (is_unheld l.world.rows (token_name t.birth))) l.world.rows.tokens)
    × (first (λ t. is_unheld l.world.rows (token_name t.birth)) (drop l.place l.world.rows.tokens)
    ≡ first (λ t. is_unheld l.world.rows (token_name t.birth)) l.world.rows.tokens)
