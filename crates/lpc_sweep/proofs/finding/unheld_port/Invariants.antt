use Rattle.std.proofs.Common.{◌≡◌, drop, not}
use Rattle.lpc_base.specs.Rows.{every, first}
use Rattle.lpc_model.specs.Found.{port_name}
use Rattle.lpc_model.specs.Sweep.{is_unheld}
use Rattle.lpc_sweep.proofs.finding.unheld_port.Given as goal

-- the ports so far are held, so that the oldest that isn't is among the others
abbrev pub invariant-loop-place : goal.invariant-loop-place
invariant-loop-place l =
    (every (λ p. not (is_unheld l.world.rows (port_name p.birth))) (drop l.place l.world.rows.ports)
    ≡ every (λ p. not (is_unheld l.world.rows (port_name p.birth))) l.world.rows.ports)
    × (first (λ p. is_unheld l.world.rows (port_name p.birth)) (drop l.place l.world.rows.ports)
    ≡ first (λ p. is_unheld l.world.rows (port_name p.birth)) l.world.rows.ports)
