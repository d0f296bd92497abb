use Rattle.std.proofs.Common.{◌≡◌, drop, not}
use Rattle.lpc_base.specs.Rows.{every, first}
use Rattle.lpc_model.specs.Found.{process_name}
use Rattle.lpc_model.specs.Sweep.{is_unheld}
use Rattle.lpc_sweep.proofs.finding.unheld_process.Given as goal

-- the processes so far are held, so that the oldest that isn't is among the others
abbrev pub invariant-loop-place : goal.invariant-loop-place
invariant-loop-place l =
    (every (λ x. not (is_unheld l.world.rows (process_name x.birth))) (drop l.place l.world.rows.processes)
    ≡ every (λ x. not (is_unheld l.world.rows (process_name x.birth))) l.world.rows.processes)
    × (first (λ x. is_unheld l.world.rows (process_name x.birth)) (drop l.place l.world.rows.processes)
    ≡ first (λ x. is_unheld l.world.rows (process_name x.birth)) l.world.rows.processes)
