use Rattle.std.proofs.Common.{◌≡◌, drop, not}
use Rattle.lpc_base.specs.Rows.{every, first}
use Rattle.lpc_model.specs.Found.{section_name}
use Rattle.lpc_model.specs.Sweep.{is_unheld}
use Rattle.lpc_sweep.proofs.finding.unheld_section.Given as goal

-- the sections so far are held, so that the oldest that isn't is among the others
abbrev pub invariant-loop-place : goal.invariant-loop-place
invariant-loop-place l =
    (every (λ s. not (is_unheld l.world.rows (section_name s.birth))) (drop l.place l.world.rows.sections)
    ≡ every (λ s. not (is_unheld l.world.rows (section_name s.birth))) l.world.rows.sections)
    × (first (λ s. is_unheld l.world.rows (section_name s.birth)) (drop l.place l.world.rows.sections)
    ≡ first (λ s. is_unheld l.world.rows (section_name s.birth)) l.world.rows.sections)
