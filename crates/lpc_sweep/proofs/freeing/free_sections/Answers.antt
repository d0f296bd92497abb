use Rattle.std.proofs.Common.{ap, not, length, arith, ◌≡◌}
use Rattle.lpc_model.specs.Basics.{Frees, basic}
use Rattle.lpc_model.specs.Found.{is_section, section_name}
use Rattle.lpc_model.specs.Sweep.{is_unheld}
use Rattle.lpc_model.specs.World.{SectionRow, World}
use Rattle.lpc_rows.specs.Names.{name_of}
use Rattle.lpc_sweep.proofs.Ahead.{ahead_same, ahead_then, section-ahead}
use Rattle.lpc_sweep.proofs.Places.{length_less, none_left}
use Rattle.lpc_sweep.proofs.freeing.free_sections.Goals as goal

pub returns-then-sections_are_held-clause-ahead : goal.returns-then-sections_are_held-clause-ahead
returns-then-sections_are_held-clause-ahead c = ahead_same c.args.world.now c.requires.can

pub loop-freed-init : goal.loop-freed-init
loop-freed-init c = record { ahead = ahead_same c.args.world.now c.requires.can; fewer = omega arith }

pub free-requires-clause-can : goal.free-requires-clause-can
free-requires-clause-can c = c.loop-freed.invariant.ahead.can

pub loop-freed-preserved : goal.loop-freed-preserved
loop-freed-preserved c =
    let w = c.loop-freed.world.rows in
    let b = name_of c.loop-freed.world.births.sections c.in-Some.section in
    let went : c.free.new.world.rows ≡ basic w (Frees (section_name b)) = c.free.ensures.rows in
    let less = length_less (is_section b) w.sections c.in-Some.ensures.row in
    record {
      ahead = ahead_then _ _ _ c.loop-freed.invariant.ahead (section-ahead _ _ b c.free.ensures.calls c.free.ensures.made c.free.ensures.room c.free.ensures.capacity c.free.ensures.lives c.loop-freed.invariant.ahead.can went c.in-Some.ensures.row c.in-Some.ensures.unheld);
      fewer = omega (arith, less, ap (λ (v : World). length v.sections) went, c.loop-freed.invariant.fewer);
    }

pub returns-in-None-clause-ahead : goal.returns-in-None-clause-ahead
returns-in-None-clause-ahead c = c.loop-freed.invariant.ahead

pub returns-clause-ahead : goal.returns-clause-ahead
returns-clause-ahead c = c.loop-freed.invariant.ahead

pub returns-clause-held : goal.returns-clause-held
returns-clause-held c =
    let w = c.loop-freed.world.rows in
    none_left (λ (s : SectionRow). not (is_unheld w (section_name s.birth))) w.sections (omega (arith, c.loop-freed.invariant.fewer, c.loop-freed-test.false, c.section_count-freed-end.ensures))
