use Rattle.std.proofs.Common.{◌≡◌, ap, sym, ◌∙◌, true, false, not, option_map, arith}
use Rattle.lpc_base.specs.Rows.{every, first}
use Rattle.lpc_model.specs.Found.{section_name}
use Rattle.lpc_model.specs.Sweep.{is_unheld}
use Rattle.lpc_model.specs.World.{SectionRow}
use Rattle.lpc_rows.specs.Names.{name_of}
use Rattle.lpc_sweep.proofs.Places.{drop_all, found_at, held_on, passed_on, row_at_place}
use Rattle.lpc_sweep.proofs.finding.unheld_section.Goals as goal

pub loop-place-preserved : goal.loop-place-preserved
loop-place-preserved c =
    let w = c.args.world.now.rows in
    let b = name_of c.args.world.now.births.sections c.section_key-section.result in
    let held : not (is_unheld w (section_name b)) ≡ true = grind (arith, c.is_object_held.ensures, c.if-not-is_object_held.false) in
    let off : is_unheld w (section_name b) ≡ false = grind (arith, c.is_object_held.ensures, c.if-not-is_object_held.false) in (
      sym (held_on (λ (s : SectionRow). s.birth) (λ d. not (is_unheld w (section_name d))) w.sections c.loop-place.place b c.section_key-section.ensures.birth held) ∙ c.loop-place.invariant.0,
      sym (passed_on (λ (s : SectionRow). s.birth) (λ d. is_unheld w (section_name d)) w.sections c.loop-place.place b c.section_key-section.ensures.birth off) ∙ c.loop-place.invariant.1,
    )

pub returns-clause-none : goal.returns-clause-none
returns-clause-none c =
    let w = c.args.world.now.rows in
    sym c.loop-place.invariant.0
    ∙ ap (every (λ s. not (is_unheld w (section_name s.birth)))) (drop_all w.sections c.loop-place.place (omega (arith, c.loop-place-test.false, c.section_count-place-end.ensures)))

pub returns-then-not-is_object_held-clause-row : goal.returns-then-not-is_object_held-clause-row
returns-then-not-is_object_held-clause-row c = row_at_place (λ (s : SectionRow). s.birth) c.args.world.now.rows.sections c.loop-place.place (name_of c.args.world.now.births.sections c.section_key-section.result) c.section_key-section.ensures.birth

pub returns-clause-oldest : goal.returns-clause-oldest
returns-clause-oldest c =
    let w = c.args.world.now.rows in
    let test = λ (s : SectionRow). is_unheld w (section_name s.birth) in
    let passed = drop_all w.sections c.loop-place.place (omega (arith, c.loop-place-test.false, c.section_count-place-end.ensures)) in
    sym (ap (option_map (λ (s : SectionRow). s.birth)) (sym c.loop-place.invariant.1 ∙ ap (first test) passed))

pub returns-then-not-is_object_held-clause-oldest : goal.returns-then-not-is_object_held-clause-oldest
returns-then-not-is_object_held-clause-oldest c =
    let w = c.args.world.now.rows in
    let b = name_of c.args.world.now.births.sections c.section_key-section.result in
    let on : is_unheld w (section_name b) ≡ true = grind (arith, c.is_object_held.ensures, c.if-not-is_object_held.true) in
    sym (ap (option_map (λ (s : SectionRow). s.birth)) (sym c.loop-place.invariant.1) ∙ found_at (λ (s : SectionRow). s.birth) (λ d. is_unheld w (section_name d)) w.sections c.loop-place.place b c.section_key-section.ensures.birth on)
