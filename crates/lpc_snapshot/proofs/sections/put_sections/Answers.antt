use Rattle.std.proofs.Common.{arith}
use Rattle.lpc_states.specs.Rows.{section_row}
use Rattle.lpc_states.proofs.Puts.{begins_more}
use Rattle.lpc_snapshot.proofs.Loops.{lacks_row, more_text}
use Rattle.lpc_snapshot.proofs.sections.put_sections.Goals as goal

pub loop-place-preserved : goal.loop-place-preserved
loop-place-preserved c = record {
  text = more_text (section_row c.args.world.now.rows) c.args.world.now.rows.sections c.loop-place.place _ _ _ _ c.section_at.ensures.row c.loop-place.invariant.text c.in_ok-put_section.ensures.ok;
  room = omega (arith, c.loop-place.invariant.room, c.in_ok-put_section.ensures.capacity);
}

pub returns-in_err-put_section-clause-err : goal.returns-in_err-put_section-clause-err
returns-in_err-put_section-clause-err c = begins_more _ _ _ _ _ c.loop-place.invariant.text c.in_err-put_section.ensures.err

pub returns-in_err-put_section-clause-wanting : goal.returns-in_err-put_section-clause-wanting
returns-in_err-put_section-clause-wanting c =
    lacks_row (section_row c.args.world.now.rows) c.args.world.now.rows.sections c.loop-place.place _ _ _ _ _ _ c.section_at.ensures.row c.loop-place.invariant.text c.loop-place.invariant.room c.in_err-put_section.ensures.wanting
