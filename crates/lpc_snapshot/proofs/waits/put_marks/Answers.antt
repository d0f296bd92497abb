use Rattle.std.proofs.Common.{refl}
use Rattle.std.specs.Prelude.{OnErr}
use Rattle.lpc_transcript.specs.Printing.{LacksRoom}
use Rattle.lpc_states.specs.Rows.{lines, mark_row}
use Rattle.lpc_states.proofs.Puts.{begins_more, lacks_one}
use Rattle.lpc_snapshot.proofs.waits.put_marks.Goals as goal

pub returns-in_err-put_mark-clause-err : goal.returns-in_err-put_mark-clause-err
returns-in_err-put_mark-clause-err c = begins_more _ _ _ _ _ c.loop-tid.invariant.text c.in_err-put_mark.ensures.err

pub returns-in_err-put_mark-clause-wanting : goal.returns-in_err-put_mark-clause-wanting
returns-in_err-put_mark-clause-wanting c =
    let lacks : OnErr c.from_residual.result (LacksRoom c.args.into.now (lines mark_row c.marks-marks.result.now)) =
    lacks_one mark_row c.marks-marks.result.now c.loop-tid.tid-index _ 0 _ _ _ _ _ c.loop-tid-test.true refl c.loop-tid.invariant.text c.loop-tid.invariant.room c.in_err-put_mark.ensures.wanting in
    rw c.marks-marks.ensures.marks at lacks
