use Rattle.std.proofs.Common.{map}
use Rattle.std.specs.Prelude.{OnErr}
use Rattle.lpc_transcript.specs.Printing.{LacksRoom}
use Rattle.std.specs.List.{flat_map}
use Rattle.lpc_model.specs.World.{ViewTable}
use Rattle.lpc_rows.specs.Shown.{birth_of, shown_space}
use Rattle.lpc_states.specs.Rows.{lines, view_row}
use Rattle.lpc_states.proofs.Puts.{begins_more, lacks_mapped}
use Rattle.lpc_snapshot.proofs.views.put_views.Goals as goal

pub returns-in_err-put_views_of-clause-err : goal.returns-in_err-put_views_of-clause-err
returns-in_err-put_views_of-clause-err c = begins_more _ _ _ _ _ c.loop-part.invariant.text c.in_err-put_views_of.ensures.err

pub returns-in_err-put_views_of-clause-wanting : goal.returns-in_err-put_views_of-clause-wanting
returns-in_err-put_views_of-clause-wanting c =
    let lacks : OnErr c.from_residual.result (LacksRoom c.args.into.now (flat_map (λ (t : ViewTable). lines (view_row t.process) t.rows) (map (shown_space (birth_of c.args.world.now.births)) c.parts-parts.result.now))) =
    lacks_mapped (λ (t : ViewTable). lines (view_row t.process) t.rows) (shown_space (birth_of c.args.world.now.births)) c.parts-parts.result.now c.loop-part.part-index _ _ _ _ _ _ _ c.loop-part-test.true c.part-item.is c.loop-part.invariant.text c.loop-part.invariant.room c.in_err-put_views_of.ensures.wanting in
    rw c.parts-parts.ensures.views lacks
