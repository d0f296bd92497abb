use Rattle.std.proofs.Common.{◌≡◌, subst, sym, true}
use Rattle.lpc_base.specs.Rows.{each, every}
use Rattle.lpc_rows.specs.Shown.{object_stands, view_refs}
use Rattle.lpc_snapshot.proofs.Refs.{each_at}
use Rattle.std.proofs.Common.{map, refl}
use Rattle.std.specs.Prelude.{OnErr}
use Rattle.lpc_transcript.specs.Printing.{LacksRoom}
use Rattle.lpc_rows.specs.Shown.{birth_of, shown_view}
use Rattle.lpc_states.specs.Rows.{lines, view_row}
use Rattle.lpc_states.proofs.Puts.{begins_more, lacks_mapped}
use Rattle.lpc_snapshot.proofs.views.put_views_of.Goals as goal

pub put_view-requires : goal.put_view-requires
put_view-requires c =
    let all = subst (λ views. every (object_stands c.args.world.now.births) (each view_refs views) ≡ true) (sym c.views-views.ensures.views) c.requires in
    each_at view_refs (object_stands c.args.world.now.births) c.views-views.result.now c.loop-view.view-index _ c.loop-view-test.true all

pub returns-in_err-put_view-clause-err : goal.returns-in_err-put_view-clause-err
returns-in_err-put_view-clause-err c = begins_more _ _ _ _ _ c.loop-view.invariant.text c.in_err-put_view.ensures.err

pub returns-in_err-put_view-clause-wanting : goal.returns-in_err-put_view-clause-wanting
returns-in_err-put_view-clause-wanting c =
    let lacks : OnErr c.from_residual.result (LacksRoom c.args.into.now (lines (view_row c.args.part.now.process) (map (shown_view (birth_of c.args.world.now.births)) c.views-views.result.now))) =
    lacks_mapped (view_row c.args.part.now.process) (shown_view (birth_of c.args.world.now.births)) c.views-views.result.now c.loop-view.view-index _ _ _ _ _ _ _ c.loop-view-test.true refl c.loop-view.invariant.text c.loop-view.invariant.room c.in_err-put_view.ensures.wanting in
    rw c.views-views.ensures.views at lacks
