use Rattle.std.proofs.Common.{◌≡◌, ℕ, map, refl, subst, sym, true}
use Rattle.lpc_base.specs.Rows.{every}
use Rattle.lpc_handles.specs.declared.table.Row.{Row}
use Rattle.lpc_homes.specs.declared.object.Object.{Object}
use Rattle.lpc_rows.specs.Shown.{object_stands}
use Rattle.lpc_snapshot.proofs.Refs.{map_at}
use Rattle.std.specs.Prelude.{OnErr}
use Rattle.lpc_transcript.specs.Printing.{LacksRoom}
use Rattle.lpc_rows.specs.Shown.{birth_of, shown_handle}
use Rattle.lpc_states.specs.Rows.{handle_row, lines}
use Rattle.lpc_states.proofs.Puts.{lacks_mapped}
use Rattle.lpc_snapshot.proofs.handles.put_handles_of.Goals as goal

pub put_handle-requires : goal.put_handle-requires
put_handle-requires c =
    let all = subst (λ rows. every (object_stands c.args.world.now.births) (map (λ (row : ℕ × Row Object). row.1.object) rows) ≡ true) (sym c.rows-rows.ensures.rows) c.requires in
    map_at (λ (row : ℕ × Row Object). row.1.object) (object_stands c.args.world.now.births) c.rows-rows.result.now c.loop-value.value-index _ c.loop-value-test.true all

pub returns-in_err-put_handle-clause-wanting : goal.returns-in_err-put_handle-clause-wanting
returns-in_err-put_handle-clause-wanting c =
    let lacks : OnErr c.from_residual.result (LacksRoom c.args.into.now (lines (handle_row c.args.part.now.process) (map (shown_handle (birth_of c.args.world.now.births)) c.rows-rows.result.now))) =
    lacks_mapped (handle_row c.args.part.now.process) (shown_handle (birth_of c.args.world.now.births)) c.rows-rows.result.now c.loop-value.value-index _ _ _ _ _ _ _ c.loop-value-test.true refl c.loop-value.invariant.text c.loop-value.invariant.room c.in_err-put_handle.ensures.wanting in
    rw c.rows-rows.ensures.rows at lacks
