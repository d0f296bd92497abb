use Rattle.std.proofs.Common.{arith}
use Rattle.lpc_states.specs.Rows.{wait_row}
use Rattle.lpc_states.proofs.Puts.{begins_more}
use Rattle.lpc_snapshot.proofs.Loops.{lacks_row, more_text}
use Rattle.lpc_snapshot.proofs.waits.put_waits.Goals as goal

pub loop-place-preserved : goal.loop-place-preserved
loop-place-preserved c = record {
  text = more_text wait_row c.args.world.now.rows.waits c.loop-place.place _ _ _ _ c.wait_at.ensures.row c.loop-place.invariant.text c.in_ok-put_wait.ensures.ok;
  room = omega (arith, c.loop-place.invariant.room, c.in_ok-put_wait.ensures.capacity);
}

pub returns-in_err-put_wait-clause-err : goal.returns-in_err-put_wait-clause-err
returns-in_err-put_wait-clause-err c = begins_more _ _ _ _ _ c.loop-place.invariant.text c.in_err-put_wait.ensures.err

pub returns-in_err-put_wait-clause-wanting : goal.returns-in_err-put_wait-clause-wanting
returns-in_err-put_wait-clause-wanting c =
    lacks_row wait_row c.args.world.now.rows.waits c.loop-place.place _ _ _ _ _ _ c.wait_at.ensures.row c.loop-place.invariant.text c.loop-place.invariant.room c.in_err-put_wait.ensures.wanting
