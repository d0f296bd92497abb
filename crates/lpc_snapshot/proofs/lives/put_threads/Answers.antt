use Rattle.std.proofs.Common.{arith}
use Rattle.lpc_states.specs.Rows.{thread_row}
use Rattle.lpc_states.proofs.Puts.{begins_more}
use Rattle.lpc_snapshot.proofs.Loops.{lacks_row, more_text}
use Rattle.lpc_snapshot.proofs.lives.put_threads.Goals as goal

pub loop-place-preserved : goal.loop-place-preserved
loop-place-preserved c = record {
  text = more_text (thread_row c.args.world.now.rows) c.args.world.now.rows.threads c.loop-place.place _ _ _ _ c.thread_at.ensures c.loop-place.invariant.text c.in_ok-put_thread.ensures.ok;
  room = omega (arith, c.loop-place.invariant.room, c.in_ok-put_thread.ensures.capacity);
}

pub returns-in_err-put_thread-clause-err : goal.returns-in_err-put_thread-clause-err
returns-in_err-put_thread-clause-err c = begins_more _ _ _ _ _ c.loop-place.invariant.text c.in_err-put_thread.ensures.err

pub returns-in_err-put_thread-clause-wanting : goal.returns-in_err-put_thread-clause-wanting
returns-in_err-put_thread-clause-wanting c =
    lacks_row (thread_row c.args.world.now.rows) c.args.world.now.rows.threads c.loop-place.place _ _ _ _ _ _ c.thread_at.ensures c.loop-place.invariant.text c.loop-place.invariant.room c.in_err-put_thread.ensures.wanting
