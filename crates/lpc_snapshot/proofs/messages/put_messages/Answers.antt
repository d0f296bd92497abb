use Rattle.std.proofs.Common.{arith}
use Rattle.lpc_states.specs.Rows.{message_row}
use Rattle.lpc_states.proofs.Puts.{begins_more}
use Rattle.lpc_snapshot.proofs.Loops.{lacks_row, more_text}
use Rattle.lpc_snapshot.proofs.messages.put_messages.Goals as goal

pub loop-place-preserved : goal.loop-place-preserved
loop-place-preserved c = record {
  text = more_text message_row c.args.world.now.rows.messages c.loop-place.place _ _ _ _ c.message_at.ensures.row c.loop-place.invariant.text c.in_ok-put_message.ensures.ok;
  room = omega (arith, c.loop-place.invariant.room, c.in_ok-put_message.ensures.capacity);
}

pub returns-in_err-put_message-clause-err : goal.returns-in_err-put_message-clause-err
returns-in_err-put_message-clause-err c = begins_more _ _ _ _ _ c.loop-place.invariant.text c.in_err-put_message.ensures.err

pub returns-in_err-put_message-clause-wanting : goal.returns-in_err-put_message-clause-wanting
returns-in_err-put_message-clause-wanting c =
    lacks_row message_row c.args.world.now.rows.messages c.loop-place.place _ _ _ _ _ _ c.message_at.ensures.row c.loop-place.invariant.text c.loop-place.invariant.room c.in_err-put_message.ensures.wanting
