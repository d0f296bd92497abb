use Rattle.std.proofs.Common.{arith}
use Rattle.lpc_states.specs.Rows.{token_row}
use Rattle.lpc_states.proofs.Puts.{begins_more}
use Rattle.lpc_snapshot.proofs.Loops.{lacks_row, more_text}
use Rattle.lpc_snapshot.proofs.tokens.put_tokens.Goals as goal

pub loop-place-preserved : goal.loop-place-preserved
loop-place-preserved c = record {
  text = more_text (token_row c.args.world.now.rows) c.args.world.now.rows.tokens c.loop-place.place _ _ _ _ c.token_at.ensures.row c.loop-place.invariant.text c.in_ok-put_token_row.ensures.ok;
  room = omega (arith, c.loop-place.invariant.room, c.in_ok-put_token_row.ensures.capacity);
}

pub returns-in_err-put_token_row-clause-err : goal.returns-in_err-put_token_row-clause-err
returns-in_err-put_token_row-clause-err c = begins_more _ _ _ _ _ c.loop-place.invariant.text c.in_err-put_token_row.ensures.err

pub returns-in_err-put_token_row-clause-wanting : goal.returns-in_err-put_token_row-clause-wanting
returns-in_err-put_token_row-clause-wanting c =
    lacks_row (token_row c.args.world.now.rows) c.args.world.now.rows.tokens c.loop-place.place _ _ _ _ _ _ c.token_at.ensures.row c.loop-place.invariant.text c.loop-place.invariant.room c.in_err-put_token_row.ensures.wanting
