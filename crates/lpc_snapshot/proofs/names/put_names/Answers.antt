use Rattle.std.proofs.Common.{arith}
use Rattle.lpc_states.specs.Rows.{name_row}
use Rattle.lpc_states.proofs.Puts.{begins_more}
use Rattle.lpc_snapshot.proofs.Loops.{lacks_row, more_text}
use Rattle.lpc_snapshot.proofs.names.put_names.Goals as goal

pub loop-place-preserved : goal.loop-place-preserved
loop-place-preserved c = record {
  text = more_text name_row c.args.world.now.rows.bindings c.loop-place.place _ _ _ _ c.binding_at.ensures.row c.loop-place.invariant.text c.in_ok-put_binding.ensures.ok;
  room = omega (arith, c.loop-place.invariant.room, c.in_ok-put_binding.ensures.capacity);
}

pub returns-in_err-put_binding-clause-err : goal.returns-in_err-put_binding-clause-err
returns-in_err-put_binding-clause-err c = begins_more _ _ _ _ _ c.loop-place.invariant.text c.in_err-put_binding.ensures.err

pub returns-in_err-put_binding-clause-wanting : goal.returns-in_err-put_binding-clause-wanting
returns-in_err-put_binding-clause-wanting c =
    lacks_row name_row c.args.world.now.rows.bindings c.loop-place.place _ _ _ _ _ _ c.binding_at.ensures.row c.loop-place.invariant.text c.loop-place.invariant.room c.in_err-put_binding.ensures.wanting
