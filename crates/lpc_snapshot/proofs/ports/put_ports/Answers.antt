use Rattle.std.proofs.Common.{arith}
use Rattle.lpc_states.specs.Rows.{port_row}
use Rattle.lpc_states.proofs.Puts.{begins_more}
use Rattle.lpc_snapshot.proofs.Loops.{lacks_row, more_text}
use Rattle.lpc_snapshot.proofs.ports.put_ports.Goals as goal

pub loop-place-preserved : goal.loop-place-preserved
loop-place-preserved c = record {
  text = more_text (port_row c.args.world.now.rows) c.args.world.now.rows.ports c.loop-place.place _ _ _ _ c.port_at.ensures.row c.loop-place.invariant.text c.in_ok-put_port.ensures.ok;
  room = omega (arith, c.loop-place.invariant.room, c.in_ok-put_port.ensures.capacity);
}

pub returns-in_err-put_port-clause-err : goal.returns-in_err-put_port-clause-err
returns-in_err-put_port-clause-err c = begins_more _ _ _ _ _ c.loop-place.invariant.text c.in_err-put_port.ensures.err

pub returns-in_err-put_port-clause-wanting : goal.returns-in_err-put_port-clause-wanting
returns-in_err-put_port-clause-wanting c =
    lacks_row (port_row c.args.world.now.rows) c.args.world.now.rows.ports c.loop-place.place _ _ _ _ _ _ c.port_at.ensures.row c.loop-place.invariant.text c.loop-place.invariant.room c.in_err-put_port.ensures.wanting
