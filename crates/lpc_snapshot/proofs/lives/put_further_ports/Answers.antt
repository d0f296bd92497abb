use Rattle.std.proofs.Common.{refl}
use Rattle.lpc_procs.specs.declared.rows.Registration.{Registration}
use Rattle.lpc_states.specs.Values.{behind_comma, port_text}
use Rattle.lpc_states.proofs.Puts.{lacks_mapped}
use Rattle.lpc_snapshot.proofs.lives.put_further_ports.Goals as goal

pub returns-in_err-put_further_port-clause-wanting : goal.returns-in_err-put_further_port-clause-wanting
returns-in_err-put_further_port-clause-wanting c =
    lacks_mapped (behind_comma port_text) (λ (r : Registration). r.birth) c.args.ports.now c.loop-port.port-index _ _ _ _ _ _ _ c.loop-port-test.true refl c.loop-port.invariant.text c.loop-port.invariant.room c.in_err-put_further_port.ensures.wanting
