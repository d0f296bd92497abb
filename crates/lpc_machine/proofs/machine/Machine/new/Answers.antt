use Rattle.lpc_machine.proofs.Sound as sound
use Rattle.lpc_machine.proofs.machine.Machine.new.Goals as goal

pub invariant_of-result : goal.invariant_of-result
invariant_of-result c = sound.settled_none c.empty.result c.empty.ensures.rows c.empty.ensures.loose
