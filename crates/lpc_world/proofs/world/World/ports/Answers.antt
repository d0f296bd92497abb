use Rattle.std.proofs.Common.{refl}
use Rattle.lpc_world.proofs.world.World.ports.Goals as goal

pub returns-clause-messages : goal.returns-clause-messages
returns-clause-messages c = rw (← c.self.view_is) refl

pub returns-clause-apart : goal.returns-clause-apart
returns-clause-apart c = rw (← c.self.view_is) c.self.invariant.kept.named.ports_apart

pub returns-clause-ports_stand : goal.returns-clause-ports_stand
returns-clause-ports_stand c = rw (← c.self.view_is) c.self.invariant.kept.named.refs.in_ports

pub returns-clause-messages_stand : goal.returns-clause-messages_stand
returns-clause-messages_stand c = rw (← c.self.view_is) c.self.invariant.kept.named.refs.in_messages
