use Rattle.lpc_world.proofs.Hearers as hearers
use Rattle.lpc_world.proofs.world.World.hearers.Goals as goal

pub returns : goal.returns
returns c = hearers.hearers-of c.args.self.now.rows c.args.self.now.births.ports c.args.pid c.event_port.result c.event_port-2.result c.event_port.ensures.port c.event_port-2.ensures.port c.event_port.ensures.stands c.event_port-2.ensures.stands
