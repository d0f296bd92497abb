use Rattle.lpc_rows.specs.Shown.{tables_of}
use Rattle.lpc_rows.proofs.Deaths.{accepted_port_is}
use Rattle.lpc_world.proofs.world.World.accepted_port.Goals as goal

pub returns-clause-port : goal.returns-clause-port
returns-clause-port c = rw (← c.self.view_is) (accepted_port_is (tables_of c.self.inside.procs c.self.inside.parts.items c.self.inside.ports c.self.inside.waits c.self.inside.names c.self.inside.sections c.self.inside.tokens c.self.inside.token_names c.self.inside.marks) c.self.inside.calls c.self.inside.made c.self.invariant.kept c.args.tid c.accepted_port.result c.accepted_port.ensures.port).found

pub returns-clause-stands : goal.returns-clause-stands
returns-clause-stands c = rw (← c.self.view_is) (accepted_port_is (tables_of c.self.inside.procs c.self.inside.parts.items c.self.inside.ports c.self.inside.waits c.self.inside.names c.self.inside.sections c.self.inside.tokens c.self.inside.token_names c.self.inside.marks) c.self.inside.calls c.self.inside.made c.self.invariant.kept c.args.tid c.accepted_port.result c.accepted_port.ensures.port).there
