use Rattle.lpc_world.proofs.world.World.names.Goals as goal

pub returns-clause-stand : goal.returns-clause-stand
returns-clause-stand c = rw (← c.self.view_is, c.list.ensures) c.self.invariant.kept.named.refs.in_names
