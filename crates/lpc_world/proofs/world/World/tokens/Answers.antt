use Rattle.lpc_world.proofs.world.World.tokens.Goals as goal

pub returns-clause-apart : goal.returns-clause-apart
returns-clause-apart c = rw (← c.self.view_is) c.self.invariant.kept.named.tokens_apart
