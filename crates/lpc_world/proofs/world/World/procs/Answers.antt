use Rattle.std.proofs.Common.{arith}
use Rattle.lpc_world.proofs.world.World.procs.Goals as goal

pub returns-clause-born : goal.returns-clause-born
returns-clause-born c = rw (← c.self.view_is) c.self.invariant.kept.born

pub returns-clause-few : goal.returns-clause-few
returns-clause-few c = let is = c.self.invariant.kept.lawful in rw (← c.self.view_is) (omega (arith, is.rows, is.budget, is.few))
