use Rattle.std.proofs.Common.{arith}
use Rattle.lpc_world.proofs.world.World.section_load.Goals as goal

pub bytes_made_by-requires : goal.bytes_made_by-requires
bytes_made_by-requires c =
    let counted = c.self.invariant.kept.mapped.sections_made in
    let few = c.self.invariant.kept.lawful.few in
    let budget = c.self.invariant.kept.lawful.budget in
    record { few = omega (arith, counted, few, budget) }
