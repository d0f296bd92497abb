use Rattle.std.proofs.Common.{arith}
use Rattle.lpc_rows.specs.Shown.{tables_of}
use Rattle.lpc_rows.proofs.Counted.{handles_counted}
use Rattle.lpc_world.proofs.world.World.pointers_to.Goals as goal

pub returns : goal.returns
returns c =
    let there = rw (← c.self.view_is) at c.requires in
    let counted = handles_counted (tables_of c.self.inside.procs c.self.inside.parts.items c.self.inside.ports c.self.inside.waits c.self.inside.names c.self.inside.sections c.self.inside.tokens c.self.inside.token_names c.self.inside.marks) c.self.invariant.kept.named c.args.object there in
    let handles = c.handles_to.ensures.count in
    let others = rw (← c.self.view_is) at c.holders_of.ensures.holders in
    rw (← c.self.view_is) (omega (arith, handles, counted, others))
