use Rattle.lpc_rows.specs.Kept.{rows_by}
use Rattle.lpc_rows.specs.Shown.{tables_of}
use Rattle.lpc_rows.proofs.Lived as lived
use Rattle.lpc_world.proofs.world.World.clear_process.Goals as goal

pub invariant_of-self : goal.invariant_of-self
invariant_of-self c =
    let held = rw (← c.self.view_is) at c.requires.held in
    record { kept = c.self.invariant.kept; watched = c.self.invariant.watched; lived = rw c.remove_process.ensures (λ calm. lived.cleared-process (rows_by (tables_of c.self.inside.procs c.self.inside.parts.items c.self.inside.ports c.self.inside.waits c.self.inside.names c.self.inside.sections c.self.inside.tokens c.self.inside.token_names c.self.inside.marks)) c.self.inside.lives (c.self.invariant.lived calm) c.args.birth held) }
