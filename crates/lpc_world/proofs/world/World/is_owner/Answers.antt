use Rattle.std.proofs.Common.{sym, ◌∙◌}
use Rattle.lpc_rows.specs.Shown.{tables_of}
use Rattle.lpc_rows.proofs.ShownViews.{owned_has}
use Rattle.lpc_world.proofs.world.World.is_owner.Goals as goal

pub returns : goal.returns
returns c =
    let owned = owned_has (tables_of c.self.inside.procs c.self.inside.parts.items c.self.inside.ports c.self.inside.waits c.self.inside.names c.self.inside.sections c.self.inside.tokens c.self.inside.token_names c.self.inside.marks) c.self.invariant.kept.named c.args.port (rw (← c.self.view_is) at c.requires) in
    rw (← c.self.view_is) (c.is_owner.ensures ∙ sym owned)
