use Rattle.std.proofs.Common.{sym, ◌∙◌}
use Rattle.lpc_rows.specs.Shown.{tables_of}
use Rattle.lpc_world.proofs.AllHeld.{sections_held}
use Rattle.lpc_world.proofs.world.World.sections_are_held.Goals as goal

pub returns : goal.returns
returns c = λ held.
    rw (← c.self.view_is)
    (sections_held (tables_of c.self.inside.procs c.self.inside.parts.items c.self.inside.ports c.self.inside.waits c.self.inside.names c.self.inside.sections c.self.inside.tokens c.self.inside.token_names c.self.inside.marks) c.self.invariant.kept.named c.held_sections.result c.count.result (sym c.eq.ensures ∙ held) c.count.ensures.number c.held_sections.ensures)
