use Rattle.std.proofs.Common.{◌≡◌, true, false, sym, ◌∙◌}
use Rattle.lpc_base.specs.Rows.{has}
use Rattle.lpc_homes.specs.Parts.{has_view_of}
use Rattle.lpc_rows.specs.Shown.{tables_of}
use Rattle.lpc_rows.proofs.Counted.{section_held}
use Rattle.lpc_world.proofs.world.World.is_shown_or_offered.Goals as goal

pub returns-then-shows : goal.returns-then-shows
returns-then-shows c =
    let held = section_held (tables_of c.self.inside.procs c.self.inside.parts.items c.self.inside.ports c.self.inside.waits c.self.inside.names c.self.inside.sections c.self.inside.tokens c.self.inside.token_names c.self.inside.marks) c.self.invariant.kept.named c.args.section (rw (← c.self.view_is) at c.requires) in
    let shows = c.shows.ensures in
    let shown : has (has_view_of c.args.section) c.self.inside.parts.items ≡ true = sym shows ∙ c.if-shows.true in
    rw (← c.self.view_is, held, shown) c.if-shows.true

pub returns-else-shows : goal.returns-else-shows
returns-else-shows c =
    let held = section_held (tables_of c.self.inside.procs c.self.inside.parts.items c.self.inside.ports c.self.inside.waits c.self.inside.names c.self.inside.sections c.self.inside.tokens c.self.inside.token_names c.self.inside.marks) c.self.invariant.kept.named c.args.section (rw (← c.self.view_is) at c.requires) in
    let shows = c.shows.ensures in
    let unshown : has (has_view_of c.args.section) c.self.inside.parts.items ≡ false = sym shows ∙ c.if-shows.false in
    rw (← c.self.view_is, held, unshown) c.is_section_offered.ensures
