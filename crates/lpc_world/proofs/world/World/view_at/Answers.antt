use Rattle.std.proofs.Common.{ap, sym, ◌∙◌}
use Rattle.lpc_views.specs.Views.{view_at}
use Rattle.lpc_rows.specs.Shown.{tables_of}
use Rattle.lpc_rows.proofs.Readings as readings
use Rattle.lpc_world.proofs.world.World.view_at.Goals as goal

pub views_of-requires : goal.views_of-requires
views_of-requires c =
    let there = rw (← c.self.view_is) at c.requires.table in
    (sym (readings.table_is (tables_of c.self.inside.procs c.self.inside.parts.items c.self.inside.ports c.self.inside.waits c.self.inside.names c.self.inside.sections c.self.inside.tokens c.self.inside.token_names c.self.inside.marks) c.self.invariant.kept.named c.args.pid) ∙ there)

pub returns : goal.returns
returns c = rw (← c.self.view_is) (record { view = readings.found_view (tables_of c.self.inside.procs c.self.inside.parts.items c.self.inside.ports c.self.inside.waits c.self.inside.names c.self.inside.sections c.self.inside.tokens c.self.inside.token_names c.self.inside.marks) c.self.invariant.kept.named c.args.pid c.args.address 1 c.view_at.result (c.view_at.ensures ∙ ap (λ vs. view_at vs c.args.address) (c.views_of.ensures.views)) })
