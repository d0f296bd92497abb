use Rattle.std.proofs.Common.{◌++◌, ap, sym, ◌∙◌}
use Rattle.lpc_rows.specs.Shown.{tables_of}
use Rattle.lpc_views.specs.Mapping as mapping
use Rattle.lpc_rows.proofs.MappedViews as mapped
use Rattle.lpc_rows.proofs.Readings as readings
use Rattle.lpc_rows.proofs.RoomedViews as roomed
use Rattle.lpc_world.proofs.world.World.base_beside.Goals as goal

pub views_of-requires : goal.views_of-requires
views_of-requires c =
    let there = rw (← c.self.view_is) at c.requires.table in
    (sym (readings.table_is (tables_of c.self.inside.procs c.self.inside.parts.items c.self.inside.ports c.self.inside.waits c.self.inside.names c.self.inside.sections c.self.inside.tokens c.self.inside.token_names c.self.inside.marks) c.self.invariant.kept.named c.args.pid) ∙ there)

pub base_beside-requires-clause-within : goal.base_beside-requires-clause-within
base_beside-requires-clause-within c =
    let own = c.views_of.ensures.views in
    let number = roomed.views_number (tables_of c.self.inside.procs c.self.inside.parts.items c.self.inside.ports c.self.inside.waits c.self.inside.names c.self.inside.sections c.self.inside.tokens c.self.inside.token_names c.self.inside.marks) c.self.invariant.kept.named c.args.pid in
    let within = rw (← c.self.view_is) at c.requires.within in
    rw own (rw number at within)

pub returns : goal.returns
returns c =
    let own = c.views_of.ensures.views in
    c.base_beside.ensures ∙ ap (λ vs. mapping.new_base (vs ++ c.args.others.now) c.args.size) own
    ∙ rw (← c.self.view_is) (sym (mapped.beside_is (tables_of c.self.inside.procs c.self.inside.parts.items c.self.inside.ports c.self.inside.waits c.self.inside.names c.self.inside.sections c.self.inside.tokens c.self.inside.token_names c.self.inside.marks) c.self.invariant.kept.named c.args.pid c.args.others.now c.args.size))
