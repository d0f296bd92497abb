use Rattle.std.proofs.Common.{None, ap, length, sym, ◌∙◌}
use Rattle.std.proofs.lemmas.List.{length-map}
use Rattle.lpc_homes.specs.Parts.{views_at}
use Rattle.lpc_rows.specs.Shown.{Tables, birth_of, births_of, shown_view, tables_of}
use Rattle.lpc_rows.proofs.FoundSections as sections
use Rattle.lpc_rows.proofs.MappedViews as mapped
use Rattle.lpc_rows.proofs.Readings as readings
use Rattle.lpc_world.proofs.world.World.view_for.Goals as goal

pub views_of-views-requires : goal.views_of-views-requires
views_of-views-requires c =
    let there = rw (← c.self.view_is) at c.requires.table in
    (sym (readings.table_is (tables_of c.self.inside.procs c.self.inside.parts.items c.self.inside.ports c.self.inside.waits c.self.inside.names c.self.inside.sections c.self.inside.tokens c.self.inside.token_names c.self.inside.marks) c.self.invariant.kept.named c.args.pid) ∙ there)

pub view_for-requires-clause-present : goal.view_for-requires-clause-present
view_for-requires-clause-present c = sections.present (tables_of c.self.inside.procs c.self.inside.parts.items c.self.inside.ports c.self.inside.waits c.self.inside.names c.self.inside.sections c.self.inside.tokens c.self.inside.token_names c.self.inside.marks) c.args.section (rw (← c.self.view_is) at c.requires.section)

pub returns-clause-answer : goal.returns-clause-answer
returns-clause-answer c =
    let there = rw (← c.self.view_is) at c.requires in
    let found = rw (c.views_of-views.ensures.views) at c.view_for.ensures.answer in
    let answer = mapped.answered (tables_of c.self.inside.procs c.self.inside.parts.items c.self.inside.ports c.self.inside.waits c.self.inside.names c.self.inside.sections c.self.inside.tokens c.self.inside.token_names c.self.inside.marks) c.self.invariant.kept.named c.args.pid c.args.section c.args.offset c.args.size c.args.writable None there.section c.view_for.result found in
    rw (← c.self.view_is) answer.answer

pub returns-clause-few : goal.returns-clause-few
returns-clause-few c =
    let it : Tables = tables_of c.self.inside.procs c.self.inside.parts.items c.self.inside.ports c.self.inside.waits c.self.inside.names c.self.inside.sections c.self.inside.tokens c.self.inside.token_names c.self.inside.marks in
    let own = c.views_of-views.ensures.views in
    let shown = readings.views_are it c.self.invariant.kept.named c.args.pid in
    let same = ap length shown ∙ length-map (views_at c.self.inside.parts.items c.args.pid) (shown_view (birth_of (births_of it))) in
    let most = rw own at c.view_for.ensures.most_views in
    rw (← c.self.view_is) (rw (← same) at most)
