use Rattle.std.proofs.Common.{◌≡◌, Option, Some, None, option_map, refl, ap, sym, ◌∙◌}
use Rattle.lpc_base.specs.Rows.{passes}
use Rattle.lpc_homes.specs.Parts.{views_at}
use Rattle.lpc_slots.specs.declared.Key.{Key}
use Rattle.lpc_views.specs.Views.{is_writable_at, view_of}
use Rattle.lpc_views.specs.declared.view.View.{View}
use Rattle.lpc_rows.specs.Shown.{Births, birth_of, births_of, shown_view, tables_of}
use Rattle.lpc_rows.proofs.Readings as readings
use Rattle.lpc_world.proofs.world.World.is_writable.Goals as goal

-- a view is written where it shows that it may be
same : (n : Births) (o : Option (View Key)) → passes o (λ v. v.writable) ≡ passes (option_map (shown_view (birth_of n)) o) (λ v. v.writable)
same n None = refl
same n (Some view) = refl

pub views_of-requires : goal.views_of-requires
views_of-requires c =
    let there = rw (← c.self.view_is) at c.requires.table in
    (sym (readings.table_is (tables_of c.self.inside.procs c.self.inside.parts.items c.self.inside.ports c.self.inside.waits c.self.inside.names c.self.inside.sections c.self.inside.tokens c.self.inside.token_names c.self.inside.marks) c.self.invariant.kept.named c.args.pid) ∙ there)

pub returns : goal.returns
returns c =
    let own = c.views_of.ensures.views in
    let found = readings.view_is (tables_of c.self.inside.procs c.self.inside.parts.items c.self.inside.ports c.self.inside.waits c.self.inside.names c.self.inside.sections c.self.inside.tokens c.self.inside.token_names c.self.inside.marks) c.self.invariant.kept.named c.args.pid c.args.address c.args.len in
    record { writable = rw (← c.self.view_is) (c.is_writable.ensures ∙ ap (λ vs. is_writable_at vs c.args.address c.args.len) own ∙ same (births_of (tables_of c.self.inside.procs c.self.inside.parts.items c.self.inside.ports c.self.inside.waits c.self.inside.names c.self.inside.sections c.self.inside.tokens c.self.inside.token_names c.self.inside.marks)) (view_of (views_at c.self.inside.parts.items c.args.pid) c.args.address c.args.len) ∙ ap (λ o. passes o (λ v. v.writable)) (sym found)) }
