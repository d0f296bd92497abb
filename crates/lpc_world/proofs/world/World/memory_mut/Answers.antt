use Rattle.std.proofs.Common.{[], ◌≡◌, ℕ, List, true, Option, Some, None, IsSome, refl, ap, sym, ◌∙◌}
use Rattle.lpc_base.specs.Rows.{passes}
use Rattle.lpc_homes.specs.Parts.{views_at}
use Rattle.lpc_model.specs.Found.{view_holding}
use Rattle.lpc_slots.specs.declared.Key.{Key}
use Rattle.lpc_views.specs.Views.{view_of}
use Rattle.lpc_views.specs.declared.view.View.{View}
use Rattle.lpc_rows.specs.Kept.{Kept}
use Rattle.lpc_rows.specs.Shown.{tables_of}
use Rattle.lpc_rows.proofs.Readings as readings
use Rattle.lpc_rows.proofs.ViewBytes as shown
use Rattle.lpc_rows.proofs.WrittenViews as bytes
use Rattle.lpc_world.specs.Lent.{with_memory}
use Rattle.lpc_world.proofs.Places as places
use Rattle.lpc_rows.proofs.Suspecting as suspecting
use Rattle.lpc_rows.specs.Kept.{rows_by}
use Rattle.lpc_rows.specs.Shown.{births_of}
use Rattle.lpc_rows.proofs.Lived as lived
use Rattle.lpc_world.proofs.world.World.memory_mut.Goals as goal

some_view : (o : Option (View Key)) → passes o (λ v. v.writable) ≡ true → IsSome o
some_view None may = absurd (cc)
some_view (Some view) may = refl

pub place_in-place-requires-clause-part : goal.place_in-place-requires-clause-part
place_in-place-requires-clause-part c =
    let there = rw (← c.self.view_is) at c.requires.table in
    (sym (readings.table_is (tables_of c.self.inside.procs c.self.inside.parts.items c.self.inside.ports c.self.inside.waits c.self.inside.names c.self.inside.sections c.self.inside.tokens c.self.inside.token_names c.self.inside.marks) c.self.invariant.kept.named c.args.pid) ∙ there)

pub place_in-place-requires-clause-held : goal.place_in-place-requires-clause-held
place_in-place-requires-clause-held c =
    let may = rw (← c.self.view_is) at c.requires.writable in
    (some_view (view_of (views_at c.self.inside.parts.items c.args.pid) c.args.address c.args.len) (bytes.writable (tables_of c.self.inside.procs c.self.inside.parts.items c.self.inside.ports c.self.inside.waits c.self.inside.names c.self.inside.sections c.self.inside.tokens c.self.inside.token_names c.self.inside.marks) c.self.inside.calls c.self.inside.made c.self.invariant.kept c.args.pid c.args.address c.args.len [] may))

pub part_of_mut-requires : goal.part_of_mut-requires
part_of_mut-requires c =
    let found = c.place_in-place.ensures.place in
    places.inside (tables_of c.self.inside.procs c.self.inside.parts.items c.self.inside.ports c.self.inside.waits c.self.inside.names c.self.inside.sections c.self.inside.tokens c.self.inside.token_names c.self.inside.marks) c.self.inside.calls c.self.inside.made c.self.invariant.kept c.args.pid c.args.address c.args.len c.place_in-place.result found

pub invariant_of-self-lent : goal.invariant_of-self-lent
invariant_of-self-lent c = λ w.
    let may = rw (← c.self.view_is) at c.requires.writable in
    let found = c.place_in-place.ensures.place in
    record { kept = places.still_lawful (tables_of c.self.inside.procs c.self.inside.parts.items c.self.inside.ports c.self.inside.waits c.self.inside.names c.self.inside.sections c.self.inside.tokens c.self.inside.token_names c.self.inside.marks) c.self.inside.calls c.self.inside.made c.self.invariant.kept c.args.pid c.args.address c.args.len c.place_in-place.result found may w; watched = suspecting.written-to (rows_by (tables_of c.self.inside.procs c.self.inside.parts.items c.self.inside.ports c.self.inside.waits c.self.inside.names c.self.inside.sections c.self.inside.tokens c.self.inside.token_names c.self.inside.marks)) (births_of (tables_of c.self.inside.procs c.self.inside.parts.items c.self.inside.ports c.self.inside.waits c.self.inside.names c.self.inside.sections c.self.inside.tokens c.self.inside.token_names c.self.inside.marks)).ports c.self.inside.suspects c.self.invariant.watched _ c.args.address w (view_holding (rows_by (tables_of c.self.inside.procs c.self.inside.parts.items c.self.inside.ports c.self.inside.waits c.self.inside.names c.self.inside.sections c.self.inside.tokens c.self.inside.token_names c.self.inside.marks)) c.args.pid c.args.address c.args.len) (ap (λ (k : Kept). k.rows) (places.kept (tables_of c.self.inside.procs c.self.inside.parts.items c.self.inside.ports c.self.inside.waits c.self.inside.names c.self.inside.sections c.self.inside.tokens c.self.inside.token_names c.self.inside.marks) c.self.inside.calls c.self.inside.made c.self.invariant.kept c.args.pid c.args.address c.args.len c.place_in-place.result found may w c.self.inside.parts.room c.self.inside.loose)); lived = λ calm. lived.written-to (rows_by (tables_of c.self.inside.procs c.self.inside.parts.items c.self.inside.ports c.self.inside.waits c.self.inside.names c.self.inside.sections c.self.inside.tokens c.self.inside.token_names c.self.inside.marks)) (c.self.invariant.lived calm) _ c.args.address w (view_holding (rows_by (tables_of c.self.inside.procs c.self.inside.parts.items c.self.inside.ports c.self.inside.waits c.self.inside.names c.self.inside.sections c.self.inside.tokens c.self.inside.token_names c.self.inside.marks)) c.args.pid c.args.address c.args.len) (ap (λ (k : Kept). k.rows) (places.kept (tables_of c.self.inside.procs c.self.inside.parts.items c.self.inside.ports c.self.inside.waits c.self.inside.names c.self.inside.sections c.self.inside.tokens c.self.inside.token_names c.self.inside.marks) c.self.inside.calls c.self.inside.made c.self.invariant.kept c.args.pid c.args.address c.args.len c.place_in-place.result found may w c.self.inside.parts.room c.self.inside.loose)) }

pub returns : goal.returns
returns c =
    let may = rw (← c.self.view_is) at c.requires.writable in
    let found = c.place_in-place.ensures.place in
    let lent : (w : List ℕ) → _ = λ w.
    places.kept (tables_of c.self.inside.procs c.self.inside.parts.items c.self.inside.ports c.self.inside.waits c.self.inside.names c.self.inside.sections c.self.inside.tokens c.self.inside.token_names c.self.inside.marks) c.self.inside.calls c.self.inside.made c.self.invariant.kept c.args.pid c.args.address c.args.len c.place_in-place.result found may w c.self.inside.parts.room c.self.inside.loose
    ∙ ap (λ (k : Kept). with_memory k c.args.address (view_holding k.rows c.args.pid c.args.address c.args.len) w) c.self.view_is in (
      (refl, lent),
      record {
        writes_back = tt;
        bytes = rw (← c.self.view_is, shown.bytes_seen (tables_of c.self.inside.procs c.self.inside.parts.items c.self.inside.ports c.self.inside.waits c.self.inside.names c.self.inside.sections c.self.inside.tokens c.self.inside.token_names c.self.inside.marks) c.self.inside.calls c.self.inside.made c.self.invariant.kept c.args.pid c.args.address c.args.len) (places.seen_there (tables_of c.self.inside.procs c.self.inside.parts.items c.self.inside.ports c.self.inside.waits c.self.inside.names c.self.inside.sections c.self.inside.tokens c.self.inside.token_names c.self.inside.marks) c.self.inside.calls c.self.inside.made c.self.invariant.kept c.args.pid c.args.address c.args.len c.place_in-place.result found ∙ ap Some (sym c.part_of_mut.ensures.value));
        len = c.part_of_mut.ensures.len;
      },
    )
