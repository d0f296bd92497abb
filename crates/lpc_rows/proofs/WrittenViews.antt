-- Bytes that are written through a view: they are those of the definitions, and nothing else changes.
use Rattle.std.proofs.Common.{◌≡◌, ℕ, Bool, List, true, length, Option, Some, None, option_map, refl, ap, sym, subst, ◌∙◌, arith}
use Rattle.lpc_base.specs.Rows.{passes}
use Rattle.lpc_base.proofs.RowMaps.{every-first}
use Rattle.lpc_base.proofs.RowWords.{length-change}
use Rattle.lpc_homes.specs.Parts.{views_at}
use Rattle.lpc_model.specs.Found.{view_holding}
use Rattle.lpc_model.specs.World.{World}
use Rattle.lpc_sections.specs.Sections.{SectionRow, with_part}
use Rattle.lpc_slots.specs.Table.{Table, at, at_key, listed, with_value}
use Rattle.lpc_slots.specs.declared.Key.{Key}
use Rattle.lpc_slots.proofs.Same.{listed_put}
use Rattle.lpc_views.proofs.Mapped.{sizes-kept as kept-sizes}
use Rattle.lpc_views.specs.Parts.{KeepsSizes, is_mapped, written}
use Rattle.lpc_views.specs.Views.{holds, is_writable_at, offset_of, view_of}
use Rattle.lpc_views.specs.declared.view.View.{View}
use Rattle.lpc_rows.specs.Capacity.{capacity_by}
use Rattle.lpc_rows.specs.Clauses.{written_through}
use Rattle.lpc_rows.specs.Kept.{Roomy, kept_by, owed_rows, room_by, rows_by}
use Rattle.lpc_rows.specs.Lawful.{AreLawful}
use Rattle.lpc_rows.specs.Names.{stands}
use Rattle.lpc_rows.specs.Shown.{Tables, birth_of, births_of, shown_view}
use Rattle.lpc_rows.proofs.Capacities as capacities
use Rattle.lpc_rows.proofs.Readings as readings
use Rattle.lpc_rows.proofs.SectionBytes as bytes
use Rattle.lpc_rows.proofs.ViewBytes as shown
use Rattle.lpc_rows.proofs.FoundSections as sections

module _ (it : Tables) (calls made : ℕ) (is : AreLawful it calls made) (pid address len : ℕ) (others : List ℕ) where
  abbrev own : Option (View Key)
  own = view_of (views_at it.parts pid) address len

  -- a view that may be written is found so in the tables
  pub writable : passes (view_holding (rows_by it) pid address len) (λ v. v.writable) ≡ true → is_writable_at (views_at it.parts pid) address len ≡ true
  writable may = back own (sym (ap (λ o. passes o (λ v. v.writable)) (readings.view_is it is.named pid address len)) ∙ may)
    where
      back : (o : Option (View Key)) → passes (option_map (shown_view (birth_of (births_of it))) o) (λ v. v.writable) ≡ true → passes o (λ v. v.writable) ≡ true
      back None may = absurd (cc)
      back (Some view) may = may

  -- each section has as many bytes afterwards, however many are written
  pub sizes_kept : KeepsSizes it.sections (written it.sections address own others)
  sizes_kept = through_view own
    where
      in_section : (view : View Key) (o : Option SectionRow) → at it.sections view.section ≡ o → KeepsSizes it.sections (written it.sections address (Some view) others)
      in_section view None none key end = rw none refl
      in_section view (Some row) some key end = rw some (kept-sizes it.sections view.section row (with_part row (offset_of view address) others) some (bytes.length-overwritten row.bytes others (offset_of view address)) key end)

      through_view : (o : Option (View Key)) → KeepsSizes it.sections (written it.sections address o others)
      through_view None key end = refl
      through_view (Some view) key end = in_section view (at it.sections view.section) refl key end

  -- the tables with the bytes
  module _ (new : Table SectionRow) (places : ℕ) where
    abbrev after : Tables
    after = record it { sections = new }

    pub record IsWritten : Type 0 where
      pub lawful : AreLawful after calls made
      pub rows : rows_by after ≡ written_through (rows_by it) address others (view_holding (rows_by it) pid address len)
      pub births : births_of after ≡ births_of it
      pub owed : owed_rows (rows_by after) ≡ owed_rows (rows_by it)
      pub room : Roomy (room_by (rows_by it) it places) (room_by (rows_by after) after places)
      pub same_room : room_by (rows_by after) after places ≡ room_by (rows_by it) it places
      pub capacity : capacity_by after places ≡ capacity_by it places

    -- nothing but the rows is another
    pub whole : (loose : Bool) → IsWritten → kept_by after places calls made loose ≡ record (kept_by it places calls made loose) { rows = written_through (rows_by it) address others (view_holding (rows_by it) pid address len) }
    whole loose it_is =
        rw (it_is.same_room, it_is.capacity, it_is.owed, it_is.rows, it_is.births) refl

    -- written through a view, whose section has this row
    through : (view : View Key) (row : SectionRow) → own ≡ Some view → at it.sections view.section ≡ Some row → stands (births_of it).sections view.section ≡ true → KeepsSizes it.sections new → new ≡ with_value it.sections view.section (with_part row (offset_of view address) others) → IsWritten
    through view row some there stand sizes is_new =
        let place = offset_of view address in
        let found = readings.view_is it is.named pid address len ∙ ap (option_map (shown_view (birth_of (births_of it)))) some in
        let step = bytes.writes it is.named view.section row place others there stand new is_new in
        let count = ap (λ (t : Table SectionRow). t.made) is_new in
        let spare = ap (λ (t : Table SectionRow). t.spare) is_new in
        let long = ap length (ap listed is_new ∙ listed_put view.section (λ (r : SectionRow). with_part r place others) it.sections row there) ∙ length-change (at_key view.section) (λ (r : Key × SectionRow). (r.0, with_part r.1 place others)) (listed it.sections) in
        record {
          lawful = bytes.written_lawful it is.named view.section row place others there stand new is_new calls made is sizes count;
          rows = step ∙ sym (ap (written_through (rows_by it) address others) found);
          births = bytes.names_kept it is.named view.section row place others there stand new is_new;
          owed = ap owed_rows step;
          room = subst (λ (w : World). Roomy (room_by (rows_by it) it places) (room_by w after places)) (sym step) (record {
            for_processes = omega arith;
            for_threads = omega arith;
            for_waits = omega arith;
            for_messages = omega arith;
            for_ports = omega arith;
            for_names = omega arith;
            for_sections = omega (arith, spare);
            for_tokens = omega arith;
            for_token_names = omega arith;
            for_handles = λ p. omega arith;
            for_views = λ p. omega arith;
          });
          same_room = ap (λ (w : World). room_by w after places) step ∙ ap (λ n. record (room_by (rows_by it) it places) { sections = n }) spare;
          capacity = capacities.of_sections it places new (omega (arith, spare, long));
        }

    pub is_written : passes (view_holding (rows_by it) pid address len) (λ v. v.writable) ≡ true → KeepsSizes it.sections new → new ≡ written it.sections address own others → IsWritten
    is_written may sizes is_new = by own refl (writable may)
      where
        by : (o : Option (View Key)) → own ≡ o → passes o (λ v. v.writable) ≡ true → IsWritten
        by None none may = absurd (cc)
        by (Some view) some may =
            let mapped = every-first (is_mapped it.sections) (holds address len) (views_at it.parts pid) view (shown.mapped_at it calls made is pid) some in
            let s = shown.section_of it.sections view mapped in
            through view s.row some s.there (sections.stood it view.section s.row s.there) sizes (is_new ∙ rw (some, s.there) refl)
