-- The bytes that a process reads and writes through its views: those of the definitions.
use Rattle.std.proofs.Common.{◌≡◌, ◌↔◌, ℕ, ◌+◌, List, true, false, length, take, drop, Option, Some, None, option_map, refl, ap, sym, ◌∙◌}
use Rattle.std.specs.Prelude.{leb}
use Rattle.lpc_base.specs.Rows.{first, passes}
use Rattle.lpc_base.proofs.RowMaps.{every-first}
use Rattle.lpc_homes.specs.Parts.{is_part, views_at, views_in}
use Rattle.lpc_homes.specs.declared.object.Object.{Object}
use Rattle.lpc_homes.specs.declared.parts.Part.{Part}
use Rattle.lpc_model.specs.Found as found
use Rattle.lpc_model.specs.World.{Birth, World}
use Rattle.lpc_sections.specs.Sections.{SectionRow}
use Rattle.lpc_slots.specs.Table.{Table, at}
use Rattle.lpc_slots.specs.declared.Key.{Key}
use Rattle.lpc_views.specs.Parts.{AreMapped, is_mapped, seen}
use Rattle.lpc_views.specs.Views.{offset_of, view_of}
use Rattle.lpc_views.specs.declared.view.View.{View}
use Rattle.lpc_rows.specs.Clauses.{bytes_through}
use Rattle.lpc_rows.specs.Kept.{rows_by}
use Rattle.lpc_rows.specs.Lawful.{AreLawful, has_mapped_views}
use Rattle.lpc_rows.specs.Shown.{Tables, birth_of, births_of, shown_view}
use Rattle.lpc_rows.proofs.Readings as readings

-- the sections that a process's views show stand
pub mapped_at : (it : Tables) (calls made : ℕ) → AreLawful it calls made → (pid : ℕ) → AreMapped it.sections (views_at it.parts pid)
mapped_at it calls made is pid = by (first (is_part pid) it.parts) refl
  where
    by : (o : Option Part) → first (is_part pid) it.parts ≡ o → AreMapped it.sections (views_in o)
    by None none = refl
    by (Some part) some = every-first (has_mapped_views it.sections) (is_part pid) it.parts part is.mapped.views_mapped some

-- the row of the section that a view shows
pub record HasSection (sections : Table SectionRow) (view : View Key) : Type 0 where
  pub row : SectionRow
  pub there : at sections view.section ≡ Some row

pub section_of : (sections : Table SectionRow) (view : View Key) → is_mapped sections view ≡ true → HasSection sections view
section_of sections view mapped = by (at sections view.section) refl
  where
    by : (o : Option SectionRow) → at sections view.section ≡ o → HasSection sections view
    by None none =
        let no : is_mapped sections view ≡ false = ap (λ (r : Option SectionRow). passes r (λ s. leb (view.offset + view.size) (length s.bytes))) none in
        absurd (cc)
    by (Some row) some = record { row = row; there = some }

module _ (it : Tables) (calls made : ℕ) (is : AreLawful it calls made) (pid address n : ℕ) where
  abbrev rows : World
  rows = rows_by it

  abbrev f : Object → Birth
  f = birth_of (births_of it)

  -- what a view shows
  pub shown_bytes : (view : View Key) → is_mapped it.sections view ≡ true → bytes_through rows address n (shown_view f view) ≡ seen it.sections address n view
  shown_bytes view mapped =
      let s = section_of it.sections view mapped in
      let content = readings.bytes_are it is.named view.section s.row s.there in
      ap (λ (b : List ℕ). take n (drop (offset_of view address) b)) content ∙ sym (rw s.there refl)

  pub bytes_seen : option_map (bytes_through rows address n) (found.view_holding rows pid address n) ≡ option_map (seen it.sections address n) (view_of (views_at it.parts pid) address n)
  bytes_seen = ap (option_map (bytes_through rows address n)) (readings.view_is it is.named pid address n) ∙ by (view_of (views_at it.parts pid) address n) refl
    where
      by : (o : Option (View Key)) → view_of (views_at it.parts pid) address n ≡ o → option_map (bytes_through rows address n) (option_map (shown_view f) o) ≡ option_map (seen it.sections address n) o
      by None none = refl
      by (Some view) some = ap Some (shown_bytes view (every-first (is_mapped it.sections) _ (views_at it.parts pid) view (mapped_at it calls made is pid) some))

  -- there is none where no view holds the range
  pub none_held : (found.view_holding rows pid address n ≡ None) ↔ (view_of (views_at it.parts pid) address n ≡ None)
  none_held = (λ none. back (view_of (views_at it.parts pid) address n) (sym (readings.view_is it is.named pid address n) ∙ none), λ none. readings.view_is it is.named pid address n ∙ ap (option_map (shown_view f)) none)
    where
      back : (o : Option (View Key)) → option_map (shown_view f) o ≡ None → o ≡ None
      back None h = refl
      back (Some view) h = absurd (cc)
