-- A range that a view holds lies inside its section.
use Rattle.std.proofs.Common.{◌≡◌, ◌≢◌, ◌∙◌, ℕ, ◌+◌, ◌≤◌, ◌++◌, ◌∷◌, [], Bool, List, true, length, inl, inr, refl, sym, ap, subst, arith}
use Rattle.std.specs.Prelude.{IsSomeAnd, Option, Some, None, leb, option_map, ◌⊎◌}
use Rattle.lpc_base.specs.Rows.{first, passes}
use Rattle.lpc_base.proofs.RowMaps.{every-first}
use Rattle.lpc_base.proofs.RowWords.{every-more, every-push}
use Rattle.lpc_sections.specs.Sections.{SectionRow}
use Rattle.lpc_slots.specs.Table.{Table, at as row_at, with_value}
use Rattle.lpc_slots.specs.declared.Key.{Key}
use Rattle.lpc_slots.proofs.Chains.{at_other, at_same}
use Rattle.lpc_slots.proofs.Keys.{key_cases}
use Rattle.lpc_views.specs.Parts.{AreMapped, HoldsPart, KeepsSizes, is_mapped}
use Rattle.lpc_views.specs.Views.{holds, offset_of, place_of, view_of}
use Rattle.lpc_views.specs.declared.view.Place.{Place}
use Rattle.lpc_views.specs.declared.view.View.{View}
use Rattle.lpc_views.proofs.Search.{held-within}

lower : (o : Option SectionRow) (end high : ℕ) → end ≤ high → passes o (λ s. leb high (length s.bytes)) ≡ true → IsSomeAnd o (λ s. end ≤ length s.bytes)
lower None end high le some = grind (arith, some)
lower (Some s) end high le some = grind (arith, some)

module _ {P : Type 0} where
  pub view-part : (sections : Table SectionRow) (views : List (View P)) (address len : ℕ) (view : View P) → AreMapped sections views → first (holds address len) views ≡ Some view → HoldsPart sections view.section (offset_of view address + len)
  view-part sections views address len view mapped is =
      lower (row_at sections view.section) (offset_of view address + len) (view.offset + view.size) (held-within address len views view is) (every-first (is_mapped sections) (holds address len) views view mapped is)

  from-place : (sections : Table SectionRow) (views : List (View P)) (address len : ℕ) (place : Place) (o : Option (View P)) → AreMapped sections views → view_of views address len ≡ o → Some place ≡ option_map (place_of address) o → HoldsPart sections place.section (place.at + len)
  from-place sections views address len place None mapped is found = absurd (cc)
  from-place sections views address len place (Some view) mapped is found =
      let same : place_of address view ≡ place = grind (arith, found) in subst (λ (p : Place). HoldsPart sections p.section (p.at + len)) same (view-part sections views address len view mapped is)

  pub place-part : (sections : Table SectionRow) (views : List (View P)) (address len : ℕ) (place : Place) → AreMapped sections views → Some place ≡ option_map (place_of address) (view_of views address len) → HoldsPart sections place.section (place.at + len)
  place-part sections views address len place mapped found = from-place sections views address len place (view_of views address len) mapped refl found

-- another value of the same size keeps the sizes
abbrev is_long : ℕ → Option SectionRow → Bool
is_long end o = passes o (λ s. leb end (length s.bytes))

size-at : (sections : Table SectionRow) (key other : Key) (end : ℕ) (s t : SectionRow) → row_at sections key ≡ Some s → length t.bytes ≡ length s.bytes → (other ≡ key) ⊎ (other ≢ key) → is_long end (row_at (with_value sections key t) other) ≡ is_long end (row_at sections other)
size-at sections key other end s t is size (inl same) =
    subst (λ (k : Key). is_long end (row_at (with_value sections key t) k) ≡ is_long end (row_at sections k)) (sym same)
    (ap (is_long end) (at_same sections key t) ∙ ap (leb end) size ∙ ap (is_long end) (sym is))
size-at sections key other end s t is size (inr apart) = ap (is_long end) (at_other sections key t other (λ same. apart (grind (arith, same))))

pub sizes-kept : (sections : Table SectionRow) (key : Key) (s t : SectionRow) → row_at sections key ≡ Some s → length t.bytes ≡ length s.bytes → KeepsSizes sections (with_value sections key t)
sizes-kept sections key s t is size other end = size-at sections key other end s t is size (key_cases other key)

module _ {P : Type 0} where
  pub still-mapped : (old new : Table SectionRow) (views : List (View P)) → KeepsSizes old new → AreMapped old views → AreMapped new views
  still-mapped old new views keeps mapped = every-more (is_mapped old) (is_mapped new) (λ view is. keeps view.section (view.offset + view.size) ∙ is) views mapped

  pub mapped-push : (sections : Table SectionRow) (views : List (View P)) (view : View P) → is_mapped sections view ≡ true → AreMapped sections views → AreMapped sections (views ++ view ∷ [])
  mapped-push sections views view is mapped = every-push (is_mapped sections) views view mapped is
