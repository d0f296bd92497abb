-- Bytes that are lent at the place where a view holds a range: the world afterwards is the definitions' one.
use Rattle.std.proofs.Common.{◌≡◌, ℕ, ◌+◌, Bool, true, List, Option, Some, None, option_map, refl, subst, arith}
use Rattle.lpc_homes.specs.Parts.{views_at}
use Rattle.lpc_model.specs.Found.{view_holding}
use Rattle.lpc_sections.specs.Sections.{SectionRow}
use Rattle.lpc_slots.specs.Table.{Table}
use Rattle.lpc_slots.specs.declared.Key.{Key}
use Rattle.lpc_views.specs.Parts.{HoldsPart, part_at, seen, with_bytes, written}
use Rattle.lpc_views.specs.Views.{place_of, view_of}
use Rattle.lpc_views.specs.declared.view.Place.{Place}
use Rattle.lpc_views.specs.declared.view.View.{View}
use Rattle.lpc_views.proofs.Mapped.{place-part}
use Rattle.lpc_rows.specs.Kept.{kept_by, rows_by}
use Rattle.lpc_rows.specs.Lawful.{AreLawful}
use Rattle.lpc_rows.specs.Shown.{Tables}
use Rattle.lpc_rows.proofs.ViewBytes as shown
use Rattle.lpc_rows.proofs.WrittenViews as bytes
use Rattle.lpc_world.specs.Lent.{may_be_written, with_memory}

module _ (it : Tables) (calls made : ℕ) (is : AreLawful it calls made) (pid address len : ℕ) (place : Place) (found : Some place ≡ option_map (place_of address) (view_of (views_at it.parts pid) address len)) where
  abbrev own : Option (View Key)
  own = view_of (views_at it.parts pid) address len

  pub inside : HoldsPart it.sections place.section (place.at + len)
  inside = place-part it.sections (views_at it.parts pid) address len place (shown.mapped_at it calls made is pid) found

  -- the bytes there are those that the view shows
  pub seen_there : option_map (seen it.sections address len) own ≡ Some (part_at it.sections place.section place.at len)
  seen_there = by own found
    where
      by : (o : Option (View Key)) → Some place ≡ option_map (place_of address) o → option_map (seen it.sections address len) o ≡ Some (part_at it.sections place.section place.at len)
      by None e = absurd (cc)
      by (Some view) e =
          let same : place_of address view ≡ place = grind (arith, e) in
          subst (λ (p : Place). Some (seen it.sections address len view) ≡ Some (part_at it.sections p.section p.at len)) same refl

  written_there : (others : List ℕ) → written it.sections address own others ≡ with_bytes it.sections place.section place.at others
  written_there others = by own found
    where
      by : (o : Option (View Key)) → Some place ≡ option_map (place_of address) o → written it.sections address o others ≡ with_bytes it.sections place.section place.at others
      by None e = absurd (cc)
      by (Some view) e =
          let same : place_of address view ≡ place = grind (arith, e) in
          subst (λ (p : Place). written it.sections address (Some view) others ≡ with_bytes it.sections p.section p.at others) same refl

  module _ (may : may_be_written (view_holding (rows_by it) pid address len) ≡ true) (others : List ℕ) where
    pub still_lawful : AreLawful (record it { sections = with_bytes it.sections place.section place.at others }) calls made
    still_lawful =
        let done = bytes.is_written it calls made is pid address len others (written it.sections address own others) 0 may (bytes.sizes_kept it calls made is pid address len others) refl in
        subst (λ (t : Table SectionRow). AreLawful (record it { sections = t }) calls made) (written_there others) done.lawful

    pub kept : (places : ℕ) (loose : Bool) → kept_by (record it { sections = with_bytes it.sections place.section place.at others }) places calls made loose ≡ with_memory (kept_by it places calls made loose) address (view_holding (rows_by it) pid address len) others
    kept places loose =
        let done = bytes.is_written it calls made is pid address len others (written it.sections address own others) places may (bytes.sizes_kept it calls made is pid address len others) refl in
        subst (λ (t : Table SectionRow). kept_by (record it { sections = t }) places calls made loose ≡ with_memory (kept_by it places calls made loose) address (view_holding (rows_by it) pid address len) others) (written_there others) (bytes.whole it calls made is pid address len others (written it.sections address own others) places loose done)
