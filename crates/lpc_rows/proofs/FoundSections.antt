-- A section that is found under its key, as the definitions have it.
use Rattle.std.proofs.Common.{◌≡◌, true, Option, Some, None, option_map, is_some, refl, ap, sym, ◌∙◌}
use Rattle.std.specs.Prelude.{IsSome}
use Rattle.lpc_base.specs.Rows.{first}
use Rattle.lpc_base.proofs.Births.{birth-same}
use Rattle.lpc_base.proofs.RowWords.{first-passes}
use Rattle.lpc_model.specs.Found.{is_section, section_row}
use Rattle.lpc_sections.specs.Sections.{SectionRow}
use Rattle.lpc_slots.specs.Table.{at, at_key, listed}
use Rattle.lpc_slots.specs.declared.Key.{Key}
use Rattle.lpc_slots.proofs.Same.{at_first}
use Rattle.lpc_rows.specs.Kept.{rows_by}
use Rattle.lpc_rows.specs.Names.{name_of, stands}
use Rattle.lpc_rows.specs.Shown.{AreNamed, Tables, births_of, shown_section}
use Rattle.lpc_rows.proofs.Follows as follows
use Rattle.lpc_rows.proofs.Readings as readings

-- a section that stands is present
pub present : (it : Tables) (section : Key) → stands (births_of it).sections section ≡ true → IsSome (at it.sections section)
present it section stand = by (first (at_key section) (listed it.sections)) (at_first it.sections section) (readings.row_listed (λ (s : SectionRow). s.birth) (listed it.sections) section stand)
  where
    by : (o : Option (Key × SectionRow)) → at it.sections section ≡ option_map (λ (row : Key × SectionRow). row.1) o → is_some o ≡ true → IsSome (at it.sections section)
    by None is some = absurd (cc)
    by (Some row) is some = ap is_some is

-- and one that is present stands
pub stood : (it : Tables) (key : Key) (row : SectionRow) → at it.sections key ≡ Some row → stands (births_of it).sections key ≡ true
stood it key row there = by (first (at_key key) (listed it.sections)) refl
  where
    by : (o : Option (Key × SectionRow)) → first (at_key key) (listed it.sections) ≡ o → stands (births_of it).sections key ≡ true
    by None none = let no : at it.sections key ≡ None = at_first it.sections key ∙ ap (option_map (λ (r : Key × SectionRow). r.1)) none in absurd (cc)
    by (Some r) some = readings.listed_stands (λ (s : SectionRow). s.birth) (listed it.sections) key r some

-- its row, which is found under its name
module _ (it : Tables) (is : AreNamed (births_of it) it) (key : Key) (s : SectionRow) (there : at it.sections key ≡ Some s) where
  pub found : section_row (rows_by it) (name_of (births_of it).sections key) ≡ Some (shown_section (key, s))
  found =
      let held = readings.holds (λ (r : Key × SectionRow). r.1) (first (at_key key) (listed it.sections)) s (sym (at_first it.sections key) ∙ there) in
      follows.first_section it is key (stood it key s there) ∙ ap (option_map shown_section) held.found ∙ ap (λ (r : SectionRow). Some (shown_section (key, r))) held.is

  pub named : s.birth ≡ name_of (births_of it).sections key
  named = birth-same s.birth (name_of (births_of it).sections key) (first-passes (is_section (name_of (births_of it).sections key)) (rows_by it).sections (shown_section (key, s)) found)
