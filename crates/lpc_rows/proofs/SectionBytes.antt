-- Bytes of a section that are written: the new rows are the step of the rows that the tables stood for, and the tables stay
-- lawful.
use Rattle.std.proofs.Common.{◌≡◌, ℕ, ◌+◌, List, ◌++◌, true, drop, take, length, map, Some, refl, ap, sym, subst, ◌∙◌, arith}
use Rattle.std.proofs.lemmas.List.{append_assoc, length-append, length-drop, length-take}
use Rattle.lpc_base.specs.Rows.{change}
use Rattle.lpc_base.proofs.RowMaps.{change-map, unseen-change}
use Rattle.lpc_base.proofs.RowWords.{every-more}
use Rattle.lpc_model.specs.Basics as basics
use Rattle.lpc_model.specs.Basics.{Writes, basic}
use Rattle.lpc_model.specs.Found.{is_content}
use Rattle.lpc_model.specs.World.{World}
use Rattle.lpc_sections.specs.Sections.{SectionRow, overwritten, with_part}
use Rattle.lpc_slots.specs.Table.{Table, at, at_key, listed, with_value}
use Rattle.lpc_slots.specs.declared.Key.{Key}
use Rattle.lpc_slots.proofs.Same.{listed_put}
use Rattle.lpc_views.specs.Parts.{KeepsSizes, is_mapped}
use Rattle.lpc_rows.specs.Kept.{rows_by}
use Rattle.lpc_rows.specs.Lawful.{AreBornIn, AreLawful, IsPromised, has_mapped_views}
use Rattle.lpc_rows.specs.Names.{name_of, names_of, stands}
use Rattle.lpc_rows.specs.Shown.{AreNamed, Births, Tables, births_of, shown_content, shown_section}
use Rattle.lpc_rows.proofs.Drawn as drawn
use Rattle.lpc_rows.proofs.Follows as follows
use Rattle.lpc_rows.proofs.Sections.{lawful-sections}

-- bytes that are written are those of the definitions, and as many as before
same-overwritten : (old new : List ℕ) (place : ℕ) → overwritten old place new ≡ basics.overwritten place new old
same-overwritten old new place = ap (take (length old)) (append_assoc (take place old) new (drop (place + length new) old))

pub length-overwritten : (old new : List ℕ) (place : ℕ) → length (overwritten old place new) ≡ length old
length-overwritten old new place =
    let parts = take place old ++ (new ++ drop (place + length new) old) in
    let is : length (overwritten old place new) ≡ length (take (length old) parts) = ap length (same-overwritten old new place) in
    let taken = length-take (length old) parts in
    let one = length-append (take place old) (new ++ drop (place + length new) old) in
    let two = length-append new (drop (place + length new) old) in
    let three = length-take place old in
    let four = length-drop (place + length new) old in
    omega (arith, is, taken, one, two, three, four)

module _ (it : Tables) (is : AreNamed (births_of it) it) (key : Key) (old : SectionRow) (place : ℕ) (bytes : List ℕ) (there : at it.sections key ≡ Some old) (stand : stands (births_of it).sections key ≡ true)
    (new : Table SectionRow) (is_new : new ≡ with_value it.sections key (with_part old place bytes)) where
  abbrev n : Births
  n = births_of it

  abbrev after : Tables
  after = record it { sections = new }

  -- a section's row with the bytes
  abbrev over : Key × SectionRow → Key × SectionRow
  over row = (row.0, with_part row.1 place bytes)

  listed_new : listed new ≡ change (at_key key) over (listed it.sections)
  listed_new = ap listed is_new ∙ listed_put key (λ s. with_part s place bytes) it.sections old there

  pub names_kept : births_of after ≡ n
  names_kept =
      ap (λ names. record { ports = n.ports; sections = names; tokens = n.tokens })
      (ap (names_of (λ (s : SectionRow). s.birth)) listed_new ∙ unseen-change (λ (r : Key × SectionRow). (r.0, r.1.birth)) (at_key key) over (λ row. refl) (listed it.sections))

  rows_kept : map shown_section (listed new) ≡ map shown_section (listed it.sections)
  rows_kept =
      ap (map shown_section) listed_new
      ∙ unseen-change shown_section (at_key key) over (λ row. ap (λ size. record { birth = row.1.birth; size = size; writable = row.1.writable }) (length-overwritten row.1.bytes bytes place)) (listed it.sections)

  contents_are : map shown_content (listed new) ≡ change (is_content (name_of n.sections key)) (basics.written place bytes) (map shown_content (listed it.sections))
  contents_are =
      ap (map shown_content) listed_new
      ∙ change-map shown_content (follows.own_section it is) (at_key key) (is_content (name_of n.sections key)) (follows.content_same it is key stand) over (basics.written place bytes) (λ row _. ap (λ new. record { section = row.1.birth; bytes = new }) (same-overwritten row.1.bytes bytes place)) (listed it.sections) (follows.own_sections it is)

  pub writes : rows_by after ≡ basic (rows_by it) (Writes (name_of n.sections key) place bytes)
  writes = rw (names_kept, rows_kept, contents_are) refl

  pub written_lawful : (calls made : ℕ) → AreLawful it calls made → KeepsSizes it.sections new → new.made ≡ it.sections.made → AreLawful after calls made
  written_lawful calls made all sizes count = record {
    named = rw names_kept (record { ports_apart = is.ports_apart; sections_apart = is.sections_apart; tokens_apart = is.tokens_apart; refs = record { in_handles = is.refs.in_handles; in_ports = is.refs.in_ports; in_messages = is.refs.in_messages; in_waits = is.refs.in_waits; in_names = is.refs.in_names; in_views = is.refs.in_views } });
    lawful = rw writes (lawful-sections (rows_by it) (rows_by it).sections (basic (rows_by it) (Writes (name_of n.sections key) place bytes)).contents calls made made it.waits.spare it.ports.message_room all.lawful (omega arith) (omega arith) all.lawful.budget);
    counted = record { ports_made = all.counted.ports_made; messages_made = all.counted.messages_made; waits_made = all.counted.waits_made; tokens_made = all.counted.tokens_made };
    registered = all.registered;
    heard = all.heard;
    marked = all.marked;
    headed = all.headed;
    drawn = rw writes (drawn.same-drawn (rows_by it) _ refl refl refl refl refl all.drawn);
    born = subst AreBornIn (sym writes) all.born;
    promised = subst (λ (v : World). IsPromised v.waits v.handles it.parts) (sym writes) all.promised;
    mapped = record {
      sections_made = omega (arith, all.mapped.sections_made, count);
      views_mapped = every-more (has_mapped_views it.sections) (has_mapped_views new) (λ part there. every-more (is_mapped it.sections) (is_mapped new) (λ view h. sizes view.section (view.offset + view.size) ∙ h) part.views.views there) it.parts all.mapped.views_mapped;
    };
  }
