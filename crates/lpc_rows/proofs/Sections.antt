-- A section more: what stood stands under its name, the new rows are the step of the rows that the tables stood for, and
-- the tables stay lawful.
use Rattle.std.proofs.Common.{◌≡◌, ℕ, ◌+◌, ◌*◌, ◌<◌, ◌≤◌, List, [], ◌∷◌, ◌++◌, true, false, Bool, length, map, Option, None, inl, inr, refl, ap, sym, subst, ◌∙◌, arith}
use Rattle.std.specs.Prelude.{leb, replicate}
use Rattle.std.proofs.lemmas.Bool.Decides.{nat_tests}
use Rattle.std.proofs.lemmas.List.{length_push}
use Rattle.lpc_base.specs.Rows.{every, first, has, passes}
use Rattle.lpc_base.proofs.RowMaps.{push-map}
use Rattle.lpc_base.proofs.RowWords.{every-more}
use Rattle.lpc_homes.specs.declared.object.Object.{Object}
use Rattle.lpc_homes.specs.declared.object.Object.TheVariants as object
use Rattle.lpc_homes.specs.declared.parts.Part.{Part}
use Rattle.lpc_model.specs.Basics.{AddsSection, basic, zeros}
use Rattle.lpc_model.specs.Found.{is_section}
use Rattle.lpc_model.specs.World as model
use Rattle.lpc_model.specs.World.{Contents, World}
use Rattle.lpc_sections.specs.Sections.{SectionRow}
use Rattle.lpc_slots.specs.Table.{Table, at, at_key, inserted, listed}
use Rattle.lpc_slots.specs.declared.Key.{Key}
use Rattle.lpc_slots.proofs.Frames.{inserted_beside}
use Rattle.lpc_slots.proofs.Keys.{key_cases}
use Rattle.lpc_slots.proofs.Same.{vacant}
use Rattle.lpc_views.specs.Parts.{has_part, is_mapped}
use Rattle.lpc_rows.specs.Kept.{owed_rows, rows_by}
use Rattle.lpc_rows.specs.Lawful.{AreBornIn, AreLawful, IsLawful, IsPromised, draws_at_most, drew, has_mapped_views}
use Rattle.lpc_rows.specs.Names.{KeepsNames, Names, name_of, names_of, stands}
use Rattle.lpc_rows.specs.Shown.{AllPass, AreNamed, Births, Tables, binding_refs, birth_of, births_of, message_refs, object_stands, part_refs, port_refs, shown_binding, shown_by, shown_content, shown_message, shown_part, shown_port, shown_section, shown_space, shown_wait, space_refs, wait_refs}
use Rattle.lpc_rows.proofs.Drawn as drawn
use Rattle.lpc_rows.proofs.Makes.{absent, bindings_shape, messages_shape, parts_shape, ports_shape, rows_more, shown_same, spaces_shape, waits_shape}
use Rattle.lpc_rows.proofs.Naming.{apart-push, is_other, name-new, name-push, stands-new, stands-push}

-- Rows whose objects keep their names
module _ (it : Tables) (ok : Object → Bool) (pass : AllPass ok it) (n m : Births) (same : (o : Object) → ok o ≡ true → birth_of m o ≡ birth_of n o) (sections : Table SectionRow) where
  pub renamed : shown_by m (record it { sections = sections })
      ≡ record (shown_by n it) { sections = map shown_section (listed sections); contents = model.Known (map shown_content (listed sections)) }
  renamed =
      rw (
        shown_same part_refs shown_part parts_shape ok (birth_of m) (birth_of n) same it.parts pass.in_handles,
        shown_same port_refs shown_port ports_shape ok (birth_of m) (birth_of n) same it.ports.ports pass.in_ports,
        shown_same message_refs shown_message messages_shape ok (birth_of m) (birth_of n) same it.ports.messages pass.in_messages,
        shown_same wait_refs shown_wait waits_shape ok (birth_of m) (birth_of n) same it.waits.rows pass.in_waits,
        shown_same binding_refs shown_binding bindings_shape ok (birth_of m) (birth_of n) same it.space.bindings pass.in_names,
        shown_same space_refs shown_space spaces_shape ok (birth_of m) (birth_of n) same it.parts pass.in_views,
      ) refl

pub still_pass : (it : Tables) (ok more : Object → Bool) (sections : Table SectionRow) → AllPass ok it → ((o : Object) → ok o ≡ true → more o ≡ true) → AllPass more (record it { sections = sections })
still_pass it ok more sections pass wider = record {
  in_handles = rows_more part_refs ok more wider it.parts pass.in_handles;
  in_ports = rows_more port_refs ok more wider it.ports.ports pass.in_ports;
  in_messages = rows_more message_refs ok more wider it.ports.messages pass.in_messages;
  in_waits = rows_more wait_refs ok more wider it.waits.rows pass.in_waits;
  in_names = rows_more binding_refs ok more wider it.space.bindings pass.in_names;
  in_views = rows_more space_refs ok more wider it.parts pass.in_views;
}

-- what the rows without sections keep
pub lawful-sections : (w : World) (ss : List model.SectionRow) (contents : Contents) (calls made more a b : ℕ) → IsLawful w calls made a b → length ss + made ≤ length w.sections + more → made ≤ more → more + owed_rows w ≤ 16 * calls
    → IsLawful (record w { sections = ss; contents = contents }) calls more a b
lawful-sections w ss contents calls made more a b h few le lt = record {
  few = h.few;
  budget = lt;
  rows = omega (arith, h.rows, few, le);
  draws = every-more (draws_at_most (made + 1)) (draws_at_most (more + 1)) (λ t there. grind (arith, nat_tests, le)) w.threads h.draws;
  housed = h.housed;
  tables_used = h.tables_used;
  tables_single = h.tables_single;
  tables_few = omega (arith, h.tables_few, le);
  single = h.single;
  threads = h.threads;
  quiet = h.quiet;
  own = h.own;
  told = h.told;
  waits_fit = h.waits_fit;
  messages_fit = h.messages_fit;
}

-- A section more
zeroed : (key : Key) (row : SectionRow) → row.bytes ≡ replicate (length row.bytes) 0 → shown_content (key, row) ≡ zeros (shown_section (key, row))
zeroed key row zero = ap (λ bytes. record { section = row.birth; bytes = bytes }) zero

-- what stood stands, with as many bytes
still_part : (s : Table SectionRow) (key : Key) (row : SectionRow) (q : Key) (end : ℕ) → at s key ≡ None → has_part s q end ≡ true → has_part (inserted s key row) q end ≡ true
still_part s key row q end none there = elim (key_cases q key) [
  | inl same ↦
      let off : has_part s q end ≡ false = ap (λ k. passes (at s k) (λ r. leb end (length r.bytes))) same ∙ ap (λ (o : Option SectionRow). passes o (λ r. leb end (length r.bytes))) none in
      absurd (cc)
  | inr differs ↦ ap (λ (o : Option SectionRow). passes o (λ r. leb end (length r.bytes))) (inserted_beside s key row q differs) ∙ there
]

module _ (it : Tables) (is : AreNamed (births_of it) it) (key : Key) (row : SectionRow) (new : Table SectionRow) (more : listed new ≡ listed it.sections ++ (key, row) ∷ []) (free : first (at_key key) (listed it.sections) ≡ None) where
  abbrev n : Births
  n = births_of it

  abbrev after : Tables
  after = record it { sections = new }

  abbrev m : Births
  m = births_of after

  abbrev longer : Names
  longer = n.sections ++ (key, row.birth) ∷ []

  pub names_push : m.sections ≡ longer
  names_push = ap (names_of (λ (s : SectionRow). s.birth)) more ∙ push-map (λ (r : Key × SectionRow). (r.0, r.1.birth)) (listed it.sections) (key, row)

  unnamed : stands n.sections key ≡ false
  unnamed = absent (λ (s : SectionRow). s.birth) key (listed it.sections) free

  stands_more : (o : Object) → object_stands n o ≡ true → object_stands m o ≡ true
  stands_more (object.Port k) there = there
  stands_more (object.Process birth) there = refl
  stands_more (object.Thread birth) there = refl
  stands_more (object.Token k) there = there
  stands_more (object.Section k) there = rw names_push (stands-push n.sections key row.birth k there)

  name_more : (o : Object) → object_stands n o ≡ true → birth_of m o ≡ birth_of n o
  name_more (object.Port k) there = refl
  name_more (object.Process birth) there = refl
  name_more (object.Thread birth) there = refl
  name_more (object.Token k) there = refl
  name_more (object.Section k) there = rw names_push (name-push n.sections key row.birth k there)

  pub keeps : KeepsNames n.sections m.sections
  keeps = record { name = λ k there. name_more (object.Section k) there; there = λ k there. stands_more (object.Section k) there }

  pub name_new : name_of m.sections key ≡ row.birth
  name_new = rw names_push (name-new n.sections key row.birth unnamed)

  pub stands_new : stands m.sections key ≡ true
  stands_new = rw names_push (stands-new n.sections key row.birth)

  other_births : (rows : List (Key × SectionRow)) → first (is_section row.birth) (map shown_section rows) ≡ None → every (is_other row.birth) (names_of (λ (s : SectionRow). s.birth) rows) ≡ true
  other_births [] none = refl
  other_births (r ∷ rows) none = grind (arith, other_births rows)

  pub added_named : first (is_section row.birth) (map shown_section (listed it.sections)) ≡ None → AreNamed m after
  added_named fresh = record {
    ports_apart = is.ports_apart;
    sections_apart = rw names_push (apart-push n.sections key row.birth is.sections_apart unnamed (other_births (listed it.sections) fresh));
    tokens_apart = is.tokens_apart;
    refs = still_pass it (object_stands n) (object_stands m) new is.refs stands_more;
  }

  pub adds : row.bytes ≡ replicate (length row.bytes) 0 → rows_by after ≡ basic (rows_by it) (AddsSection (shown_section (key, row)))
  adds zero =
      renamed it (object_stands n) is.refs n m name_more new
      ∙ rw (more, push-map shown_section (listed it.sections) (key, row), push-map shown_content (listed it.sections) (key, row), zeroed key row zero) refl

module _ (it : Tables) (calls made : ℕ) (is : AreLawful it calls made) (key : Key) (row : SectionRow) (new : Table SectionRow) (is_new : new ≡ inserted it.sections key row) (more : listed new ≡ listed it.sections ++ (key, row) ∷ []) (none : at it.sections key ≡ None)
    (zero : row.bytes ≡ replicate (length row.bytes) 0) where
  free : first (at_key key) (listed it.sections) ≡ None
  free = vacant it.sections key none

  abbrev left : World
  left = basic (rows_by it) (AddsSection (shown_section (key, row)))

  still_mapped : (part : Part) → has_mapped_views it.sections part ≡ true → has_mapped_views new part ≡ true
  still_mapped part all = every-more (is_mapped it.sections) (is_mapped new) (λ view there. rw is_new (still_part it.sections key row view.section (view.offset + view.size) none there)) part.views.views all

  pub added_lawful : first (is_section row.birth) (rows_by it).sections ≡ None → has (drew row.birth) (rows_by it).threads ≡ true → made + owed_rows (rows_by it) < 16 * calls → AreLawful (record it { sections = new }) calls (made + 1)
  added_lawful fresh was lt = record {
    named = added_named it is.named key row new more free fresh;
    lawful = rw (adds it is.named key row new more free zero) (lawful-sections (rows_by it) left.sections left.contents calls made (made + 1) it.waits.spare it.ports.message_room is.lawful (let long = length_push (rows_by it).sections (shown_section (key, row)) in omega (arith, long)) (omega arith) (omega (arith, lt)));
    counted = record { ports_made = omega (arith, is.counted.ports_made); messages_made = omega (arith, is.counted.messages_made); waits_made = omega (arith, is.counted.waits_made); tokens_made = omega (arith, is.counted.tokens_made) };
    registered = is.registered;
    heard = is.heard;
    marked = is.marked;
    headed = is.headed;
    drawn = rw (adds it is.named key row new more free zero) (drawn.drawn-section (rows_by it) (shown_section (key, row)) left.contents was is.drawn);
    born = subst AreBornIn (sym (adds it is.named key row new more free zero)) is.born;
    promised = subst (λ (v : World). IsPromised v.waits v.handles it.parts) (sym (adds it is.named key row new more free zero)) is.promised;
    mapped = record {
      sections_made = let count = ap (λ (t : Table SectionRow). t.made) is_new in omega (arith, is.mapped.sections_made, count);
      views_mapped = every-more (has_mapped_views it.sections) (has_mapped_views new) still_mapped it.parts is.mapped.views_mapped;
    };
  }

-- More room for sections
pub roomed_lawful : (it : Tables) (calls made spare : ℕ) → AreLawful it calls made → AreLawful (record it { sections = record it.sections { spare = spare } }) calls made
roomed_lawful it calls made spare is = record {
  named = record { ports_apart = is.named.ports_apart; sections_apart = is.named.sections_apart; tokens_apart = is.named.tokens_apart; refs = record { in_handles = is.named.refs.in_handles; in_ports = is.named.refs.in_ports; in_messages = is.named.refs.in_messages; in_waits = is.named.refs.in_waits; in_names = is.named.refs.in_names; in_views = is.named.refs.in_views } };
  lawful = is.lawful;
  counted = is.counted;
  registered = is.registered;
  heard = is.heard;
  marked = is.marked;
  headed = is.headed;
  drawn = is.drawn;
  born = is.born;
  promised = is.promised;
  mapped = record { sections_made = is.mapped.sections_made; views_mapped = is.mapped.views_mapped };
}
