-- A section less, which no row names: what else stood stands under its name, the new rows are the step of the rows that the
-- tables stood for, and the tables stay lawful.
use Rattle.std.proofs.Common.{◌≡◌, ℕ, ◌+◌, List, [], ◌∷◌, true, false, Bool, cond, not, length, map, Option, Some, None, option_map, inl, inr, refl, ap, sym, subst, ◌∙◌, arith}
use Rattle.std.specs.Prelude.{is_some, leb, ◌&&◌, if◌then◌else◌}
use Rattle.std.proofs.lemmas.Bool.{or_parts}
use Rattle.lpc_base.specs.Rows.{each, every, first, has, passes, without}
use Rattle.lpc_base.proofs.RowMaps.{without-map}
use Rattle.lpc_base.proofs.RowWords.{count-bound, every-append, every-off}
use Rattle.lpc_handles.specs.declared.table.Row.{Row}
use Rattle.lpc_homes.specs.Parts.{has_name_of, has_view_of, is_object, names_it}
use Rattle.lpc_homes.specs.declared.object.Object.{Object}
use Rattle.lpc_homes.specs.declared.object.Object.TheVariants as object
use Rattle.lpc_homes.specs.declared.parts.Part.{Part}
use Rattle.lpc_model.specs.Basics.{Frees, basic}
use Rattle.lpc_model.specs.Found.{is_content, is_section, section_name}
use Rattle.lpc_model.specs.World as model
use Rattle.lpc_model.specs.World.{World}
use Rattle.lpc_names.specs.Walk.{LinkTo, Node, Stands}
use Rattle.lpc_names.specs.declared.names.Found.TheVariants.{Directory, Item}
use Rattle.lpc_ports.specs.declared.Port.{Port}
use Rattle.lpc_sections.specs.Sections.{SectionRow}
use Rattle.lpc_slots.specs.Table.{Table, at, at_key, listed, removed}
use Rattle.lpc_slots.specs.declared.Key.{Key}
use Rattle.lpc_slots.proofs.Frames.{removed_beside}
use Rattle.lpc_slots.proofs.Keys.{key_cases, key_itself}
use Rattle.lpc_slots.proofs.Same.{at_first}
use Rattle.lpc_views.specs.Parts.{is_mapped}
use Rattle.lpc_views.specs.Views.{shows}
use Rattle.lpc_views.specs.declared.view.View.{View}
use Rattle.lpc_waits.specs.Table as waits
use Rattle.lpc_waits.specs.declared.Accepted.{Accepted}
use Rattle.lpc_waits.specs.declared.Offer.{Offer}
use Rattle.lpc_waits.specs.declared.WaitKind.{WaitKind}
use Rattle.lpc_waits.specs.declared.WaitKind.TheVariants as wait
use Rattle.lpc_waits.specs.Table.{WaitingThread}
use Rattle.lpc_rows.specs.Held.{has_handles, has_holders}
use Rattle.lpc_rows.specs.Kept.{rows_by}
use Rattle.lpc_rows.specs.Lawful.{AreBornIn, AreLawful, IsPromised, has_mapped_views}
use Rattle.lpc_rows.specs.Names.{KeepsOthers, name_of, names_of, stands}
use Rattle.lpc_rows.specs.Shown.{AllPass, AreNamed, Births, Tables, all_pass, binding_refs, birth_of, births_of, message_refs, node_refs, object_stands, part_refs, port_refs, ports_in, shown_content, shown_section, space_refs, view_refs, wait_refs}
use Rattle.lpc_rows.proofs.Changes as changes
use Rattle.lpc_rows.proofs.Counted as counted
use Rattle.lpc_rows.proofs.Drawn as drawn
use Rattle.lpc_rows.proofs.Follows as follows
use Rattle.lpc_rows.proofs.Frees.{both_pass}
use Rattle.lpc_rows.proofs.Readings.{row_listed}
use Rattle.lpc_rows.proofs.Naming.{apart-without, name-without, stands-without}
use Rattle.lpc_rows.proofs.Sections.{lawful-sections, renamed, still_pass}

-- an object is another than the section
abbrev pub is_other : Key → Object → Bool
is_other key o = not (is_object (object.Section key) o)

-- no handle names the section, no view shows it, and no connect that isn't accepted offers it
pub record IsUnused (it : Tables) (key : Key) : Type 0 where
  pub handles : has (has_name_of (object.Section key)) it.parts ≡ false
  pub views : has (has_view_of key) it.parts ≡ false
  pub offers : has (waits.is_offering key) it.waits.rows ≡ false

module _ (key : Key) where
  handles_off : (rows : List (ℕ × Row Object)) → has (names_it (object.Section key)) rows ≡ false → every (is_other key) (map (λ row. row.1.object) rows) ≡ true
  handles_off [] none = refl
  handles_off (row ∷ rows) none = grind (arith, handles_off rows)

  owner_other : (o : Option Key) → every (is_other key) (ports_in o) ≡ true
  owner_other None = refl
  owner_other (Some k) = refl

  views_off : (vs : List (View Key)) → has (shows key) vs ≡ false → every (is_other key) (each view_refs vs) ≡ true
  views_off [] none = refl
  views_off (v ∷ vs) none = every-append (is_other key) (view_refs v) (each view_refs vs) (own v (grind arith)) (views_off vs (grind arith))
    where
      own : (v : View Key) → shows key v ≡ false → every (is_other key) (view_refs v) ≡ true
      own v off = let owner = owner_other v.owner in grind (arith, owner)

  wait_off : (row : WaitingThread) → waits.is_offering key row ≡ false → all_pass wait_refs (is_other key) row ≡ true
  wait_off row off = by row.wait.kind row.offer row.accepted off
    where
      by : (kind : WaitKind) (o : Option Offer) (a : Option Accepted) → let x : WaitingThread = record row { wait = record row.wait { kind = kind }; offer = o; accepted = a } in waits.is_offering key x ≡ false → all_pass wait_refs (is_other key) x ≡ true
      by wait.Request o a off = refl
      by wait.Receive o a off = refl
      by wait.Listen o a off = refl
      by wait.Connect None None off = refl
      by wait.Connect (Some o) None off = grind arith
      by wait.Connect o (Some a) off = refl
      by (wait.Event r) o a off = refl

  -- rows that name ports alone
  port_other : (row : Key × Port) → all_pass port_refs (is_other key) row ≡ true
  port_other row = every-append (is_other key) (ports_in row.1.pair) (ports_in row.1.connection) (owner_other row.1.pair) (owner_other row.1.connection)

  node_other : (node : Node Key) → every (is_other key) (node_refs node) ≡ true
  node_other (LinkTo target) = refl
  node_other (Stands Directory) = refl
  node_other (Stands (Item k)) = refl

  all_of : {X : Type 0} (p : X → Bool) → ((x : X) → p x ≡ true) → (xs : List X) → every p xs ≡ true
  all_of p each_one [] = refl
  all_of p each_one (x ∷ xs) = rw (each_one x, all_of p each_one xs) refl

  pub others_pass : (it : Tables) → IsUnused it key → AllPass (is_other key) it
  others_pass it none = record {
    in_handles = every-off (has_name_of (object.Section key)) (all_pass part_refs (is_other key)) (λ part off. handles_off part.handles.rows off) it.parts none.handles;
    in_ports = all_of (all_pass port_refs (is_other key)) port_other it.ports.ports;
    in_messages = all_of (all_pass message_refs (is_other key)) (λ row. refl) it.ports.messages;
    in_waits = every-off (waits.is_offering key) (all_pass wait_refs (is_other key)) wait_off it.waits.rows none.offers;
    in_names = all_of (all_pass binding_refs (is_other key)) (λ row. node_other row.1) it.space.bindings;
    in_views = every-off (has_view_of key) (all_pass space_refs (is_other key)) (λ part off. views_off part.views.views off) it.parts none.views;
  }

module _ (it : Tables) (is : AreNamed (births_of it) it) (key : Key) (new : Table SectionRow) (less : listed new ≡ without (at_key key) (listed it.sections)) (unused : IsUnused it key) where
  abbrev n : Births
  n = births_of it

  abbrev after : Tables
  after = record it { sections = new }

  abbrev m : Births
  m = births_of after

  -- what stands and isn't the section
  abbrev ok : Object → Bool
  ok o = object_stands n o && is_other key o

  names_less : m.sections ≡ without (at_key key) n.sections
  names_less =
      ap (names_of (λ (s : SectionRow). s.birth)) less
      ∙ without-map (λ (r : Key × SectionRow). (r.0, r.1.birth)) (λ _. true) (at_key key) (at_key key) (λ r _. refl) (listed it.sections) (changes.all_true it is (listed it.sections))

  stands_less : (o : Object) → ok o ≡ true → object_stands m o ≡ true
  stands_less (object.Port k) there = grind arith
  stands_less (object.Process birth) there = refl
  stands_less (object.Thread birth) there = refl
  stands_less (object.Token k) there = grind arith
  stands_less (object.Section k) there = rw names_less (stands-without n.sections key k (grind arith) (grind arith))

  name_less : (o : Object) → ok o ≡ true → birth_of m o ≡ birth_of n o
  name_less (object.Port k) there = refl
  name_less (object.Process birth) there = refl
  name_less (object.Thread birth) there = refl
  name_less (object.Token k) there = refl
  name_less (object.Section k) there = rw names_less (name-without n.sections key k (grind arith))

  pub keeps : KeepsOthers key n.sections m.sections
  keeps = record {
    name = λ k other there. name_less (object.Section k) (rw (there, other) refl);
    there = λ k other there. stands_less (object.Section k) (rw (there, other) refl);
  }

  pass : AllPass ok it
  pass = both_pass it (object_stands n) (is_other key) is.refs (others_pass key it unused)

  pub freed_named : AreNamed m after
  freed_named = record {
    ports_apart = is.ports_apart;
    sections_apart = rw names_less (apart-without n.sections key is.sections_apart);
    tokens_apart = is.tokens_apart;
    refs = still_pass it ok (object_stands m) new pass stands_less;
  }

  pub frees : stands n.sections key ≡ true → rows_by after ≡ basic (rows_by it) (Frees (section_name (name_of n.sections key)))
  frees there =
      renamed it ok pass n m name_less new
      ∙ rw (
        less,
        without-map shown_section (follows.own_section it is) (at_key key) (is_section (name_of n.sections key)) (follows.section_same it is key there) (listed it.sections) (follows.own_sections it is),
        without-map shown_content (follows.own_section it is) (at_key key) (is_content (name_of n.sections key)) (follows.content_same it is key there) (listed it.sections) (follows.own_sections it is),
      ) refl

  -- each view shows another section, which keeps its bytes
  view_mapped : new ≡ removed it.sections key → (view : View Key) → shows key view ≡ false → is_mapped it.sections view ≡ true → is_mapped new view ≡ true
  view_mapped is_less view off there = elim (key_cases view.section key) [
    | inl same ↦ let own : shows key view ≡ true = key_itself view.section key same in absurd (cc)
    | inr differs ↦ rw is_less (ap (λ (o : Option SectionRow). passes o (λ r. leb (view.offset + view.size) (length r.bytes))) (removed_beside it.sections key view.section differs) ∙ there)
  ]

  views_mapped : new ≡ removed it.sections key → (vs : List (View Key)) → has (shows key) vs ≡ false → every (is_mapped it.sections) vs ≡ true → every (is_mapped new) vs ≡ true
  views_mapped is_less [] off there = refl
  views_mapped is_less (v ∷ vs) off there = grind (arith, view_mapped is_less v, views_mapped is_less vs)

  parts_mapped : new ≡ removed it.sections key → (parts : List Part) → has (has_view_of key) parts ≡ false → every (has_mapped_views it.sections) parts ≡ true → every (has_mapped_views new) parts ≡ true
  parts_mapped is_less [] off there = refl
  parts_mapped is_less (part ∷ parts) off there = grind (arith, views_mapped is_less part.views.views, parts_mapped is_less parts)

  pub freed_lawful : (calls made : ℕ) → AreLawful it calls made → stands n.sections key ≡ true → new ≡ removed it.sections key → AreLawful after calls made
  freed_lawful calls made all there is_less = record {
    named = freed_named;
    lawful = rw (frees there) (lawful-sections (rows_by it) (basic (rows_by it) (Frees (section_name (name_of n.sections key)))).sections (basic (rows_by it) (Frees (section_name (name_of n.sections key)))).contents calls made made it.waits.spare it.ports.message_room all.lawful (let fewer = count-bound (λ (s : model.SectionRow). not (is_section (name_of n.sections key) s)) (rows_by it).sections in omega (arith, fewer)) (omega arith) all.lawful.budget);
    counted = record { ports_made = all.counted.ports_made; messages_made = all.counted.messages_made; waits_made = all.counted.waits_made; tokens_made = all.counted.tokens_made };
    registered = all.registered;
    heard = all.heard;
    marked = all.marked;
    headed = all.headed;
    drawn = rw (frees there) (drawn.drawn-freed (rows_by it) (is_section (name_of n.sections key)) (basic (rows_by it) (Frees (section_name (name_of n.sections key)))).contents all.drawn);
    born = subst AreBornIn (sym (frees there)) all.born;
    promised = subst (λ (v : World). IsPromised v.waits v.handles it.parts) (sym (frees there)) all.promised;
    mapped = record {
      sections_made = let count = ap (λ (t : Table SectionRow). t.made) is_less in omega (arith, all.mapped.sections_made, count);
      views_mapped = parts_mapped is_less it.parts unused.views all.mapped.views_mapped;
    };
  }

-- What the freeing of a section knows
module _ (it : Tables) (is : AreNamed (births_of it) it) (key : Key) (there : stands (births_of it).sections key ≡ true) where
  -- in the tables no handle names it, no view shows it, and no connect offers it
  pub unused : has_handles (rows_by it) (section_name (name_of (births_of it).sections key)) ≡ false → has_holders (rows_by it) (section_name (name_of (births_of it).sections key)) ≡ false → IsUnused it key
  unused handles holders =
      let none = or_parts _ _ (sym (counted.section_held it is key there) ∙ holders) in
      record {
        handles = sym (counted.handles_named it is (object.Section key) there) ∙ handles;
        views = none.0;
        offers = none.1;
      }

  -- and the table has its row
  pub removed_there : (found : Option SectionRow) (new : Table SectionRow) → found ≡ at it.sections key → new ≡ (if is_some found then removed it.sections key else it.sections) → new ≡ removed it.sections key
  removed_there found new at_key_is is_new = is_new ∙ ap (λ b. cond b (removed it.sections key) it.sections) some
    where
      mapped : (o : Option (Key × SectionRow)) → is_some (option_map (λ (r : Key × SectionRow). r.1) o) ≡ is_some o
      mapped None = refl
      mapped (Some r) = refl

      some : is_some found ≡ true
      some = ap is_some (at_key_is ∙ at_first it.sections key) ∙ mapped (first (at_key key) (listed it.sections)) ∙ row_listed (λ (s : SectionRow). s.birth) (listed it.sections) key there
