-- Views that come and go: the new rows are the step of the rows that the tables stood for, and the tables stay lawful.
use Rattle.std.proofs.Common.{◌≡◌, ℕ, ◌+◌, List, [], ◌∷◌, ◌++◌, true, false, Bool, cond, length, map, not, Option, Some, None, option_map, refl, ap, sym, subst, ◌∙◌}
use Rattle.std.specs.Prelude.{IfNone, IfSome, leb, nat_le}
use Rattle.std.proofs.lemmas.List.{append-nil, append_assoc}
use Rattle.lpc_base.specs.declared.birth.Birth.{Birth}
use Rattle.lpc_base.specs.Rows.{change, count, each, every, first, passes, without}
use Rattle.lpc_base.proofs.RowMaps.{change-map, push-map, unseen-change, without-map}
use Rattle.lpc_base.proofs.RowWords.{every-append, every-back, every-change, every-front, every-push, every-true, every-without}
use Rattle.lpc_handles.specs.Handles.{Handles}
use Rattle.lpc_homes.specs.Parts.{dropped, emptied, goes_with, is_part, mapped, unmapped, view_roomed, views_at}
use Rattle.lpc_homes.specs.declared.object.Object.{Object}
use Rattle.lpc_homes.specs.declared.parts.Part.{Part}
use Rattle.lpc_model.specs.Basics.{DropsOwned, DropsViewsOf, Maps, Unmaps, basic, with_view, without_owned, without_view, without_views}
use Rattle.lpc_model.specs.Found as found
use Rattle.lpc_model.specs.Found.{is_space}
use Rattle.lpc_model.specs.Tests.{is_connect_of}
use Rattle.lpc_model.specs.World as model
use Rattle.lpc_model.specs.World.{World}
use Rattle.lpc_sections.specs.Sections.{SectionRow}
use Rattle.lpc_slots.specs.Table.{at, at_key, listed}
use Rattle.lpc_slots.specs.declared.Key.{Key}
use Rattle.lpc_slots.proofs.Same.{at_first}
use Rattle.lpc_views.specs.Parts.{is_mapped}
use Rattle.lpc_views.specs.Views.{lies_at, view_of}
use Rattle.lpc_views.specs.declared.view.View.{View}
use Rattle.lpc_rows.specs.Clauses.{unmapped_at, view_at}
use Rattle.lpc_rows.specs.Kept.{Roomy, owed_rows, room_by, rows_by}
use Rattle.lpc_rows.specs.Lawful.{AreBornIn, AreLawful, IsLawful, IsPromised, has_mapped_views, has_places}
use Rattle.lpc_rows.specs.Names.{name_of, some_stands, stands}
use Rattle.lpc_rows.specs.Shown.{Births, Tables, all_pass, birth_of, births_of, object_stands, part_refs, ports_in, shown_handle, shown_part, shown_space, shown_view, space_refs, view_refs}
use Rattle.lpc_rows.proofs.Drawn as drawn
use Rattle.lpc_rows.proofs.Readings.{found_view, listed_stands}
use Rattle.lpc_rows.proofs.Rooms.{roomy_same}
use Rattle.lpc_rows.proofs.ShownViews.{each_stands, owned_same}
use Rattle.lpc_rows.proofs.ViewRooms.{unmapped_room}

-- the refs of views
each-push : {A B : Type 0} (refs : A → List B) (xs : List A) (y : A) → each refs (xs ++ y ∷ []) ≡ each refs xs ++ refs y
each-push refs [] y = append-nil (refs y)
each-push refs (x ∷ xs) y = ap (λ r. refs x ++ r) (each-push refs xs y) ∙ sym (append_assoc (refs x) (each refs xs) (refs y))

refs-without : (ok : Object → Bool) (test : View Key → Bool) (vs : List (View Key)) → every ok (each view_refs vs) ≡ true → every ok (each view_refs (without test vs)) ≡ true
refs-without ok test [] all = refl
refs-without ok test (v ∷ vs) all =
    let own = every-front ok (view_refs v) (each view_refs vs) all in
    let rest = refs-without ok test vs (every-back ok (view_refs v) (each view_refs vs) all) in
    at (test v) own rest
  where
    at : (gone : Bool) → every ok (view_refs v) ≡ true → every ok (each view_refs (without test vs)) ≡ true → every ok (each view_refs (cond (not gone) (v ∷ without test vs) (without test vs))) ≡ true
    at true own rest = rest
    at false own rest = every-append ok (view_refs v) (each view_refs (without test vs)) own rest

-- what the rows without views keep
pub lawful-views : (w : World) (vs : List model.ViewTable) (calls made a b : ℕ) → IsLawful w calls made a b → IsLawful (record w { views = vs }) calls made a b
lawful-views w vs calls made a b h = record {
  few = h.few;
  budget = h.budget;
  rows = h.rows;
  draws = h.draws;
  housed = h.housed;
  tables_used = h.tables_used;
  tables_single = h.tables_single;
  tables_few = h.tables_few;
  single = h.single;
  threads = h.threads;
  quiet = h.quiet;
  own = h.own;
  told = h.told;
  waits_fit = h.waits_fit;
  messages_fit = h.messages_fit;
}

module _ (it : Tables) (calls made : ℕ) (is : AreLawful it calls made) (test : Part → Bool) (f : Part → Part) (number : (part : Part) → (f part).process ≡ part.process) (handles : (part : Part) → (f part).handles ≡ part.handles) where
  abbrev n : Births
  n = births_of it

  abbrev g : Object → Birth
  g = birth_of n

  abbrev ok : Object → Bool
  ok = object_stands n

  abbrev rows : World
  rows = rows_by it

  abbrev after : Tables
  after = record it { parts = change test f it.parts }

  same_handles : map (shown_part g) (change test f it.parts) ≡ map (shown_part g) it.parts
  same_handles =
      unseen-change (shown_part g) test f
      (λ part. (λ i. record { process = number part i; rows = map (shown_handle g) (handles part i).rows })) it.parts

  handle_refs : (part : Part) → all_pass part_refs ok part ≡ true → all_pass part_refs ok (f part) ≡ true
  handle_refs part all = ap (λ (h : Handles Object). every ok (map (λ row. row.1.object) h.rows)) (handles part) ∙ all

  places : (part : Part) → has_places rows.waits part ≡ true → has_places rows.waits (f part) ≡ true
  places part there = (λ i. nat_le (count (is_connect_of (number part i)) rows.waits) (handles part i).spare) ∙ there

  -- the views of some processes are changed
  pub reworked : (t : model.ViewTable → Bool) → ((part : Part) → t (shown_space g part) ≡ test part) → (k : model.ViewTable → model.ViewTable) → ((part : Part) → all_pass space_refs ok part ≡ true → shown_space g (f part) ≡ k (shown_space g part))
      → rows_by after ≡ record rows { views = change t k rows.views }
  reworked t same k shows =
      rw (
        same_handles,
        change-map (shown_space g) (all_pass space_refs ok) test t (λ part _. same part) f k shows it.parts is.named.refs.in_views,
      ) refl

  -- or stay
  pub unseen : ((part : Part) → shown_space g (f part) ≡ shown_space g part) → rows_by after ≡ rows
  unseen shows = rw (same_handles, unseen-change (shown_space g) test f shows it.parts) refl

  pub reworked_lawful : (vs : List model.ViewTable) → rows_by after ≡ record rows { views = vs }
      → ((part : Part) → all_pass space_refs ok part ≡ true → all_pass space_refs ok (f part) ≡ true)
      → ((part : Part) → has_mapped_views it.sections part ≡ true → has_mapped_views it.sections (f part) ≡ true)
      → AreLawful after calls made
  reworked_lawful vs shown refs mapped = record {
    named = record {
      ports_apart = is.named.ports_apart;
      sections_apart = is.named.sections_apart;
      tokens_apart = is.named.tokens_apart;
      refs = record {
        in_handles = every-change (all_pass part_refs ok) test f handle_refs it.parts is.named.refs.in_handles;
        in_ports = is.named.refs.in_ports;
        in_messages = is.named.refs.in_messages;
        in_waits = is.named.refs.in_waits;
        in_names = is.named.refs.in_names;
        in_views = every-change (all_pass space_refs ok) test f refs it.parts is.named.refs.in_views;
      };
    };
    lawful = rw shown (lawful-views rows vs calls made it.waits.spare it.ports.message_room is.lawful);
    counted = is.counted;
    registered = is.registered;
    heard = is.heard;
    marked = is.marked;
    headed = is.headed;
    drawn = rw shown (drawn.same-drawn rows _ refl refl refl refl refl is.drawn);
    born = subst AreBornIn (sym shown) is.born;
    promised = subst (λ (v : World). IsPromised v.waits v.handles (change test f it.parts)) (sym shown) (record {
      places = every-change (has_places rows.waits) test f places it.parts is.promised.places;
      loads = is.promised.loads;
      homes = is.promised.homes;
      taken = is.promised.taken;
    });
    mapped = record {
      sections_made = is.mapped.sections_made;
      views_mapped = every-change (has_mapped_views it.sections) test f mapped it.parts is.mapped.views_mapped;
    };
  }

module _ (it : Tables) (calls made : ℕ) (is : AreLawful it calls made) (pid : ℕ) where
  -- a view more
  pub maps : (view : View Key) → rows_by (record it { parts = change (is_part pid) (mapped view) it.parts }) ≡ basic (rows_by it) (Maps pid (shown_view (birth_of (births_of it)) view))
  maps view =
      let show = shown_view (birth_of (births_of it)) in
      reworked it calls made is (is_part pid) (mapped view) (λ part. refl) (λ part. refl) (is_space pid) (λ part. refl) (with_view (show view)) (λ part all. ap (λ vs. record { process = part.process; rows = vs }) (push-map show part.views.views view))

  -- its section stands
  section_stands : (view : View Key) → is_mapped it.sections view ≡ true → stands (births_of it).sections view.section ≡ true
  section_stands view there = by (first (at_key view.section) (listed it.sections)) (at_first it.sections view.section) refl
    where
      by : (o : Option (Key × SectionRow)) → at it.sections view.section ≡ option_map (λ (r : Key × SectionRow). r.1) (first (at_key view.section) (listed it.sections)) → first (at_key view.section) (listed it.sections) ≡ o → stands (births_of it).sections view.section ≡ true
      by None found none =
          let no : is_mapped it.sections view ≡ false = ap (λ (r : Option SectionRow). passes r (λ s. leb (view.offset + view.size) (length s.bytes))) (found ∙ ap (option_map (λ (r : Key × SectionRow). r.1)) none) in
          absurd (cc)
      by (Some row) found some = listed_stands (λ (s : SectionRow). s.birth) (listed it.sections) view.section row some

  owner_stands : (o : Option Key) → some_stands (births_of it).ports o ≡ true → every (object_stands (births_of it)) (ports_in o) ≡ true
  owner_stands None there = refl
  owner_stands (Some k) there = rw there refl

  pub mapped_lawful : (view : View Key) → is_mapped it.sections view ≡ true → some_stands (births_of it).ports view.owner ≡ true → AreLawful (record it { parts = change (is_part pid) (mapped view) it.parts }) calls made
  mapped_lawful view there owned =
      let stand = section_stands view there in
      let own : every (object_stands (births_of it)) (view_refs view) ≡ true = rw stand (owner_stands view.owner owned) in
      reworked_lawful it calls made is (is_part pid) (mapped view) (λ part. refl) (λ part. refl) _ (maps view)
      (λ part all. rw (each-push view_refs part.views.views view) (every-append (object_stands (births_of it)) (each view_refs part.views.views) (view_refs view) all own))
      (λ part all. every-push (is_mapped it.sections) part.views.views view all there)

  -- a view less
  pub unmaps : (base : ℕ) → rows_by (record it { parts = change (is_part pid) (unmapped base) it.parts }) ≡ basic (rows_by it) (Unmaps pid base)
  unmaps base =
      let show = shown_view (birth_of (births_of it)) in
      reworked it calls made is (is_part pid) (unmapped base) (λ part. refl) (λ part. refl) (is_space pid) (λ part. refl) (without_view base)
      (λ part all. ap (λ vs. record { process = part.process; rows = vs }) (without-map show (λ _. true) (lies_at base) (found.lies_at base) (λ v _. refl) part.views.views (every-true part.views.views)))

  pub unmapped_lawful : (base : ℕ) → AreLawful (record it { parts = change (is_part pid) (unmapped base) it.parts }) calls made
  unmapped_lawful base =
      reworked_lawful it calls made is (is_part pid) (unmapped base) (λ part. refl) (λ part. refl) _ (unmaps base)
      (λ part all. refs-without (object_stands (births_of it)) (lies_at base) part.views.views all)
      (λ part all. every-without (is_mapped it.sections) (lies_at base) part.views.views all)

  -- all views of a process go
  pub drops : rows_by (record it { parts = change (is_part pid) emptied it.parts }) ≡ basic (rows_by it) (DropsViewsOf pid)
  drops = reworked it calls made is (is_part pid) emptied (λ part. refl) (λ part. refl) (is_space pid) (λ part. refl) without_views (λ part all. refl)

  pub dropped_lawful : AreLawful (record it { parts = change (is_part pid) emptied it.parts }) calls made
  dropped_lawful = reworked_lawful it calls made is (is_part pid) emptied (λ part. refl) (λ part. refl) _ drops (λ part all. refl) (λ part all. refl)

  -- more room for views
  pub rooms : (spare : ℕ) → rows_by (record it { parts = change (is_part pid) (view_roomed spare) it.parts }) ≡ rows_by it
  rooms spare = unseen it calls made is (is_part pid) (view_roomed spare) (λ part. refl) (λ part. refl) (λ part. refl)

  pub roomed_lawful : (spare : ℕ) → AreLawful (record it { parts = change (is_part pid) (view_roomed spare) it.parts }) calls made
  roomed_lawful spare = reworked_lawful it calls made is (is_part pid) (view_roomed spare) (λ part. refl) (λ part. refl) (rows_by it).views (rooms spare) (λ part all. all) (λ part all. all)

-- The views that go with a port go, of all processes
module _ (it : Tables) (calls made : ℕ) (is : AreLawful it calls made) (port : Key) (there : stands (births_of it).ports port ≡ true) where
  abbrev without_port : Tables
  without_port = record it { parts = map (dropped port) it.parts }

  pub drops_owned : rows_by without_port ≡ basic (rows_by it) (DropsOwned (name_of (births_of it).ports port))
  drops_owned =
      reworked it calls made is (λ _. true) (dropped port) (λ part. refl) (λ part. refl) (λ _. true) (λ part. refl) (without_owned (name_of (births_of it).ports port))
      (λ part all. ap (λ vs. record { process = part.process; rows = vs })
      (without-map (shown_view (birth_of (births_of it))) (all_pass view_refs (object_stands (births_of it))) (goes_with port) (found.is_owned_by (name_of (births_of it).ports port)) (owned_same it is.named port there) part.views.views (each_stands (object_stands (births_of it)) part.views.views all)))

  pub owned_lawful : AreLawful without_port calls made
  owned_lawful =
      reworked_lawful it calls made is (λ _. true) (dropped port) (λ part. refl) (λ part. refl) _ drops_owned
      (λ part all. refs-without (object_stands (births_of it)) (goes_with port) part.views.views all)
      (λ part all. every-without (is_mapped it.sections) (goes_with port) part.views.views all)

-- The view that holds an address goes, where there is one
pub record IsUnmapped (it : Tables) (calls made pid address places : ℕ) (new : List Part) : Type 0 where
  pub lawful : AreLawful (record it { parts = new }) calls made
  pub rows : rows_by (record it { parts = new }) ≡ unmapped_at (rows_by it) pid (view_at (rows_by it) pid address)
  pub owed : owed_rows (rows_by (record it { parts = new })) ≡ owed_rows (rows_by it)
  pub room : let after : Tables = record it { parts = new } in Roomy (room_by (rows_by it) it places) (room_by (rows_by after) after places)

pub is_unmapped : (it : Tables) (calls made pid address places : ℕ) (is : AreLawful it calls made) (new : List Part) (r : Option (View Key)) → r ≡ view_of (views_at it.parts pid) address 1 → IfSome r (λ v. new ≡ change (is_part pid) (unmapped v.base) it.parts) → IfNone r (new ≡ it.parts)
    → IsUnmapped it calls made pid address places new
is_unmapped it calls made pid address places is new None found gone same =
    let none = found_view it is.named pid address 1 None found in
    record {
      lawful = rw same is;
      rows = ap (λ (ps : List Part). rows_by (record it { parts = ps })) same ∙ sym (ap (unmapped_at (rows_by it) pid) none);
      owed = ap (λ (ps : List Part). owed_rows (rows_by (record it { parts = ps }))) same;
      room = rw same (roomy_same (room_by (rows_by it) it places));
    }
is_unmapped it calls made pid address places is new (Some v) found gone same =
    let some = found_view it is.named pid address 1 (Some v) found in
    record {
      lawful = rw gone (unmapped_lawful it calls made is pid v.base);
      rows = ap (λ (ps : List Part). rows_by (record it { parts = ps })) gone ∙ unmaps it calls made is pid v.base ∙ sym (ap (unmapped_at (rows_by it) pid) some);
      owed = ap (λ (ps : List Part). owed_rows (rows_by (record it { parts = ps }))) gone ∙ ap owed_rows (unmaps it calls made is pid v.base);
      room = rw gone (unmapped_room it places pid v.base);
    }
