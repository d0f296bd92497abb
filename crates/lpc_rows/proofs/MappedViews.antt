-- A view that is mapped, or a fault: what the definitions answer, and what it leaves.
use Rattle.std.proofs.Common.{◌≡◌, ℕ, ◌+◌, ◌<◌, ◌≤◌, List, [], ◌∷◌, ◌++◌, Bool, true, false, cond, length, map, Option, Some, None, option_map, is_some, refl, ap, sym, subst, ◌∙◌, arith}
use Rattle.std.specs.Prelude.{nat_le, Result, Ok, Err, IfOk, OnErr, OnOk, ◌==◌, if◌then◌else◌}
use Rattle.std.proofs.lemmas.Bool.{eqb-true}
use Rattle.std.proofs.lemmas.List.{length-map, map-append}
use Rattle.lpc_base.specs.declared.birth.Birth.{Birth}
use Rattle.lpc_base.specs.Rows.{change, passes}
use Rattle.lpc_base.specs.Views.{least_base}
use Rattle.lpc_base.proofs.Differ.{rest-differ, rest-none}
use Rattle.lpc_base.proofs.RowMaps.{unseen-change}
use Rattle.lpc_base.proofs.RowWords.{change-none}
use Rattle.lpc_homes.specs.Parts.{are_single_parts, is_part, mapped, view_room_at, view_room_in, views_at}
use Rattle.lpc_homes.specs.declared.object.Object.{Object}
use Rattle.lpc_homes.specs.declared.parts.Part.{Part}
use Rattle.lpc_homes.proofs.OnePart.{first_other}
use Rattle.lpc_model.specs.Basics.{Maps, basic}
use Rattle.lpc_model.specs.Found.{section_row, views_of}
use Rattle.lpc_model.specs.World as model
use Rattle.lpc_model.specs.World.{World}
use Rattle.lpc_names.specs.Kept.{seen}
use Rattle.lpc_sections.specs.Sections.{SectionRow}
use Rattle.lpc_slots.specs.Table.{at}
use Rattle.lpc_slots.specs.declared.Key.{Key}
use Rattle.lpc_views.specs.Mapping as mapping
use Rattle.lpc_views.specs.Mapping.{mapped_at, mapped_of, mapped_size}
use Rattle.lpc_views.specs.Parts.{is_mapped}
use Rattle.lpc_views.specs.Views.{ranges}
use Rattle.lpc_views.specs.declared.view.MapFault.{MapFault}
use Rattle.lpc_views.specs.declared.view.View.{View}
use Rattle.lpc_rows.specs.Capacity.{places_of_part, view_places_of}
use Rattle.lpc_rows.specs.Clauses.{Shows, base_among, mapped_view, new_base, view_at_base, view_of_size}
use Rattle.lpc_rows.specs.Kept.{owed_rows, room_of_part, rows_by}
use Rattle.lpc_rows.specs.Lawful.{AreLawful}
use Rattle.lpc_rows.specs.Names.{name_of, some_stands, stands}
use Rattle.lpc_rows.specs.Shown.{AreNamed, Births, Tables, birth_in, birth_of, births_of, shown_section, shown_view}
use Rattle.lpc_rows.proofs.Capacities as capacities
use Rattle.lpc_rows.proofs.FoundSections as sections
use Rattle.lpc_rows.proofs.Readings as readings
use Rattle.lpc_rows.proofs.ViewRooms as rooms
use Rattle.lpc_rows.proofs.Views as views

-- the addresses of views
ranges_shown : (f : Object → Birth) (vs : List (View Key)) → map (λ v. (v.base, v.size)) (map (shown_view f) vs) ≡ ranges vs
ranges_shown f [] = refl
ranges_shown f (v ∷ vs) = ap (λ (rs : List (ℕ × ℕ)). (v.base, v.size) ∷ rs) (ranges_shown f vs)

among_shown : (f : Object → Birth) (vs : List (View Key)) (bytes : ℕ) → base_among (map (shown_view f) vs) bytes ≡ mapping.new_base vs bytes
among_shown f vs bytes =
    ap (λ k. if k == 128 then None else least_base (map (λ v. (v.base, v.size)) (map (shown_view f) vs)) bytes) (length-map vs (shown_view f))
    ∙ ap (λ rs. if length vs == 128 then None else least_base rs bytes) (ranges_shown f vs)

-- the base of a further view, and that beside some which aren't mapped
pub new_is : (it : Tables) → AreNamed (births_of it) it → (pid bytes : ℕ) → new_base (rows_by it) pid bytes ≡ mapping.new_base (views_at it.parts pid) bytes
new_is it is pid bytes =
    ap (λ (vs : List model.ViewRow). base_among vs bytes) (readings.views_are it is pid) ∙ among_shown (birth_of (births_of it)) (views_at it.parts pid) bytes

pub beside_is : (it : Tables) → AreNamed (births_of it) it → (pid : ℕ) (others : List (View Key)) (bytes : ℕ)
    → base_among (views_of (rows_by it) pid ++ map (shown_view (birth_of (births_of it))) others) bytes ≡ mapping.new_base (views_at it.parts pid ++ others) bytes
beside_is it is pid others bytes =
    let f = birth_of (births_of it) in
    ap (λ (vs : List model.ViewRow). base_among (vs ++ map (shown_view f) others) bytes) (readings.views_are it is pid)
    ∙ ap (λ (vs : List model.ViewRow). base_among vs bytes) (sym (map-append (shown_view f) (views_at it.parts pid) others))
    ∙ among_shown f (views_at it.parts pid ++ others) bytes

-- a view shows bytes of a section that stands
pub shows_mapped : (it : Tables) → AreNamed (births_of it) it → (view : View Key) → stands (births_of it).sections view.section ≡ true
    → passes (section_row (rows_by it) (name_of (births_of it).sections view.section)) (λ s. nat_le (view.offset + view.size) s.size) ≡ true → is_mapped it.sections view ≡ true
shows_mapped it is view stand part = by (at it.sections view.section) refl (sections.present it view.section stand)
  where
    by : (o : Option SectionRow) → at it.sections view.section ≡ o → is_some o ≡ true → is_mapped it.sections view ≡ true
    by None none some = absurd (cc)
    by (Some s) there some =
        let row : nat_le (view.offset + view.size) (length s.bytes) ≡ true = rw (sections.found it is view.section s there) at part in
        rw there row

-- What a mapping answers
module _ (it : Tables) (is : AreNamed (births_of it) it) (pid : ℕ) (section : Key) (offset size : ℕ) (writable : Bool) (owner : Option Key) where
  abbrev n : Births
  n = births_of it

  abbrev f : Object → Birth
  f = birth_of n

  abbrev rows : World
  rows = rows_by it

  abbrev own : List (View Key)
  own = views_at it.parts pid

  base_is : (bytes : ℕ) → new_base rows pid bytes ≡ mapping.new_base own bytes
  base_is bytes = new_is it is pid bytes

  module _ (row : Key × SectionRow) (name : row.1.birth ≡ name_of n.sections section) where
    abbrev asked : Shows
    asked = record { section = shown_section row; offset = offset; writable = writable; owner = birth_in f owner }

    at_base : (bytes : ℕ) (base : Option ℕ) → view_at_base asked bytes base ≡ seen (shown_view f) (mapped_at own section offset writable owner bytes base)
    at_base bytes None = refl
    at_base bytes (Some base) = ap (λ b. Ok (record { base = base; size = bytes; section = b; offset = offset; writable = writable; owner = birth_in f owner })) name

    of_size : (bytes : Result ℕ MapFault) → view_of_size rows pid asked bytes ≡ seen (shown_view f) (mapped_of own section offset writable owner bytes)
    of_size (Err fault) = refl
    of_size (Ok bytes) = ap (view_at_base asked bytes) (base_is bytes) ∙ at_base bytes (mapping.new_base own bytes)

  -- the view that is mapped goes with the port, or with none
  owner_of : (bytes : Result ℕ MapFault) → IfOk (mapped_of own section offset writable owner bytes) (λ view. view.owner ≡ owner)
  owner_of (Err fault) = tt
  owner_of (Ok bytes) = by (mapping.new_base own bytes)
    where
      by : (base : Option ℕ) → IfOk (mapped_at own section offset writable owner bytes base) (λ view. view.owner ≡ owner)
      by None = tt
      by (Some base) = refl

  pub record IsAnswered (r : Result (View Key) MapFault) : Type 0 where
    pub answer : option_map (λ s. mapped_view rows pid (record { section = s; offset = offset; writable = writable; owner = birth_in f owner }) size) (section_row rows (name_of n.sections section)) ≡ Some (seen (shown_view f) r)
    pub owned : IfOk r (λ view. view.owner ≡ owner)

  pub answered : stands n.sections section ≡ true → (r : Result (View Key) MapFault) → option_map (λ s. mapping.mapped own section offset writable owner s size) (at it.sections section) ≡ Some r → IsAnswered r
  answered stand r e = by (at it.sections section) refl (sections.present it section stand)
    where
      by : (o : Option SectionRow) → at it.sections section ≡ o → is_some o ≡ true → IsAnswered r
      by None none some = absurd (cc)
      by (Some s) there some =
          let found = sections.found it is section s there in
          let here : Some (mapping.mapped own section offset writable owner s size) ≡ Some r = sym (ap (option_map (λ s. mapping.mapped own section offset writable owner s size)) there) ∙ e in
          let same : mapping.mapped own section offset writable owner s size ≡ r = cc in
          record {
            answer =
                ap (option_map (λ s. mapped_view rows pid (record { section = s; offset = offset; writable = writable; owner = birth_in f owner }) size)) found
                ∙ ap Some (of_size (section, s) (sections.named it is section s there) (mapped_size s offset size writable) ∙ ap (seen (shown_view f)) same);
            owned = subst (λ q. IfOk q (λ view. view.owner ≡ owner)) same (owner_of (mapped_size s offset size writable));
          }

-- the memory for views stays where a view takes a place of it
mapped_places : (view : View Key) (part : Part) → 0 < part.views.spare → view_places_of (mapped view part) ≡ view_places_of part
mapped_places view part some = ap (λ k. record { process = part.process; places = k }) (capacities.one_more part.views.spare part.views.views view some)

mapped_all : (pid : ℕ) (view : View Key) (parts : List Part) → are_single_parts parts ≡ true → 0 < view_room_at parts pid → map view_places_of (change (is_part pid) (mapped view) parts) ≡ map view_places_of parts
mapped_all pid view [] one some = refl
mapped_all pid view (part ∷ parts) one some = at (is_part pid part) refl (mapped_all pid view parts (rest-differ (λ (p : Part). p.process) part parts one))
  where
    Goal : Bool → Type 0
    Goal c = map view_places_of (cond c (mapped view part) part ∷ change (is_part pid) (mapped view) parts) ≡ map view_places_of (part ∷ parts)

    at : (c : Bool) → is_part pid part ≡ c → (0 < view_room_at parts pid → map view_places_of (change (is_part pid) (mapped view) parts) ≡ map view_places_of parts) → Goal (is_part pid part)
    at true here others =
        let spare : view_room_at (part ∷ parts) pid ≡ part.views.spare = rw here refl in
        let same = mapped_places view part (omega (arith, some, spare)) in
        let none = rest-none (λ (p : Part). p.process) part parts pid one (eqb-true part.process pid here) in
        let rest = change-none (is_part pid) (mapped view) parts none in
        rw (here, rest, same) refl
    at false off others =
        let spare : view_room_at (part ∷ parts) pid ≡ view_room_at parts pid = rw off refl in
        let rest = others (omega (arith, some, spare)) in
        rw (off, rest) refl

-- What it leaves
module _ (it : Tables) (calls made : ℕ) (is : AreLawful it calls made) (pid : ℕ) (new : List Part) where
  abbrev after : Tables
  after = record it { parts = new }

  pub record IsLeft (r : Result (View Key) MapFault) : Type 0 where
    pub lawful : AreLawful after calls made
    pub rows : IfOk r (λ view. rows_by after ≡ basic (rows_by it) (Maps pid (shown_view (birth_of (births_of it)) view)))
    pub owed : owed_rows (rows_by after) ≡ owed_rows (rows_by it)
    pub places : view_room_at it.parts pid ≤ view_room_at new pid + 1
    pub others : (other : ℕ) → (other == pid) ≡ false → view_room_at new other ≡ view_room_at it.parts other
    pub handle_rooms : map room_of_part new ≡ map room_of_part it.parts
    pub handle_places : map places_of_part new ≡ map places_of_part it.parts
    pub view_places : map view_places_of new ≡ map view_places_of it.parts

  pub left : (owner : Option Key) (r : Result (View Key) MapFault) → some_stands (births_of it).ports owner ≡ true → IfOk r (λ view. view.owner ≡ owner) → IfOk r (λ view. is_mapped it.sections view ≡ true) → IfOk r (λ view. new ≡ change (is_part pid) (mapped view) it.parts) → OnErr r (new ≡ it.parts)
      → are_single_parts it.parts ≡ true → OnOk r (0 < view_room_at it.parts pid) → IsLeft r
  left owner (Err fault) there owned inside more same one some = record {
    lawful = rw same is;
    rows = tt;
    owed = ap (λ (ps : List Part). owed_rows (rows_by (record it { parts = ps }))) same;
    places = rw same (omega arith);
    others = λ other off. ap (λ (ps : List Part). view_room_at ps other) same;
    handle_rooms = ap (map room_of_part) same;
    handle_places = ap (map places_of_part) same;
    view_places = ap (map view_places_of) same;
  }
  left owner (Ok view) there owned inside more same one some = record {
    lawful = rw more (views.mapped_lawful it calls made is pid view inside (ap (some_stands (births_of it).ports) owned ∙ there));
    rows = ap (λ (ps : List Part). rows_by (record it { parts = ps })) more ∙ views.maps it calls made is pid view;
    owed = ap (λ (ps : List Part). owed_rows (rows_by (record it { parts = ps }))) more ∙ ap owed_rows (views.maps it calls made is pid view);
    places = rw more (rooms.mapped_room pid view it.parts);
    others = λ other off. ap (λ (ps : List Part). view_room_at ps other) more ∙ ap view_room_in (first_other (mapped view) (λ part. refl) it.parts pid other off);
    handle_rooms = ap (map room_of_part) more ∙ unseen-change room_of_part (is_part pid) (mapped view) (λ part. refl) it.parts;
    handle_places = ap (map places_of_part) more ∙ unseen-change places_of_part (is_part pid) (mapped view) (λ part. refl) it.parts;
    view_places = ap (map view_places_of) more ∙ mapped_all pid view it.parts one some;
  }
