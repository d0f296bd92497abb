-- A handle of a process goes: the tables' new rows are the step of those that stood, and stay lawful.
use Rattle.std.proofs.Common.{◌≡◌, ◌+◌, ◌≤◌, ℕ, List, [], ◌∷◌, Bool, true, false, cond, not, ◌||◌, length, map, refl, ap, sym, subst, ◌∙◌, arith}
use Rattle.std.specs.Prelude.{nat_le}
use Rattle.std.proofs.lemmas.Bool.Decides.{nat_tests}
use Rattle.lpc_base.specs.declared.birth.Birth.{Birth}
use Rattle.lpc_base.specs.Rows.{change, count, every, has, without_first}
use Rattle.lpc_base.proofs.RowMaps.{change-map, every-map, every-without_first, unseen-change, without_first-map}
use Rattle.lpc_base.proofs.RowWords.{every-change, every-more, has-change}
use Rattle.lpc_handles.specs.Handles as handles
use Rattle.lpc_handles.specs.declared.table.Row.{Row}
use Rattle.lpc_model.specs.Basics.{DropsHandle, basic, without_handle}
use Rattle.lpc_model.specs.Found.{has_value, is_connect, is_table}
use Rattle.lpc_model.specs.Tests.{is_connect_of}
use Rattle.lpc_model.specs.World.{HandleRow, HandleTable, WaitRow, World}
use Rattle.lpc_rows.specs.Kept.{rows_by, view_room_of}
use Rattle.lpc_rows.specs.Lawful.{AreLawful, IsPromised, has_places, is_at_home, is_within}
use Rattle.lpc_homes.specs.Parts.{closed, closing, is_part, spare_at}
use Rattle.lpc_rows.specs.Shown.{Births, Tables, all_pass, birth_of, births_of, object_stands, part_refs, shown_handle, shown_part, shown_space, space_refs}
use Rattle.lpc_homes.specs.declared.object.Object.{Object}
use Rattle.lpc_homes.specs.declared.parts.Part.{Part}
use Rattle.lpc_rows.proofs.Changes as changes
use Rattle.lpc_rows.proofs.Steps as steps
use Rattle.lpc_rows.proofs.Drawn as drawn
use Rattle.lpc_rows.proofs.Lawful as lawful

-- the room of a part that loses a handle, or has none of the value
closed_more : (value : ℕ) (part : Part) → part.handles.spare ≤ (closed value part).handles.spare
closed_more value part = at (has (handles.has_value value) part.handles.rows)
  where
    at : (b : Bool) → part.handles.spare ≤ cond b (part.handles.spare + 1) part.handles.spare
    at true = omega arith
    at false = omega arith

pub spare_kept : (pid value : ℕ) (parts : List Part) (other : ℕ) → spare_at parts other ≤ spare_at (closing pid value parts) other
spare_kept pid value [] other = omega arith
spare_kept pid value (part ∷ parts) other = elim (is_part pid part) as (λ b. is_part pid part ≡ b → spare_at (part ∷ parts) other ≤ spare_at (closing pid value (part ∷ parts)) other) [
  | true ↦ λ own. grind (arith, own, closed_more value part, spare_kept pid value parts other)
  | false ↦ λ off. grind (arith, off, spare_kept pid value parts other)
] refl

-- so has each process as much room for views
pub view_rooms_kept : (pid value : ℕ) (parts : List Part) → map view_room_of (closing pid value parts) ≡ map view_room_of parts
view_rooms_kept pid value parts = unseen-change view_room_of (is_part pid) (closed value) (λ part. refl) parts

fewer : (value : ℕ) (rows : List HandleRow) → length (without_first (has_value value) rows) ≤ length rows
fewer value [] = omega arith
fewer value (row ∷ rows) = grind (arith, fewer value rows)

-- the handles that waiting connects are promised have their places still
le-more : (a b c : ℕ) → b ≤ c → nat_le a b ≡ true → nat_le a c ≡ true
le-more a b c more le = grind (arith, nat_tests)

le-less : (a b c n : ℕ) → b ≤ a → nat_le (a + c) n ≡ true → nat_le (b + c) n ≡ true
le-less a b c n less le = grind (arith, nat_tests)

handle-goes : (waits : List WaitRow) (tables : List HandleTable) (parts : List Part) (pid value : ℕ) → IsPromised waits tables parts
    → IsPromised waits (change (is_table pid) (without_handle value) tables) (closing pid value parts)
handle-goes waits tables parts pid value is = record {
  places = every-change (has_places waits) (is_part pid) (closed value) (λ part there. le-more (count (is_connect_of part.process) waits) part.handles.spare (closed value part).handles.spare (closed_more value part) there) parts is.places;
  loads = every-change (is_within waits) (is_table pid) (without_handle value) (λ t there. le-less (length t.rows) _ (count (is_connect_of t.process) waits) 256 (fewer value t.rows) there) tables is.loads;
  homes = every-more (is_at_home tables) (is_at_home (change (is_table pid) (without_handle value) tables)) (λ x there. ap (λ b. not (is_connect x) || b) (has-change (is_table x.process) (is_table pid) (without_handle value) (λ t. refl) tables) ∙ there) waits is.homes;
  taken = is.taken;
}

module _ (it : Tables) (calls made : ℕ) (is : AreLawful it calls made) (pid value : ℕ) where
  abbrev n : Births
  n = births_of it

  abbrev f : Object → Birth
  f = birth_of n

  abbrev rows : World
  rows = rows_by it

  abbrev after : Tables
  after = record it { parts = closing pid value it.parts }

  dropped : (hs : List (ℕ × Row Object)) → map (shown_handle f) (without_first (handles.has_value value) hs) ≡ without_first (has_value value) (map (shown_handle f) hs)
  dropped hs = without_first-map (shown_handle f) (λ _. true) (handles.has_value value) (has_value value) (λ row _. refl) hs (changes.all_true it is.named hs)

  pub drops : rows_by after ≡ basic rows (DropsHandle pid value)
  drops =
      rw (
        change-map (shown_part f) (all_pass part_refs (object_stands n)) (is_part pid) (is_table pid) (λ part _. refl) (closed value) (without_handle value)
            (λ part _. ap (λ hs. record { process = part.process; rows = hs }) (dropped part.handles.rows)) it.parts is.named.refs.in_handles,
        unseen-change (shown_space f) (is_part pid) (closed value) (λ part. refl) it.parts,
      ) refl

  objects_less : (hs : List (ℕ × Row Object)) → every (object_stands n) (map (λ row. row.1.object) hs) ≡ true → every (object_stands n) (map (λ row. row.1.object) (without_first (handles.has_value value) hs)) ≡ true
  objects_less hs all =
      rw (every-map (object_stands n) (λ (row : ℕ × Row Object). row.1.object) (without_first (handles.has_value value) hs))
      (every-without_first (λ row. object_stands n row.1.object) (handles.has_value value) hs (sym (every-map (object_stands n) (λ (row : ℕ × Row Object). row.1.object) hs) ∙ all))

  pub dropped_lawful : AreLawful after calls made
  dropped_lawful = record {
    named = record {
      ports_apart = is.named.ports_apart;
      sections_apart = is.named.sections_apart;
      tokens_apart = is.named.tokens_apart;
      refs = record {
        in_handles = every-change (all_pass part_refs (object_stands n)) (is_part pid) (closed value) (λ part all. objects_less part.handles.rows all) it.parts is.named.refs.in_handles;
        in_ports = is.named.refs.in_ports;
        in_messages = is.named.refs.in_messages;
        in_waits = is.named.refs.in_waits;
        in_names = is.named.refs.in_names;
        in_views = every-change (all_pass space_refs (object_stands n)) (is_part pid) (closed value) (λ part all. all) it.parts is.named.refs.in_views;
      };
    };
    lawful = rw drops (lawful.lawful-drop rows calls made it.waits.spare it.ports.message_room pid value is.lawful);
    counted = is.counted;
    registered = is.registered;
    heard = is.heard;
    marked = is.marked;
    mapped = steps.change_mapped it.sections it.parts made pid (closed value) (λ part. refl) is.mapped;
    headed = is.headed;
    drawn = drawn.same-drawn rows _ refl refl refl refl refl is.drawn;
    born = is.born;
    promised = subst (λ (v : World). IsPromised v.waits v.handles (closing pid value it.parts)) (sym drops) (handle-goes rows.waits rows.handles it.parts pid value is.promised);
  }
