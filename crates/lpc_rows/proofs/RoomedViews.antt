-- More room for the views of a process: the rows stay, and so does the room of all others.
use Rattle.std.proofs.Common.{◌≡◌, ℕ, ◌+◌, ◌≤◌, List, true, false, length, map, Option, Some, None, option_map, refl, ap, sym, subst, ◌∙◌, arith}
use Rattle.std.specs.Prelude.{◌==◌}
use Rattle.std.proofs.lemmas.Bool.{eqb-true}
use Rattle.std.proofs.lemmas.List.{length-map}
use Rattle.lpc_base.specs.Rows.{change, first}
use Rattle.lpc_base.proofs.RowMaps.{first-map, unseen-change}
use Rattle.lpc_base.proofs.RowWords.{every-true}
use Rattle.lpc_homes.specs.Parts.{is_part, view_room_at, view_room_in, view_roomed, views_at, views_in}
use Rattle.lpc_homes.specs.declared.parts.Part.{Part}
use Rattle.lpc_model.specs.Found.{views_of}
use Rattle.lpc_model.specs.World.{World}
use Rattle.lpc_rows.specs.Capacity.{is_of_process, places_in, places_of_part, view_places_of}
use Rattle.lpc_rows.specs.Kept.{room_of_part, rows_by}
use Rattle.lpc_rows.specs.Lawful.{AreLawful}
use Rattle.lpc_rows.specs.Shown.{AreNamed, Tables, birth_of, births_of, shown_view}
use Rattle.lpc_rows.proofs.Readings as readings
use Rattle.lpc_rows.proofs.ViewRooms as rooms
use Rattle.lpc_rows.proofs.Views as views

-- how many views a process has
pub views_number : (it : Tables) → AreNamed (births_of it) it → (pid : ℕ) → length (views_of (rows_by it) pid) ≡ length (views_at it.parts pid)
views_number it is pid = ap length (readings.views_are it is pid) ∙ length-map (views_at it.parts pid) (shown_view (birth_of (births_of it)))

-- what it has memory for
pub view_places_at : (parts : List Part) (pid : ℕ) → places_in (first (is_of_process pid) (map view_places_of parts)) ≡ view_room_at parts pid + length (views_at parts pid)
view_places_at parts pid = ap places_in (first-map view_places_of (λ _. true) (is_part pid) (is_of_process pid) (λ part _. refl) parts (every-true parts)) ∙ counted (first (is_part pid) parts)
  where
    counted : (o : Option Part) → places_in (option_map view_places_of o) ≡ view_room_in o + length (views_in o)
    counted None = refl
    counted (Some part) = refl

module _ (it : Tables) (calls made : ℕ) (is : AreLawful it calls made) (pid : ℕ) (new : List Part) (at : new ≡ change (is_part pid) (view_roomed (view_room_at new pid)) it.parts) where
  pub lawful : AreLawful (record it { parts = new }) calls made
  lawful = rw at (views.roomed_lawful it calls made is pid (view_room_at new pid))

  pub rows : rows_by (record it { parts = new }) ≡ rows_by it
  rows = ap (λ (ps : List Part). rows_by (record it { parts = ps })) at ∙ views.rooms it calls made is pid (view_room_at new pid)

  -- as much room, and as much memory, for handles
  pub handle_rooms : map room_of_part new ≡ map room_of_part it.parts
  handle_rooms = ap (map room_of_part) at ∙ unseen-change room_of_part (is_part pid) (view_roomed (view_room_at new pid)) (λ part. refl) it.parts

  pub handle_places : map places_of_part new ≡ map places_of_part it.parts
  handle_places = ap (map places_of_part) at ∙ unseen-change places_of_part (is_part pid) (view_roomed (view_room_at new pid)) (λ part. refl) it.parts

  -- other processes have the room that they had, and each has its views
  pub others : (other : ℕ) → (other == pid) ≡ false → view_room_at new other ≡ view_room_at it.parts other
  others other off = ap (λ (ps : List Part). view_room_at ps other) at ∙ rooms.other_room pid (view_room_at new pid) it.parts other off

  pub spare : view_room_at it.parts pid ≤ view_room_at new pid → (other : ℕ) → view_room_at it.parts other ≤ view_room_at new other
  spare more other =
      elim (other == pid) as (λ b. (other == pid) ≡ b → view_room_at it.parts other ≤ view_room_at new other) [
        | true ↦ λ here. let P : ℕ → Type 0 = λ n. view_room_at it.parts n ≤ view_room_at new n in subst P (sym (eqb-true other pid here)) more
        | false ↦ λ off.
            let same = others other off in
            omega (arith, same)
      ] refl

  pub number : (other : ℕ) → length (views_at new other) ≡ length (views_at it.parts other)
  number other = sym (views_number (record it { parts = new }) lawful.named other) ∙ ap (λ (w : World). length (views_of w other)) rows ∙ views_number it is.named other
