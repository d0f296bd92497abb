-- The room for views that each change of them leaves.
use Rattle.std.proofs.Common.{◌≡◌, ℕ, ◌+◌, ◌≤◌, List, [], ◌∷◌, Bool, true, false, cond, map, Option, Some, None, option_map, refl, ap, sym, subst, ◌∙◌, arith}
use Rattle.std.specs.Prelude.{◌==◌}
use Rattle.lpc_base.specs.Rows.{change, first}
use Rattle.lpc_base.proofs.RowMaps.{first-map, unseen-change}
use Rattle.lpc_base.proofs.RowWords.{every-true}
use Rattle.lpc_homes.specs.Parts.{dropped, emptied, is_part, mapped, unmapped, view_room_at, view_room_in, view_roomed}
use Rattle.lpc_homes.specs.declared.parts.Part.{Part}
use Rattle.lpc_homes.proofs.OnePart.{first_other}
use Rattle.lpc_slots.specs.declared.Key.{Key}
use Rattle.lpc_views.specs.declared.view.View.{View}
use Rattle.lpc_rows.specs.Kept as kept
use Rattle.lpc_rows.specs.Kept.{Roomy, is_room, room_by, room_of_part, rows_by, view_room_of}
use Rattle.lpc_rows.specs.Shown.{Tables}

-- the room for views of a process
pub view_room_is : (parts : List Part) (pid : ℕ) → kept.room_in (first (is_room pid) (map view_room_of parts)) ≡ view_room_at parts pid
view_room_is parts pid = ap kept.room_in (first-map view_room_of (λ _. true) (is_part pid) (is_room pid) (λ part _. refl) parts (every-true parts)) ∙ spared (first (is_part pid) parts)
  where
    spared : (o : Option Part) → kept.room_in (option_map view_room_of o) ≡ view_room_in o
    spared None = refl
    spared (Some part) = refl

-- a part in place of another of the same process
head : (other more : ℕ) (part q : Part) (rest later : Option Part) → q.process ≡ part.process → part.views.spare ≤ q.views.spare + more → view_room_in rest ≤ view_room_in later + more
    → view_room_in (cond (is_part other part) (Some part) rest) ≤ view_room_in (cond (is_part other q) (Some q) later) + more
head other more part q rest later same le IH = subst (λ (b : Bool). view_room_in (cond (is_part other part) (Some part) rest) ≤ view_room_in (cond b (Some q) later) + more) (sym (ap (λ n. n == other) same)) (by (is_part other part))
  where
    by : (b : Bool) → view_room_in (cond b (Some part) rest) ≤ view_room_in (cond b (Some q) later) + more
    by true = le
    by false = IH

module _ (test : Part → Bool) (less : ℕ) (f : Part → Part) (number : (part : Part) → (f part).process ≡ part.process) (more : (part : Part) → part.views.spare ≤ (f part).views.spare + less) where
  -- at most so many places go
  pub room_left : (parts : List Part) (other : ℕ) → view_room_at parts other ≤ view_room_at (change test f parts) other + less
  room_left [] other = omega arith
  room_left (part ∷ parts) other =
      head other less part (cond (test part) (f part) part) (first (is_part other) parts) (first (is_part other) (change test f parts))
      (same (test part)) (some (test part)) (room_left parts other)
    where
      same : (b : Bool) → (cond b (f part) part).process ≡ part.process
      same true = number part
      same false = refl

      some : (b : Bool) → part.views.spare ≤ (cond b (f part) part).views.spare + less
      some true = more part
      some false = omega arith

-- no room is lost where views of some processes go, or get more room
module _ (it : Tables) (places : ℕ) (test : Part → Bool) (f : Part → Part) (number : (part : Part) → (f part).process ≡ part.process) (handles : (part : Part) → (f part).handles ≡ part.handles) (more : (part : Part) → part.views.spare ≤ (f part).views.spare + 0) where
  pub roomy : let after : Tables = record it { parts = change test f it.parts } in Roomy (room_by (rows_by it) it places) (room_by (rows_by after) after places)
  roomy = rw (unseen-change room_of_part test f (λ part. (λ i. record { process = number part i; spare = (handles part i).spare })) it.parts) (record {
    for_processes = omega arith;
    for_threads = omega arith;
    for_waits = omega arith;
    for_messages = omega arith;
    for_ports = omega arith;
    for_names = omega arith;
    for_sections = omega arith;
    for_tokens = omega arith;
    for_token_names = omega arith;
    for_handles = λ p. omega arith;
    for_views = λ p. rw (view_room_is it.parts p, view_room_is (change test f it.parts) p) (let left = room_left test 0 f number more it.parts p in omega (arith, left));
  })

pub dropped_room : (it : Tables) (places pid : ℕ) → let after : Tables = record it { parts = change (is_part pid) emptied it.parts } in Roomy (room_by (rows_by it) it places) (room_by (rows_by after) after places)
dropped_room it places pid = roomy it places (is_part pid) emptied (λ part. refl) (λ part. refl) (λ part. omega arith)

pub unmapped_room : (it : Tables) (places pid base : ℕ) → let after : Tables = record it { parts = change (is_part pid) (unmapped base) it.parts } in Roomy (room_by (rows_by it) it places) (room_by (rows_by after) after places)
unmapped_room it places pid base = roomy it places (is_part pid) (unmapped base) (λ part. refl) (λ part. refl) (λ part. omega arith)

pub owned_room : (it : Tables) (places : ℕ) (port : Key) → let after : Tables = record it { parts = map (dropped port) it.parts } in Roomy (room_by (rows_by it) it places) (room_by (rows_by after) after places)
owned_room it places port = roomy it places (λ _. true) (dropped port) (λ part. refl) (λ part. refl) (λ part. omega arith)

pub mapped_room : (pid : ℕ) (view : View Key) (parts : List Part) → view_room_at parts pid ≤ view_room_at (change (is_part pid) (mapped view) parts) pid + 1
mapped_room pid view parts = room_left (is_part pid) 1 (mapped view) (λ part. refl) (λ part. omega arith) parts pid

-- other processes have the room that they had
pub other_room : (pid spare : ℕ) (parts : List Part) (other : ℕ) → (other == pid) ≡ false → view_room_at (change (is_part pid) (view_roomed spare) parts) other ≡ view_room_at parts other
other_room pid spare parts other off = ap view_room_in (first_other (view_roomed spare) (λ part. refl) parts pid other off)
