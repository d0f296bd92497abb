-- The handles of each process, as the definitions have them.
use Rattle.std.proofs.Common.{◌≡◌, ℕ, ◌*◌, ◌<◌, ◌≤◌, ◌&&◌, ◌||◌, List, [], ◌∷◌, true, false, Bool, cond, length, map, Option, Some, None, option_map, refl, ap, sym, subst, ◌∙◌, arith}
use Rattle.std.specs.Prelude.{Result, Ok, Err, IfOk, OnErr, OnOk, is_some, nat_le, ◌==◌, ◌+◌}
use Rattle.std.proofs.lemmas.Bool.{eqb-true}
use Rattle.std.proofs.lemmas.List.{length-map}
use Rattle.lpc_base.specs.declared.birth.Birth.{Birth}
use Rattle.lpc_base.specs.Places.{least_handle}
use Rattle.lpc_base.specs.Rows.{change, count, first, has}
use Rattle.std.proofs.lemmas.Bool.Decides.{nat_tests}
use Rattle.lpc_base.proofs.RowMaps.{count-map, every-first, first-map, has-map, unseen-change}
use Rattle.lpc_base.proofs.RowWords.{every-true, first-passes}
use Rattle.lpc_handles.specs.Handles.{values}
use Rattle.lpc_handles.specs.declared.table.Row.{Row}
use Rattle.lpc_handles.specs.declared.table.TableFault.{TableFault}
use Rattle.lpc_model.specs.World as model
use Rattle.lpc_model.specs.World.{World}
use Rattle.lpc_model.specs.Basics.{AddsHandle, basic}
use Rattle.lpc_model.specs.Found as found
use Rattle.lpc_model.specs.Found.{free_handle, handles_of, is_table, is_taken}
use Rattle.lpc_model.specs.Tests.{handle_load, is_connect_of}
use Rattle.lpc_waits.specs.Table as waits
use Rattle.lpc_waits.specs.declared.Accepted.{Accepted}
use Rattle.lpc_waits.specs.declared.Wait.{Wait}
use Rattle.lpc_waits.specs.declared.WaitKind.{WaitKind}
use Rattle.lpc_waits.specs.declared.WaitKind.TheVariants as wait
use Rattle.lpc_waits.specs.Table.{WaitingThread}
use Rattle.lpc_rows.specs.Shown.{Tables, birth_of, births_of, object_stands, shown_handle, shown_kind, shown_offer, shown_part, shown_wait}
use Rattle.lpc_homes.specs.Parts.{are_single_parts, handed, is_part, roomed, rows_at, rows_in, spare_at, spare_in}
use Rattle.lpc_rows.specs.Kept as kept
use Rattle.lpc_rows.specs.Kept.{is_room, room_of_part, rows_by, view_room_of}
use Rattle.lpc_rows.specs.Lawful.{AreLawful, are_single_tables, is_within}
use Rattle.lpc_homes.specs.declared.object.Object.{Object}
use Rattle.lpc_homes.specs.declared.parts.Part.{Part}
use Rattle.lpc_rows.proofs.Changes as changes
use Rattle.lpc_homes.proofs.OnePart.{first_other}
use Rattle.lpc_rows.proofs.Owed as owed
use Rattle.lpc_rows.proofs.Promised.{IsWelcome}
use Rattle.lpc_rows.proofs.Steps as steps

-- the room for handles of a process
pub room_at : (parts : List Part) (pid : ℕ) → kept.room_in (first (is_room pid) (map room_of_part parts)) ≡ spare_at parts pid
room_at parts pid = ap kept.room_in (first-map room_of_part (λ _. true) (is_part pid) (is_room pid) (λ part _. refl) parts (every-true parts)) ∙ spared (first (is_part pid) parts)
  where
    spared : (o : Option Part) → kept.room_in (option_map room_of_part o) ≡ spare_in o
    spared None = refl
    spared (Some part) = refl

-- A table's connects are those of the definitions
connect_is : (kind : WaitKind) (bytes : List ℕ) (offer : Option model.Offer) (accepted : Option Accepted)
    → ((elim (shown_kind kind bytes offer accepted) [ model.Connect m o ↦ true | _ ↦ false ]) || (elim (shown_kind kind bytes offer accepted) [ model.Accepted m reply ↦ true | _ ↦ false ])) ≡ waits.is_connect kind
connect_is wait.Connect bytes offer None = refl
connect_is wait.Connect bytes offer (Some accepted) = refl
connect_is b bytes offer accepted = refl

pub connect_same : (f : Object → Birth) (row : WaitingThread) → found.is_connect (shown_wait f row) ≡ waits.is_connect row.wait.kind
connect_same f row = connect_is row.wait.kind row.message.items (option_map (shown_offer f) row.offer) row.accepted

pub connects_shown : (f : Object → Birth) (pid : ℕ) (rows : List WaitingThread) → count (is_connect_of pid) (map (shown_wait f) rows) ≡ count (waits.is_connect_of pid) rows
connects_shown f pid rows = count-map (shown_wait f) (λ _. true) (waits.is_connect_of pid) (is_connect_of pid) (λ row _. ap (λ b. b && (row.wait.process == pid)) (connect_same f row)) rows (every-true rows)

module _ (it : Tables) (calls made : ℕ) (is : AreLawful it calls made) where
  abbrev rows : World
  rows = rows_by it

  pub has_table : (pid : ℕ) → has (is_table pid) rows.handles ≡ has (is_part pid) it.parts
  has_table pid = has-map (shown_part (birth_of (births_of it))) (λ _. true) (is_part pid) (is_table pid) (λ part _. refl) it.parts (every-true it.parts)

  first_table : (pid : ℕ) → first (is_table pid) rows.handles ≡ option_map (shown_part (birth_of (births_of it))) (first (is_part pid) it.parts)
  first_table pid = first-map (shown_part (birth_of (births_of it))) (λ _. true) (is_part pid) (is_table pid) (λ part _. refl) it.parts (every-true it.parts)

  pub handles_shown : (pid : ℕ) → handles_of rows pid ≡ map (shown_handle (birth_of (births_of it))) (rows_at it.parts pid)
  handles_shown pid = ap found.rows_in (first_table pid) ∙ shown (first (is_part pid) it.parts)
    where
      shown : (o : Option Part) → found.rows_in (option_map (shown_part (birth_of (births_of it))) o) ≡ map (shown_handle (birth_of (births_of it))) (rows_in o)
      shown None = refl
      shown (Some part) = refl

  pub handle_number : (pid : ℕ) → length (handles_of rows pid) ≡ length (rows_at it.parts pid)
  handle_number pid = ap length (handles_shown pid) ∙ length-map (rows_at it.parts pid) (shown_handle (birth_of (births_of it)))

  values_shown : (hs : List (ℕ × Row Object)) → map (λ h. h.value) (map (shown_handle (birth_of (births_of it))) hs) ≡ values hs
  values_shown [] = refl
  values_shown (h ∷ hs) = ap (λ vs. h.0 ∷ vs) (values_shown hs)

  pub free_value : (pid : ℕ) → free_handle rows pid ≡ least_handle (values (rows_at it.parts pid))
  free_value pid = ap (λ (hs : List model.HandleRow). least_handle (map (λ h. h.value) hs)) (handles_shown pid) ∙ ap least_handle (values_shown (rows_at it.parts pid))

  -- no process has two it.parts
  single_by : (ps : List Part) → are_single_tables (map (shown_part (birth_of (births_of it))) ps) ≡ true → are_single_parts ps ≡ true
  single_by [] one = refl
  single_by (part ∷ ps) one =
      let same : has (is_table part.process) (map (shown_part (birth_of (births_of it))) ps) ≡ has (is_part part.process) ps = has-map (shown_part (birth_of (births_of it))) (λ _. true) (is_part part.process) (is_table part.process) (λ q _. refl) ps (every-true ps) in
      grind (arith, same, single_by ps)

  pub single : are_single_parts it.parts ≡ true
  single = single_by it.parts is.lawful.tables_single

  -- a handle more, or none
  pub handed_or_same : (pid : ℕ) (row : Row Object) (r : Result ℕ TableFault) (new : List Part) → object_stands (births_of it) row.object ≡ true → IfOk r (λ v. new ≡ change (is_part pid) (handed v row) it.parts) → OnErr r (new ≡ it.parts) → made + kept.owed_rows rows < 16 * calls → OnOk r (IsWelcome rows.waits rows.handles it.parts pid) → AreLawful (record it { parts = new }) calls made
  handed_or_same pid row (Ok v) new there more same lt welcome = rw more (steps.handed_lawful it calls made is pid v row there lt single welcome)
  handed_or_same pid row (Err e) new there more same lt welcome = rw same is

  -- and one row more is owed at most
  pub handed_owed : (pid : ℕ) (row : Row Object) (r : Result ℕ TableFault) (new : List Part) → IfOk r (λ v. new ≡ change (is_part pid) (handed v row) it.parts) → OnErr r (new ≡ it.parts) → kept.owed_rows (rows_by (record it { parts = new })) ≤ kept.owed_rows rows + 1
  handed_owed pid row (Ok v) new more same = rw (more, changes.hands it is.named pid v row) (owed.owed-handle rows pid (shown_handle (birth_of (births_of it)) (v, row)) (steps.single_object it calls made is row.object))
  handed_owed pid row (Err e) new more same = rw same (omega arith)

  -- which takes one place for handles at most
  less_spare : (pid value other : ℕ) (row : Row Object) (parts : List Part) → spare_at parts other ≤ spare_at (change (is_part pid) (handed value row) parts) other + 1
  less_spare pid value other row [] = omega arith
  less_spare pid value other row (part ∷ parts) = at (is_part other part) refl (less_spare pid value other row parts)
    where
      later : Part
      later = cond (is_part pid part) (handed value row part) part

      fewer : (c : Bool) → part.handles.spare ≤ (cond c (handed value row part) part).handles.spare + 1
      fewer true = omega arith
      fewer false = omega arith

      same : (c : Bool) → (cond c (handed value row part) part).process ≡ part.process
      same true = refl
      same false = refl

      at : (c : Bool) → is_part other part ≡ c → spare_at parts other ≤ spare_at (change (is_part pid) (handed value row) parts) other + 1 → spare_at (part ∷ parts) other ≤ spare_at (later ∷ change (is_part pid) (handed value row) parts) other + 1
      at true is rest =
          let is_later : is_part other later ≡ true = ap (λ n. n == other) (same (is_part pid part)) ∙ is in
          rw (is, is_later) (fewer (is_part pid part))
      at false is rest =
          let off : is_part other later ≡ false = ap (λ n. n == other) (same (is_part pid part)) ∙ is in
          rw (is, off) rest

  pub handed_spare : (pid : ℕ) (row : Row Object) (r : Result ℕ TableFault) (new : List Part) → IfOk r (λ v. new ≡ change (is_part pid) (handed v row) it.parts) → OnErr r (new ≡ it.parts) → spare_at it.parts pid ≤ spare_at new pid + 1
  handed_spare pid row (Ok v) new more same = rw more (less_spare pid v pid row it.parts)
  handed_spare pid row (Err e) new more same = rw same (omega arith)

  pub hands_or_not : (pid : ℕ) (row : Row Object) (r : Result ℕ TableFault) (new : List Part) → IfOk r (λ v. new ≡ change (is_part pid) (handed v row) it.parts) → IfOk r (λ v. rows_by (record it { parts = new }) ≡ basic rows (AddsHandle pid (shown_handle (birth_of (births_of it)) (v, row))))
  hands_or_not pid row (Ok v) new more = rw more (changes.hands it is.named pid v row)
  hands_or_not pid row (Err e) new more = tt

  -- more room for handles
  pub roomed_lawful : (pid : ℕ) (new : List Part) → new ≡ change (is_part pid) (roomed (spare_at new pid)) it.parts → spare_at it.parts pid ≤ spare_at new pid → AreLawful (record it { parts = new }) calls made
  roomed_lawful pid new at more = rw at (steps.roomed_lawful it calls made is pid (spare_at new pid) single more)

  pub roomed_rows : (pid : ℕ) (new : List Part) → new ≡ change (is_part pid) (roomed (spare_at new pid)) it.parts → rows_by (record it { parts = new }) ≡ rows
  roomed_rows pid new at = ap (λ (ps : List Part). rows_by (record it { parts = ps })) at ∙ changes.rooms it is.named pid (spare_at new pid)

  -- and as much room for views
  pub roomed_views : (pid : ℕ) (new : List Part) → new ≡ change (is_part pid) (roomed (spare_at new pid)) it.parts → map view_room_of new ≡ map view_room_of it.parts
  roomed_views pid new at = ap (map view_room_of) at ∙ unseen-change view_room_of (is_part pid) (roomed (spare_at new pid)) (λ part. refl) it.parts

  pub roomed_others : (pid : ℕ) (new : List Part) → new ≡ change (is_part pid) (roomed (spare_at new pid)) it.parts → (other : ℕ) → (other == pid) ≡ false → spare_at new other ≡ spare_at it.parts other
  roomed_others pid new at other off = ap (λ (ps : List Part). spare_at ps other) at ∙ ap spare_in (first_other (roomed (spare_at new pid)) (λ part. refl) it.parts pid other off)

  pub roomed_spare : (pid : ℕ) (new : List Part) → new ≡ change (is_part pid) (roomed (spare_at new pid)) it.parts → spare_at it.parts pid ≤ spare_at new pid → (other : ℕ) → spare_at it.parts other ≤ spare_at new other
  roomed_spare pid new at more other =
      elim (other == pid) as (λ b. (other == pid) ≡ b → spare_at it.parts other ≤ spare_at new other) [
        | true ↦ λ here. let P : ℕ → Type 0 = λ n. spare_at it.parts n ≤ spare_at new n in subst P (sym (eqb-true other pid here)) more
        | false ↦ λ off.
            let same = roomed_others pid new at other off in
            omega (arith, same)
      ] refl

  -- a process has room for a handle beside those that are promised
  pub welcome : (pid : ℕ) → has (is_table pid) rows.handles ≡ true → handle_load rows pid < 256 → kept.owed_handles rows pid < kept.room_in (first (is_room pid) (map room_of_part it.parts)) → IsWelcome rows.waits rows.handles it.parts pid
  welcome pid there load room = record { place = rw (← room_at it.parts pid) room; load = load; table = there }

  -- how many of a process's threads wait in a connect
  pub promised_are : (pid : ℕ) → kept.owed_handles rows pid ≡ count (waits.is_connect_of pid) it.waits.rows
  promised_are pid = connects_shown (birth_of (births_of it)) pid it.waits.rows

  pub load_bound : (pid : ℕ) → has (is_table pid) rows.handles ≡ true → handle_load rows pid ≤ 256
  load_bound pid there = by_first (first (is_table pid) rows.handles) refl
    where
      le-of : (a b : ℕ) → nat_le a b ≡ true → a ≤ b
      le-of a b h = grind (arith, nat_tests)

      by_first : (o : Option model.HandleTable) → first (is_table pid) rows.handles ≡ o → handle_load rows pid ≤ 256
      by_first None at = let no : has (is_table pid) rows.handles ≡ false = ap is_some at in absurd (cc)
      by_first (Some t) at =
          let own : t.process ≡ pid = eqb-true t.process pid (first-passes (is_table pid) rows.handles t at) in
          let long : length (handles_of rows pid) ≡ length t.rows = ap (λ o. length (found.rows_in o)) at in
          let bound : length t.rows + count (is_connect_of t.process) rows.waits ≤ 256 = le-of _ _ (every-first (is_within rows.waits) (is_table pid) rows.handles t is.promised.loads at) in
          let P : ℕ → Type 0 = λ n. length t.rows + count (is_connect_of n) rows.waits ≤ 256 in
          let here = subst P own bound in
          omega (arith, long, here)

  -- a wait that begins isn't accepted
  pub fresh_taken : (tid : ℕ) (x : Wait) → is_taken (shown_wait (birth_of (births_of it)) (record { thread = tid; wait = x; message = record { items = [] }; offer = None; accepted = None })) ≡ true
  fresh_taken tid x = by_kind x.kind
    where
      by_kind : (kind : WaitKind) → is_taken (shown_wait (birth_of (births_of it)) (record { thread = tid; wait = record x { kind = kind }; message = record { items = [] }; offer = None; accepted = None })) ≡ true
      by_kind wait.Request = refl
      by_kind wait.Receive = refl
      by_kind wait.Listen = refl
      by_kind wait.Connect = refl
      by_kind (wait.Event r) = refl
