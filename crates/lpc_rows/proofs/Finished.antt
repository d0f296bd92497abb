-- A connect that is completed: the handle that was promised to it is given, and its wait ends.
use Rattle.lpc_rows.proofs.Lawful.{owed-left}
use Rattle.std.proofs.Common.{◌≡◌, ℕ, ◌+◌, ◌*◌, ◌<◌, ◌≤◌, List, true, false, cond, not, ◌&&◌, ◌||◌, ◌==◌, length, Option, Some, None, refl, ap, sym, subst, ◌∙◌, arith, Bool}
use Rattle.std.specs.Prelude.{IfSome, is_some}
use Rattle.std.proofs.lemmas.Bool.{eqb-true}
use Rattle.std.proofs.lemmas.Bool.Decides.{nat_tests}
use Rattle.lpc_base.specs.Rows.{change, first, has, without}
use Rattle.lpc_base.proofs.RowMaps.{every-first}
use Rattle.lpc_base.proofs.RowWords.{first-passes}
use Rattle.lpc_handles.specs.declared.table.Row.{Row}
use Rattle.lpc_model.specs.World as model
use Rattle.lpc_model.specs.World.{World}
use Rattle.lpc_model.specs.Basics.{AddsHandle, basic, left_by}
use Rattle.lpc_model.specs.Found.{handles_of, is_accepted, is_connect, is_table, is_taken, wait_of, waits_as}
use Rattle.lpc_model.specs.Tests.{is_connect_of}
use Rattle.lpc_waits.specs.Table as waits
use Rattle.lpc_waits.specs.Table.{WaitTable}
use Rattle.lpc_rows.specs.Kept.{has_queued, is_pending_in, owed_rows, rows_by}
use Rattle.lpc_rows.specs.Lawful.{AreLawful, IsPromised}
use Rattle.lpc_homes.specs.Parts.{handed, is_part, rows_at, spare_at}
use Rattle.lpc_rows.specs.Ready.{wait_in, waiter}
use Rattle.lpc_rows.specs.Shown.{AreNamed, Births, Tables, birth_of, births_of, object_stands, shown_handle, without_mark}
use Rattle.lpc_homes.specs.declared.object.Object.{Object}
use Rattle.lpc_homes.specs.declared.parts.Part.{Part}
use Rattle.lpc_rows.proofs.Marked as marked
use Rattle.lpc_rows.proofs.Changes as changes
use Rattle.lpc_rows.proofs.Drawn as drawn
use Rattle.lpc_rows.proofs.Lawful as lawful
use Rattle.lpc_rows.proofs.Owed.{owed-handle}
use Rattle.lpc_rows.proofs.Promised as promised
use Rattle.lpc_rows.proofs.Promised.{IsKept}
use Rattle.lpc_rows.proofs.Steps as steps
use Rattle.lpc_rows.proofs.Tables as tables

-- the wait of a thread that waits
pub found-waiter : (w : World) (tid : ℕ) → has (waits_as tid) w.waits ≡ true → first (waits_as tid) w.waits ≡ Some (waiter w tid)
unfolding waiter
found-waiter w tid there = by_wait (wait_of w tid) refl there
  where
    by_wait : (o : Option model.WaitRow) → wait_of w tid ≡ o → is_some o ≡ true → first (waits_as tid) w.waits ≡ Some (wait_in (wait_of w tid))
    by_wait None at h = absurd (cc)
    by_wait (Some x) at h = at ∙ ap (λ o. Some (wait_in o)) (sym at)

-- and it is the thread's
pub own-waiter : (w : World) (tid : ℕ) → has (waits_as tid) w.waits ≡ true → (let x = waiter w tid in x.thread ≡ tid)
own-waiter w tid there = let x = waiter w tid in eqb-true x.thread tid (first-passes (waits_as tid) w.waits x (found-waiter w tid there))

of-process : (x : model.WaitRow) (pid : ℕ) → is_connect x ≡ true → x.process ≡ pid → is_connect_of pid x ≡ true
of-process x pid connect own = ap (λ b. b && (x.process == pid)) connect ∙ ap (λ n. n == pid) own ∙ grind (arith, nat_tests)

module _ (it : Tables) (calls made : ℕ) (is : AreLawful it calls made) (tid pid : ℕ) (there : has (waits_as tid) (rows_by it).waits ≡ true) (connect : is_connect (waiter (rows_by it) tid) ≡ true) (own : let x = waiter (rows_by it) tid in x.process ≡ pid) where
  abbrev n : Births
  n = births_of it

  abbrev rows : World
  rows = rows_by it

  found : first (waits_as tid) rows.waits ≡ Some (waiter rows tid)
  found = found-waiter rows tid there

  mine : is_connect_of pid (waiter rows tid) ≡ true
  mine = of-process (waiter rows tid) pid connect own

  promise : IsKept rows.handles it.parts pid
  promise = promised.promise-kept rows.waits rows.handles it.parts tid pid (waiter rows tid) is.promised is.lawful.single found mine

  -- the place of the handle is there
  pub has_part : has (is_part pid) it.parts ≡ true
  has_part = sym (tables.has_table it calls made is pid) ∙ promise.table

  pub some_place : 0 < spare_at it.parts pid
  some_place = promise.place has_part

  pub few_handles : length (rows_at it.parts pid) < 256
  few_handles = let few = promise.few in let same : length (handles_of rows pid) ≡ length (rows_at it.parts pid) = tables.handle_number it calls made is pid in omega (arith, few, same)

  -- the tables behind it
  module _ (value : ℕ) (row : Row Object) (object : object_stands n row.object ≡ true) where
    abbrev less : WaitTable
    less = record { rows = without (waits.is_of tid) it.waits.rows; spare = cond (has (waits.is_of tid) it.waits.rows) (it.waits.spare + 1) it.waits.spare; made = it.waits.made }

    abbrev more : List Part
    more = change (is_part pid) (handed value row) it.parts

    abbrev given : Tables
    given = record it { parts = more }

    abbrev after : Tables
    after = record it { parts = more; waits = less; marks = without_mark tid it.marks }

    named_given : AreNamed n given
    named_given = changes.handed_named it is.named pid value row object

    abbrev left : World → World
    left v = left_by tid v

    pub rows_after : rows_by after ≡ left_by tid (basic rows (AddsHandle pid (shown_handle (birth_of n) (value, row))))
    rows_after = changes.ends given named_given tid less.spare less.made ∙ ap left (changes.hands it is.named pid value row)

    pub finished : has_queued rows tid ≡ false → made + owed_rows rows < 16 * calls → AreLawful after calls made
    finished none lt = record {
      named = changes.ended given named_given tid less.spare less.made (without_mark tid it.marks);
      lawful = rw (rows_after, ← steps.has_wait it calls made is tid) (lawful.lawful-end (record rows { handles = change (is_table pid) _ rows.handles }) calls made it.waits.spare it.ports.message_room tid (lawful.lawful-handle rows calls made it.waits.spare it.ports.message_room pid (shown_handle (birth_of n) (value, row)) is.lawful lt (steps.single_object it calls made is row.object)) none);
      counted = record { ports_made = is.counted.ports_made; messages_made = is.counted.messages_made; waits_made = is.counted.waits_made; tokens_made = is.counted.tokens_made };
      registered = is.registered;
      heard = is.heard;
      marked = marked.marked-end it.procs.threads it.waits.rows it.ports.messages it.marks tid is.marked;
      mapped = steps.change_mapped it.sections it.parts made pid (handed value row) (λ part. refl) is.mapped;
      headed = is.headed;
      drawn = drawn.same-drawn rows _ refl refl refl refl refl is.drawn;
      born = is.born;
      promised = subst (λ (v : World). IsPromised v.waits v.handles more) (sym rows_after) (promised.connect-finishes rows.waits rows.handles it.parts tid pid value (shown_handle (birth_of n) (value, row)) row (waiter rows tid) is.promised is.lawful.single found mine);
    }

    -- and one row more is owed at most
    pub finished_owed : owed_rows (rows_by after) ≤ owed_rows rows + 1
    finished_owed = let less = ap owed_rows rows_after in let gone = owed-left (waits_as tid) rows.waits in omega (arith, less, gone, owed-handle rows pid (shown_handle (birth_of n) (value, row)) (steps.single_object it calls made is row.object))

-- a connect that is accepted was received, so it isn't pending
module _ (it : Tables) (calls made : ℕ) (is : AreLawful it calls made) where
  abbrev all : World
  all = rows_by it

  pub accepted-received : (tid : ℕ) → has (waits_as tid) all.waits ≡ true → is_accepted (waiter all tid) ≡ true → let x = waiter all tid in x.received ≡ true
  accepted-received tid there accepted = second (is_accepted (waiter all tid)) _ (every-first is_taken (waits_as tid) all.waits (waiter all tid) is.promised.taken (found-waiter all tid there)) accepted
    where
      second : (a b : Bool) → not a || b ≡ true → a ≡ true → b ≡ true
      second true b h e = h
      second false b h e = absurd (cc)

  pub idle-accepted : (r : Option ℕ) → IfSome r (λ tid. has (waits_as tid) all.waits ≡ true) → IfSome r (λ tid. is_accepted (waiter all tid) ≡ true)
      → IfSome r (λ tid. (let x = waiter all tid in x.received ≡ true) → is_pending_in all tid ≡ false) → IfSome r (λ tid. is_pending_in all tid ≡ false)
  idle-accepted None there accepted idle = tt
  idle-accepted (Some tid) there accepted idle = idle (accepted-received tid there accepted)
