-- A thread that waits for no answer to a message which wasn't received has none in a queue.
use Rattle.std.proofs.Common.{◌≡◌, ◌+◌, ℕ, List, [], ◌∷◌, Bool, true, false, not, ◌&&◌, ◌∙◌, refl, sym, ap, subst, arith, Option, Some, None, option_map}
use Rattle.std.specs.Prelude.{is_some}
use Rattle.lpc_base.specs.Rows.{count, first, has, passes, without}
use Rattle.lpc_base.proofs.RowWords.{count-none, first-passes, without-none}
use Rattle.lpc_homes.specs.declared.object.Object.{Object}
use Rattle.lpc_base.specs.declared.birth.Birth.{Birth}
use Rattle.lpc_slots.specs.declared.Key.{Key}
use Rattle.std.proofs.lemmas.Bool.{eqb-true}
use Rattle.lpc_model.specs.World.{World}
use Rattle.lpc_model.specs.World as model
use Rattle.lpc_model.specs.Found.{waits_as}
use Rattle.lpc_model.specs.Found as found
use Rattle.lpc_ports.specs.Table.{PortTable, QueuedMessage, is_own_of, without_messages}
use Rattle.lpc_waits.specs.declared.Accepted.{Accepted}
use Rattle.lpc_waits.specs.declared.WaitKind.{WaitKind}
use Rattle.lpc_waits.specs.declared.WaitKind.TheVariants.{Connect, Event, Listen, Receive, Request}
use Rattle.lpc_waits.specs.Table.{WaitTable, WaitingThread, row_of}
use Rattle.lpc_waits.specs.Table as waits
use Rattle.lpc_rows.specs.Kept.{has_queued, is_pending, is_pending_in, pends_as, rows_by}
use Rattle.lpc_rows.specs.Lawful.{AreLawful}
use Rattle.lpc_rows.specs.Shown.{Tables, birth_of, births_of, shown_kind, shown_message, shown_offer, shown_wait}
use Rattle.lpc_rows.proofs.Finds.{idle_first}
use Rattle.lpc_rows.proofs.OwnMessages.{none-queued}
use Rattle.lpc_rows.proofs.Readings.{first-shown, has-shown}
use Rattle.lpc_rows.proofs.Readings as readings
use Rattle.lpc_world.specs.Unreceived.{HasOwnOnlyWaiting, awaits_answer, has_unreceived, is_unreceived}

-- where none of these messages stands in a queue, none leaves one
pub none-withdrawn : (test : Key × QueuedMessage → Bool) (s : PortTable) → has test s.messages ≡ false → s ≡ without_messages test s
none-withdrawn test s none =
    let same : without test s.messages ≡ s.messages = without-none test s.messages none in
    let no : count test s.messages ≡ 0 = count-none test s.messages none in
    let room : s.message_room + 0 ≡ s.message_room = omega arith in
    rw (same, no, room) refl

-- a wait for no such answer pends in no rows of the definitions
pub idle-shown : (f : Object → Birth) (row : WaitingThread) → is_unreceived row.wait ≡ false → is_pending (shown_wait f row) ≡ false
idle-shown f row = by row.wait.kind row.accepted
  where
    connect : (a : Option Accepted) → not row.wait.received ≡ false → let x : model.WaitRow = record (shown_wait f row) { kind = shown_kind Connect row.message.items (option_map (shown_offer f) row.offer) a } in is_pending x ≡ false
    connect None off = off
    connect (Some a) off = off

    by : (kind : WaitKind) (a : Option Accepted) → (awaits_answer kind && not row.wait.received) ≡ false → let x : model.WaitRow = record (shown_wait f row) { kind = shown_kind kind row.message.items (option_map (shown_offer f) row.offer) a } in is_pending x ≡ false
    by Request a off = off
    by Receive a off = refl
    by Listen a off = refl
    by Connect a off = connect a off
    by (Event r) a off = off

module _ (it : Tables) (calls made : ℕ) (is : AreLawful it calls made) (tid : ℕ) where
  abbrev rows : World
  rows = rows_by it

  idle : (o : Option WaitingThread) → row_of it.waits tid ≡ o → passes o (λ row. is_unreceived row.wait) ≡ false → is_pending_in rows tid ≡ false
  idle None at off = none-pends (readings.waits_are it is.named tid ∙ ap is_some at)
    where
      none-pends : has (waits_as tid) rows.waits ≡ false → has (pends_as tid) rows.waits ≡ false
      none-pends none = fewer rows.waits none
        where
          fewer : (xs : List model.WaitRow) → has (waits_as tid) xs ≡ false → has (pends_as tid) xs ≡ false
          fewer [] e = refl
          fewer (x ∷ xs) e = grind (arith, fewer xs)
  idle (Some row) at off =
      let f = birth_of (births_of it) in
      let here : first (waits_as tid) rows.waits ≡ Some (shown_wait f row) =
      first-shown (shown_wait f) (waits.is_of tid) (waits_as tid) (λ r. refl) it.waits.rows ∙ ap (λ o. option_map (shown_wait f) o) at in
      let own : row.thread ≡ tid = eqb-true row.thread tid (first-passes (waits.is_of tid) it.waits.rows row at) in
      subst (λ (n : ℕ). has (pends_as n) rows.waits ≡ false) own
      (idle_first (waits_as tid) rows.waits (shown_wait f row) is.lawful.single here (idle-shown f row off))

  -- so it is with the tables of a lawful world
  pub own-only-waiting : HasOwnOnlyWaiting it.ports it.waits tid
  own-only-waiting off =
      sym (has-shown (shown_message (birth_of (births_of it))) (is_own_of tid) (found.is_own_of tid) (λ row. refl) it.ports.messages)
      ∙ none-queued rows tid is.lawful.own (idle (row_of it.waits tid) refl off)
