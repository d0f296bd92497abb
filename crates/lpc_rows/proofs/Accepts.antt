-- A connect is accepted: the tables' new rows are the step of the rows that they stood for, and stay lawful.
use Rattle.std.proofs.Common.{◌≡◌, ℕ, List, [], ◌∷◌, Bool, true, false, not, ◌&&◌, ◌==◌, map, length, Option, Some, None, refl, ap, sym, ◌∙◌, arith, subst}
use Rattle.std.specs.Prelude.{IfNone, IfSome}
use Rattle.std.proofs.lemmas.Bool.{eqb-true}
use Rattle.lpc_base.specs.declared.birth.Birth.{Birth}
use Rattle.lpc_base.specs.Rows.{change, every, first, has}
use Rattle.lpc_base.proofs.RowMaps.{every-map}
use Rattle.lpc_model.specs.Basics as basics
use Rattle.lpc_model.specs.Basics.{Accepts, basic}
use Rattle.lpc_model.specs.Found.{is_accepted, waits_as, is_connect}
use Rattle.lpc_model.specs.World as model
use Rattle.lpc_model.specs.World.{MessageRow, World}
use Rattle.lpc_waits.specs.Table as waits
use Rattle.lpc_waits.specs.declared.Accepted.{Accepted}
use Rattle.lpc_waits.specs.declared.WaitKind.{WaitKind}
use Rattle.lpc_waits.specs.declared.WaitKind.TheVariants as wait
use Rattle.lpc_waits.specs.Table.{WaitingThread}
use Rattle.lpc_rows.specs.Kept.{Roomy, StaysReady, StaysUnqueued, goes_once, goes_twice, is_pending, owed_rows, room_by, rows_by}
use Rattle.lpc_rows.specs.Lawful.{AreLawful, IsLawful, are_single, is_quiet, IsPromised}
use Rattle.lpc_rows.specs.Ready.{wait_in, waiter}
use Rattle.lpc_rows.specs.Shown.{Tables, birth_of, births_of, object_stands, section_in, shown_acceptance, shown_wait, wait_refs}
use Rattle.lpc_homes.specs.declared.object.Object.{Object}
use Rattle.lpc_homes.specs.declared.object.Object.TheVariants as object
use Rattle.lpc_rows.proofs.Marked as marked
use Rattle.lpc_rows.proofs.Changes as changes
use Rattle.lpc_rows.proofs.Drawn as drawn
use Rattle.lpc_rows.proofs.Finished.{found-waiter}
use Rattle.lpc_rows.proofs.Lawful.{lawful-keep, owed-kept}
use Rattle.lpc_rows.proofs.Promised as promised
use Rattle.lpc_rows.proofs.Readings.{first_two}
use Rattle.lpc_rows.proofs.Rooms as rooms

-- shown rows of which some are changed
module _ {X Y : Type 0} (g : X → Y) (s : X → Bool) (h : X → X) where
  pub changed-follows : (ok : X → Bool) (t : Y → Bool) (k : Y → Y) → ((x : X) → t (g x) ≡ s x) → ((x : X) → ok x ≡ true → s x ≡ true → g (h x) ≡ k (g x)) → (xs : List X) → every ok xs ≡ true → map g (change s h xs) ≡ change t k (map g xs)
  changed-follows ok t k tests same [] all = refl
  changed-follows ok t k tests same (x ∷ xs) all = grind (arith, tests x, same x, changed-follows ok t k tests same xs)

  pub changed-unseen : (ok : X → Bool) → ((x : X) → ok x ≡ true → s x ≡ true → g (h x) ≡ g x) → (xs : List X) → every ok xs ≡ true → map g (change s h xs) ≡ map g xs
  changed-unseen ok same [] all = refl
  changed-unseen ok same (x ∷ xs) all = grind (arith, same x, changed-unseen ok same xs)

  pub has-changed : (p : Y → Bool) → ((x : X) → p (g (h x)) ≡ p (g x)) → (xs : List X) → has p (map g (change s h xs)) ≡ has p (map g xs)
  has-changed p same [] = refl
  has-changed p same (x ∷ xs) = grind (arith, same x, has-changed p same xs)

  pub length-changed : (xs : List X) → length (map g (change s h xs)) ≡ length (map g xs)
  length-changed [] = refl
  length-changed (x ∷ xs) = grind (arith, length-changed xs)

-- the thread's wait, which it has once, isn't accepted
abbrev isnt_accepted_for : ℕ → model.WaitRow → Bool
isnt_accepted_for who x = not (waits_as who x && is_accepted x)

none_accepted : (who : ℕ) (xs : List model.WaitRow) → are_single xs ≡ true → is_accepted (wait_in (first (waits_as who) xs)) ≡ false → every (isnt_accepted_for who) xs ≡ true
none_accepted who [] one off = refl
none_accepted who (x ∷ xs) one off =
    elim (x.thread == who) as (λ b. (x.thread == who) ≡ b → every (isnt_accepted_for who) (x ∷ xs) ≡ true) [
      | true ↦ λ here.
          let own : x.thread ≡ who = eqb-true x.thread who here in
          let none : has (waits_as who) xs ≡ false = rw (← own) (grind arith) in
          grind (arith, elsewhere xs none)
      | false ↦ λ there. grind (arith, none_accepted who xs)
    ] refl
  where
    elsewhere : (ys : List model.WaitRow) → has (waits_as who) ys ≡ false → every (isnt_accepted_for who) ys ≡ true
    elsewhere [] none = refl
    elsewhere (y ∷ ys) none = grind (arith, elsewhere ys)

-- a row that is accepted, or isn't, as it is shown
module _ (f : Object → Birth) where
  accepts_row : (a : Accepted) (row : WaitingThread) → is_accepted (shown_wait f row) ≡ false → shown_wait f (waits.with_accepted (Some a) row) ≡ basics.accepted (shown_acceptance a) (shown_wait f row)
  accepts_row a row off = by row.wait.kind row.accepted off
    where
      by : (kind : WaitKind) (old : Option Accepted) → let before : WaitingThread = record row { wait = record row.wait { kind = kind }; accepted = old } in is_accepted (shown_wait f before) ≡ false → shown_wait f (waits.with_accepted (Some a) before) ≡ basics.accepted (shown_acceptance a) (shown_wait f before)
      by wait.Request old off = refl
      by wait.Receive old off = refl
      by wait.Listen old off = refl
      by wait.Connect None off = refl
      by wait.Connect (Some b) off = absurd (cc)
      by (wait.Event r) old off = refl

  leaves_row : (row : WaitingThread) → is_accepted (shown_wait f row) ≡ false → shown_wait f (waits.with_accepted None row) ≡ shown_wait f row
  leaves_row row off = by row.wait.kind row.accepted off
    where
      by : (kind : WaitKind) (old : Option Accepted) → let before : WaitingThread = record row { wait = record row.wait { kind = kind }; accepted = old } in is_accepted (shown_wait f before) ≡ false → shown_wait f (waits.with_accepted None before) ≡ shown_wait f before
      by wait.Request old off = refl
      by wait.Receive old off = refl
      by wait.Listen old off = refl
      by wait.Connect None off = refl
      by wait.Connect (Some b) off = absurd (cc)
      by (wait.Event r) old off = refl

  -- what it names stood
  accepted_refs : (ok : Object → Bool) (new : Option Accepted) (row : WaitingThread) → is_accepted (shown_wait f row) ≡ false → every ok (wait_refs row) ≡ true → every ok (wait_refs (waits.with_accepted new row)) ≡ true
  accepted_refs ok new row off all = by row.wait.kind row.accepted new off all
    where
      by : (kind : WaitKind) (old now : Option Accepted) → let before : WaitingThread = record row { wait = record row.wait { kind = kind }; accepted = old } in is_accepted (shown_wait f before) ≡ false → every ok (wait_refs before) ≡ true → every ok (wait_refs (waits.with_accepted now before)) ≡ true
      by wait.Request old now off all = all
      by wait.Receive old now off all = all
      by wait.Listen old now off all = all
      by wait.Connect None None off all = all
      by wait.Connect None (Some a) off all = first_two ok (object.Port row.wait.port) (object.Port row.wait.queue) (section_in row.offer) all
      by wait.Connect (Some b) now off all = absurd (cc)
      by (wait.Event r) old now off all = all

-- and as the definitions have it
accepted_pends : (a : model.Acceptance) (x : model.WaitRow) → is_pending (basics.accepted a x) ≡ is_pending x
accepted_pends a x = by x.kind
  where
    by : (kind : model.WaitKind) → let old : model.WaitRow = record x { kind = kind } in is_pending (basics.accepted a old) ≡ is_pending old
    by (model.Request m) = refl
    by model.Receive = refl
    by model.Listen = refl
    by (model.Connect m offer) = refl
    by (model.Accepted m other) = refl
    by (model.Event r) = refl

accepted_twice : (a : model.Acceptance) (x : model.WaitRow) → goes_twice (basics.accepted a x) ≡ goes_twice x
accepted_twice a x = by x.kind
  where
    by : (kind : model.WaitKind) → let old : model.WaitRow = record x { kind = kind } in goes_twice (basics.accepted a old) ≡ goes_twice old
    by (model.Request m) = refl
    by model.Receive = refl
    by model.Listen = refl
    by (model.Connect m offer) = refl
    by (model.Accepted m other) = refl
    by (model.Event r) = refl

accepted_once : (a : model.Acceptance) (x : model.WaitRow) → goes_once (basics.accepted a x) ≡ goes_once x
accepted_once a x = by x.kind
  where
    by : (kind : model.WaitKind) → let old : model.WaitRow = record x { kind = kind } in goes_once (basics.accepted a old) ≡ goes_once old
    by (model.Request m) = refl
    by model.Receive = refl
    by model.Listen = refl
    by (model.Connect m offer) = refl
    by (model.Accepted m other) = refl
    by (model.Event r) = refl

accepted_quiet : (a : model.Acceptance) (ms : List MessageRow) (x : model.WaitRow) → is_quiet ms (basics.accepted a x) ≡ is_quiet ms x
accepted_quiet a ms x = by x.kind
  where
    by : (kind : model.WaitKind) → let old : model.WaitRow = record x { kind = kind } in is_quiet ms (basics.accepted a old) ≡ is_quiet ms old
    by (model.Request m) = refl
    by model.Receive = refl
    by model.Listen = refl
    by (model.Connect m offer) = refl
    by (model.Accepted m other) = refl
    by (model.Event r) = refl

module _ (it : Tables) (calls made who : ℕ) (is : AreLawful it calls made) where
  abbrev f : Object → Birth
  f = birth_of (births_of it)

  abbrev rows : World
  rows = rows_by it

  abbrev after : Option Accepted → Tables
  after new = record it { waits = record it.waits { rows = change (waits.is_of who) (waits.with_accepted new) it.waits.rows } }

  abbrev offers : WaitingThread → Bool
  offers row = isnt_accepted_for who (shown_wait f row)

  offer_is : (row : WaitingThread) → offers row ≡ true → waits.is_of who row ≡ true → is_accepted (shown_wait f row) ≡ false
  offer_is row one own = by (is_accepted (shown_wait f row)) (waits.is_of who row) one own
    where
      by : (a b : Bool) → not (b && a) ≡ true → b ≡ true → a ≡ false
      by false b one own = refl
      by true false one own = absurd (cc)
      by true true one own = absurd (cc)

  module _ (off : is_accepted (waiter rows who) ≡ false) where
    none_yet : every offers it.waits.rows ≡ true
    unfolding waiter
    none_yet = sym (every-map (isnt_accepted_for who) (shown_wait f) it.waits.rows) ∙ none_accepted who rows.waits is.lawful.single off

    pub accepts : (a : Accepted) → rows_by (after (Some a)) ≡ basic rows (Accepts who (shown_acceptance a))
    accepts a =
        ap (λ xs. record rows { waits = xs })
        (changed-follows (shown_wait f) (waits.is_of who) (waits.with_accepted (Some a)) offers (waits_as who) (basics.accepted (shown_acceptance a)) (λ row. refl)
        (λ row one own. accepts_row f a row (offer_is row one own)) it.waits.rows none_yet)

    pub leaves : rows_by (after None) ≡ rows
    leaves =
        ap (λ xs. record rows { waits = xs })
        (changed-unseen (shown_wait f) (waits.is_of who) (waits.with_accepted None) offers (λ row one own. leaves_row f row (offer_is row one own)) it.waits.rows none_yet)

    pub accepts_if : (new : Option Accepted) → IfSome new (λ a. rows_by (after new) ≡ basic rows (Accepts who (shown_acceptance a)))
    accepts_if None = tt
    accepts_if (Some a) = accepts a

    pub leaves_if : (new : Option Accepted) → IfNone new (rows_by (after new) ≡ rows)
    leaves_if None = leaves
    leaves_if (Some a) = tt

    rows_lawful : (new : Option Accepted) → IsLawful (rows_by (after new)) calls made it.waits.spare it.ports.message_room
    rows_lawful None = rw leaves is.lawful
    rows_lawful (Some a) = rw (accepts a) (lawful-keep rows calls made it.waits.spare it.ports.message_room who (basics.accepted (shown_acceptance a)) (λ x. refl) (accepted_pends (shown_acceptance a)) (accepted_quiet (shown_acceptance a) rows.messages) (accepted_twice (shown_acceptance a)) (accepted_once (shown_acceptance a)) is.lawful)

    accepted_connect : (a : model.Acceptance) (x : model.WaitRow) → is_connect (basics.accepted a x) ≡ is_connect x
    accepted_connect a x = by_kind x.kind
      where
        by_kind : (kind : model.WaitKind) → let old : model.WaitRow = record x { kind = kind } in is_connect (basics.accepted a old) ≡ is_connect old
        by_kind (model.Request m) = refl
        by_kind model.Receive = refl
        by_kind model.Listen = refl
        by_kind (model.Connect m offer) = refl
        by_kind (model.Accepted m other) = refl
        by_kind (model.Event r) = refl

    rows_promised : (new : Option Accepted) → (let x = waiter rows who in x.received ≡ true) → has (waits_as who) rows.waits ≡ true → IsPromised (rows_by (after new)).waits (rows_by (after new)).handles it.parts
    rows_promised None took there = subst (λ (v : World). IsPromised v.waits v.handles it.parts) (sym leaves) is.promised
    rows_promised (Some a) took there = subst (λ (v : World). IsPromised v.waits v.handles it.parts) (sym (accepts a)) (promised.wait-stays rows.waits rows.handles it.parts is.promised (waits_as who) (basics.accepted (shown_acceptance a)) (accepted_connect (shown_acceptance a)) (λ x. refl) (promised.accepted-taken who (basics.accepted (shown_acceptance a)) (λ x. refl) rows.waits (waiter rows who) is.lawful.single (found-waiter rows who there) took is.promised.taken))

    pub accepted_owed : (new : Option Accepted) → owed_rows (rows_by (after new)) ≡ owed_rows rows
    accepted_owed None = ap owed_rows leaves
    accepted_owed (Some a) =
        let is_step = ap owed_rows (accepts a) in
        let same = owed-kept who (basics.accepted (shown_acceptance a)) (accepted_twice (shown_acceptance a)) (accepted_once (shown_acceptance a)) rows.waits in
        omega (arith, is_step, same)

    pub accepted_lawful : (new : Option Accepted) → (let x = waiter rows who in x.received ≡ true) → has (waits_as who) rows.waits ≡ true → AreLawful (after new) calls made
    accepted_lawful new took there = record {
      named =
          changes.waiting_if it is.named offers who it.waits.spare it.waits.made (waits.with_accepted new)
          (λ row one all own. accepted_refs f (object_stands (births_of it)) new row (offer_is row one own) all) none_yet;
      lawful = rows_lawful new;
      counted = record { ports_made = is.counted.ports_made; messages_made = is.counted.messages_made; waits_made = is.counted.waits_made; tokens_made = is.counted.tokens_made };
      registered = is.registered;
      heard = is.heard;
      marked = marked.marked-change it.procs.threads it.waits.rows it.ports.messages it.marks who (waits.with_accepted new) (λ x. refl) (λ x. refl) is.marked;
      mapped = is.mapped;
      headed = is.headed;
      drawn = drawn.same-drawn rows _ refl refl refl refl refl is.drawn;
      born = is.born;
      promised = rows_promised new took there;
    }

  -- who waits is as it was, and so are the messages
  pub accepted_unqueued : (new : Option Accepted) → StaysUnqueued rows (rows_by (after new))
  accepted_unqueued new = record { unqueued = λ tid none. none }

  pub accepted_ready : (new : Option Accepted) → StaysReady rows (rows_by (after new))
  accepted_ready new = record { ready = λ tid none. has-changed (shown_wait f) (waits.is_of who) (waits.with_accepted new) (waits_as tid) (λ row. refl) it.waits.rows ∙ none }

  pub accepted_room : (new : Option Accepted) (places : ℕ) → Roomy (room_by rows it places) (room_by (rows_by (after new)) (after new) places)
  accepted_room new places =
      let waiting = rows_by (after new) in
      rooms.room_keep _ _ _ _ _ _ _ _ _ _ _ rows _ waiting.waits
      (length-changed (shown_wait f) (waits.is_of who) (waits.with_accepted new) it.waits.rows)
