-- A connect offers a part of a section, or nothing: the tables' new rows are those that the definitions have then, and stay
-- lawful.
use Rattle.std.proofs.Common.{◌≡◌, ℕ, List, true, length, Option, Some, None, option_map, refl, ap, sym, ◌∙◌, subst, arith}
use Rattle.lpc_base.specs.declared.birth.Birth.{Birth}
use Rattle.lpc_base.specs.Rows.{change, every}
use Rattle.lpc_base.proofs.RowWords.{length-change}
use Rattle.lpc_homes.specs.declared.object.Object.{Object}
use Rattle.lpc_model.specs.Found.{is_accepted, is_connect, waits_as}
use Rattle.lpc_model.specs.World as model
use Rattle.lpc_model.specs.World.{MessageRow, World}
use Rattle.lpc_waits.specs.Table as waits
use Rattle.lpc_waits.specs.declared.Accepted.{Accepted}
use Rattle.lpc_waits.specs.declared.Offer.{Offer}
use Rattle.lpc_waits.specs.declared.WaitKind.{WaitKind}
use Rattle.lpc_waits.specs.declared.WaitKind.TheVariants as wait
use Rattle.lpc_waits.specs.Table.{WaitingThread}
use Rattle.lpc_rows.specs.Kept.{Roomy, goes_once, goes_twice, is_pending, owed_rows, room_by, rows_by}
use Rattle.lpc_rows.specs.Lawful.{AreLawful, IsPromised, is_quiet}
use Rattle.lpc_rows.specs.Names.{some_stands}
use Rattle.lpc_rows.specs.Shown.{Births, Tables, birth_of, births_of, object_stands, section_in, shown_offer, shown_wait, wait_refs, with_offer}
use Rattle.lpc_rows.proofs.Marked as marked
use Rattle.lpc_rows.proofs.Changes as changes
use Rattle.lpc_rows.proofs.Drawn as drawn
use Rattle.lpc_rows.proofs.Lawful.{lawful-keep, owed-kept}
use Rattle.lpc_rows.proofs.Promised as promised
use Rattle.lpc_rows.proofs.Rooms as rooms

-- what a wait is, stays where its connect offers something
connect_kept : (o : Option model.Offer) (x : model.WaitRow) → is_connect (with_offer o x) ≡ is_connect x
connect_kept o x = by x.kind
  where
    by : (kind : model.WaitKind) → let old : model.WaitRow = record x { kind = kind } in is_connect (with_offer o old) ≡ is_connect old
    by (model.Request m) = refl
    by model.Receive = refl
    by model.Listen = refl
    by (model.Connect m old) = refl
    by (model.Accepted m a) = refl
    by (model.Event r) = refl

accepted_kept : (o : Option model.Offer) (x : model.WaitRow) → is_accepted (with_offer o x) ≡ is_accepted x
accepted_kept o x = by x.kind
  where
    by : (kind : model.WaitKind) → let old : model.WaitRow = record x { kind = kind } in is_accepted (with_offer o old) ≡ is_accepted old
    by (model.Request m) = refl
    by model.Receive = refl
    by model.Listen = refl
    by (model.Connect m old) = refl
    by (model.Accepted m a) = refl
    by (model.Event r) = refl

pending_kept : (o : Option model.Offer) (x : model.WaitRow) → is_pending (with_offer o x) ≡ is_pending x
pending_kept o x = by x.kind
  where
    by : (kind : model.WaitKind) → let old : model.WaitRow = record x { kind = kind } in is_pending (with_offer o old) ≡ is_pending old
    by (model.Request m) = refl
    by model.Receive = refl
    by model.Listen = refl
    by (model.Connect m old) = refl
    by (model.Accepted m a) = refl
    by (model.Event r) = refl

quiet_kept : (o : Option model.Offer) (ms : List MessageRow) (x : model.WaitRow) → is_quiet ms (with_offer o x) ≡ is_quiet ms x
quiet_kept o ms x = by x.kind
  where
    by : (kind : model.WaitKind) → let old : model.WaitRow = record x { kind = kind } in is_quiet ms (with_offer o old) ≡ is_quiet ms old
    by (model.Request m) = refl
    by model.Receive = refl
    by model.Listen = refl
    by (model.Connect m old) = refl
    by (model.Accepted m a) = refl
    by (model.Event r) = refl

twice_kept : (o : Option model.Offer) (x : model.WaitRow) → goes_twice (with_offer o x) ≡ goes_twice x
twice_kept o x = by x.kind
  where
    by : (kind : model.WaitKind) → let old : model.WaitRow = record x { kind = kind } in goes_twice (with_offer o old) ≡ goes_twice old
    by (model.Request m) = refl
    by model.Receive = refl
    by model.Listen = refl
    by (model.Connect m old) = refl
    by (model.Accepted m a) = refl
    by (model.Event r) = refl

once_kept : (o : Option model.Offer) (x : model.WaitRow) → goes_once (with_offer o x) ≡ goes_once x
once_kept o x = by x.kind
  where
    by : (kind : model.WaitKind) → let old : model.WaitRow = record x { kind = kind } in goes_once (with_offer o old) ≡ goes_once old
    by (model.Request m) = refl
    by model.Receive = refl
    by model.Listen = refl
    by (model.Connect m old) = refl
    by (model.Accepted m a) = refl
    by (model.Event r) = refl

module _ (it : Tables) (calls made who : ℕ) (is : AreLawful it calls made) (offer : Option Offer) where
  abbrev n : Births
  n = births_of it

  abbrev f : Object → Birth
  f = birth_of n

  abbrev rows : World
  rows = rows_by it

  abbrev shown : Option model.Offer
  shown = option_map (shown_offer f) offer

  abbrev after : Tables
  after = record it { waits = record it.waits { rows = change (waits.is_of who) (waits.with_offer offer) it.waits.rows } }

  offers_row : (row : WaitingThread) → shown_wait f (waits.with_offer offer row) ≡ with_offer shown (shown_wait f row)
  offers_row row = by row.wait.kind row.accepted
    where
      by : (kind : WaitKind) (a : Option Accepted) → let old : WaitingThread = record row { wait = record row.wait { kind = kind }; accepted = a } in shown_wait f (waits.with_offer offer old) ≡ with_offer shown (shown_wait f old)
      by wait.Request a = refl
      by wait.Receive a = refl
      by wait.Listen a = refl
      by wait.Connect None = refl
      by wait.Connect (Some a) = refl
      by (wait.Event r) a = refl

  pub offers : rows_by after ≡ record rows { waits = change (waits_as who) (with_offer shown) rows.waits }
  offers = changes.waits_change it is.named who it.waits.spare it.waits.made (waits.with_offer offer) (with_offer shown) offers_row

  -- the section that is offered stands
  module _ (there : some_stands n.sections (option_map (λ o. o.section) offer) ≡ true) where
    section_stands : (o : Option Offer) → some_stands n.sections (option_map (λ (x : Offer). x.section) o) ≡ true → every (object_stands n) (section_in o) ≡ true
    section_stands None there = refl
    section_stands (Some o) there = rw there refl

    refs_stand : (row : WaitingThread) → every (object_stands n) (wait_refs row) ≡ true → every (object_stands n) (wait_refs (waits.with_offer offer row)) ≡ true
    refs_stand row all = by row.wait.kind row.accepted all
      where
        by : (kind : WaitKind) (a : Option Accepted) → let old : WaitingThread = record row { wait = record row.wait { kind = kind }; accepted = a } in every (object_stands n) (wait_refs old) ≡ true → every (object_stands n) (wait_refs (waits.with_offer offer old)) ≡ true
        by wait.Request a all = all
        by wait.Receive a all = all
        by wait.Listen a all = all
        by wait.Connect None all = let section = section_stands offer there in grind (arith, section)
        by wait.Connect (Some a) all = all
        by (wait.Event r) a all = all

    pub offered_lawful : AreLawful after calls made
    offered_lawful = record {
      named = changes.waiting it is.named who it.waits.spare it.waits.made (waits.with_offer offer) refs_stand;
      lawful = rw offers (lawful-keep rows calls made it.waits.spare it.ports.message_room who (with_offer shown) (λ x. refl) (pending_kept shown) (quiet_kept shown rows.messages) (twice_kept shown) (once_kept shown) is.lawful);
      counted = record { ports_made = is.counted.ports_made; messages_made = is.counted.messages_made; waits_made = is.counted.waits_made; tokens_made = is.counted.tokens_made };
      registered = is.registered;
      heard = is.heard;
      marked = marked.marked-change it.procs.threads it.waits.rows it.ports.messages it.marks who (waits.with_offer offer) (λ x. refl) (λ x. refl) is.marked;
      mapped = is.mapped;
      headed = is.headed;
      drawn = drawn.same-drawn rows _ refl refl refl refl refl is.drawn;
      born = is.born;
      promised = subst (λ (v : World). IsPromised v.waits v.handles it.parts) (sym offers) (promised.wait-stays rows.waits rows.handles it.parts is.promised (waits_as who) (with_offer shown) (connect_kept shown) (λ x. refl) (promised.kept-taken who (with_offer shown) (accepted_kept shown) (λ x. refl) rows.waits is.promised.taken));
    }

  pub offered_owed : owed_rows (rows_by after) ≡ owed_rows rows
  offered_owed = let is_step = ap owed_rows offers in let same = owed-kept who (with_offer shown) (twice_kept shown) (once_kept shown) rows.waits in omega (arith, is_step, same)

  pub offered_room : (places : ℕ) → Roomy (room_by rows it places) (room_by (rows_by after) after places)
  offered_room places =
      let waiting = rows_by after in
      rooms.room_keep _ _ _ _ _ _ _ _ _ _ _ rows _ waiting.waits (ap (λ (v : World). length v.waits) offers ∙ length-change (waits_as who) (with_offer shown) rows.waits)
