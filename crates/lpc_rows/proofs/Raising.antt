-- The ports that are told of a process's exceptions, the code with which it is to end, and marks: what each change of them
-- leaves of the tables, and what is found of them.
use Rattle.std.proofs.Common.{◌≡◌, ◌<◌, ◌≤◌, ◌∙◌, ℕ, List, [], ◌∷◌, ◌++◌, true, false, length, Option, Some, None, option_map, option_to_list, refl, ap, sym, subst, arith}
use Rattle.std.specs.Prelude.{◌==◌, ◌&&◌}
use Rattle.std.proofs.lemmas.List.{length-map}
use Rattle.lpc_base.specs.declared.birth.Birth.{Birth}
use Rattle.lpc_base.specs.Rows.{change, count, every, has}
use Rattle.lpc_base.proofs.Births.{birth-self}
use Rattle.lpc_base.proofs.RowMaps.{change-map, count-map, has-map}
use Rattle.lpc_base.proofs.RowWords.{count-none, every-change, every-true, has_none-more, none-counted}
use Rattle.lpc_model.specs.Basics as basics
use Rattle.lpc_model.specs.Basics.{Dooms, LetsGo, Marks, SetsDebug, SetsException, basic}
use Rattle.lpc_model.specs.Found.{is_mark, is_own_of, is_process, waits_as}
use Rattle.lpc_model.specs.Settle.{has_event, is_event_of}
use Rattle.lpc_model.specs.World as model
use Rattle.lpc_model.specs.World.{World}
use Rattle.lpc_ports.specs.Table as ports
use Rattle.lpc_procs.specs.Procs as procs
use Rattle.lpc_procs.specs.Procs.{event_ports_of}
use Rattle.lpc_procs.specs.declared.rows.ProcessRow.{ProcessRow}
use Rattle.lpc_procs.specs.declared.rows.Registration.{Registration}
use Rattle.lpc_waits.specs.Table as waits
use Rattle.lpc_waits.specs.declared.Wait.{Wait}
use Rattle.lpc_waits.specs.declared.WaitKind.{WaitKind}
use Rattle.lpc_waits.specs.declared.WaitKind.TheVariants as wait
use Rattle.lpc_waits.specs.Table.{WaitingThread}
use Rattle.lpc_homes.specs.declared.object.Object.{Object}
use Rattle.lpc_rows.specs.Kept.{has_queued, is_alive, is_pending, owed_by, rows_by}
use Rattle.lpc_rows.specs.Lawful as lawful
use Rattle.lpc_rows.specs.Lawful.{AreBornIn, AreLawful, has_named_hearers, is_living, is_quiet, is_under_name}
use Rattle.lpc_rows.specs.Names.{name_of, stands}
use Rattle.lpc_rows.specs.Shown.{Births, Tables, birth_of, births_of, shown_message, shown_process, shown_thread, shown_wait, with_mark, with_places}
use Rattle.lpc_rows.proofs.Born as born
use Rattle.lpc_rows.proofs.Changes as changes
use Rattle.lpc_rows.proofs.Drawn as drawn
use Rattle.lpc_rows.proofs.Lawful.{lawful-marks, lawful-processes, lawful-room, waits-fit}
use Rattle.lpc_rows.proofs.Marked as marked
use Rattle.lpc_rows.proofs.Readings as readings

-- A wait that begins: one for something but an event owes nothing; one of an event asks, and takes nothing
abbrev begins : (Object → Birth) → ℕ → Wait → model.WaitRow
begins f tid x = shown_wait f (record { thread = tid; wait = x; message = record { items = [] }; offer = None; accepted = None })

pub owed-plain : (f : Object → Birth) (tid : ℕ) (x : Wait) → waits.is_event x.kind ≡ false → owed_by (begins f tid x) ≡ 0
owed-plain f tid x plain = by x.kind plain
  where
    by : (kind : WaitKind) → waits.is_event kind ≡ false → owed_by (begins f tid (record x { kind = kind })) ≡ 0
    by wait.Request off = refl
    by wait.Receive off = refl
    by wait.Listen off = refl
    by wait.Connect off = refl
    by (wait.Event r) off = absurd (cc)

pub event-quiet : (f : Object → Birth) (tid : ℕ) (x : Wait) (ms : List model.MessageRow) → waits.is_event x.kind ≡ true → is_quiet ms (begins f tid x) ≡ true
event-quiet f tid x ms event = by x.kind event
  where
    by : (kind : WaitKind) → waits.is_event kind ≡ true → is_quiet ms (begins f tid (record x { kind = kind })) ≡ true
    by wait.Request on = absurd (cc)
    by wait.Receive on = absurd (cc)
    by wait.Listen on = absurd (cc)
    by wait.Connect on = absurd (cc)
    by (wait.Event r) on = refl

pub event-pends : (f : Object → Birth) (tid : ℕ) (x : Wait) → waits.is_event x.kind ≡ true → x.received ≡ false → is_pending (begins f tid x) ≡ true
event-pends f tid x event new = by x.kind event
  where
    by : (kind : WaitKind) → waits.is_event kind ≡ true → is_pending (begins f tid (record x { kind = kind })) ≡ true
    by wait.Request on = absurd (cc)
    by wait.Receive on = absurd (cc)
    by wait.Listen on = absurd (cc)
    by wait.Connect on = absurd (cc)
    by (wait.Event r) on = rw new refl

pub no-connect : (kind : WaitKind) → waits.is_event kind ≡ true → waits.is_connect kind ≡ true → ⊥
no-connect wait.Connect on connects = absurd (cc)
no-connect kind on connects = absurd (cc)

module _ (it : Tables) (calls made : ℕ) (is : AreLawful it calls made) where
  abbrev n : Births
  n = births_of it

  abbrev rows : World
  rows = rows_by it

  abbrev changing : ℕ → (ProcessRow → ProcessRow) → Tables
  changing pid f = record it { procs = procs.with_process it.procs pid f }

  -- a process changes
  module _ (pid : ℕ) (f : ProcessRow → ProcessRow) (g : model.ProcessRow → model.ProcessRow) (shows : (p : ProcessRow) → shown_process (f p) ≡ g (shown_process p))
      (number : (p : model.ProcessRow) → (g p).number ≡ p.number) (birth : (p : model.ProcessRow) → (g p).birth ≡ p.birth) where
    pub changes-to : rows_by (changing pid f) ≡ record rows { processes = change (is_process pid) g rows.processes }
    changes-to = rw (change-map shown_process (λ _. true) (procs.is_process pid) (is_process pid) (λ row _. refl) f g (λ row _. shows row) it.procs.processes (every-true it.procs.processes)) refl

    pub changed-lawful : ((p : ProcessRow) → has_named_hearers n p ≡ true → has_named_hearers n (f p) ≡ true) → AreLawful (changing pid f) calls made
    changed-lawful hears = record {
      named = changes.threaded it is.named _;
      lawful = rw changes-to (lawful-processes rows calls made it.waits.spare it.ports.message_room pid g number is.lawful);
      counted = is.counted;
      registered = is.registered;
      heard = every-change (has_named_hearers n) (procs.is_process pid) f hears it.procs.processes is.heard;
      marked = is.marked;
      mapped = is.mapped;
      headed = is.headed;
      drawn = drawn.same-drawn rows _ refl refl refl refl refl is.drawn;
      born = subst AreBornIn (sym changes-to) (born.born-changed g number birth rows.processes rows.threads rows.used_processes rows.used_threads pid is.born);
      promised = is.promised;
    }

  -- its debug port is set, and its exception port
  under : (r : Registration) → stands n.ports r.port ≡ true → name_of n.ports r.port ≡ r.birth → is_under_name n r ≡ true
  under r there named = rw (there, named, birth-self r.birth) refl

  debug-heard : (r : Registration) → is_under_name n r ≡ true → (p : ProcessRow) → has_named_hearers n p ≡ true → has_named_hearers n (procs.debugged r p) ≡ true
  debug-heard r there p all = by p.debug_port p.exception_port all
    where
      by : (d e : Option Registration) → every (is_under_name n) (option_to_list d ++ option_to_list e) ≡ true → every (is_under_name n) (r ∷ option_to_list e) ≡ true
      by None e all = rw (there, all) refl
      by (Some a) e all = grind (arith, there)

  exception-heard : (r : Registration) → is_under_name n r ≡ true → (p : ProcessRow) → has_named_hearers n p ≡ true → has_named_hearers n (procs.excepted r p) ≡ true
  exception-heard r there p all = by p.debug_port p.exception_port all
    where
      by : (d e : Option Registration) → every (is_under_name n) (option_to_list d ++ option_to_list e) ≡ true → every (is_under_name n) (option_to_list d ++ r ∷ []) ≡ true
      by None e all = rw there refl
      by (Some a) e all = grind (arith, there)

  pub sets-debug : (pid : ℕ) (r : Registration) → rows_by (changing pid (procs.debugged r)) ≡ basic rows (SetsDebug pid r.birth)
  sets-debug pid r = changes-to pid (procs.debugged r) (basics.debugged r.birth) (λ p. refl) (λ p. refl) (λ p. refl)

  pub debug-lawful : (pid : ℕ) (r : Registration) → stands n.ports r.port ≡ true → name_of n.ports r.port ≡ r.birth → AreLawful (changing pid (procs.debugged r)) calls made
  debug-lawful pid r there named = changed-lawful pid (procs.debugged r) (basics.debugged r.birth) (λ p. refl) (λ p. refl) (λ p. refl) (debug-heard r (under r there named))

  pub sets-exception : (pid : ℕ) (r : Registration) → rows_by (changing pid (procs.excepted r)) ≡ basic rows (SetsException pid r.birth)
  sets-exception pid r = changes-to pid (procs.excepted r) (basics.excepted r.birth) (λ p. refl) (λ p. refl) (λ p. refl)

  pub exception-lawful : (pid : ℕ) (r : Registration) → stands n.ports r.port ≡ true → name_of n.ports r.port ≡ r.birth → AreLawful (changing pid (procs.excepted r)) calls made
  exception-lawful pid r there named = changed-lawful pid (procs.excepted r) (basics.excepted r.birth) (λ p. refl) (λ p. refl) (λ p. refl) (exception-heard r (under r there named))

  -- it lets both go
  pub lets-go : (pid : ℕ) → rows_by (changing pid procs.portless) ≡ basic rows (LetsGo pid)
  lets-go pid = changes-to pid procs.portless basics.portless (λ p. refl) (λ p. refl) (λ p. refl)

  pub let-go-lawful : (pid : ℕ) → AreLawful (changing pid procs.portless) calls made
  let-go-lawful pid = changed-lawful pid procs.portless basics.portless (λ p. refl) (λ p. refl) (λ p. refl) (λ p all. refl)

  -- it is to end
  codes : (code : ℕ) (o : Option ℕ) → procs.first_code code o ≡ basics.first_code code o
  codes code None = refl
  codes code (Some c) = refl

  doom-shown : (code : ℕ) (p : ProcessRow) → shown_process (procs.doomed code p) ≡ basics.doomed code (shown_process p)
  doom-shown code p = ap (λ k. record (shown_process p) { doom = Some k }) (codes code p.doom)

  pub dooms : (pid code : ℕ) → rows_by (changing pid (procs.doomed code)) ≡ basic rows (Dooms pid code)
  dooms pid code = changes-to pid (procs.doomed code) (basics.doomed code) (doom-shown code) (λ p. refl) (λ p. refl)

  pub doom-lawful : (pid code : ℕ) → AreLawful (changing pid (procs.doomed code)) calls made
  doom-lawful pid code = changed-lawful pid (procs.doomed code) (basics.doomed code) (doom-shown code) (λ p. refl) (λ p. refl) (λ p all. all)

  -- The waits that are of events, as the table has them
  event-same : (tid : ℕ) (row : WaitingThread) → is_event_of tid (shown_wait (birth_of n) row) ≡ lawful.is_event_of tid row
  event-same tid row = ap (λ b. (row.thread == tid) && b) (readings.event_is row.wait.kind row.message.items (option_map _ row.offer) row.accepted)

  pub events-same : (tid : ℕ) → has_event rows tid ≡ has (lawful.is_event_of tid) it.waits.rows
  events-same tid = has-map (shown_wait (birth_of n)) (λ _. true) (lawful.is_event_of tid) (is_event_of tid) (λ row _. event-same tid row) it.waits.rows (every-true it.waits.rows)

  -- so are the messages that are a thread's own
  pub queued-same : (tid : ℕ) → has_queued rows tid ≡ has (ports.is_own_of tid) it.ports.messages
  queued-same tid = readings.has-shown (shown_message (birth_of n)) (ports.is_own_of tid) (is_own_of tid) (λ row. refl) it.ports.messages

  -- a thread that waits for nothing isn't marked
  pub ready-unmarked : (tid : ℕ) → has (waits_as tid) rows.waits ≡ false → has (is_mark tid) rows.marks ≡ false
  ready-unmarked tid ready =
      let event : has_event rows tid ≡ false = has_none-more (waits_as tid) (is_event_of tid) (λ x off. grind arith) rows.waits ready in
      let none = count-none (lawful.is_event_of tid) it.waits.rows (sym (events-same tid) ∙ event) in
      let few = is.marked.marked tid in
      none-counted (is_mark tid) it.marks.rows (omega (arith, none, few))

  -- no more threads wait than live
  pub living-are : count is_alive rows.threads ≡ count is_living it.procs.threads
  living-are = count-map shown_thread (λ _. true) is_living is_alive (λ t _. refl) it.procs.threads (every-true it.procs.threads)

  pub few-wait : length it.waits.rows ≤ count is_living it.procs.threads
  few-wait =
      let fit = waits-fit rows.threads rows.waits is.lawful.single is.lawful.threads in
      let long = length-map it.waits.rows (shown_wait (birth_of n)) in
      let same = living-are in
      omega (arith, fit, long, same)

  -- an event is marked
  pub marked-lawful : (who : ℕ) → has_event rows who ≡ true → has (is_mark who) rows.marks ≡ false → has_queued rows who ≡ false → AreLawful (record it { marks = with_mark who it.marks }) calls made
  marked-lawful who event none quiet = record {
    named = record { ports_apart = is.named.ports_apart; sections_apart = is.named.sections_apart; tokens_apart = is.named.tokens_apart; refs = record { in_handles = is.named.refs.in_handles; in_ports = is.named.refs.in_ports; in_messages = is.named.refs.in_messages; in_waits = is.named.refs.in_waits; in_names = is.named.refs.in_names; in_views = is.named.refs.in_views } };
    lawful = lawful-marks rows calls made it.waits.spare it.ports.message_room (it.marks.rows ++ who ∷ []) is.lawful;
    counted = is.counted;
    registered = is.registered;
    heard = is.heard;
    marked = marked.marked-more it.procs.threads it.waits.rows it.ports.messages it.marks who (sym (events-same who) ∙ event) none (sym (queued-same who) ∙ quiet) is.marked;
    mapped = is.mapped;
    headed = is.headed;
    drawn = drawn.same-drawn rows _ refl refl refl refl refl is.drawn;
    born = is.born;
    promised = is.promised;
  }

  pub mark-place : (who : ℕ) → has_event rows who ≡ true → has (is_mark who) rows.marks ≡ false → has_queued rows who ≡ false → length it.marks.rows < it.marks.places
  mark-place who event none quiet = marked.mark-place it.procs.threads it.waits.rows it.ports.messages it.marks who few-wait (sym (events-same who) ∙ event) none (sym (queued-same who) ∙ quiet) is.marked

  -- more room for waits, and for marks with them
  pub roomed-waits : (spare places : ℕ) → it.waits.spare ≤ spare → it.marks.places ≤ places → AreLawful (record it { waits = record it.waits { spare = spare }; marks = with_places places it.marks }) calls made
  roomed-waits spare places more marks = record {
    named = record { ports_apart = is.named.ports_apart; sections_apart = is.named.sections_apart; tokens_apart = is.named.tokens_apart; refs = record { in_handles = is.named.refs.in_handles; in_ports = is.named.refs.in_ports; in_messages = is.named.refs.in_messages; in_waits = is.named.refs.in_waits; in_names = is.named.refs.in_names; in_views = is.named.refs.in_views } };
    lawful = lawful-room rows calls made it.waits.spare it.ports.message_room spare it.ports.message_room is.lawful more (omega arith);
    counted = record { ports_made = is.counted.ports_made; messages_made = is.counted.messages_made; waits_made = is.counted.waits_made; tokens_made = is.counted.tokens_made };
    registered = is.registered;
    heard = is.heard;
    marked = marked.marked-roomed it.procs.threads it.waits.rows it.ports.messages it.marks places marks is.marked;
    mapped = is.mapped;
    headed = is.headed;
    drawn = drawn.same-drawn rows _ refl refl refl refl refl is.drawn;
    born = is.born;
    promised = is.promised;
  }

  -- marks are no more than waits
  pub marks-few : length it.marks.rows ≤ length it.waits.rows
  marks-few = marked.marks-few it.marks.rows it.waits.rows is.marked.marked
