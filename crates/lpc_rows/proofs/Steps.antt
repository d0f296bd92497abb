-- For each changing call: the tables stay lawful.
use Rattle.lpc_rows.proofs.OwnMessages.{unmarked-sender}
use Rattle.std.proofs.Common.{◌≡◌, ℕ, ◌+◌, ◌*◌, ◌-◌, ◌<◌, ◌≤◌, ◌^◌, List, [], ◌∷◌, ◌++◌, true, false, cond, length, Option, Some, None, refl, ap, sym, subst, ◌∙◌, arith}
use Rattle.std.specs.Prelude.{IsSome, IsSomeAnd, is_some, nat_le, not, option_map, ◌==◌}
use Rattle.std.proofs.lemmas.Bool.{eqb-true}
use Rattle.std.proofs.lemmas.Bool.Decides.{nat_tests}
use Rattle.std.proofs.lemmas.Option.{same_Some}
use Rattle.lpc_base.specs.declared.birth.Birth.{Birth}
use Rattle.lpc_base.specs.Rows.{change, count, every, first, has, without, without_first}
use Rattle.lpc_base.proofs.RowMaps.{every-first, every-without_first, first-map, has-map, mapped-twice}
use Rattle.lpc_base.proofs.RowWords.{every-change, every-push, first-passes, has_none-without_first}
use Rattle.lpc_handles.specs.declared.table.Row.{Row}
use Rattle.lpc_model.specs.World as model
use Rattle.lpc_model.specs.World.{World}
use Rattle.lpc_model.specs.Basics as basics
use Rattle.lpc_model.specs.Found.{is_port, is_section, is_token, is_live_thread, is_process, is_queued, is_thread, waits_as, is_born_process, is_born_thread}
use Rattle.lpc_model.specs.Entering.{takes}
use Rattle.lpc_model.specs.Message.{message_of}
use Rattle.lpc_model.specs.Tests.{next_birth}
use Rattle.lpc_names.specs.Binding.{NameSpace}
use Rattle.lpc_ports.specs.Table as ports
use Rattle.lpc_ports.specs.Table.{PortTable, QueuedMessage}
use Rattle.lpc_ports.specs.declared.Port.{Port}
use Rattle.lpc_ports.specs.declared.messages.Message.{Message}
use Rattle.lpc_procs.specs.Procs as procs
use Rattle.lpc_procs.specs.declared.rows.ProcessRow.{ProcessRow}
use Rattle.lpc_procs.specs.declared.rows.ThreadRow.{ThreadRow}
use Rattle.lpc_slots.specs.Table.{at_key}
use Rattle.lpc_slots.specs.declared.Key.{Key}
use Rattle.lpc_slots.proofs.Keys.{key_is}
use Rattle.lpc_waits.specs.Table as waits
use Rattle.lpc_waits.specs.Table.{WaitTable, WaitingThread}
use Rattle.lpc_waits.specs.declared.Wait.{Wait}
use Rattle.lpc_waits.specs.declared.WaitKind.{WaitKind}
use Rattle.lpc_waits.specs.declared.WaitKind.TheVariants as wait
use Rattle.lpc_rows.specs.Names.{are_apart, name_of, stands}
use Rattle.lpc_rows.specs.Shown.{Tables, Births, all_pass, birth_of, births_of, message_refs, object_stands, offer_refs, port_refs, pulled_row, shown_handle, shown_message, shown_port, shown_process, shown_thread, shown_used, shown_wait, tables_of, wait_refs, without_mark, with_message}
use Rattle.lpc_homes.specs.Parts.{are_single_parts, handed, is_part, roomed, spare_at}
use Rattle.lpc_rows.specs.Kept.{has_queued, is_alive, is_asking, is_unsent, owed_by, owed_messages, owed_rows, owed_waits, rows_by}
use Rattle.lpc_rows.specs.OwedClosings.{TellsOnce, closing_places, is_owed}
use Rattle.lpc_rows.specs.Lawful.{AreBornIn, AreLawful, AreMappedIn, IsCounted, IsPromised, can_begin, draws_at_most, drew, has_header, has_mapped_views, has_named_hearers, has_named_ports, is_housed, is_living, is_quiet}
use Rattle.lpc_homes.specs.declared.object.Object.{Object}
use Rattle.lpc_homes.specs.declared.object.Object.TheVariants as object
use Rattle.lpc_homes.specs.declared.parts.Part.{Part}
use Rattle.lpc_sections.specs.Sections.{SectionRow}
use Rattle.lpc_slots.specs.Table.{Table, listed}
use Rattle.lpc_tokens.specs.Names.{TokenNames}
use Rattle.lpc_tokens.specs.declared.token_row.TokenRow.{TokenRow}
use Rattle.lpc_views.specs.Parts.{is_mapped}
use Rattle.lpc_views.specs.Views.{Views}
use Rattle.lpc_rows.proofs.Marked as marked
use Rattle.lpc_rows.proofs.Changes as changes
use Rattle.lpc_rows.proofs.Born as born
use Rattle.lpc_rows.proofs.Drawn as drawn
use Rattle.lpc_rows.proofs.Follows.{first_queued}
use Rattle.lpc_rows.proofs.Lawful as lawful
use Rattle.lpc_rows.proofs.Makes as makes
use Rattle.lpc_rows.proofs.Naming.{key_itself}
use Rattle.lpc_rows.proofs.Owed as owed
use Rattle.lpc_rows.proofs.Promised as promised
use Rattle.lpc_rows.proofs.Promised.{IsWelcome}
use Rattle.lpc_rows.proofs.Registered.{registered-more}
use Rattle.lpc_rows.proofs.Events.{heard-more}

pub more_mapped : (sections : Table SectionRow) (parts : List Part) (made : ℕ) → AreMappedIn sections parts made → AreMappedIn sections parts (made + 1)
more_mapped sections parts made h = record { sections_made = omega (arith, h.sections_made); views_mapped = h.views_mapped }

-- views that stay are mapped, whatever else changes in the part of a process
pub change_mapped : (sections : Table SectionRow) (parts : List Part) (made pid : ℕ) (f : Part → Part) → ((part : Part) → (f part).views ≡ part.views) → AreMappedIn sections parts made → AreMappedIn sections (change (is_part pid) f parts) made
change_mapped sections parts made pid f same h = record {
  sections_made = h.sections_made;
  views_mapped = every-change (has_mapped_views sections) (is_part pid) f (λ part all. ap (λ (v : Views Key). every (is_mapped sections) v.views) (same part) ∙ all) parts h.views_mapped;
}

more_counted : (p : PortTable) (w : WaitTable) (t : Table TokenRow) (made : ℕ) → IsCounted p w t made → IsCounted p w t (made + 1)
more_counted p w t made h = record { ports_made = omega (arith, h.ports_made); messages_made = omega (arith, h.messages_made); waits_made = omega (arith, h.waits_made); tokens_made = omega (arith, h.tokens_made) }

module _ (it : Tables) (calls made : ℕ) (is : AreLawful it calls made) where
  abbrev n : Births
  n = births_of it

  abbrev rows : World
  rows = rows_by it

  -- the thread of a number
  pub first_thread : (who : ℕ) → first (is_thread who) rows.threads ≡ option_map shown_thread (first (procs.is_thread who) it.procs.threads)
  first_thread who = first-map shown_thread (λ _. true) (procs.is_thread who) (is_thread who) (λ row _. refl) it.procs.threads (changes.all_true it is.named it.procs.threads)

  pub has_thread : (who : ℕ) → has (is_thread who) rows.threads ≡ has (procs.is_thread who) it.procs.threads
  has_thread who = has-map shown_thread (λ _. true) (procs.is_thread who) (is_thread who) (λ row _. refl) it.procs.threads (changes.all_true it is.named it.procs.threads)

  -- numbers are left to draw
  left : (who : ℕ) (o : Option ThreadRow) → first (procs.is_thread who) it.procs.threads ≡ o → has (procs.is_thread who) it.procs.threads ≡ true → IsSomeAnd o (λ r. (r.next_identifier < 2 ^ 32 - 1) × (r.next_ordinal < 2 ^ 32 - 1))
  left who None at there = let no : has (procs.is_thread who) it.procs.threads ≡ false = ap is_some at in absurd (cc)
  left who (Some r) at there =
      let drawn = lawful.drawn-numbers (made + 1) who rows.threads (shown_thread r) is.lawful.draws (first_thread who ∙ ap (option_map shown_thread) at) in
      let few = is.lawful.few in
      let budget = is.lawful.budget in
      (omega (arith, drawn.0, few, budget), omega (arith, drawn.1, few, budget))

  pub identifier_left : (who : ℕ) → has (is_thread who) rows.threads ≡ true → IsSomeAnd (first (procs.is_thread who) it.procs.threads) (λ r. r.next_identifier < 2 ^ 32 - 1)
  identifier_left who there = one (first (procs.is_thread who) it.procs.threads) (left who (first (procs.is_thread who) it.procs.threads) refl (sym (has_thread who) ∙ there))
    where
      one : (o : Option ThreadRow) → IsSomeAnd o (λ r. (r.next_identifier < 2 ^ 32 - 1) × (r.next_ordinal < 2 ^ 32 - 1)) → IsSomeAnd o (λ r. r.next_identifier < 2 ^ 32 - 1)
      one None h = h
      one (Some r) h = h.0

  pub ordinal_left : (who : ℕ) → has (is_thread who) rows.threads ≡ true → IsSomeAnd (first (procs.is_thread who) it.procs.threads) (λ r. r.next_ordinal < 2 ^ 32 - 1)
  ordinal_left who there = one (first (procs.is_thread who) it.procs.threads) (left who (first (procs.is_thread who) it.procs.threads) refl (sym (has_thread who) ∙ there))
    where
      one : (o : Option ThreadRow) → IsSomeAnd o (λ r. (r.next_identifier < 2 ^ 32 - 1) × (r.next_ordinal < 2 ^ 32 - 1)) → IsSomeAnd o (λ r. r.next_ordinal < 2 ^ 32 - 1)
      one None h = h
      one (Some r) h = h.1

  -- what is drawn
  pub drawn_identifier : (who result : ℕ) → option_map (λ r. r.next_identifier) (first (procs.is_thread who) it.procs.threads) ≡ Some result → option_map (λ r. r.next_identifier) (first (is_thread who) rows.threads) ≡ Some result
  drawn_identifier who result at = ap (option_map (λ r. r.next_identifier)) (first_thread who) ∙ mapped-twice shown_thread (λ r. r.next_identifier) (first (procs.is_thread who) it.procs.threads) ∙ at

  pub drawn_birth : (who : ℕ) (result : Birth) → option_map procs.next_birth (first (procs.is_thread who) it.procs.threads) ≡ Some result → option_map next_birth (first (is_thread who) rows.threads) ≡ Some result
  drawn_birth who result at = ap (option_map next_birth) (first_thread who) ∙ mapped-twice shown_thread next_birth (first (procs.is_thread who) it.procs.threads) ∙ at

  -- draws
  pub drew_identifier : (who : ℕ) → made + owed_rows rows < 16 * calls → AreLawful (record it { procs = procs.with_thread it.procs who procs.past_identifier }) calls (made + 1)
  drew_identifier who lt = record {
    named = changes.threaded it is.named _;
    lawful = rw (changes.draws_identifier it is.named who) (lawful.lawful-identifier rows calls made it.waits.spare it.ports.message_room who is.lawful lt);
    counted = more_counted it.ports it.waits it.tokens made is.counted;
    registered = every-change (has_named_ports n) (procs.is_thread who) procs.past_identifier (λ t there. there) it.procs.threads is.registered;
    heard = is.heard;
    marked = marked.marked-thread procs.past_identifier (λ t. refl) who it.procs.threads it.waits.rows it.ports.messages it.marks is.marked;
    mapped = more_mapped it.sections it.parts made is.mapped;
    headed = is.headed;
    drawn = rw (changes.draws_identifier it is.named who) (drawn.drawn-identifier rows who is.drawn);
    born = subst AreBornIn (sym (changes.draws_identifier it is.named who)) (born.born-by basics.past_identifier (λ t. refl) (λ t. refl) drawn.more-identifier rows.processes rows.threads rows.used_processes rows.used_threads who is.born);
    promised = is.promised;
  }

  pub drew_birth : (who : ℕ) → made + owed_rows rows < 16 * calls → AreLawful (record it { procs = procs.with_thread it.procs who procs.past_birth }) calls (made + 1)
  drew_birth who lt = record {
    named = changes.threaded it is.named _;
    lawful = rw (changes.draws_ordinal it is.named who) (lawful.lawful-ordinal rows calls made it.waits.spare it.ports.message_room who is.lawful lt);
    counted = more_counted it.ports it.waits it.tokens made is.counted;
    registered = every-change (has_named_ports n) (procs.is_thread who) procs.past_birth (λ t there. there) it.procs.threads is.registered;
    heard = is.heard;
    marked = marked.marked-thread procs.past_birth (λ t. refl) who it.procs.threads it.waits.rows it.ports.messages it.marks is.marked;
    mapped = more_mapped it.sections it.parts made is.mapped;
    headed = is.headed;
    drawn = rw (changes.draws_ordinal it is.named who) (drawn.drawn-ordinal rows who is.drawn);
    born = subst AreBornIn (sym (changes.draws_ordinal it is.named who)) (born.born-by basics.past_ordinal (λ t. refl) (λ t. refl) drawn.more-ordinal rows.processes rows.threads rows.used_processes rows.used_threads who is.born);
    promised = is.promised;
  }

  some-number : (m : ℕ) → 1 ≤ m → not (m == 0) ≡ true
  some-number m above = grind (arith, nat_tests)

  -- processes and threads
  pub added_process : (row : ProcessRow) (part : Part) (room : ℕ) → part.handles.rows ≡ [] → part.views.views ≡ [] → part.process ≡ row.number → row.debug_port ≡ None → row.exception_port ≡ None → made + owed_rows rows < 16 * calls → has (λ m. m == row.number) it.procs.used_processes ≡ false
      → can_begin rows.threads row.number row.birth ≡ true → ((row.birth.maker == 0) ≡ false → has (is_born_process row.birth) rows.processes ≡ false)
      → AreLawful (record it { procs = record it.procs { processes = it.procs.processes ++ row ∷ []; used_processes = it.procs.used_processes ++ row.number ∷ []; process_room = room }; parts = it.parts ++ part ∷ [] }) calls (made + 1)
  added_process row part room none no_views same no_debug no_exception lt new begins other = record {
    named = changes.processed it is.named _ part none no_views;
    lawful = rw (changes.adds_process it is.named row part room none no_views same) (lawful.lawful-process rows calls made it.waits.spare it.ports.message_room (shown_process row) is.lawful lt new);
    counted = more_counted it.ports it.waits it.tokens made is.counted;
    registered = is.registered;
    heard = every-push (has_named_hearers n) it.procs.processes row is.heard (rw (no_debug, no_exception) refl);
    marked = is.marked;
    mapped = record {
      sections_made = omega (arith, is.mapped.sections_made);
      views_mapped = every-push (has_mapped_views it.sections) it.parts part is.mapped.views_mapped (rw no_views refl);
    };
    headed = is.headed;
    drawn = rw (changes.adds_process it is.named row part room none no_views same) (drawn.same-drawn rows _ refl refl refl refl refl is.drawn);
    born = subst AreBornIn (sym (changes.adds_process it is.named row part room none no_views same)) (born.born-process rows.processes rows.threads rows.used_processes rows.used_threads is.born (shown_process row) new (λ there. drawn.drew-drawn rows row.birth there is.drawn) begins other);
    promised = subst (λ (v : World). IsPromised v.waits v.handles (it.parts ++ part ∷ [])) (sym (changes.adds_process it is.named row part room none no_views same)) (promised.process-comes rows.waits rows.handles it.parts is.promised row.number part same (lawful.unused-table rows.used_processes row.number rows.handles is.lawful.tables_used new));
  }

  pub process_owed : (row : ProcessRow) (part : Part) (room : ℕ) → part.handles.rows ≡ [] → part.views.views ≡ [] → part.process ≡ row.number
      → owed_rows (rows_by (record it { procs = record it.procs { processes = it.procs.processes ++ row ∷ []; used_processes = it.procs.used_processes ++ row.number ∷ []; process_room = room }; parts = it.parts ++ part ∷ [] })) ≡ owed_rows rows
  process_owed row part room none no_views same = rw (changes.adds_process it is.named row part room none no_views same) (owed.owed-process rows row.number)

  pub added_thread : (row : ThreadRow) (room : ℕ) → 1 ≤ row.number → has (λ u. u.number == row.number) rows.used_threads ≡ false → made + owed_rows rows < 16 * calls → draws_at_most 1 (shown_thread row) ≡ true → row.registered.items ≡ [] → is_housed rows (shown_thread row) ≡ true
      → owed_waits rows < it.waits.spare → owed_messages rows < it.ports.message_room → count is_living it.procs.threads < it.marks.places
      → can_begin rows.threads row.number row.birth ≡ true → ((row.birth.maker == 0) ≡ false → has (is_born_thread row.birth) rows.threads ≡ false)
      → AreLawful (record it { procs = record it.procs { threads = it.procs.threads ++ row ∷ []; used_threads = it.procs.used_threads ++ (record { number = row.number; process = row.process }) ∷ []; thread_room = room } }) calls (made + 1)
  added_thread row room above unused lt young none home wait_room message_room mark_room begins other = record {
    named = changes.threaded it is.named _;
    lawful = rw (changes.adds_thread it is.named row room) (lawful.lawful-thread rows calls made it.waits.spare it.ports.message_room (shown_thread row) _ is.lawful lt young (rw none refl) home wait_room message_room);
    counted = more_counted it.ports it.waits it.tokens made is.counted;
    registered = every-push (has_named_ports n) it.procs.threads row is.registered (rw none refl);
    heard = is.heard;
    marked = marked.marked-born it.procs.threads row it.waits.rows it.ports.messages it.marks mark_room is.marked;
    mapped = more_mapped it.sections it.parts made is.mapped;
    headed = is.headed;
    drawn = rw (changes.adds_thread it is.named row room) (drawn.drawn-thread rows (shown_thread row) _ refl unused is.drawn);
    born = subst AreBornIn (sym (changes.adds_thread it is.named row room)) (born.born-thread rows.processes rows.threads rows.used_processes rows.used_threads is.born (shown_thread row) (record { number = row.number; process = row.process }) (some-number row.number above) is.drawn.threads_noted unused (λ there. drawn.drew-drawn rows row.birth there is.drawn) begins other);
    promised = is.promised;
  }

  -- messages
  pub entered : (row : Key × QueuedMessage) → all_pass message_refs (object_stands n) row ≡ true → has_header row ≡ true → made + owed_rows rows < 16 * calls → 0 < it.ports.message_room → has (takes (shown_message (birth_of n) row)) rows.waits ≡ false
      → (let m = shown_message (birth_of n) row in is_asking m ≡ true → is_unsent rows m.message.header.client.thread ≡ true) → (let m = shown_message (birth_of n) row in TellsOnce rows m.message m.sender)
      → (let m = shown_message (birth_of n) row in is_owed m.message ≡ false → owed_messages rows < it.ports.message_room)
      → AreLawful (record it { ports = record it.ports { messages = it.ports.messages ++ row ∷ []; message_room = it.ports.message_room - 1; messages_made = it.ports.messages_made + 1 } }) calls (made + 1)
  entered row there long lt place none asks once other = record {
    named = changes.entered it is.named row (it.ports.message_room - 1) (it.ports.messages_made + 1) there;
    lawful = rw (changes.enters it is.named row (it.ports.message_room - 1) (it.ports.messages_made + 1)) (lawful.lawful-enter rows calls made it.waits.spare it.ports.message_room (shown_message (birth_of n) row) is.lawful lt place none asks once other);
    counted = record { ports_made = omega (arith, is.counted.ports_made); messages_made = omega (arith, is.counted.messages_made); waits_made = omega (arith, is.counted.waits_made); tokens_made = omega (arith, is.counted.tokens_made) };
    registered = is.registered;
    heard = is.heard;
    marked = marked.marked-enter it.procs.threads it.waits.rows it.ports.messages it.marks row (λ who own. unmarked-sender rows (shown_message (birth_of n) row) who asks own) is.marked;
    mapped = more_mapped it.sections it.parts made is.mapped;
    headed = every-push has_header it.ports.messages row is.headed long;
    drawn = drawn.same-drawn rows _ refl refl refl refl refl is.drawn;
    born = is.born;
    promised = is.promised;
  }

  pub taken : (key : Key) (m : model.MessageRow) → stands n.ports key ≡ true → first (is_queued (name_of n.ports key)) rows.messages ≡ Some m
      → AreLawful (record it { ports = record it.ports { messages = without_first (ports.is_in key) it.ports.messages; message_room = it.ports.message_room + 1 } }) calls made
  taken key m there at = record {
    named = changes.taken it is.named key (it.ports.message_room + 1);
    lawful = rw (changes.takes it is.named key (it.ports.message_room + 1) there) (lawful.lawful-take rows calls made it.waits.spare it.ports.message_room (is_queued (name_of n.ports key)) m at is.lawful);
    counted = record { ports_made = is.counted.ports_made; messages_made = is.counted.messages_made; waits_made = is.counted.waits_made; tokens_made = is.counted.tokens_made };
    registered = is.registered;
    heard = is.heard;
    marked = marked.marked-fewer it.procs.threads it.waits.rows it.ports.messages (without_first (ports.is_in key) it.ports.messages) it.marks (λ who none. has_none-without_first (ports.is_own_of who) (ports.is_in key) it.ports.messages none) is.marked;
    mapped = is.mapped;
    headed = every-without_first has_header (ports.is_in key) it.ports.messages is.headed;
    drawn = drawn.same-drawn rows _ refl refl refl refl refl is.drawn;
    born = is.born;
    promised = is.promised;
  }

  -- waits
  pub awaited : (row : WaitingThread) → all_pass wait_refs (object_stands n) row ≡ true → made + owed_rows rows + (1 + owed_by (shown_wait (birth_of n) row)) ≤ 16 * calls → has (is_live_thread row.thread) rows.threads ≡ true → has (waits_as row.thread) rows.waits ≡ false → is_quiet rows.messages (shown_wait (birth_of n) row) ≡ true
      → IsPromised (rows.waits ++ shown_wait (birth_of n) row ∷ []) rows.handles it.parts
      → AreLawful (record it { waits = record { rows = it.waits.rows ++ row ∷ []; spare = it.waits.spare - 1; made = it.waits.made + 1 } }) calls (made + 1)
  awaited row there lt thread ready still owed = record {
    named = changes.awaited it is.named row (it.waits.spare - 1) (it.waits.made + 1) there;
    lawful = rw (changes.awaits it is.named row (it.waits.spare - 1) (it.waits.made + 1)) (lawful.lawful-wait rows calls made it.waits.spare it.ports.message_room (shown_wait (birth_of n) row) is.lawful lt thread ready still (lawful.wait-place rows calls made it.waits.spare it.ports.message_room row.thread is.lawful thread ready));
    counted = record { ports_made = omega (arith, is.counted.ports_made); messages_made = omega (arith, is.counted.messages_made); waits_made = omega (arith, is.counted.waits_made); tokens_made = omega (arith, is.counted.tokens_made) };
    registered = is.registered;
    heard = is.heard;
    marked = marked.marked-wait it.procs.threads it.waits.rows it.ports.messages it.marks row is.marked;
    mapped = more_mapped it.sections it.parts made is.mapped;
    headed = is.headed;
    drawn = drawn.same-drawn rows _ refl refl refl refl refl is.drawn;
    born = is.born;
    promised = subst (λ (v : World). IsPromised v.waits v.handles it.parts) (sym (changes.awaits it is.named row (it.waits.spare - 1) (it.waits.made + 1))) owed;
  }

  pub has_wait : (who : ℕ) → has (waits_as who) rows.waits ≡ has (waits.is_of who) it.waits.rows
  has_wait who = has-map (shown_wait (birth_of n)) (all_pass wait_refs (object_stands n)) (waits.is_of who) (waits_as who) (λ row _. refl) it.waits.rows is.named.refs.in_waits

  pub ended : (who : ℕ) → has_queued rows who ≡ false → AreLawful (record it { waits = record { rows = without (waits.is_of who) it.waits.rows; spare = cond (has (waits.is_of who) it.waits.rows) (it.waits.spare + 1) it.waits.spare; made = it.waits.made }; marks = without_mark who it.marks }) calls made
  ended who none = record {
    named = changes.ended it is.named who (cond (has (waits.is_of who) it.waits.rows) (it.waits.spare + 1) it.waits.spare) it.waits.made (without_mark who it.marks);
    lawful = rw (changes.ends it is.named who (cond (has (waits.is_of who) it.waits.rows) (it.waits.spare + 1) it.waits.spare) it.waits.made, ← has_wait who) (lawful.lawful-end rows calls made it.waits.spare it.ports.message_room who is.lawful none);
    counted = record { ports_made = is.counted.ports_made; messages_made = is.counted.messages_made; waits_made = is.counted.waits_made; tokens_made = is.counted.tokens_made };
    registered = is.registered;
    heard = is.heard;
    marked = marked.marked-end it.procs.threads it.waits.rows it.ports.messages it.marks who is.marked;
    mapped = is.mapped;
    headed = is.headed;
    drawn = drawn.same-drawn rows _ refl refl refl refl refl is.drawn;
    born = is.born;
    promised = subst (λ (v : World). IsPromised v.waits v.handles it.parts) (sym (changes.ends it is.named who (cond (has (waits.is_of who) it.waits.rows) (it.waits.spare + 1) it.waits.spare) it.waits.made)) (promised.wait-ends rows.waits rows.handles it.parts is.promised (waits_as who));
  }

  -- a wait whose request is received
  pub received : (who : ℕ) → has_queued rows who ≡ false → AreLawful (record it { waits = record it.waits { rows = change (waits.is_of who) waits.received it.waits.rows } }) calls made
  received who none = record {
    named = changes.waiting it is.named who it.waits.spare it.waits.made waits.received (λ row all. all);
    lawful = rw (changes.receives it is.named who) (lawful.lawful-receive rows calls made it.waits.spare it.ports.message_room who is.lawful none);
    counted = record { ports_made = is.counted.ports_made; messages_made = is.counted.messages_made; waits_made = is.counted.waits_made; tokens_made = is.counted.tokens_made };
    registered = is.registered;
    heard = is.heard;
    marked = marked.marked-change it.procs.threads it.waits.rows it.ports.messages it.marks who waits.received (λ x. refl) (λ x. refl) is.marked;
    mapped = is.mapped;
    headed = is.headed;
    drawn = drawn.same-drawn rows _ refl refl refl refl refl is.drawn;
    born = is.born;
    promised = subst (λ (v : World). IsPromised v.waits v.handles it.parts) (sym (changes.receives it is.named who)) (promised.wait-stays rows.waits rows.handles it.parts is.promised (waits_as who) basics.received (λ x. refl) (λ x. refl) (promised.received-taken who rows.waits is.promised.taken));
  }

  -- a wait that keeps its message
  pub kept_message : (who : ℕ) (bytes : List ℕ) → AreLawful (record it { waits = record it.waits { rows = change (waits.is_of who) (waits.with_message bytes) it.waits.rows } }) calls made
  kept_message who bytes = record {
    named = changes.waiting it is.named who it.waits.spare it.waits.made (waits.with_message bytes) (λ row all. all);
    lawful = rw (changes.keeps_message it is.named who bytes) (changes.lawful-message rows calls made it.waits.spare it.ports.message_room who bytes is.lawful);
    counted = record { ports_made = is.counted.ports_made; messages_made = is.counted.messages_made; waits_made = is.counted.waits_made; tokens_made = is.counted.tokens_made };
    registered = is.registered;
    heard = is.heard;
    marked = marked.marked-change it.procs.threads it.waits.rows it.ports.messages it.marks who (waits.with_message bytes) (λ x. refl) (λ x. refl) is.marked;
    mapped = is.mapped;
    headed = is.headed;
    drawn = drawn.same-drawn rows _ refl refl refl refl refl is.drawn;
    born = is.born;
    promised = subst (λ (v : World). IsPromised v.waits v.handles it.parts) (sym (changes.keeps_message it is.named who bytes)) (promised.wait-stays rows.waits rows.handles it.parts is.promised (waits_as who) (with_message (message_of bytes)) (changes.connect_kept (message_of bytes)) (λ x. refl) (promised.kept-taken who (with_message (message_of bytes)) (changes.accepted_kept (message_of bytes)) (λ x. refl) rows.waits is.promised.taken));
  }

  -- no two ports have the birth of a handle's object
  pub single_object : (o : Object) → count (is_port (birth_of n o)) rows.ports ≤ 1
  single_object o = owed.single-port (birth_of n) it.ports.ports (birth_of n o) is.named.ports_apart

  -- handles
  pub handed_lawful : (pid value : ℕ) (row : Row Object) → object_stands n row.object ≡ true → made + owed_rows rows < 16 * calls → are_single_parts it.parts ≡ true → IsWelcome rows.waits rows.handles it.parts pid → AreLawful (record it { parts = change (is_part pid) (handed value row) it.parts }) calls made
  handed_lawful pid value row there lt one welcome = record {
    named = changes.handed_named it is.named pid value row there;
    lawful = rw (changes.hands it is.named pid value row) (lawful.lawful-handle rows calls made it.waits.spare it.ports.message_room pid _ is.lawful lt (single_object row.object));
    counted = is.counted;
    registered = is.registered;
    heard = is.heard;
    marked = is.marked;
    mapped = change_mapped it.sections it.parts made pid (handed value row) (λ part. refl) is.mapped;
    headed = is.headed;
    drawn = drawn.same-drawn rows _ refl refl refl refl refl is.drawn;
    born = is.born;
    promised = subst (λ (v : World). IsPromised v.waits v.handles (change (is_part pid) (handed value row) it.parts)) (sym (changes.hands it is.named pid value row)) (promised.handle-comes rows.waits rows.handles it.parts is.promised pid value (shown_handle (birth_of n) (value, row)) row one is.lawful.tables_single welcome);
  }

  pub roomed_lawful : (pid spare : ℕ) → are_single_parts it.parts ≡ true → spare_at it.parts pid ≤ spare → AreLawful (record it { parts = change (is_part pid) (roomed spare) it.parts }) calls made
  roomed_lawful pid spare one more = record {
    named = changes.roomed_named it is.named pid spare;
    lawful = rw (changes.rooms it is.named pid spare) is.lawful;
    counted = is.counted;
    registered = is.registered;
    heard = is.heard;
    marked = is.marked;
    mapped = change_mapped it.sections it.parts made pid (roomed spare) (λ part. refl) is.mapped;
    headed = is.headed;
    drawn = drawn.same-drawn rows _ refl refl refl refl refl is.drawn;
    born = is.born;
    promised = subst (λ (v : World). IsPromised v.waits v.handles (change (is_part pid) (roomed spare) it.parts)) (sym (changes.rooms it is.named pid spare)) (promised.room-grows rows.waits rows.handles it.parts is.promised pid spare more one);
  }

  -- a port more
  pub made_owed : (key : Key) (row : Port) → every (object_stands n) (port_refs (key, row)) ≡ true → first (is_port row.birth) rows.ports ≡ None
      → owed_rows (rows_by (record it { ports = record it.ports { ports = it.ports.ports ++ (key, row) ∷ []; port_room = it.ports.port_room - 1; ports_made = it.ports.ports_made + 1 } })) ≡ owed_rows rows
  made_owed key row refs fresh = ap owed_rows (makes.makes it is.named key row (it.ports.port_room - 1) (it.ports.ports_made + 1) refs) ∙ (owed.owed-shut rows (shown_port (birth_of n) (key, row)) (owed.fresh-shut it is.named row.birth fresh))

  pub made_lawful : (key : Key) (row : Port) → stands n.ports key ≡ false → first (is_port row.birth) rows.ports ≡ None → every (object_stands n) (port_refs (key, row)) ≡ true → has (drew row.birth) rows.threads ≡ true → made + owed_rows rows < 16 * calls → closing_places row.kind ≤ it.ports.message_room - owed_messages rows
      → AreLawful (record it { ports = record it.ports { ports = it.ports.ports ++ (key, row) ∷ []; port_room = it.ports.port_room - 1; ports_made = it.ports.ports_made + 1 } }) calls (made + 1)
  made_lawful key row absent fresh refs was lt place = record {
    named = makes.made_named it is.named key row (it.ports.port_room - 1) (it.ports.ports_made + 1) absent fresh refs;
    lawful = rw (makes.makes it is.named key row (it.ports.port_room - 1) (it.ports.ports_made + 1) refs) (lawful.lawful-port rows calls made it.waits.spare it.ports.message_room (shown_port (birth_of n) (key, row)) is.lawful lt (owed.fresh-shut it is.named row.birth fresh) place);
    counted = record { ports_made = omega (arith, is.counted.ports_made); messages_made = omega (arith, is.counted.messages_made); waits_made = omega (arith, is.counted.waits_made); tokens_made = omega (arith, is.counted.tokens_made) };
    registered = registered-more n (births_of (record it { ports = record it.ports { ports = it.ports.ports ++ (key, row) ∷ []; port_room = it.ports.port_room - 1; ports_made = it.ports.ports_made + 1 } })) (makes.keeps it is.named key row (it.ports.port_room - 1) (it.ports.ports_made + 1)) it.procs.threads is.registered;
    heard = heard-more n (births_of (record it { ports = record it.ports { ports = it.ports.ports ++ (key, row) ∷ []; port_room = it.ports.port_room - 1; ports_made = it.ports.ports_made + 1 } })) (makes.keeps it is.named key row (it.ports.port_room - 1) (it.ports.ports_made + 1)) it.procs.processes is.heard;
    marked = is.marked;
    mapped = more_mapped it.sections it.parts made is.mapped;
    headed = is.headed;
    drawn = rw (makes.makes it is.named key row (it.ports.port_room - 1) (it.ports.ports_made + 1) refs) (drawn.drawn-port rows (shown_port (birth_of n) (key, row)) was is.drawn);
    born = is.born;
    promised = subst (λ (v : World). IsPromised v.waits v.handles it.parts) (sym (makes.makes it is.named key row (it.ports.port_room - 1) (it.ports.ports_made + 1) refs)) is.promised;
  }

-- nothing
pub none_lawful : (space : NameSpace Key) (sections : Table SectionRow) (tokens : Table TokenRow) (names : TokenNames) → space.bindings ≡ [] → listed sections ≡ [] → sections.made ≡ 0 → listed tokens ≡ [] → tokens.made ≡ 0 → AreLawful (tables_of (record { processes = []; threads = []; used_processes = []; used_threads = []; process_room = 0; thread_room = 0 }) [] (record { ports = []; messages = []; port_room = 0; message_room = 0; ports_made = 0; messages_made = 0 }) (record { rows = []; spare = 0; made = 0 }) space sections tokens names (record { rows = []; places = 0 })) 0 0
unfolding are_apart
none_lawful space sections tokens names none no_sections unmade no_tokens unmade_tokens = record {
  named = record { ports_apart = refl; sections_apart = rw no_sections refl; tokens_apart = rw no_tokens refl; refs = record { in_handles = refl; in_ports = refl; in_messages = refl; in_waits = refl; in_names = rw none refl; in_views = refl } };
  lawful = record {
    few = omega arith;
    budget = omega arith;
    rows = rw (no_sections, no_tokens) (omega arith);
    draws = refl;
    housed = refl;
    tables_used = refl;
    tables_single = refl;
    tables_few = omega arith;
    single = refl;
    threads = refl;
    quiet = refl;
    own = λ tid. omega arith;
    told = λ b. omega arith;
    waits_fit = omega arith;
    messages_fit = omega arith;
  };
  counted = record { ports_made = omega arith; messages_made = omega arith; waits_made = omega arith; tokens_made = omega (arith, unmade_tokens) };
  registered = refl;
  heard = refl;
  marked = record { marked = λ tid. omega arith; left = refl; places = omega arith };
  mapped = record { sections_made = omega (arith, unmade); views_mapped = refl };
  headed = refl;
  drawn = record { threads_single = refl; threads_noted = refl; ports_drawn = refl; sections_drawn = rw no_sections refl; tokens_drawn = rw no_tokens refl };
  born = record { processes_single = refl; processes_noted = refl; processes_born = refl; threads_born = refl; threads_numbered = refl; process_births = λ b. omega arith; thread_births = λ b. omega arith };
  promised = promised.none-promised;
}

pub long_is : (bytes : List ℕ) → 24 ≤ length bytes → nat_le 24 (length bytes) ≡ true
long_is bytes long = grind (arith, nat_tests)

-- What calls require of the tables
module _ (it : Tables) (calls made : ℕ) (is : AreLawful it calls made) where
  abbrev all : World
  all = rows_by it

  -- keys that stand
  pub two_stand : (a b : Key) → stands (births_of it).ports a ≡ true → stands (births_of it).ports b ≡ true → every (object_stands (births_of it)) (object.Port a ∷ object.Port b ∷ []) ≡ true
  two_stand a b one two = rw (one, two) refl

  -- what a wait names that begins, which offers nothing yet
  pub begun_stands : (kind : WaitKind) (a b : Key) → stands (births_of it).ports a ≡ true → stands (births_of it).ports b ≡ true → every (object_stands (births_of it)) (object.Port a ∷ object.Port b ∷ offer_refs kind None None) ≡ true
  begun_stands wait.Request a b one two = two_stand a b one two
  begun_stands wait.Receive a b one two = two_stand a b one two
  begun_stands wait.Listen a b one two = two_stand a b one two
  begun_stands wait.Connect a b one two = two_stand a b one two
  begun_stands (wait.Event r) a b one two = two_stand a b one two

  -- the wait of a thread
  none_of : {X : Type 0} (o : Option X) → is_some o ≡ false → o ≡ None
  none_of None h = refl
  none_of (Some x) h = absurd (cc)

  some_of : {X : Type 0} (o : Option X) → is_some o ≡ true → IsSome o
  some_of None h = absurd (cc)
  some_of (Some x) h = refl

  pub no_wait : (who : ℕ) → has (waits_as who) all.waits ≡ false → first (waits.is_of who) it.waits.rows ≡ None
  no_wait who none = none_of (first (waits.is_of who) it.waits.rows) (sym (has_wait it calls made is who) ∙ none)

  pub some_wait : (who : ℕ) → has (waits_as who) all.waits ≡ true → IsSome (first (waits.is_of who) it.waits.rows)
  some_wait who there = some_of (first (waits.is_of who) it.waits.rows) (sym (has_wait it calls made is who) ∙ there)

  -- and more threads live than wait
  pub more_alive : (who : ℕ) → has (is_live_thread who) all.threads ≡ true → has (waits_as who) all.waits ≡ false → length all.waits < count is_alive all.threads
  more_alive who there none = lawful.place-left all.threads all.waits who is.lawful.single is.lawful.threads there none

  pub wait_place : (who : ℕ) → has (is_live_thread who) all.threads ≡ true → has (waits_as who) all.waits ≡ false → 0 < it.waits.spare
  wait_place who there none = lawful.wait-place all calls made it.waits.spare it.ports.message_room who is.lawful there none

  -- a place for a message
  pub message_place : (m : model.MessageRow) → (is_asking m ≡ true → is_unsent all m.message.header.client.thread ≡ true) → TellsOnce all m.message m.sender → (is_owed m.message ≡ false → 0 < it.ports.message_room - owed_messages all) → 0 < it.ports.message_room
  message_place m asks once other = elim (is_owed m.message) as (λ b. is_owed m.message ≡ b → 0 < it.ports.message_room) [
    | true ↦ λ e. lawful.message-place all calls made it.waits.spare it.ports.message_room m is.lawful asks once e
    | false ↦ λ e.
        let h = other e in
        omega (arith, h)
  ] refl

  -- the table that the end of a wait leaves
  pub end_is : (who : ℕ) (new : WaitTable) (result : Option Wait) → result ≡ option_map (λ row. row.wait) (first (waits.is_of who) it.waits.rows) → new.rows ≡ without (waits.is_of who) it.waits.rows → new.spare ≡ cond (is_some result) (it.waits.spare + 1) it.waits.spare → new.made ≡ it.waits.made
      → new ≡ record { rows = without (waits.is_of who) it.waits.rows; spare = cond (has (waits.is_of who) it.waits.rows) (it.waits.spare + 1) it.waits.spare; made = it.waits.made }
  end_is who new result value rows spare same =
      let found : is_some result ≡ has (waits.is_of who) it.waits.rows = ap is_some value ∙ is_some-map (first (waits.is_of who) it.waits.rows) in
      let left : new.spare ≡ cond (has (waits.is_of who) it.waits.rows) (it.waits.spare + 1) it.waits.spare = spare ∙ ap (λ b. cond b (it.waits.spare + 1) it.waits.spare) found in
      λ i. record { rows = rows i; spare = left i; made = same i }
    where
      is_some-map : (o : Option WaitingThread) → is_some (option_map (λ row. row.wait) o) ≡ is_some o
      is_some-map None = refl
      is_some-map (Some row) = refl

  -- the oldest message of a queue
  queued_first : (key : Key) → stands (births_of it).ports key ≡ true → first (is_queued (name_of (births_of it).ports key)) all.messages ≡ option_map (shown_message (birth_of (births_of it))) (first (ports.is_in key) it.ports.messages)
  queued_first key there = first_queued it is.named key there

  no_row : (o : Option (Key × QueuedMessage)) → option_map (λ (row : Key × QueuedMessage). row.0) o ≡ None → o ≡ None
  no_row None h = refl
  no_row (Some row) h = absurd (cc)

  pub none_queued : (key : Key) → stands (births_of it).ports key ≡ true → ports.first_in it.ports.messages key ≡ None → first (is_queued (name_of (births_of it).ports key)) all.messages ≡ None
  none_queued key there none = queued_first key there ∙ ap (option_map (shown_message (birth_of (births_of it)))) (no_row (first (ports.is_in key) it.ports.messages) none)

  -- the key that is found first in a queue has a row
  oldest_row : (queue key : Key) (ms : List (Key × QueuedMessage)) → option_map (λ (row : Key × QueuedMessage). row.0) (first (ports.is_in queue) ms) ≡ Some key → is_some (first (at_key key) ms) ≡ true
  oldest_row queue key [] at = absurd (cc)
  oldest_row queue key (m ∷ ms) at =
      elim (ports.is_in queue m) as (λ b. ports.is_in queue m ≡ b → is_some (first (at_key key) (m ∷ ms)) ≡ true) [
        | true ↦ λ here.
            let same : m.0 ≡ key = same_Some m.0 key (sym (ap (option_map (λ (row : Key × QueuedMessage). row.0)) (ap (λ b. cond b (Some m) (first (ports.is_in queue) ms)) here)) ∙ at) in
            rw same (grind (arith, key_itself key))
        | false ↦ λ off. grind (arith, oldest_row queue key ms)
      ] refl

  pub some_message : (queue key : Key) → ports.first_in it.ports.messages queue ≡ Some key → IsSome (ports.row_at it.ports.messages key)
  some_message queue key at = mapped (first (at_key key) it.ports.messages) (oldest_row queue key it.ports.messages at)
    where
      mapped : (o : Option (Key × QueuedMessage)) → is_some o ≡ true → IsSome (option_map (λ (row : Key × QueuedMessage). row.1) o)
      mapped None h = absurd (cc)
      mapped (Some row) h = refl

  pub first_message : (queue : Key) (m : Message) → stands (births_of it).ports queue ≡ true → option_map (λ (row : Key × QueuedMessage). row.1.message) (first (ports.is_in queue) it.ports.messages) ≡ Some m → first (is_queued (name_of (births_of it).ports queue)) all.messages ≡ Some (pulled_row (births_of it) queue m)
  first_message queue m there at = queued_first queue there ∙ found (first (ports.is_in queue) it.ports.messages) refl at
    where
      found : (o : Option (Key × QueuedMessage)) → first (ports.is_in queue) it.ports.messages ≡ o → option_map (λ (row : Key × QueuedMessage). row.1.message) o ≡ Some m → option_map (shown_message (birth_of (births_of it))) o ≡ Some (pulled_row (births_of it) queue m)
      found None is' h = absurd (cc)
      found (Some row) is' h =
          let same : row.1.message ≡ m = same_Some row.1.message m h in
          let own : row.1.queue ≡ queue = key_is row.1.queue queue (first-passes (ports.is_in queue) it.ports.messages row is') in
          λ i. Some (record { queue = name_of (births_of it).ports (own i); sender = name_of (births_of it).ports (same i).sender; context = (same i).context; message = message_of (same i).bytes.items })

  -- the table that the oldest message leaves
  pub oldest : (queue key : Key) (new : PortTable) → new ≡ record it.ports { messages = without (at_key key) it.ports.messages; message_room = it.ports.message_room + 1 } → new.messages ≡ without_first (ports.is_in queue) it.ports.messages
      → new ≡ record it.ports { messages = without_first (ports.is_in queue) it.ports.messages; message_room = it.ports.message_room + 1 }
  oldest queue key new table first = table ∙ ap (λ ms. record it.ports { messages = ms; message_room = it.ports.message_room + 1 }) (sym (ap (λ (q : PortTable). q.messages) table) ∙ first)

  -- processes and used numbers
  pub used_same : (who : ℕ) → has (λ u. u.number == who) all.used_threads ≡ has (procs.is_used_thread who) it.procs.used_threads
  used_same who = has-map shown_used (λ _. true) (procs.is_used_thread who) (λ u. u.number == who) (λ row _. refl) it.procs.used_threads (changes.all_true it is.named it.procs.used_threads)

  pub process_same : (pid : ℕ) → has (is_process pid) all.processes ≡ has (procs.is_process pid) it.procs.processes
  process_same pid = has-map shown_process (λ _. true) (procs.is_process pid) (is_process pid) (λ row _. refl) it.procs.processes (changes.all_true it is.named it.procs.processes)

  -- more room for ports and messages
  pub roomed_ports : (ports messages : ℕ) → it.ports.message_room ≤ messages → AreLawful (record it { ports = record it.ports { port_room = ports; message_room = messages } }) calls made
  roomed_ports ports messages more = record {
    named = record { ports_apart = is.named.ports_apart; sections_apart = is.named.sections_apart; tokens_apart = is.named.tokens_apart; refs = record { in_handles = is.named.refs.in_handles; in_ports = is.named.refs.in_ports; in_messages = is.named.refs.in_messages; in_waits = is.named.refs.in_waits; in_names = is.named.refs.in_names; in_views = is.named.refs.in_views } };
    lawful = lawful.lawful-room all calls made it.waits.spare it.ports.message_room it.waits.spare messages is.lawful (omega arith) more;
    counted = record { ports_made = is.counted.ports_made; messages_made = is.counted.messages_made; waits_made = is.counted.waits_made; tokens_made = is.counted.tokens_made };
    registered = is.registered;
    heard = is.heard;
    marked = is.marked;
    mapped = is.mapped;
    headed = is.headed;
    drawn = drawn.same-drawn all _ refl refl refl refl refl is.drawn;
    born = is.born;
    promised = is.promised;
  }

  -- a thread that waits, and one that doesn't
  pub waits_there : (who : ℕ) (x : Wait) → option_map (λ (row : WaitingThread). row.wait) (first (waits.is_of who) it.waits.rows) ≡ Some x → IsSome (first (waits.is_of who) it.waits.rows)
  waits_there who x at = mapped (first (waits.is_of who) it.waits.rows) at
    where
      mapped : (o : Option WaitingThread) → option_map (λ (row : WaitingThread). row.wait) o ≡ Some x → IsSome o
      mapped None h = absurd (cc)
      mapped (Some row) h = refl

  pub waits_not : (who : ℕ) → option_map (λ (row : WaitingThread). row.wait) (first (waits.is_of who) it.waits.rows) ≡ None → has (waits_as who) all.waits ≡ false
  waits_not who at = has_wait it calls made is who ∙ mapped (first (waits.is_of who) it.waits.rows) at
    where
      mapped : (o : Option WaitingThread) → option_map (λ (row : WaitingThread). row.wait) o ≡ None → is_some o ≡ false
      mapped None h = refl
      mapped (Some row) h = absurd (cc)

  -- a message that is taken has a header
  pub long_message : (queue : Key) (m : Message) → option_map (λ (row : Key × QueuedMessage). row.1.message) (first (ports.is_in queue) it.ports.messages) ≡ Some m → 24 ≤ length m.bytes.items
  long_message queue m at = found (first (ports.is_in queue) it.ports.messages) refl at
    where
      found : (o : Option (Key × QueuedMessage)) → first (ports.is_in queue) it.ports.messages ≡ o → option_map (λ (row : Key × QueuedMessage). row.1.message) o ≡ Some m → 24 ≤ length m.bytes.items
      found None is' h = absurd (cc)
      found (Some row) is' h =
          let long : has_header row ≡ true = every-first has_header (ports.is_in queue) it.ports.messages row is.headed is' in
          let P : Message → Type 0 = λ x. 24 ≤ length x.bytes.items in
          subst P (same_Some row.1.message m h) (grind (arith, nat_tests))

  -- what is drawn is no port's, and is drawn
  pub fresh_birth : (who : ℕ) (b : Birth) → option_map next_birth (first (is_thread who) all.threads) ≡ Some b → first (is_port b) all.ports ≡ None
  fresh_birth who b at = by_thread (first (is_thread who) all.threads) refl at
    where
      by_thread : (o : Option model.ThreadRow) → first (is_thread who) all.threads ≡ o → option_map next_birth o ≡ Some b → first (is_port b) all.ports ≡ None
      by_thread None is' h = absurd (cc)
      by_thread (Some r) is' h =
          let own : r.number ≡ who = eqb-true r.number who (first-passes (is_thread who) all.threads r is') in
          let P : Birth → Type 0 = λ x. first (is_port x) all.ports ≡ None in
          subst P (same_Some (next_birth r) b h) (drawn.fresh-birth all who r is.drawn is' own)

  pub fresh_section : (who : ℕ) (b : Birth) → option_map next_birth (first (is_thread who) all.threads) ≡ Some b → first (is_section b) all.sections ≡ None
  fresh_section who b at = by_thread (first (is_thread who) all.threads) refl at
    where
      by_thread : (o : Option model.ThreadRow) → first (is_thread who) all.threads ≡ o → option_map next_birth o ≡ Some b → first (is_section b) all.sections ≡ None
      by_thread None is' h = absurd (cc)
      by_thread (Some r) is' h =
          let own : r.number ≡ who = eqb-true r.number who (first-passes (is_thread who) all.threads r is') in
          let P : Birth → Type 0 = λ x. first (is_section x) all.sections ≡ None in
          subst P (same_Some (next_birth r) b h) (drawn.fresh-section all who r is.drawn is' own)

  pub fresh_token : (who : ℕ) (b : Birth) → option_map next_birth (first (is_thread who) all.threads) ≡ Some b → first (is_token b) all.tokens ≡ None
  fresh_token who b at = by_thread (first (is_thread who) all.threads) refl at
    where
      by_thread : (o : Option model.ThreadRow) → first (is_thread who) all.threads ≡ o → option_map next_birth o ≡ Some b → first (is_token b) all.tokens ≡ None
      by_thread None is' h = absurd (cc)
      by_thread (Some r) is' h =
          let own : r.number ≡ who = eqb-true r.number who (first-passes (is_thread who) all.threads r is') in
          let P : Birth → Type 0 = λ x. first (is_token x) all.tokens ≡ None in
          subst P (same_Some (next_birth r) b h) (drawn.fresh-token all who r is.drawn is' own)

  -- nor the birth of a process or a thread
  pub next_born : (who : ℕ) (b : Birth) → option_map next_birth (first (is_thread who) all.threads) ≡ Some b → (has (is_born_process b) all.processes ≡ false) × (has (is_born_thread b) (change (is_thread who) basics.past_ordinal all.threads) ≡ false)
  next_born who b at = by_thread (first (is_thread who) all.threads) refl at
    where
      by_thread : (o : Option model.ThreadRow) → first (is_thread who) all.threads ≡ o → option_map next_birth o ≡ Some b → (has (is_born_process b) all.processes ≡ false) × (has (is_born_thread b) (change (is_thread who) basics.past_ordinal all.threads) ≡ false)
      by_thread None is' h = absurd (cc)
      by_thread (Some r) is' h =
          subst (λ x. (has (is_born_process x) all.processes ≡ false) × (has (is_born_thread x) (change (is_thread who) basics.past_ordinal all.threads) ≡ false)) (same_Some (next_birth r) b h)
          (born.next-process all who r is.born is', born.next-thread all who r is.born is')

  pub next_made : (who : ℕ) (b : Birth) → option_map next_birth (first (is_thread who) all.threads) ≡ Some b → (b.maker == 0) ≡ false
  next_made who b at = by_thread (first (is_thread who) all.threads) refl at
    where
      by_thread : (o : Option model.ThreadRow) → first (is_thread who) all.threads ≡ o → option_map next_birth o ≡ Some b → (b.maker == 0) ≡ false
      by_thread None is' h = absurd (cc)
      by_thread (Some r) is' h =
          let same : next_birth r ≡ b = cc in
          subst (λ (x : Birth). (x.maker == 0) ≡ false) same (born.next-maker all who r is.born is')

  pub now_drawn : (who : ℕ) (b : Birth) → option_map next_birth (first (is_thread who) all.threads) ≡ Some b → has (drew b) (change (is_thread who) basics.past_ordinal all.threads) ≡ true
  now_drawn who b at = by_thread (first (is_thread who) all.threads) refl at
    where
      by_thread : (o : Option model.ThreadRow) → first (is_thread who) all.threads ≡ o → option_map next_birth o ≡ Some b → has (drew b) (change (is_thread who) basics.past_ordinal all.threads) ≡ true
      by_thread None is' h = absurd (cc)
      by_thread (Some r) is' h =
          let P : Birth → Type 0 = λ x. has (drew x) (change (is_thread who) basics.past_ordinal all.threads) ≡ true in
          subst P (same_Some (next_birth r) b h) (drawn.now-drawn who all.threads r is')
