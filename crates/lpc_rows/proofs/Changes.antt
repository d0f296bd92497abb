-- For each change that gives no object a key: the tables' new rows are the step of the rows that they stood for, and
-- name what stands.
use Rattle.std.proofs.Common.{◌≡◌, ◌&&◌, ℕ, List, [], ◌∷◌, ◌++◌, Bool, true, false, cond, length, map, refl, ap, sym, ◌∙◌, arith, Option, Some, None}
use Rattle.std.specs.Prelude.{nat_lt}
use Rattle.lpc_base.specs.declared.birth.Birth.{Birth}
use Rattle.lpc_base.specs.Rows.{change, every, which, without, without_first}
use Rattle.lpc_base.proofs.Bools.{first-true, second-true}
use Rattle.lpc_base.proofs.RowWords.{every-append, every-change, every-push, every-which, every-without, length-change}
use Rattle.lpc_base.proofs.RowMaps.{change-map, every-map, every-without_first, push-map, unseen-change, which-map, without-map, without_first-map}
use Rattle.lpc_handles.specs.Handles as handles
use Rattle.lpc_handles.specs.declared.table.Row.{Row}
use Rattle.lpc_model.specs.World as model
use Rattle.lpc_model.specs.World.{World}
use Rattle.lpc_model.specs.Basics as basics
use Rattle.lpc_model.specs.Basics.{AddsHandle, AddsProcess, AddsThread, Awaits, DrawsIdentifier, DrawsOrdinal, Enters, Takes, basic, put_handle, with_handle}
use Rattle.lpc_model.specs.Found.{is_accepted, is_connect, is_queued, is_table, is_thread, waits_as}
use Rattle.lpc_ports.specs.Table as ports
use Rattle.lpc_ports.specs.Table.{QueuedMessage}
use Rattle.lpc_procs.specs.Procs as procs
use Rattle.lpc_procs.specs.declared.rows.ProcessRow.{ProcessRow}
use Rattle.lpc_procs.specs.declared.rows.ThreadRow.{ThreadRow}
use Rattle.lpc_procs.specs.declared.rows.UsedThread.{UsedThread}
use Rattle.lpc_model.specs.Message.{message_of}
use Rattle.lpc_model.specs.declared.message.Message.{Message}
use Rattle.lpc_slots.specs.declared.Key.{Key}
use Rattle.lpc_waits.specs.Table as waits
use Rattle.lpc_waits.specs.declared.Accepted.{Accepted}
use Rattle.lpc_waits.specs.declared.WaitKind.{WaitKind}
use Rattle.lpc_waits.specs.declared.WaitKind.TheVariants as wait
use Rattle.lpc_waits.specs.Table.{WaitingThread}
use Rattle.lpc_rows.specs.Kept.{goes_once, goes_twice, is_pending, owed_rows}
use Rattle.lpc_rows.specs.Lawful.{IsLawful, is_quiet}
use Rattle.lpc_rows.proofs.Lawful.{lawful-keep, owed-kept}
use Rattle.lpc_rows.specs.Names.{name_of, stands}
use Rattle.lpc_rows.specs.Shown.{Tables, AreNamed, Births, MarkTable, all_pass, birth_of, births_of, message_refs, object_stands, part_refs, shown_by, shown_handle, shown_message, shown_part, shown_space, space_refs, shown_process, shown_thread, shown_used, shown_wait, wait_refs, with_message, without_mark}
use Rattle.lpc_homes.specs.Parts.{handed, is_part, roomed}
use Rattle.lpc_homes.specs.declared.object.Object.{Object}
use Rattle.lpc_homes.specs.declared.parts.Part.{Part}
use Rattle.std.proofs.lemmas.List.{map-append}
use Rattle.lpc_rows.proofs.Follows.{queue_same}

module _ (it : Tables) (is : AreNamed (births_of it) it) where
  abbrev n : Births
  n = births_of it

  abbrev f : Object → Birth
  f = birth_of n

  abbrev ok : Object → Bool
  ok = object_stands n

  abbrev rows : World
  rows = shown_by n it

  -- a message enters
  pub entered : (row : Key × QueuedMessage) (room made : ℕ) → all_pass message_refs ok row ≡ true → AreNamed n (record it { ports = record it.ports { messages = it.ports.messages ++ row ∷ []; message_room = room; messages_made = made } })
  entered row room made there = record {
    ports_apart = is.ports_apart;
    sections_apart = is.sections_apart;
    tokens_apart = is.tokens_apart;
    refs = record { in_handles = is.refs.in_handles; in_ports = is.refs.in_ports; in_messages = every-push (all_pass message_refs ok) it.ports.messages row is.refs.in_messages there; in_waits = is.refs.in_waits; in_names = is.refs.in_names; in_views = is.refs.in_views };
  }

  pub enters : (row : Key × QueuedMessage) (room made : ℕ) → shown_by n (record it { ports = record it.ports { messages = it.ports.messages ++ row ∷ []; message_room = room; messages_made = made } }) ≡ basic rows (Enters (shown_message f row))
  enters row room made = rw (push-map (shown_message f) it.ports.messages row) refl

  -- the oldest message of a queue is taken
  pub taken : (key : Key) (room : ℕ) → AreNamed n (record it { ports = record it.ports { messages = without_first (ports.is_in key) it.ports.messages; message_room = room } })
  taken key room = record {
    ports_apart = is.ports_apart;
    sections_apart = is.sections_apart;
    tokens_apart = is.tokens_apart;
    refs = record { in_handles = is.refs.in_handles; in_ports = is.refs.in_ports; in_messages = every-without_first (all_pass message_refs ok) (ports.is_in key) it.ports.messages is.refs.in_messages; in_waits = is.refs.in_waits; in_names = is.refs.in_names; in_views = is.refs.in_views };
  }

  pub takes : (key : Key) (room : ℕ) → stands n.ports key ≡ true → shown_by n (record it { ports = record it.ports { messages = without_first (ports.is_in key) it.ports.messages; message_room = room } }) ≡ basic rows (Takes (name_of n.ports key))
  takes key room there = rw (without_first-map (shown_message f) (all_pass message_refs ok) (ports.is_in key) (is_queued (name_of n.ports key)) (queue_same it is key there) it.ports.messages is.refs.in_messages) refl

  -- waits
  pub awaited : (row : WaitingThread) (spare made : ℕ) → all_pass wait_refs ok row ≡ true → AreNamed n (record it { waits = record { rows = it.waits.rows ++ row ∷ []; spare = spare; made = made } })
  awaited row spare made there = record {
    ports_apart = is.ports_apart;
    sections_apart = is.sections_apart;
    tokens_apart = is.tokens_apart;
    refs = record { in_handles = is.refs.in_handles; in_ports = is.refs.in_ports; in_messages = is.refs.in_messages; in_waits = every-push (all_pass wait_refs ok) it.waits.rows row is.refs.in_waits there; in_names = is.refs.in_names; in_views = is.refs.in_views };
  }

  pub awaits : (row : WaitingThread) (spare made : ℕ) → shown_by n (record it { waits = record { rows = it.waits.rows ++ row ∷ []; spare = spare; made = made } }) ≡ basic rows (Awaits (shown_wait f row))
  awaits row spare made = rw (push-map (shown_wait f) it.waits.rows row) refl

  pub ended : (who spare made : ℕ) (marks : MarkTable) → AreNamed n (record it { waits = record { rows = without (waits.is_of who) it.waits.rows; spare = spare; made = made }; marks = marks })
  ended who spare made marks = record {
    ports_apart = is.ports_apart;
    sections_apart = is.sections_apart;
    tokens_apart = is.tokens_apart;
    refs = record { in_handles = is.refs.in_handles; in_ports = is.refs.in_ports; in_messages = is.refs.in_messages; in_waits = every-without (all_pass wait_refs ok) (waits.is_of who) it.waits.rows is.refs.in_waits; in_names = is.refs.in_names; in_views = is.refs.in_views };
  }

  pub ends : (who spare made : ℕ) → shown_by n (record it { waits = record { rows = without (waits.is_of who) it.waits.rows; spare = spare; made = made }; marks = without_mark who it.marks }) ≡ basics.left_by who rows
  ends who spare made = rw (without-map (shown_wait f) (all_pass wait_refs ok) (waits.is_of who) (waits_as who) (λ row there. refl) it.waits.rows is.refs.in_waits) refl

  -- a wait is changed, and what it names stands still
  pub waiting : (who spare made : ℕ) (g : WaitingThread → WaitingThread) → ((row : WaitingThread) → all_pass wait_refs ok row ≡ true → all_pass wait_refs ok (g row) ≡ true) → AreNamed n (record it { waits = record { rows = change (waits.is_of who) g it.waits.rows; spare = spare; made = made } })
  waiting who spare made g same = record {
    ports_apart = is.ports_apart;
    sections_apart = is.sections_apart;
    tokens_apart = is.tokens_apart;
    refs = record { in_handles = is.refs.in_handles; in_ports = is.refs.in_ports; in_messages = is.refs.in_messages; in_waits = every-change (all_pass wait_refs ok) (waits.is_of who) g same it.waits.rows is.refs.in_waits; in_names = is.refs.in_names; in_views = is.refs.in_views };
  }

  -- or only some do, of rows that pass a test
  pub waiting_if : (q : WaitingThread → Bool) (who spare made : ℕ) (g : WaitingThread → WaitingThread) → ((row : WaitingThread) → q row ≡ true → all_pass wait_refs ok row ≡ true → waits.is_of who row ≡ true → all_pass wait_refs ok (g row) ≡ true) → every q it.waits.rows ≡ true
      → AreNamed n (record it { waits = record { rows = change (waits.is_of who) g it.waits.rows; spare = spare; made = made } })
  waiting_if q who spare made g same all = record {
    ports_apart = is.ports_apart;
    sections_apart = is.sections_apart;
    tokens_apart = is.tokens_apart;
    refs = record { in_handles = is.refs.in_handles; in_ports = is.refs.in_ports; in_messages = is.refs.in_messages; in_waits = changed it.waits.rows all is.refs.in_waits; in_names = is.refs.in_names; in_views = is.refs.in_views };
  }
    where
      changed : (rs : List WaitingThread) → every q rs ≡ true → every (all_pass wait_refs ok) rs ≡ true → every (all_pass wait_refs ok) (change (waits.is_of who) g rs) ≡ true
      changed [] one two = refl
      changed (r ∷ rs) one two = at (waits.is_of who r) refl (changed rs (second-true (q r) _ one) (second-true (all_pass wait_refs ok r) _ two))
        where
          at : (c : Bool) → waits.is_of who r ≡ c → every (all_pass wait_refs ok) (change (waits.is_of who) g rs) ≡ true → (all_pass wait_refs ok (cond (waits.is_of who r) (g r) r) && every (all_pass wait_refs ok) (change (waits.is_of who) g rs)) ≡ true
          at true own rest = rw (own, same r (first-true (q r) _ one) (first-true (all_pass wait_refs ok r) _ two) own, rest) refl
          at false off rest = rw (off, first-true (all_pass wait_refs ok r) _ two, rest) refl

  pub waits_change : (who spare made : ℕ) (g : WaitingThread → WaitingThread) (k : model.WaitRow → model.WaitRow) → ((row : WaitingThread) → shown_wait f (g row) ≡ k (shown_wait f row)) → shown_by n (record it { waits = record { rows = change (waits.is_of who) g it.waits.rows; spare = spare; made = made } }) ≡ record rows { waits = change (waits_as who) k rows.waits }
  waits_change who spare made g k same = rw (change-map (shown_wait f) (all_pass wait_refs ok) (waits.is_of who) (waits_as who) (λ row there. refl) g k (λ row there. same row) it.waits.rows is.refs.in_waits) refl

  -- handles
  put : (value : ℕ) (row : Row Object) (hs : List (ℕ × Row Object)) → map (shown_handle f) (handles.with_row hs value row) ≡ put_handle (shown_handle f (value, row)) (map (shown_handle f) hs)
  put value row hs =
      map-append (shown_handle f) (which (handles.is_below value) hs) ((value, row) ∷ which (handles.is_above value) hs)
      ∙ rw (
        which-map (shown_handle f) (λ _. true) (handles.is_below value) (λ r. nat_lt r.value value) (λ r _. refl) hs (all_true hs),
        which-map (shown_handle f) (λ _. true) (handles.is_above value) (λ r. nat_lt value r.value) (λ r _. refl) hs (all_true hs),
      ) refl
    where
      all_true : {X : Type 0} (xs : List X) → every (λ _. true) xs ≡ true
      all_true [] = refl
      all_true (x ∷ xs) = grind (arith, all_true xs)

  objects_put : (value : ℕ) (row : Row Object) (hs : List (ℕ × Row Object)) → ok row.object ≡ true → every ok (map (λ r. r.1.object) hs) ≡ true → every ok (map (λ r. r.1.object) (handles.with_row hs value row)) ≡ true
  objects_put value row hs there all =
      rw (every-map ok (λ (r : ℕ × Row Object). r.1.object) (handles.with_row hs value row))
      (every-append (λ r. ok r.1.object) (which (handles.is_below value) hs) ((value, row) ∷ which (handles.is_above value) hs)
      (every-which (λ r. ok r.1.object) (handles.is_below value) hs (sym (every-map ok (λ (r : ℕ × Row Object). r.1.object) hs) ∙ all))
      (rw there (every-which (λ r. ok r.1.object) (handles.is_above value) hs (sym (every-map ok (λ (r : ℕ × Row Object). r.1.object) hs) ∙ all))))

  pub handed_named : (pid value : ℕ) (row : Row Object) → ok row.object ≡ true → AreNamed n (record it { parts = change (is_part pid) (handed value row) it.parts })
  handed_named pid value row there = record {
    ports_apart = is.ports_apart;
    sections_apart = is.sections_apart;
    tokens_apart = is.tokens_apart;
    refs = record {
      in_handles = every-change (all_pass part_refs ok) (is_part pid) (handed value row) (λ part all. objects_put value row part.handles.rows there all) it.parts is.refs.in_handles;
      in_ports = is.refs.in_ports;
      in_messages = is.refs.in_messages;
      in_waits = is.refs.in_waits;
      in_names = is.refs.in_names;
      in_views = every-change (all_pass space_refs ok) (is_part pid) (handed value row) (λ part all. all) it.parts is.refs.in_views;
    };
  }

  pub hands : (pid value : ℕ) (row : Row Object) → shown_by n (record it { parts = change (is_part pid) (handed value row) it.parts }) ≡ basic rows (AddsHandle pid (shown_handle f (value, row)))
  hands pid value row =
      rw (
        change-map (shown_part f) (all_pass part_refs ok) (is_part pid) (is_table pid) (λ part _. refl) (handed value row) (with_handle (shown_handle f (value, row)))
            (λ part _. ap (λ hs. record { process = part.process; rows = hs }) (put value row part.handles.rows)) it.parts is.refs.in_handles,
        unseen-change (shown_space f) (is_part pid) (handed value row) (λ part. refl) it.parts,
      ) refl

  -- more room for handles
  pub roomed_named : (pid spare : ℕ) → AreNamed n (record it { parts = change (is_part pid) (roomed spare) it.parts })
  roomed_named pid spare = record {
    ports_apart = is.ports_apart;
    sections_apart = is.sections_apart;
    tokens_apart = is.tokens_apart;
    refs = record {
      in_handles = every-change (all_pass part_refs ok) (is_part pid) (roomed spare) (λ part all. all) it.parts is.refs.in_handles;
      in_ports = is.refs.in_ports;
      in_messages = is.refs.in_messages;
      in_waits = is.refs.in_waits;
      in_names = is.refs.in_names;
      in_views = every-change (all_pass space_refs ok) (is_part pid) (roomed spare) (λ part all. all) it.parts is.refs.in_views;
    };
  }

  pub rooms : (pid spare : ℕ) → shown_by n (record it { parts = change (is_part pid) (roomed spare) it.parts }) ≡ rows
  rooms pid spare = rw (unseen-change (shown_part f) (is_part pid) (roomed spare) (λ part. refl) it.parts, unseen-change (shown_space f) (is_part pid) (roomed spare) (λ part. refl) it.parts) refl

  -- processes and threads
  pub all_true : {X : Type 0} (xs : List X) → every (λ _. true) xs ≡ true
  all_true [] = refl
  all_true (x ∷ xs) = grind (arith, all_true xs)

  pub threaded : (t : procs.Table) → AreNamed n (record it { procs = t })
  threaded t = record {
    ports_apart = is.ports_apart;
    sections_apart = is.sections_apart;
    tokens_apart = is.tokens_apart;
    refs = record { in_handles = is.refs.in_handles; in_ports = is.refs.in_ports; in_messages = is.refs.in_messages; in_waits = is.refs.in_waits; in_names = is.refs.in_names; in_views = is.refs.in_views };
  }

  pub processed : (t : procs.Table) (part : Part) → part.handles.rows ≡ [] → part.views.views ≡ [] → AreNamed n (record it { procs = t; parts = it.parts ++ part ∷ [] })
  processed t part none no_views = record {
    ports_apart = is.ports_apart;
    sections_apart = is.sections_apart;
    tokens_apart = is.tokens_apart;
    refs = record { in_handles = every-push (all_pass part_refs ok) it.parts part is.refs.in_handles (rw none refl); in_ports = is.refs.in_ports; in_messages = is.refs.in_messages; in_waits = is.refs.in_waits; in_names = is.refs.in_names; in_views = every-push (all_pass space_refs ok) it.parts part is.refs.in_views (rw no_views refl) };
  }

  pub adds_process : (row : ProcessRow) (part : Part) (room : ℕ) → part.handles.rows ≡ [] → part.views.views ≡ [] → part.process ≡ row.number
      → shown_by n (record it { procs = record it.procs { processes = it.procs.processes ++ row ∷ []; used_processes = it.procs.used_processes ++ row.number ∷ []; process_room = room }; parts = it.parts ++ part ∷ [] }) ≡ basic rows (AddsProcess (shown_process row))
  adds_process row part room none no_views same = rw (push-map shown_process it.procs.processes row, push-map (shown_part f) it.parts part, push-map (shown_space f) it.parts part, none, no_views, same) refl

  pub adds_thread : (row : ThreadRow) (room : ℕ)
      → shown_by n (record it { procs = record it.procs { threads = it.procs.threads ++ row ∷ []; used_threads = it.procs.used_threads ++ (record { number = row.number; process = row.process }) ∷ []; thread_room = room } }) ≡ basic rows (AddsThread (shown_thread row))
  adds_thread row room =
      let u : UsedThread = record { number = row.number; process = row.process } in
      rw (push-map shown_thread it.procs.threads row, push-map shown_used it.procs.used_threads u) refl

  pub draws_identifier : (who : ℕ) → shown_by n (record it { procs = procs.with_thread it.procs who procs.past_identifier }) ≡ basic rows (DrawsIdentifier who)
  draws_identifier who = rw (change-map shown_thread (λ _. true) (procs.is_thread who) (is_thread who) (λ row _. refl) procs.past_identifier basics.past_identifier (λ row _. refl) it.procs.threads (all_true it.procs.threads)) refl

  pub draws_ordinal : (who : ℕ) → shown_by n (record it { procs = procs.with_thread it.procs who procs.past_birth }) ≡ basic rows (DrawsOrdinal who)
  draws_ordinal who = rw (change-map shown_thread (λ _. true) (procs.is_thread who) (is_thread who) (λ row _. refl) procs.past_birth basics.past_ordinal (λ row _. refl) it.procs.threads (all_true it.procs.threads)) refl

  -- a wait whose request is received, and one that keeps its message
  pub receives : (who : ℕ) → shown_by n (record it { waits = record it.waits { rows = change (waits.is_of who) waits.received it.waits.rows } }) ≡ record rows { waits = change (waits_as who) basics.received rows.waits }
  receives who = waits_change who it.waits.spare it.waits.made waits.received basics.received (λ row. refl)

  message_shown : (bytes : List ℕ) (row : WaitingThread) → shown_wait f (waits.with_message bytes row) ≡ with_message (message_of bytes) (shown_wait f row)
  message_shown bytes row = by_kind row.wait.kind
    where
      by_kind : (kind : WaitKind) → let old : WaitingThread = record row { wait = record row.wait { kind = kind } } in shown_wait f (waits.with_message bytes old) ≡ with_message (message_of bytes) (shown_wait f old)
      by_kind wait.Request = refl
      by_kind wait.Receive = refl
      by_kind wait.Listen = refl
      by_kind wait.Connect = by_accepted row.accepted
        where
          by_accepted : (accepted : Option Accepted) → let old : WaitingThread = record row { wait = record row.wait { kind = wait.Connect }; accepted = accepted } in shown_wait f (waits.with_message bytes old) ≡ with_message (message_of bytes) (shown_wait f old)
          by_accepted None = refl
          by_accepted (Some accepted) = refl
      by_kind (wait.Event r) = refl

  pub keeps_message : (who : ℕ) (bytes : List ℕ) → shown_by n (record it { waits = record it.waits { rows = change (waits.is_of who) (waits.with_message bytes) it.waits.rows } }) ≡ record rows { waits = change (waits_as who) (with_message (message_of bytes)) rows.waits }
  keeps_message who bytes = waits_change who it.waits.spare it.waits.made (waits.with_message bytes) (with_message (message_of bytes)) (message_shown bytes)

-- a wait that keeps its message is a connect where it was
pub connect_kept : (m : Message) (x : model.WaitRow) → is_connect (with_message m x) ≡ is_connect x
connect_kept m x = by_kind x.kind
  where
    by_kind : (kind : model.WaitKind) → let old : model.WaitRow = record x { kind = kind } in is_connect (with_message m old) ≡ is_connect old
    by_kind (model.Request other) = refl
    by_kind model.Receive = refl
    by_kind model.Listen = refl
    by_kind (model.Connect other offer) = refl
    by_kind (model.Accepted other reply) = refl
    by_kind (model.Event r) = refl

-- a wait that keeps its message is accepted where it was
pub accepted_kept : (m : Message) (x : model.WaitRow) → is_accepted (with_message m x) ≡ is_accepted x
accepted_kept m x = by_kind x.kind
  where
    by_kind : (kind : model.WaitKind) → let old : model.WaitRow = record x { kind = kind } in is_accepted (with_message m old) ≡ is_accepted old
    by_kind (model.Request other) = refl
    by_kind model.Receive = refl
    by_kind model.Listen = refl
    by_kind (model.Connect other offer) = refl
    by_kind (model.Accepted other reply) = refl
    by_kind (model.Event r) = refl

-- a wait that keeps its message is pending where it was
pub pending_kept : (m : Message) (x : model.WaitRow) → is_pending (with_message m x) ≡ is_pending x
pending_kept m x = by_kind x.kind
  where
    by_kind : (kind : model.WaitKind) → let old : model.WaitRow = record x { kind = kind } in is_pending (with_message m old) ≡ is_pending old
    by_kind (model.Request other) = refl
    by_kind model.Receive = refl
    by_kind model.Listen = refl
    by_kind (model.Connect other offer) = refl
    by_kind (model.Accepted other reply) = refl
    by_kind (model.Event r) = refl

quiet_kept : (m : Message) (ms : List model.MessageRow) (x : model.WaitRow) → is_quiet ms (with_message m x) ≡ is_quiet ms x
quiet_kept m ms x = by_kind x.kind
  where
    by_kind : (kind : model.WaitKind) → let old : model.WaitRow = record x { kind = kind } in is_quiet ms (with_message m old) ≡ is_quiet ms old
    by_kind (model.Request other) = refl
    by_kind model.Receive = refl
    by_kind model.Listen = refl
    by_kind (model.Connect other offer) = refl
    by_kind (model.Accepted other reply) = refl
    by_kind (model.Event r) = refl

-- and owes as much
twice_kept : (m : Message) (x : model.WaitRow) → goes_twice (with_message m x) ≡ goes_twice x
twice_kept m x = by_kind x.kind
  where
    by_kind : (kind : model.WaitKind) → let old : model.WaitRow = record x { kind = kind } in goes_twice (with_message m old) ≡ goes_twice old
    by_kind (model.Request other) = refl
    by_kind model.Receive = refl
    by_kind model.Listen = refl
    by_kind (model.Connect other offer) = refl
    by_kind (model.Accepted other reply) = refl
    by_kind (model.Event r) = refl

once_kept : (m : Message) (x : model.WaitRow) → goes_once (with_message m x) ≡ goes_once x
once_kept m x = by_kind x.kind
  where
    by_kind : (kind : model.WaitKind) → let old : model.WaitRow = record x { kind = kind } in goes_once (with_message m old) ≡ goes_once old
    by_kind (model.Request other) = refl
    by_kind model.Receive = refl
    by_kind model.Listen = refl
    by_kind (model.Connect other offer) = refl
    by_kind (model.Accepted other reply) = refl
    by_kind (model.Event r) = refl

pub lawful-message : (v : World) (calls made a b who : ℕ) (bytes : List ℕ) → IsLawful v calls made a b → IsLawful (record v { waits = change (waits_as who) (with_message (message_of bytes)) v.waits }) calls made a b
lawful-message v calls made a b who bytes h = lawful-keep v calls made a b who (with_message (message_of bytes)) (λ x. refl) (pending_kept (message_of bytes)) (quiet_kept (message_of bytes) v.messages) (twice_kept (message_of bytes)) (once_kept (message_of bytes)) h

-- and as many rows are owed
pub message-owed : (v : World) (who : ℕ) (bytes : List ℕ) → owed_rows (record v { waits = change (waits_as who) (with_message (message_of bytes)) v.waits }) ≡ owed_rows v
message-owed v who bytes = let same = owed-kept who (with_message (message_of bytes)) (twice_kept (message_of bytes)) (once_kept (message_of bytes)) v.waits in omega (arith, same)

pub length-message : (who : ℕ) (bytes : List ℕ) (xs : List model.WaitRow) → length (change (waits_as who) (with_message (message_of bytes)) xs) ≡ length xs
length-message who bytes xs = length-change (waits_as who) (with_message (message_of bytes)) xs
