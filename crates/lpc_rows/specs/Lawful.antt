-- What the world keeps of its rows, its numbers and its room.
use Rattle.std.specs.Prelude.{◌≡◌, ℕ, ◌+◌, ◌*◌, ◌==◌, ◌&&◌, ◌||◌, ◌≤◌, nat_le, nat_lt, Bool, true, not, List, length, if◌then◌else◌}
use Rattle.lpc_base.specs.declared.birth.Birth.{Birth}
use Rattle.lpc_base.specs.declared.limits.TheConstants.{HANDLE_LIMIT, HEADER_SIZE, LINES_LIMIT}
use Rattle.lpc_base.specs.Rows.{count, differ_by, every, has}
use Rattle.lpc_model.specs.World.{World, HandleTable, MessageRow, ProcessRow, ThreadRow, UsedThread, WaitRow}
use Rattle.lpc_model.specs.Found.{is_born_process, is_born_thread, is_connect, is_listen, is_live_thread, is_own_of, is_process, is_queued, is_queued_connect, is_receive, is_table, is_taken, is_used_thread, same_birth}
use Rattle.lpc_model.specs.Tests.{is_connect_of}
use Rattle.lpc_model.specs.SingleClosings.{is_closing_of}
use Rattle.lpc_ports.specs.Table as ports
use Rattle.lpc_ports.specs.Table.{PortTable, QueuedMessage}
use Rattle.lpc_procs.specs.Procs.{event_ports_of}
use Rattle.lpc_procs.specs.declared.rows.ProcessRow as process
use Rattle.lpc_procs.specs.declared.rows.ThreadRow as procs
use Rattle.lpc_procs.specs.declared.rows.Registration.{Registration}
use Rattle.lpc_sections.specs.Sections.{SectionRow}
use Rattle.lpc_slots.specs.Table.{Table}
use Rattle.lpc_slots.specs.declared.Key.{Key}
use Rattle.lpc_tokens.specs.declared.token_row.TokenRow.{TokenRow}
use Rattle.lpc_views.specs.Parts.{is_mapped}
use Rattle.lpc_waits.specs.Table.{WaitTable, WaitingThread, is_event, is_mark}
use Rattle.lpc_waits.specs.Table.{is_of as is_of_thread}
use Rattle.lpc_homes.specs.declared.parts.Part.{Part}
use Rattle.lpc_rows.specs.Kept.{CALL_BUDGET, owed_messages, owed_rows, owed_waits, pends_as, rows_by}
use Rattle.lpc_rows.specs.Names.{name_of, stands}
use Rattle.lpc_rows.specs.Shown.{AreNamed, Births, MarkTable, Tables, births_of}
use Rattle.lpc_rows.specs.OwedClosings.{is_client_of}

-- no thread waits twice
abbrev pub are_single : List WaitRow → Bool
are_single waits = differ_by (λ x. x.thread) waits

-- no process has two tables of handles
abbrev pub are_single_tables : List HandleTable → Bool
are_single_tables tables = differ_by (λ t. t.process) tables

-- the waiting thread is one of the live threads
abbrev pub is_of : List ThreadRow → WaitRow → Bool
is_of threads x = has (is_live_thread x.thread) threads

-- the numbers that a thread draws next are at most this
abbrev pub draws_at_most : ℕ → ThreadRow → Bool
draws_at_most n t = nat_le t.next_identifier n && nat_le t.next_ordinal n

-- the process of a thread stands while the thread lives, and has a table of handles; the row of a thread that has ended may
-- stand longer than that of its process
abbrev pub is_housed : World → ThreadRow → Bool
is_housed w t = (not t.live || has (is_process t.process) w.processes) && has (is_table t.process) w.handles

-- a receive waits on an empty queue, and a listen on one without connection requests
abbrev pub is_quiet : List MessageRow → WaitRow → Bool
is_quiet messages x =
    not (is_receive x && has (is_queued x.queue) messages) && not (is_listen x && has (is_queued_connect x.queue) messages)

-- the number of a table's process was used
abbrev pub is_used : List ℕ → HandleTable → Bool
is_used used t = has (λ n. n == t.process) used

pub record IsLawful (w : World) (calls made waits messages : ℕ) : Type 0 where
  -- so no counter reaches its end
  pub few : calls ≤ LINES_LIMIT
  pub budget : made + owed_rows w ≤ CALL_BUDGET * calls
  pub rows : length w.processes + length w.threads + length w.ports + length w.sections + length w.tokens ≤ made
  pub draws : every (draws_at_most (made + 1)) w.threads ≡ true
  -- each live thread's process stands, and each thread's has one table of handles
  pub housed : every (is_housed w) w.threads ≡ true
  pub tables_used : every (is_used w.used_processes) w.handles ≡ true
  pub tables_single : are_single_tables w.handles ≡ true
  pub tables_few : length w.handles ≤ made
  -- only a live thread waits, and once
  pub single : are_single w.waits ≡ true
  pub threads : every (is_of w.threads) w.waits ≡ true
  -- what a receive or listen waits for doesn't stand in its queue
  pub quiet : every (is_quiet w.messages) w.waits ≡ true
  -- a thread's own message in a queue is that of a request, event or connect with which it waits, and which isn't received
  pub own : (tid : ℕ) → count (is_own_of tid) w.messages ≤ count (pends_as tid) w.waits
  -- of each client port's closing one message tells at most, and of no other port's
  pub told : (b : Birth) → count (is_closing_of b) w.messages ≤ count (is_client_of b) w.ports
  -- what is owed finds its place
  pub waits_fit : owed_waits w ≤ waits
  pub messages_fit : owed_messages w ≤ messages

-- what was inserted into the tables is counted
pub record IsCounted (ports : PortTable) (waits : WaitTable) (tokens : Table TokenRow) (made : ℕ) : Type 0 where
  pub ports_made : ports.ports_made ≤ made
  pub messages_made : ports.messages_made ≤ made
  pub waits_made : waits.made ≤ made
  pub tokens_made : tokens.made ≤ made

-- no two threads have one number
abbrev pub are_single_threads : List ThreadRow → Bool
are_single_threads threads = differ_by (λ t. t.number) threads

-- a thread's number was used
abbrev pub is_noted : List UsedThread → ThreadRow → Bool
is_noted used t = has (is_used_thread t.number) used

-- the thread has drawn the birth; it has, where it is the birth's maker
abbrev pub drew : Birth → ThreadRow → Bool
drew b t = (t.number == b.maker) && nat_lt b.ordinal t.next_ordinal

abbrev pub drew_own : Birth → ThreadRow → Bool
drew_own b t = not (t.number == b.maker) || nat_lt b.ordinal t.next_ordinal

-- A birth was drawn: the number of its maker was used, and the maker has drawn the birth, where its row stands. The row goes
-- when the maker has ended, and what it made may stay.
abbrev pub was_drawn : List UsedThread → List ThreadRow → Birth → Bool
was_drawn used threads b = has (is_used_thread b.maker) used && every (drew_own b) threads

-- a port's birth was drawn by its maker, and so was a section's and a token's, so that what is drawn next is none of theirs
pub record AreDrawn (w : World) : Type 0 where
  pub threads_single : are_single_threads w.threads ≡ true
  pub threads_noted : every (is_noted w.used_threads) w.threads ≡ true
  pub ports_drawn : every (λ p. was_drawn w.used_threads w.threads p.birth) w.ports ≡ true
  pub sections_drawn : every (λ s. was_drawn w.used_threads w.threads s.birth) w.sections ≡ true
  pub tokens_drawn : every (λ t. was_drawn w.used_threads w.threads t.birth) w.tokens ≡ true

-- no two processes have one number, and a process's number was used
abbrev pub are_single_processes : List ProcessRow → Bool
are_single_processes processes = differ_by (λ p. p.number) processes

abbrev pub is_noted_process : List ℕ → ProcessRow → Bool
is_noted_process used p = has (λ n. n == p.number) used

-- The birth of a process or thread of a number: what a directive makes has maker 0 and its number as ordinal, what a thread
-- makes has a birth that was drawn.
abbrev pub is_birth_of : List UsedThread → List ThreadRow → ℕ → Birth → Bool
is_birth_of used threads number b = if b.maker == 0 then b.ordinal == number else was_drawn used threads b

-- a process or thread of a number can begin under the birth: it is that of a directive, or a thread has drawn it
abbrev pub can_begin : List ThreadRow → ℕ → Birth → Bool
can_begin threads number b = if b.maker == 0 then b.ordinal == number else has (drew b) threads

-- a thread's number is no 0, which is the maker of what a directive makes
abbrev pub is_numbered : ThreadRow → Bool
is_numbered t = not (t.number == 0)

-- each process and each thread has a number and a birth of its own
pub record AreBorn (processes : List ProcessRow) (threads : List ThreadRow) (numbers : List ℕ) (used : List UsedThread) : Type 0 where
  pub processes_single : are_single_processes processes ≡ true
  pub processes_noted : every (is_noted_process numbers) processes ≡ true
  pub processes_born : every (λ p. is_birth_of used threads p.number p.birth) processes ≡ true
  pub threads_born : every (λ t. is_birth_of used threads t.number t.birth) threads ≡ true
  pub threads_numbered : every is_numbered threads ≡ true
  pub process_births : (b : Birth) → count (is_born_process b) processes ≤ 1
  pub thread_births : (b : Birth) → count (is_born_thread b) threads ≤ 1

abbrev pub AreBornIn : World → Type 0
AreBornIn w = AreBorn w.processes w.threads w.used_processes w.used_threads

-- the room of a process's table holds the handles that its waiting connects are to get, and so many it may have
abbrev pub has_places : List WaitRow → Part → Bool
has_places waits part = nat_le (count (is_connect_of part.process) waits) part.handles.spare

abbrev pub is_within : List WaitRow → HandleTable → Bool
is_within waits t = nat_le (length t.rows + count (is_connect_of t.process) waits) HANDLE_LIMIT

-- the process of a connect has a table of handles
abbrev pub is_at_home : List HandleTable → WaitRow → Bool
is_at_home handles x = not (is_connect x) || has (is_table x.process) handles

-- each waiting connect can be completed without memory, and within the number of handles
pub record IsPromised (waits : List WaitRow) (handles : List HandleTable) (parts : List Part) : Type 0 where
  pub places : every (has_places waits) parts ≡ true
  pub loads : every (is_within waits) handles ≡ true
  pub homes : every (is_at_home handles) waits ≡ true
  pub taken : every is_taken waits ≡ true

-- a message's bytes begin with a header
abbrev pub has_header : Key × QueuedMessage → Bool
has_header row = nat_le HEADER_SIZE (length row.1.message.bytes.items)

-- the port of a registration stands, under the name that the registration has; so each port that a thread registered
abbrev pub is_under_name : Births → Registration → Bool
is_under_name n r = stands n.ports r.port && same_birth (name_of n.ports r.port) r.birth

abbrev pub has_named_ports : Births → procs.ThreadRow → Bool
has_named_ports n t = every (is_under_name n) t.registered.items

-- so do the ports that are told of a process's exceptions
abbrev pub has_named_hearers : Births → process.ProcessRow → Bool
has_named_hearers n p = every (is_under_name n) (event_ports_of p)

-- a thread lives, and a thread waits for what is made of an event
abbrev pub is_living : procs.ThreadRow → Bool
is_living t = t.live

abbrev pub is_event_of : ℕ → WaitingThread → Bool
is_event_of tid row = is_of_thread tid row && is_event row.wait.kind

-- a thread is marked once, waits for what is made of an event then, and has no message of its own in a queue; each live
-- thread has a place for its mark
pub record AreMarked (threads : List procs.ThreadRow) (rows : List WaitingThread) (messages : List (Key × QueuedMessage)) (marks : MarkTable) : Type 0 where
  pub marked : (tid : ℕ) → count (is_mark tid) marks.rows ≤ count (is_event_of tid) rows
  pub left : every (λ n. not (has (ports.is_own_of n) messages)) marks.rows ≡ true
  pub places : count is_living threads ≤ marks.places

-- each view of a process shows a part of a section that stands
abbrev pub has_mapped_views : Table SectionRow → Part → Bool
has_mapped_views sections part = every (is_mapped sections) part.views.views

-- so it is with all views, and what was inserted into the table of sections is counted
pub record AreMappedIn (sections : Table SectionRow) (parts : List Part) (made : ℕ) : Type 0 where
  pub sections_made : sections.made ≤ made
  pub views_mapped : every (has_mapped_views sections) parts ≡ true

-- The tables name what stands, and their rows are lawful.
pub record AreLawful (it : Tables) (calls made : ℕ) : Type 0 where
  pub named : AreNamed (births_of it) it
  pub lawful : IsLawful (rows_by it) calls made it.waits.spare it.ports.message_room
  pub counted : IsCounted it.ports it.waits it.tokens made
  pub drawn : AreDrawn (rows_by it)
  pub born : AreBornIn (rows_by it)
  pub promised : IsPromised (rows_by it).waits (rows_by it).handles it.parts
  pub registered : every (has_named_ports (births_of it)) it.procs.threads ≡ true
  pub heard : every (has_named_hearers (births_of it)) it.procs.processes ≡ true
  pub marked : AreMarked it.procs.threads it.waits.rows it.ports.messages it.marks
  -- a message that stands in a queue has a header
  pub headed : every has_header it.ports.messages ≡ true
  pub mapped : AreMappedIn it.sections it.parts made
