-- What contracts see of the world: the definitions' rows, the births of keys, the calls so far, and the room.
use Rattle.std.specs.Prelude.{◌≡◌, ℕ, ◌+◌, ◌-◌, ◌*◌, ◌<◌, ◌≤◌, ◌==◌, ◌&&◌, ◌||◌, ◌∷◌, [], Bool, true, false, not, List, length, map, max, min, Option, Some, None}
use Rattle.lpc_base.specs.declared.birth.Birth.{Birth}
use Rattle.lpc_base.specs.Rows.{count, each, first, has}
use Rattle.lpc_procs.specs.Procs.{most_rows}
use Rattle.lpc_model.specs.World.{World, Event, FirstDebug, LastDebug, MessageRow, PortRow, Raised, WaitRow, ThreadRow}
use Rattle.lpc_model.specs.Closings.{is_closed_post}
use Rattle.lpc_model.specs.Found.{handles_of, views_of, is_client_port, is_connect, is_event, is_mark, is_open, is_own_of, is_request, waits_as}
use Rattle.lpc_model.specs.Message.{asks}
use Rattle.lpc_model.specs.Tests.{is_connect_of}
use Rattle.lpc_rows.specs.Capacity.{Capacity, capacity_by, grown_capacity, handle_places, view_places}
use Rattle.lpc_rows.specs.Shown.{Births, Tables, births_of, shown_by}
use Rattle.lpc_homes.specs.declared.parts.Part.{Part}

-- a message whose sender waits for an answer, and a request, event or connect that isn't received
abbrev pub is_asking : MessageRow → Bool
is_asking m = asks m.message

abbrev pub is_pending : WaitRow → Bool
is_pending x = (is_request x || (is_event x || is_connect x)) && not x.received

abbrev pub is_alive : ThreadRow → Bool
is_alive t = t.live

-- What is owed: the places of rows that must go in later without memory
-- Each live thread that doesn't wait has a place for its wait. Only a live thread waits, and once, so those are the live
-- threads less the waits.
abbrev pub owed_waits : World → ℕ
owed_waits w = count is_alive w.threads - length w.waits

-- Each live thread without a message of its own in a queue has a place for it. A thread has at most one there, and waits
-- with it, so those are the live threads less the messages that ask.
abbrev pub owed_requests : World → ℕ
owed_requests w = count is_alive w.threads - count is_asking w.messages

-- Each client port of whose closing no message in a queue tells has a place for that message, which NtClose posts. One tells
-- of each such port at most, and none of another, so those are the client ports less the messages that tell of closings.
abbrev pub owed_closings : World → ℕ
owed_closings w = count is_client_port w.ports - count is_closed_post w.messages

-- The ports that threads registered. Those of a thread that has ended are among them until its end is told.
abbrev pub registered_ports : World → List Birth
registered_ports w = each (λ t. t.registrations) w.threads

-- Each registration has a place for the message that tells of its thread's end.
abbrev pub owed_deaths : World → ℕ
owed_deaths w = length (registered_ports w)

abbrev pub owed_messages : World → ℕ
owed_messages w = owed_requests w + owed_closings w + owed_deaths w

-- Each waiting connect of a process has a place for the handle that it is to get.
abbrev pub owed_handles : World → ℕ → ℕ
owed_handles w pid = count (is_connect_of pid) w.waits

-- Each open client port may still cause one row to be made: the message that tells that the port is closed. So may each
-- registration: the message that tells of its thread's end.
abbrev pub is_open_client : World → PortRow → Bool
is_open_client w p = is_client_port p && is_open w p.birth

abbrev pub open_clients : World → ℕ
open_clients w = count (is_open_client w) w.ports

-- And so may each waiting event, for each later chance that it may still take, as it goes on: an identifier, a wait and a
-- message. There are two behind the first chance at the debug port, and one behind the last.
abbrev pub has_two_chances : Raised → Bool
has_two_chances r = elim r.chance [
  | FirstDebug ↦ true
  | _ ↦ false
]

abbrev pub has_last_chance : Raised → Bool
has_last_chance r = elim r.chance [
  | LastDebug ↦ true
  | _ ↦ false
]

abbrev pub goes_twice : WaitRow → Bool
goes_twice x = elim x.kind [
  | Event r ↦ has_two_chances r
  | _ ↦ false
]

abbrev pub goes_once : WaitRow → Bool
goes_once x = elim x.kind [
  | Event r ↦ has_last_chance r
  | _ ↦ false
]

abbrev pub owed_for : List WaitRow → ℕ
owed_for waits = 6 * count goes_twice waits + 3 * count goes_once waits

abbrev pub owed_by : WaitRow → ℕ
owed_by x = owed_for (x ∷ [])

abbrev pub owed_events : World → ℕ
owed_events w = owed_for w.waits

abbrev pub owed_rows : World → ℕ
owed_rows w = open_clients w + owed_deaths w + owed_events w

-- how many more handles go into a process's table without memory, with those that its waiting connects are to get; or how
-- many more views
pub record HandleRoom : Type 0 where
  pub process : ℕ
  pub spare : ℕ

-- How many more rows go in without memory. Of waits and messages it counts the places beyond those that are owed. With a wait
-- goes the place of a mark, since each live thread has one.
pub record Room : Type 0 where
  pub processes : ℕ
  pub threads : ℕ
  pub waits : ℕ
  pub messages : ℕ
  pub ports : ℕ
  pub names : ℕ
  pub sections : ℕ
  pub tokens : ℕ
  pub token_names : ℕ
  pub handles : List HandleRoom
  pub views : List HandleRoom

-- the rows; the births of keys; how many directive and service calls were made; how many rows and numbers were made,
-- with the rows that are owed; whether a sweep is due (since the last one a call was made that takes rows away which
-- may name objects, or such names); the room; the memory
pub record Kept : Type 0 where
  pub rows : World
  pub births : Births
  pub calls : ℕ
  pub made : ℕ
  pub loose : Bool
  pub room : Room
  pub capacity : Capacity

abbrev pub room_of_part : Part → HandleRoom
room_of_part part = record { process = part.process; spare = part.handles.spare }

abbrev pub view_room_of : Part → HandleRoom
view_room_of part = record { process = part.process; spare = part.views.spare }

-- the room of tables with so many places for parts left
abbrev pub room_by : World → Tables → ℕ → Room
room_by rows it places = record {
  processes = min it.procs.process_room places;
  threads = it.procs.thread_room;
  waits = min (it.waits.spare - owed_waits rows) (it.marks.places - count is_alive rows.threads);
  messages = it.ports.message_room - owed_messages rows;
  ports = it.ports.port_room;
  names = it.space.spare;
  sections = it.sections.spare;
  tokens = it.tokens.spare;
  token_names = it.token_names.spare;
  handles = map room_of_part it.parts;
  views = map view_room_of it.parts;
}

abbrev pub rows_by : Tables → World
rows_by it = shown_by (births_of it) it

abbrev pub kept_by : Tables → ℕ → ℕ → ℕ → Bool → Kept
kept_by it places calls made loose = record {
  rows = rows_by it;
  births = births_of it;
  calls = calls;
  made = made + owed_rows (rows_by it);
  loose = loose;
  room = room_by (rows_by it) it places;
  capacity = capacity_by it places;
}

-- how many places a world's tables of processes have taken: of the processes, of their numbers, and of their handles
abbrev pub process_rows : World → ℕ
process_rows w = max (length w.handles) (most_rows w.processes w.used_processes)

-- The most memory that each table has once it was asked for so many rows more, and for those that are owed
abbrev pub grown_processes : Kept → ℕ → ℕ
grown_processes w more = grown_capacity w.capacity.processes more (process_rows w.rows)

abbrev pub grown_threads : Kept → ℕ → ℕ
grown_threads w more = grown_capacity w.capacity.threads more (most_rows w.rows.threads w.rows.used_threads)

abbrev pub grown_waits : Kept → ℕ → ℕ
grown_waits w more = grown_capacity w.capacity.waits (owed_waits w.rows + more) (length w.rows.waits)

abbrev pub grown_messages : Kept → ℕ → ℕ
grown_messages w more = grown_capacity w.capacity.messages (owed_messages w.rows + more) (length w.rows.messages)

abbrev pub grown_ports : Kept → ℕ → ℕ
grown_ports w more = grown_capacity w.capacity.ports more (length w.rows.ports)

abbrev pub grown_handles : Kept → ℕ → ℕ → ℕ
grown_handles w pid more = grown_capacity (handle_places w.capacity pid) (owed_handles w.rows pid + more) (length (handles_of w.rows pid))

abbrev pub grown_sections : Kept → ℕ → ℕ
grown_sections w more = grown_capacity w.capacity.sections more (length w.rows.sections)

abbrev pub grown_tokens : Kept → ℕ → ℕ
grown_tokens w more = grown_capacity w.capacity.tokens more (length w.rows.tokens)

abbrev pub grown_views : Kept → ℕ → ℕ → ℕ
grown_views w pid more = grown_capacity (view_places w.capacity pid) more (length (views_of w.rows pid))

-- there is no more memory for processes and threads, but for the places of the rows that went
pub record GainsNoLives (old new : Kept) : Type 0 where
  pub for_processes : new.capacity.processes + length new.rows.processes ≤ old.capacity.processes + length old.rows.processes
  pub for_threads : new.capacity.threads + length new.rows.threads ≤ old.capacity.threads + length old.rows.threads

-- nothing changed but the room, and the memory that it is of
pub record Same (old new : Kept) : Type 0 where
  pub rows : new.rows ≡ old.rows
  pub births : new.births ≡ old.births
  pub calls : new.calls ≡ old.calls
  pub made : new.made ≡ old.made
  pub loose : new.loose ≡ old.loose

-- the room in a process's table of handles
abbrev pub is_room : ℕ → HandleRoom → Bool
is_room pid r = r.process == pid

abbrev pub room_in : Option HandleRoom → ℕ
room_in None = 0
room_in (Some r) = r.spare

abbrev pub handle_room : Room → ℕ → ℕ
handle_room room pid = room_in (first (is_room pid) room.handles)

-- the room in its table of views
abbrev pub view_room : Room → ℕ → ℕ
view_room room pid = room_in (first (is_room pid) room.views)

-- no room is lost
pub record Roomy (old new : Room) : Type 0 where
  pub for_processes : old.processes ≤ new.processes
  pub for_threads : old.threads ≤ new.threads
  pub for_waits : old.waits ≤ new.waits
  pub for_messages : old.messages ≤ new.messages
  pub for_ports : old.ports ≤ new.ports
  pub for_names : old.names ≤ new.names
  pub for_sections : old.sections ≤ new.sections
  pub for_tokens : old.tokens ≤ new.tokens
  pub for_token_names : old.token_names ≤ new.token_names
  pub for_handles : (pid : ℕ) → handle_room old pid ≤ handle_room new pid
  pub for_views : (pid : ℕ) → view_room old pid ≤ view_room new pid

-- the tables of handles of other processes have the room that they had
pub record KeepsOtherRoom (pid : ℕ) (old new : Room) : Type 0 where
  pub for_handles : (other : ℕ) → (other == pid) ≡ false → handle_room new other ≡ handle_room old other

-- so have the tables of views
pub record KeepsOtherViewRoom (pid : ℕ) (old new : Room) : Type 0 where
  pub for_views : (other : ℕ) → (other == pid) ≡ false → view_room new other ≡ view_room old other

-- a step was taken that leaves these rows; it made no row or number, no key came or went, and no room was lost
pub record IsStep (left : World) (old new : Kept) : Type 0 where
  pub rows : new.rows ≡ left
  pub births : new.births ≡ old.births
  pub calls : new.calls ≡ old.calls
  pub made : new.made ≡ old.made
  pub room : Roomy old.room new.room

-- one was taken that made one row or number
pub record IsMakingStep (left : World) (old new : Kept) : Type 0 where
  pub rows : new.rows ≡ left
  pub births : new.births ≡ old.births
  pub calls : new.calls ≡ old.calls
  pub made : new.made ≡ old.made + 1
  pub room : Roomy old.room new.room

-- A step was taken that leaves these rows and made none. What owed rows and went owes them no more.
pub record IsEndingStep (left : World) (old new : Kept) : Type 0 where
  pub rows : new.rows ≡ left
  pub births : new.births ≡ old.births
  pub calls : new.calls ≡ old.calls
  pub made : new.made ≤ old.made
  pub counted : new.made + owed_rows old.rows ≡ old.made + owed_rows new.rows
  pub room : Roomy old.room new.room

-- a thread waits for the answer to a request, event or connect that isn't received
abbrev pub pends_as : ℕ → WaitRow → Bool
pends_as tid x = waits_as tid x && is_pending x

abbrev pub is_pending_in : World → ℕ → Bool
is_pending_in w tid = has (pends_as tid) w.waits

-- a message of the thread's own stands in a queue: the request, event or connection request with which it waits
abbrev pub has_queued : World → ℕ → Bool
has_queued w tid = has (is_own_of tid) w.messages

-- the thread waits for the answer to a request, event or connect whose message stands in no queue, and isn't marked
abbrev pub is_unsent : World → ℕ → Bool
is_unsent w tid = is_pending_in w tid && not (has_queued w tid) && not (has (is_mark tid) w.marks)

-- only a thread that pends has a message of its own in a queue
pub record OwnPend (w : World) : Type 0 where
  pub left : (tid : ℕ) → is_pending_in w tid ≡ false → has_queued w tid ≡ false

-- a thread without a message of its own in a queue still has none there
pub record StaysUnqueued (old new : World) : Type 0 where
  pub unqueued : (tid : ℕ) → has_queued old tid ≡ false → has_queued new tid ≡ false

-- a thread that doesn't wait still doesn't
pub record StaysReady (old new : World) : Type 0 where
  pub ready : (tid : ℕ) → has (waits_as tid) old.waits ≡ false → has (waits_as tid) new.waits ≡ false

-- Without memory there is no room for a further thread with its wait and its message, nor for a process with a thread; no
-- room for a name.
abbrev pub lacks_thread_parts : Kept → Bool
lacks_thread_parts w = (w.room.waits == 0) || (w.room.messages == 0)

abbrev pub lacks_thread_room : Kept → Bool
lacks_thread_room w = lacks_thread_parts w || (w.room.threads == 0)

abbrev pub lacks_process_room : Kept → Bool
lacks_process_room w = lacks_thread_room w || (w.room.processes == 0)

abbrev pub lacks_name_room : Kept → Bool
lacks_name_room w = w.room.names == 0

-- Counters: how many rows and numbers a call may make, those among them that it owes; a call may make one more; and it
-- has made none yet
abbrev pub CALL_BUDGET : ℕ
CALL_BUDGET = 16

abbrev pub CanMake : Kept → Type 0
CanMake w = w.made < CALL_BUDGET * w.calls

abbrev pub HasWholeBudget : Kept → Type 0
HasWholeBudget w = w.made + CALL_BUDGET ≤ CALL_BUDGET * w.calls

-- a wait may begin: its row, and the rows that it owes
abbrev pub CanAwait : Kept → WaitRow → Type 0
CanAwait w x = w.made + (1 + owed_by x) ≤ CALL_BUDGET * w.calls
