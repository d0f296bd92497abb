-- Words of the world's clauses: what stands at a key, what a call leaves of the rows, and the room that it takes.
use Rattle.std.specs.Prelude.{◌≡◌, ℕ, ◌+◌, ◌++◌, nat_le, ◌<◌, ◌≤◌, ◌==◌, ◌&&◌, Bool, false, true, not, List, [], map, Option, option_map, is_some, IfErr, MatchOption, None, Some, MatchResult, Result, Ok, Err, length, replicate, if◌then◌else◌}
use Rattle.lpc_base.specs.declared.birth.Birth.{Birth}
use Rattle.lpc_base.specs.declared.limits.TheConstants.{HANDLE_LIMIT, VIEW_LIMIT}
use Rattle.lpc_base.specs.declared.port_kind.PortKind.{PortKind}
use Rattle.lpc_base.specs.declared.status.Status.{Status}
use Rattle.lpc_base.specs.Rows.{change, every, first, has, passes}
use Rattle.lpc_base.specs.Views.{least_base, passes_section, view_size}
use Rattle.lpc_handles.specs.declared.table.Row.{Row}
use Rattle.lpc_model.specs.Basics.{Basic, basic, left_by, AddsHandle, AddsSection, AddsToken, Enters, Joins, Makes, Unmaps, Writes}
use Rattle.lpc_model.specs.Entering.{takes, takes_from}
use Rattle.lpc_model.specs.Found.{handles_of, is_port, is_process, is_queued, is_queued_connect, is_table, is_thread, pair_of, port_row, section_row, token_row, view_holding, views_of, waits_as}
use Rattle.lpc_model.specs.Memory.{bytes_at, place_in}
use Rattle.lpc_model.specs.Message.{asks}
use Rattle.lpc_model.specs.Tests.{handle_load, handle_row, next_birth}
use Rattle.lpc_model.specs.World as model
use Rattle.lpc_model.specs.World.{ObjectName, World}
use Rattle.lpc_model.specs.declared.message.Message as whole
use Rattle.lpc_names.specs.Binding.{Refuses}
use Rattle.lpc_names.specs.Kept.{seen}
use Rattle.lpc_names.specs.Walk.{Stands}
use Rattle.lpc_names.specs.declared.fault.BindFault.{BindFault}
use Rattle.lpc_names.specs.declared.fault.NameFault.{NameFault}
use Rattle.lpc_names.specs.declared.names.Found.TheVariants.{Directory, Item}
use Rattle.lpc_ports.specs.declared.Creator.{Creator}
use Rattle.lpc_ports.specs.declared.messages.Message.{Message}
use Rattle.lpc_procs.specs.declared.rows.BornThread.{BornThread}
use Rattle.lpc_sections.specs.Sections.{SectionRow}
use Rattle.lpc_slots.specs.declared.Key.{Key}
use Rattle.lpc_tokens.specs.declared.token_row.TokenRow.{TokenRow}
use Rattle.lpc_views.specs.declared.view.MapFault.{MapFault}
use Rattle.lpc_views.specs.declared.view.MapFault.TheVariants.{InvalidViewSize, Quota, SectionProtection}
use Rattle.lpc_views.specs.declared.view.View.{View}
use Rattle.lpc_waits.specs.Table as table
use Rattle.lpc_waits.specs.declared.Offer.{Offer}
use Rattle.lpc_waits.specs.declared.Wait.{Wait}
use Rattle.lpc_rows.specs.Bound.{with_name}
use Rattle.lpc_rows.specs.Joined.{with_completed}
use Rattle.lpc_rows.specs.Kept.{Kept, Room, handle_room, has_queued, is_pending, is_unsent, owed_handles}
use Rattle.lpc_rows.specs.Lawful.{is_quiet}
use Rattle.lpc_rows.specs.Names.{name_of, some_stands}
use Rattle.lpc_rows.specs.Ready.{port_of, waiter}
use Rattle.lpc_rows.specs.Shown.{all_pass, birth_of, name_by, object_stands, port_with, pulled_row, row_with, shown_offer, shown_view, waiting_row, with_message, with_offer}
use Rattle.lpc_rows.specs.OwedClosings.{TellsOnce, closing_places}
use Rattle.lpc_homes.specs.declared.object.Object.{Object}

-- What is found
-- a call answers what a test answers, seen through a word
abbrev pub Answers : {A B : Type 0} → Result A Status → (A → B) → Result B Status → Type 0
Answers result seen test = MatchResult result (λ x. test ≡ Ok (seen x)) (λ s. test ≡ Err s)

-- a call finds what the definitions find, seen through a word
abbrev pub Finds : {A B : Type 0} → Option A → (A → B) → Option B → Type 0
Finds result seen found = MatchOption result (found ≡ None) (λ x. found ≡ Some (seen x))

-- the birth and the row of the port at a key, and the birth of an optional one
abbrev pub birth_at : Kept → Key → Birth
birth_at w = name_of w.births.ports

abbrev pub port_at : Kept → Key → model.PortRow
port_at w key = port_of w.rows (birth_at w key)

abbrev pub row_at : Kept → Key → Option model.PortRow
row_at w key = port_row w.rows (birth_at w key)

abbrev pub some_birth : Kept → Option Key → Option Birth
some_birth w key = option_map (birth_at w) key

-- a thread as it is told to who knows its birth
abbrev pub born_thread : model.ThreadRow → BornThread
born_thread t = record { number = t.number; process = t.process; live = t.live }

-- the port's other end
abbrev pub pair_at : Kept → Key → Option Birth
pair_at w key = pair_of w.rows (birth_at w key)

-- the name of an object
abbrev pub name_at : Kept → Object → ObjectName
name_at w object = name_by (birth_of w.births) object

-- the rows of a table as the definitions have them
abbrev pub shown_in : {R S : Type 0} → Kept → ((Object → Birth) → R → S) → List R → List S
shown_in w show rows = map (show (birth_of w.births)) rows

-- each object that the rows of a table name stands
abbrev pub all_stand : {R : Type 0} → Kept → (R → List Object) → List R → Bool
all_stand w refs rows = every (all_pass refs (object_stands w.births)) rows

-- the row of a thread, and what the thread draws next: an identifier, a birth
abbrev pub thread_row : World → ℕ → Option model.ThreadRow
thread_row w tid = first (is_thread tid) w.threads

abbrev pub identifier_next : World → ℕ → Option ℕ
identifier_next w tid = option_map (λ t. t.next_identifier) (thread_row w tid)

abbrev pub birth_next : World → ℕ → Option Birth
birth_next w tid = option_map next_birth (thread_row w tid)

-- the oldest message of a queue, and its oldest connection request
abbrev pub oldest : Kept → Key → Option model.MessageRow
oldest w queue = first (is_queued (birth_at w queue)) w.rows.messages

abbrev pub oldest_connect : Kept → Key → Option model.MessageRow
oldest_connect w queue = first (is_queued_connect (birth_at w queue)) w.rows.messages

-- a message that was taken from a queue
abbrev pub pulled : Kept → Key → Option Message → Option model.MessageRow
pulled w queue message = option_map (pulled_row w.births queue) message

-- a message stands in a queue
abbrev pub has_message : World → Birth → Bool
has_message w queue = is_some (first (is_queued queue) w.messages)

-- a thread waits that takes a message which enters a queue
abbrev pub has_taker : Kept → Key → Key → ℕ → whole.Message → Bool
has_taker w queue sender context message = has (takes (row_with w.births queue sender context message)) w.rows.waits

-- the thread whose wait passes a test first
abbrev pub FindsWait : Kept → (model.WaitRow → Bool) → Option ℕ → Type 0
FindsWait w test result = Finds result (waiter w.rows) (first test w.rows.waits)

-- a wait that takes a message which enters a queue
abbrev pub takes_at : Kept → Key → Bool → model.WaitRow → Bool
takes_at w queue is_connection_request = takes_from (birth_at w queue) is_connection_request

-- a message that asks is the one with which its sender waits, and stands in no queue yet
abbrev pub IsAwaited : World → whole.Message → Type 0
IsAwaited w m = asks m ≡ true → is_unsent w m.header.client.thread ≡ true

-- a message that tells of a closing is sent on a client port of which none in a queue tells yet
abbrev pub TellsOnceOn : Kept → Key → whole.Message → Type 0
TellsOnceOn w sender m = TellsOnce w.rows m (birth_at w sender)

-- where a message asks, no message of its sender's own stands in a queue
abbrev pub HasLeft : World → whole.Message → Type 0
HasLeft w m = asks m ≡ true → has_queued w m.header.client.thread ≡ false

-- what the thread waits for doesn't stand in the queue
abbrev pub is_quiet_for : World → ℕ → Bool
is_quiet_for w tid = is_quiet w.messages (waiter w tid)

-- the wait that is found for a thread is the thread's
abbrev pub IsOwnWait : World → ℕ → Type 0
IsOwnWait w tid = let x = waiter w tid in x.thread ≡ tid

-- a handle's row
abbrev pub row_shown : Kept → ℕ → Row Object → model.HandleRow
row_shown w value row = handle_row value (name_at w row.object) row.access

-- What is left
-- the rows behind a basic step
abbrev pub after : Kept → Basic → World
after w b = basic w.rows b

-- a wait that a thread begins, as yet without a message; it is for the answer to a request, event or connect that isn't
-- received; it is a connect
abbrev pub new_wait : Kept → ℕ → Wait → model.WaitRow
new_wait w tid wait = waiting_row w.births tid wait []

abbrev pub pends : Kept → ℕ → Wait → Bool
pends w tid wait = is_pending (new_wait w tid wait)

abbrev pub connects : Wait → Bool
connects wait = table.is_connect wait.kind

-- a port more, a message more in a queue, a handle more
abbrev pub with_port : Kept → PortKind → Birth → Option Key → Option Creator → World
with_port w kind birth connection creator = after w (Makes (port_with (birth_of w.births) kind birth connection creator))

abbrev pub sent : Kept → Key → Key → ℕ → whole.Message → World
sent w queue sender context message = after w (Enters (row_with w.births queue sender context message))

abbrev pub with_handle : Kept → ℕ → ℕ → Object → ℕ → World
with_handle w pid value object access = after w (AddsHandle pid (handle_row value (name_at w object) access))

-- a wait less, and the mark of its event, and a wait with its message
abbrev pub without_wait : World → ℕ → World
without_wait w tid = left_by tid w

abbrev pub waiting_with : World → ℕ → whole.Message → World
waiting_with w tid message = record w { waits = change (waits_as tid) (with_message message) w.waits }

-- a wait whose connect offers a part of a section, or nothing
abbrev pub offering_with : Kept → ℕ → Option Offer → World
offering_with w tid offer =
    let shown = option_map (shown_offer (birth_of w.births)) offer in
    record w.rows { waits = change (waits_as tid) (with_offer shown) w.rows.waits }

-- the section of an offer stands, where there is one
abbrev pub has_section : Kept → Option Offer → Bool
has_section w offer = some_stands w.births.sections (option_map (λ o. o.section) offer)

-- a thread's connect got its handle, and ended
abbrev pub finished : Kept → ℕ → ℕ → Object → ℕ → World
finished w tid value object access =
    left_by tid (with_handle w (waiter w.rows tid).process value object access)

-- two ports are joined, and a connection is completed or not
abbrev pub joined : Kept → Key → Key → ℕ → World
joined w client server context = after w (Joins (birth_at w client) (birth_at w server) context)

abbrev pub with_completion : Kept → Key → Bool → World
with_completion w port completed =
    record w.rows { ports = change (is_port (birth_at w port)) (with_completed completed) w.rows.ports }

-- a port's name, or a directory, where a text leads
abbrev pub with_port_name : Kept → List ℕ → Key → Result World NameFault
with_port_name w text port = with_name w.rows text (Stands (Item (birth_at w port)))

abbrev pub with_directory : World → List ℕ → Result World NameFault
with_directory w text = with_name w text (Stands Directory)

-- a name isn't bound, as the definition says
abbrev pub RefusedAs : Result Unit BindFault → Result World NameFault → Type 0
RefusedAs result world = IfErr result (λ fault. Refuses fault world)

-- The room
-- the room with the places that a row took
abbrev pub and_process : Room → Room
and_process r = record r { processes = r.processes + 1 }

abbrev pub and_thread : Room → Room
and_thread r = record r { threads = r.threads + 1; waits = r.waits + 1; messages = r.messages + 1 }

abbrev pub and_port : PortKind → Room → Room
and_port kind r = record r { ports = r.ports + 1; messages = r.messages + closing_places kind }

abbrev pub and_message : Room → Room
and_message r = record r { messages = r.messages + 1 }

abbrev pub and_name : Room → Room
and_name r = record r { names = r.names + 1 }

-- a process stands, and has a table of handles, with fewer than it may have
abbrev pub has_process : World → ℕ → Bool
has_process w pid = has (is_process pid) w.processes

abbrev pub has_table : World → ℕ → Bool
has_table w pid = has (is_table pid) w.handles

abbrev pub HasFewHandles : World → ℕ → Type 0
HasFewHandles w pid = length (handles_of w pid) < HANDLE_LIMIT

-- and with those that its waiting connects are to get
abbrev pub HasSmallLoad : World → ℕ → Type 0
HasSmallLoad w pid = handle_load w pid < HANDLE_LIMIT

-- there is room for one more handle, or for so many, beside those
abbrev pub HasHandleRoom : Kept → ℕ → Type 0
HasHandleRoom w pid = owed_handles w.rows pid < handle_room w.room pid

abbrev pub HasHandlePlaces : Kept → ℕ → ℕ → Type 0
HasHandlePlaces w pid more = owed_handles w.rows pid + more ≤ handle_room w.room pid

-- Sections and views
-- the row of the section at a key, and a section as it is added
abbrev pub section_at : Kept → Key → Option model.SectionRow
section_at w key = section_row w.rows (name_of w.births.sections key)

abbrev pub with_section : Kept → SectionRow → World
with_section w s = after w (AddsSection (record { birth = s.birth; size = length s.bytes; writable = s.writable }))

-- its bytes are zeros
abbrev pub IsBlank : SectionRow → Type 0
IsBlank s = s.bytes ≡ replicate (length s.bytes) 0

-- and the room with the place that it took
abbrev pub and_section : Room → Room
and_section r = record r { sections = r.sections + 1 }

-- a view as the definitions have it
abbrev pub view_shown : Kept → View Key → model.ViewRow
view_shown w view = shown_view (birth_of w.births) view

-- the view of a process that holds an address
abbrev pub view_at : World → ℕ → ℕ → Option model.ViewRow
view_at w pid address = view_holding w pid address 1

-- a process has fewer views than it may have
abbrev pub HasFewViews : World → ℕ → Type 0
HasFewViews w pid = length (views_of w pid) < VIEW_LIMIT

-- the base of a further view beside some: none where they are as many as may be, or none is free; that in a process
abbrev pub base_among : List model.ViewRow → ℕ → Option ℕ
base_among views size =
    if length views == VIEW_LIMIT then None else least_base (map (λ v. (v.base, v.size)) views) size

abbrev pub new_base : World → ℕ → ℕ → Option ℕ
new_base w pid size = base_among (views_of w pid) size

-- that beside the views of a process and further ones, which aren't mapped
abbrev pub base_beside : Kept → ℕ → List (View Key) → ℕ → Option ℕ
base_beside w pid others size = base_among (views_of w.rows pid ++ map (view_shown w) others) size

-- a view shows no more than its section has
abbrev pub is_of_section : Kept → View Key → Bool
is_of_section w view = passes (section_at w view.section) (λ s. nat_le (view.offset + view.size) s.size)

-- the size of a view of a section, or why there is none
abbrev pub size_of_view : model.SectionRow → ℕ → ℕ → Bool → Result ℕ MapFault
size_of_view s offset size writable =
    if writable && not s.writable then Err SectionProtection else
    if passes_section s.size offset size then Err InvalidViewSize else
    Ok (view_size s.size offset size)

-- what a view shows, how it may be used, and the port that it goes with, none where the process maps it by itself
pub record Shows : Type 0 where
  pub section : model.SectionRow
  pub offset : ℕ
  pub writable : Bool
  pub owner : Option Birth

-- a view of so many bytes of that, at its base
abbrev pub view_at_base : Shows → ℕ → Option ℕ → Result model.ViewRow MapFault
view_at_base v size None = Err Quota
view_at_base v size (Some base) = Ok (record {
  base = base;
  size = size;
  section = v.section.birth;
  offset = v.offset;
  writable = v.writable;
  owner = v.owner;
})

abbrev pub view_of_size : World → ℕ → Shows → Result ℕ MapFault → Result model.ViewRow MapFault
view_of_size w pid v (Err fault) = Err fault
view_of_size w pid v (Ok size) = view_at_base v size (new_base w pid size)

-- the new view, or the first cause why there is none: its protection, its range, then the quota
abbrev pub mapped_view : World → ℕ → Shows → ℕ → Result model.ViewRow MapFault
mapped_view w pid v size = view_of_size w pid v (size_of_view v.section v.offset size v.writable)

-- the world with these bytes at an address of a view; the same where there is no view
abbrev pub written_through : World → ℕ → List ℕ → Option model.ViewRow → World
written_through w address bytes None = w
written_through w address bytes (Some v) = basic w (Writes v.section (place_in v address) bytes)

-- the world without the view that was found
abbrev pub unmapped_at : World → ℕ → Option model.ViewRow → World
unmapped_at w pid None = w
unmapped_at w pid (Some v) = basic w (Unmaps pid v.base)

-- the bytes that a view shows at an address
abbrev pub bytes_through : World → ℕ → ℕ → model.ViewRow → List ℕ
bytes_through w address n v = bytes_at w.contents v address n

-- what a view of a section shows from an offset on, which goes with the port at a key or with none
abbrev pub showing : Kept → ℕ → Bool → Option Key → model.SectionRow → Shows
showing w offset writable owner s =
    record { section = s; offset = offset; writable = writable; owner = some_birth w owner }

-- a mapping answers what the definitions answer
abbrev pub MapsAs : Kept → ℕ → Key → ℕ → ℕ → Bool → Option Key → Result (View Key) MapFault → Type 0
MapsAs w pid section offset size writable owner result =
    option_map (λ s. mapped_view w.rows pid (showing w offset writable owner s) size) (section_at w section)
    ≡ Some (seen (view_shown w) result)

-- Tokens
-- the row of the token at a key, and a token as it is added
abbrev pub token_at : Kept → Key → Option model.TokenRow
token_at w key = token_row w.rows (name_of w.births.tokens key)

abbrev pub with_token : Kept → TokenRow → World
with_token w t = after w (AddsToken (record { birth = t.birth; token = t.token; level = t.level }))

-- and the room with the place that it took, or that a token's name took
abbrev pub and_token : Room → Room
and_token r = record r { tokens = r.tokens + 1 }

abbrev pub and_token_name : Room → Room
and_token_name r = record r { token_names = r.token_names + 1 }
