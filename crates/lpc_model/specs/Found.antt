-- What is found in the world: filters and counts of its rows.
use Rattle.std.specs.Prelude.{ℕ, nat_le, ◌==◌, ◌&&◌, ◌||◌, ◌+◌, ◌++◌, Bool, true, false, not, List, [], length, map, Option, Some, None, is_none, option_and_then, if◌then◌else◌, ◌∷◌}
use Rattle.lpc_base.specs.Places.{least_handle}
use Rattle.lpc_tokens.specs.declared.security.Security.TheVariants.{Guarded}
use Rattle.lpc_model.specs.declared.entry.ObjectKind.TheVariants as kind
use Rattle.lpc_base.specs.declared.port_kind.PortKind.TheVariants.{Client, Connection, Server}
pub use Rattle.lpc_base.specs.Births.{same_birth}
use Rattle.lpc_base.specs.Rows.{each, first, has, count, passes, when, which}
use Rattle.lpc_message.specs.declared.kind.TheConstants.{DATAGRAM}
use Rattle.lpc_message.specs.declared.message.ClientId.{ClientId}
use Rattle.lpc_sid.specs.WellKnown.{system_token}
use Rattle.lpc_tokens.specs.Tokens.{effective}
use Rattle.std.specs.Str.{bytes_eq}
use Rattle.lpc_model.specs.Message.{asks, is_connection_request}
use Rattle.lpc_model.specs.World.{World, Birth, ObjectKind, ObjectName, Message, ProcessRow, ThreadRow, HandleRow, HandleTable, PortRow, MessageRow, Offer, WaitRow, UsedThread, SectionRow, ContentRow, Contents, Known, Unknown, ViewRow, ViewTable, Token, TokenRow, TokenName, Effective, Dacl, Security, Accepted, Connect, Listen, Receive, Request, Event}

-- Names
-- an optional name is this one
abbrev pub is_the : Birth → Option Birth → Bool
is_the b o = passes o (same_birth b)

-- the name of nothing, where a row or an answer must have one
abbrev pub no_birth : Birth
no_birth = record { maker = 0; ordinal = 0; process = 0 }

-- the kinds of object, told apart by a number
abbrev pub kind_rank : ObjectKind → ℕ
kind_rank kind.Port = 0
kind_rank kind.Section = 1
kind_rank kind.Token = 2
kind_rank kind.Process = 3
kind_rank kind.Thread = 4

-- two kinds are one
abbrev pub same_kind : ObjectKind → ObjectKind → Bool
same_kind a b = kind_rank a == kind_rank b

-- the name of a port
abbrev pub port_name : Birth → ObjectName
port_name b = record { kind = kind.Port; birth = b }

-- an object's name is that of the port
abbrev pub names_port : Birth → ObjectName → Bool
names_port b o = same_kind o.kind kind.Port && same_birth o.birth b

-- Processes and threads
-- the process of a number, and the thread of a number
abbrev pub is_process : ℕ → ProcessRow → Bool
is_process pid p = p.number == pid

abbrev pub is_thread : ℕ → ThreadRow → Bool
is_thread tid t = t.number == tid

-- the process, and the thread, with a birth
abbrev pub is_born_process : Birth → ProcessRow → Bool
is_born_process b p = same_birth p.birth b

abbrev pub is_born_thread : Birth → ThreadRow → Bool
is_born_thread b t = same_birth t.birth b

-- the live thread of a number
abbrev pub is_live_thread : ℕ → ThreadRow → Bool
is_live_thread tid t = (t.number == tid) && t.live

-- a live thread of a process
abbrev pub lives_in : ℕ → ThreadRow → Bool
lives_in pid t = (t.process == pid) && t.live

-- the live thread with a number; one that has ended may have a row too
abbrev pub live_thread : World → ℕ → Option ThreadRow
live_thread w tid = first (is_live_thread tid) w.threads

-- a process is live where it has a live thread
abbrev pub is_live : World → ℕ → Bool
is_live w pid = has (lives_in pid) w.threads

-- the live threads of a process, in the order in which they were made; how many they are
abbrev pub live_threads : World → ℕ → List ThreadRow
live_threads w pid = which (lives_in pid) w.threads

abbrev pub live_count : World → ℕ → ℕ
live_count w pid = count (lives_in pid) w.threads

-- the number was ever used for a process
abbrev pub was_process : World → ℕ → Bool
was_process w pid = has (λ n. n == pid) w.used_processes

-- the thread that has, or had, a number; the number was ever used for a thread
abbrev pub is_used_thread : ℕ → UsedThread → Bool
is_used_thread tid u = u.number == tid

abbrev pub was_thread : World → ℕ → Bool
was_thread w tid = has (is_used_thread tid) w.used_threads

-- Handles
-- the handles of a process
abbrev pub is_table : ℕ → HandleTable → Bool
is_table pid t = t.process == pid

abbrev pub rows_in : Option HandleTable → List HandleRow
rows_in None = []
rows_in (Some t) = t.rows

abbrev pub handles_of : World → ℕ → List HandleRow
handles_of w pid = rows_in (first (is_table pid) w.handles)

-- the handle that a value is in a process
abbrev pub has_value : ℕ → HandleRow → Bool
has_value value h = h.value == value

abbrev pub handle_at : World → ℕ → ℕ → Option HandleRow
handle_at w pid value = first (has_value value) (handles_of w pid)

-- the least multiple of 4, from 4, that no handle of the process has
abbrev pub free_handle : World → ℕ → ℕ
free_handle w pid = least_handle (map (λ h. h.value) (handles_of w pid))

-- Ports
-- the port of a birth
abbrev pub is_port : Birth → PortRow → Bool
is_port b p = same_birth p.birth b

-- the port row with a birth
abbrev pub port_row : World → Birth → Option PortRow
port_row w b = first (is_port b) w.ports

-- a connection port, a client port, and a server port
abbrev pub is_connection_port : PortRow → Bool
is_connection_port p = elim p.kind [
  | Connection ↦ true
  | _ ↦ false
]

abbrev pub is_client_port : PortRow → Bool
is_client_port p = elim p.kind [
  | Client ↦ true
  | _ ↦ false
]

abbrev pub is_server_port : PortRow → Bool
is_server_port p = elim p.kind [
  | Server ↦ true
  | _ ↦ false
]

-- a port is open where a handle names it
abbrev pub has_handle_to : Birth → HandleTable → Bool
has_handle_to b t = has (λ h. names_port b h.object) t.rows

abbrev pub is_open : World → Birth → Bool
is_open w b = has (has_handle_to b) w.handles

-- a port where it is open
abbrev pub if_open : World → Option Birth → Option Birth
if_open w None = None
if_open w (Some b) = if is_open w b then Some b else None

-- the queue of a port's own: itself, or for a server port its connection port; none where that port isn't open
abbrev pub queue_of : World → PortRow → Option Birth
queue_of w p = elim p.kind [
  | Server ↦ if_open w p.connection
  | _ ↦ if_open w (Some p.birth)
]

-- a port has no other end
abbrev pub is_cut : PortRow → Bool
is_cut p = is_none p.pair

-- the queue that a message sent on an open port enters
abbrev pub way : World → PortRow → Option Birth
way w p = elim p.kind [
  | Client ↦ if_open w (if is_cut p then None else p.connection)
  | Server ↦ if_open w p.pair
  | _ ↦ Some p.birth
]

-- the queue that a message sent on a port enters; none where the port isn't open, or has no way
abbrev pub route : World → PortRow → Option Birth
route w p = if is_open w p.birth then way w p else None

-- the context that a message sent on a port keeps
abbrev pub context_of : PortRow → ℕ
context_of p = elim p.kind [
  | Client ↦ if is_cut p then 0 else p.context
  | _ ↦ 0
]

-- the other end of the connection that a port is of
abbrev pub pair_of : World → Birth → Option Birth
pair_of w b = option_and_then (λ p. p.pair) (port_row w b)

-- Sections and views
-- the name of a section
abbrev pub section_name : Birth → ObjectName
section_name b = record { kind = kind.Section; birth = b }

-- the section of a birth, and the bytes of that section
abbrev pub is_section : Birth → SectionRow → Bool
is_section b s = same_birth s.birth b

abbrev pub is_content : Birth → ContentRow → Bool
is_content b c = same_birth c.section b

-- the bytes of a section, where they are known
abbrev pub bytes_in : Option ContentRow → List ℕ
bytes_in None = []
bytes_in (Some c) = c.bytes

abbrev pub content_of : Contents → Birth → List ℕ
content_of Unknown b = []
content_of (Known rows) b = bytes_in (first (is_content b) rows)

-- the section row with a birth
abbrev pub section_row : World → Birth → Option SectionRow
section_row w b = first (is_section b) w.sections

-- the views of a process
abbrev pub is_space : ℕ → ViewTable → Bool
is_space pid t = t.process == pid

abbrev pub views_in : Option ViewTable → List ViewRow
views_in None = []
views_in (Some t) = t.rows

abbrev pub views_of : World → ℕ → List ViewRow
views_of w pid = views_in (first (is_space pid) w.views)

-- the views of all processes
abbrev pub all_views : World → List ViewRow
all_views w = each (λ t. t.rows) w.views

-- the view that lies at a base
abbrev pub lies_at : ℕ → ViewRow → Bool
lies_at base v = v.base == base

-- the view of a process that holds so many bytes from an address on
abbrev pub holds_range : ℕ → ℕ → ViewRow → Bool
holds_range address n v = nat_le v.base address && nat_le (address + n) (v.base + v.size)

abbrev pub view_holding : World → ℕ → ℕ → ℕ → Option ViewRow
view_holding w pid address n = first (holds_range address n) (views_of w pid)

-- a view shows the section
abbrev pub shows_section : Birth → ViewRow → Bool
shows_section b v = same_birth v.section b

-- a port owns the view
abbrev pub is_owned_by : Birth → ViewRow → Bool
is_owned_by b v = is_the b v.owner

-- Tokens
-- the name of a token that is an object
abbrev pub token_name : Birth → ObjectName
token_name b = record { kind = kind.Token; birth = b }

-- the token object of a birth, and the row with that birth
abbrev pub is_token : Birth → TokenRow → Bool
is_token b t = same_birth t.birth b

abbrev pub token_row : World → Birth → Option TokenRow
token_row w b = first (is_token b) w.tokens

-- the token that a directive gave a name
abbrev pub is_called : List ℕ → TokenName → Bool
is_called name n = bytes_eq n.name name

abbrev pub named_token : World → List ℕ → Option TokenName
named_token w name = first (is_called name) w.token_names

-- the token of a process; each thread's process has a row while the thread lives
abbrev pub token_in : Option ProcessRow → Token
token_in None = system_token
token_in (Some p) = p.token

abbrev pub token_of : World → ℕ → Token
token_of w pid = token_in (first (is_process pid) w.processes)

-- the token with which a thread acts: the one as which it acts for a client, else its process's
abbrev pub acting_token : World → ThreadRow → Effective
acting_token w t = effective (token_of w t.process) t.own

-- the access list of a port; none grants all
abbrev pub list_in : Security → Option Dacl
list_in s = elim s [
  | Guarded dacl ↦ Some dacl
  | _ ↦ None
]

abbrev pub access_list : World → Birth → Option Dacl
access_list w b = option_and_then (λ p. list_in p.security) (port_row w b)

-- Queues and waits
-- a message of a queue
abbrev pub is_queued : Birth → MessageRow → Bool
is_queued q m = same_birth m.queue q

-- a connection request of a queue
abbrev pub is_queued_connect : Birth → MessageRow → Bool
is_queued_connect q m = is_queued q m && is_connection_request m.message

-- the messages of a queue, the oldest first
abbrev pub queued_on : World → Birth → List MessageRow
queued_on w q = which (is_queued q) w.messages

-- a datagram that was sent on a port
abbrev pub is_datagram_of : Birth → MessageRow → Bool
is_datagram_of b m = same_birth m.sender b && (m.message.header.kind == DATAGRAM)

-- how many datagrams of a port stand in queues
abbrev pub datagrams : World → Birth → ℕ
datagrams w b = count (is_datagram_of b) w.messages

-- the message of a thread that waits for its answer: a request, event or connection request
abbrev pub is_own_of : ℕ → MessageRow → Bool
is_own_of who m = asks m.message && (m.message.header.client.thread == who)

-- a wait for a message
abbrev pub is_receive : WaitRow → Bool
is_receive x = elim x.kind [
  | Receive ↦ true
  | _ ↦ false
]

-- a wait for a connection request
abbrev pub is_listen : WaitRow → Bool
is_listen x = elim x.kind [
  | Listen ↦ true
  | _ ↦ false
]

-- the receives and listens on a queue, the one that has waited longest first
abbrev pub is_waiter_on : Birth → WaitRow → Bool
is_waiter_on q x = (is_receive x || is_listen x) && same_birth x.queue q

abbrev pub waiters_on : World → Birth → List WaitRow
waiters_on w q = which (is_waiter_on q) w.waits

-- a connect that isn't accepted, and one that is
abbrev pub is_offered : WaitRow → Bool
is_offered x = elim x.kind [
  | Connect m offer ↦ true
  | _ ↦ false
]

abbrev pub is_accepted : WaitRow → Bool
is_accepted x = elim x.kind [
  | Accepted m a ↦ true
  | _ ↦ false
]

-- a connect, accepted or not
abbrev pub is_connect : WaitRow → Bool
is_connect x = is_offered x || is_accepted x

-- what a connect offers that isn't accepted, if it offers anything
abbrev pub offer_of : WaitRow → Option Offer
offer_of x = elim x.kind [
  | Connect m offer ↦ offer
  | _ ↦ None
]

-- the section is offered so, and the wait is of a connect that offers it
abbrev pub is_offer_of : Birth → Offer → Bool
is_offer_of b o = same_birth o.section b

abbrev pub offers_section : Birth → WaitRow → Bool
offers_section b x = passes (offer_of x) (is_offer_of b)

-- a connect that is accepted was received
abbrev pub is_taken : WaitRow → Bool
is_taken x = not (is_accepted x) || x.received

-- a wait for the reply to a request
abbrev pub is_request : WaitRow → Bool
is_request x = elim x.kind [
  | Request m ↦ true
  | _ ↦ false
]

-- a wait for what is made of an event
abbrev pub is_event : WaitRow → Bool
is_event x = elim x.kind [
  | Event r ↦ true
  | _ ↦ false
]

-- a wait for the reply to what was sent: to a request, or to an event, which is sent as one
abbrev pub is_asking : WaitRow → Bool
is_asking x = is_request x || is_event x

-- an event that is marked as not handled
abbrev pub is_mark : ℕ → ℕ → Bool
is_mark who n = n == who

abbrev pub is_marked : World → WaitRow → Bool
is_marked w x = has (is_mark x.thread) w.marks

-- the wait of a thread
abbrev pub waits_as : ℕ → WaitRow → Bool
waits_as tid x = x.thread == tid

-- the wait of a thread on a queue
abbrev pub waits_at : ℕ → Birth → WaitRow → Bool
waits_at tid q x = waits_as tid x && same_birth x.queue q

-- the wait that a thread has, if it waits
abbrev pub wait_of : World → ℕ → Option WaitRow
wait_of w tid = first (waits_as tid) w.waits

-- a message names the wait: its thread, its process and its identifier
abbrev pub names_wait : WaitRow → Message → Bool
names_wait x m =
    (x.thread == m.header.client.thread) && ((x.process == m.header.client.process) && (x.identifier == m.header.message_id))

-- A client and an identifier fit a wait through a port: they are the wait's thread, process and identifier, the wait is
-- a request or an event that was received, and the port is the wait's queue or the pair of its sender port.
abbrev pub fits_as : World → Birth → ClientId → ℕ → WaitRow → Bool
fits_as w port client identifier x =
    (x.thread == client.thread) && ((x.process == client.process)
    && ((x.identifier == identifier) && (is_asking x && (x.received
    && (same_birth x.queue port || is_the port (pair_of w x.port))))))

-- a message fits a wait by the client and the identifier that it names
abbrev pub fits : World → Birth → Message → WaitRow → Bool
fits w port m x = fits_as w port m.header.client m.header.message_id x

-- the wait that a message fits through a port; a thread has one wait at most
abbrev pub fitted : World → Birth → Message → Option WaitRow
fitted w port m = first (fits w port m) w.waits

-- Objects
-- two names are of one object
abbrev pub same_object : ObjectName → ObjectName → Bool
same_object a b = same_kind a.kind b.kind && same_birth a.birth b.birth

-- the handles in some tables, those of all processes, and how many of them name an object
abbrev pub handles_in : List HandleTable → List HandleRow
handles_in tables = each (λ t. t.rows) tables

abbrev pub all_handles : World → List HandleRow
all_handles w = handles_in w.handles

abbrev pub handle_count : World → ObjectName → ℕ
handle_count w o = count (λ h. same_object h.object o) (all_handles w)

-- an optional value as a list
abbrev pub listed : Option Birth → List Birth
listed None = []
listed (Some b) = b ∷ []

-- a port has this one as its other end; as its connection port
abbrev pub is_paired_to : Birth → PortRow → Bool
is_paired_to b p = is_the b p.pair

abbrev pub is_connected_to : Birth → PortRow → Bool
is_connected_to b p = is_the b p.connection

-- a message was sent on the port; a wait was made on it
abbrev pub is_sent_on : Birth → MessageRow → Bool
is_sent_on b m = same_birth m.sender b

abbrev pub is_made_on : Birth → WaitRow → Bool
is_made_on b x = same_birth x.port b

-- the ports that live threads registered
abbrev pub registered_by : ThreadRow → List Birth
registered_by t = when t.live t.registrations

abbrev pub all_registrations : World → List Birth
all_registrations w = each registered_by w.threads

-- the ports that are told of exceptions
abbrev pub event_ports_of : ProcessRow → List Birth
event_ports_of p = listed p.debug_port ++ listed p.exception_port

abbrev pub event_ports : World → List Birth
event_ports w = each event_ports_of w.processes

-- a live thread of the process with a birth; the live thread with a birth
abbrev pub lives_by : World → Birth → ThreadRow → Bool
lives_by w b t = t.live && has (λ p. same_birth p.birth b && (p.number == t.process)) w.processes

abbrev pub is_life : Birth → ThreadRow → Bool
is_life b t = t.live && same_birth t.birth b

-- How many rows but handles count for an object. A port: ports whose other end it is, those whose connection port it is, queued
-- messages that were sent on it, waits that were made on it, registrations of live threads, views that it owns, and
-- processes whose debug or exception port it is. A section: views that show it, and connects that offer it and aren't
-- accepted. A process: its live threads. A thread: itself, while it lives.
-- A queue and a name don't count for their port, and for a token nothing but handles does.
abbrev pub holders : World → ObjectKind → Birth → ℕ
holders w kind.Port b =
    count (is_paired_to b) w.ports + (count (is_connected_to b) w.ports
    + (count (is_sent_on b) w.messages + (count (is_made_on b) w.waits
    + (count (same_birth b) (all_registrations w) + (count (is_owned_by b) (all_views w)
    + count (same_birth b) (event_ports w))))))
holders w kind.Section b = count (shows_section b) (all_views w) + count (offers_section b) w.waits
holders w kind.Token b = 0
holders w kind.Process b = count (lives_by w b) w.threads
holders w kind.Thread b = count (is_life b) w.threads

-- how many rows count for an object
abbrev pub pointer_count : World → ObjectName → ℕ
pointer_count w o = handle_count w o + holders w o.kind o.birth

-- the objects: a token, a section, a process, a thread and a port are objects
abbrev pub process_name : Birth → ObjectName
process_name b = record { kind = kind.Process; birth = b }

abbrev pub thread_name : Birth → ObjectName
thread_name b = record { kind = kind.Thread; birth = b }

abbrev pub object_names : World → List ObjectName
object_names w =
    map (λ t. token_name t.birth) w.tokens ++ (map (λ s. section_name s.birth) w.sections
    ++ (map (λ p. process_name p.birth) w.processes
    ++ (map (λ t. thread_name t.birth) w.threads ++ map (λ p. port_name p.birth) w.ports)))

-- how many object rows there are
abbrev pub objects : World → ℕ
objects w = length w.tokens + (length w.sections + (length w.processes + length w.threads + length w.ports))
