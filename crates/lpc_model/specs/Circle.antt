-- What the processes of a group do and are told in a run, the circle of a process, and the law on two scripts: what a
-- process is told follows from what its circle does and is told.
use Rattle.std.specs.Prelude.{◌≡◌, ℕ, ◌==◌, ◌&&◌, ◌||◌, Bool, true, false, not, nat_lt, length, List, [], ◌∷◌, ◌++◌, map, Option, Some, None, Result, Ok, Err, is_none, option_map, if◌then◌else◌}
use Rattle.std.specs.List.{list_any}
use Rattle.lpc_base.specs.Rows.{each, every, first, has, passes, which}
use Rattle.lpc_base.specs.declared.limits.TheConstants.{HEADER_SIZE}
use Rattle.lpc_base.specs.declared.port_kind.PortKind.TheVariants.{Client}
use Rattle.lpc_message.specs.Layout.{header_of}
use Rattle.lpc_names.specs.Walk.{lookup}
use Rattle.lpc_names.specs.declared.fault.NameFault.{NameFault}
use Rattle.lpc_names.specs.declared.names.Found.{Found}
use Rattle.lpc_names.specs.declared.names.Found.TheVariants.{Directory, Item as PortThere}
use Rattle.lpc_model.specs.declared.entry.Entry.{Entry}
use Rattle.lpc_model.specs.declared.entry.Entry.TheVariants.{Answer, Busy, Died, Directive, NoThread, Waits, Wakes}
use Rattle.lpc_model.specs.World.{Birth, Impersonation, PortRow, ProcessRow, ThreadRow, UsedThread, ViewRow, ViewTable, World, no_rows}
use Rattle.lpc_model.specs.Found.{is_used_thread, live_thread, same_birth, shows_section, views_of, wait_of, was_process, event_ports_of, is_server_port, port_row}
use Rattle.lpc_model.specs.declared.entry.Word.{Word}
use Rattle.lpc_model.specs.declared.entry.Word.TheVariants as word
use Rattle.lpc_model.specs.Basics.{Acts, Basic, Writes}
use Rattle.lpc_model.specs.Lines.{ScriptCall, ScriptLine, accept_connect_port, boot, complete_connect_port, connect_port, create_port, dir, link, listen_port, close, duplicate_object, query_object, create_process, create_thread, register_thread_terminate_port, reply_port, reply_wait_receive_port, request_port, request_wait_reply_port, run, terminate_process, terminate_thread, thread, create_section, map_view_of_section, unmap_view_of_section, read_virtual_memory, write_virtual_memory, read_request_data, write_request_data, token, impersonate_client_of_port, set_information_thread, open_thread_token, open_process_token, query_information_token, set_information_process, raise, of_resident}
use Rattle.lpc_model.specs.Linked.{passes_or_none}
use Rattle.lpc_model.specs.Machine.{step, steps}
use Rattle.lpc_model.specs.Ranges.{Described, described_test}
use Rattle.lpc_model.specs.Run.{Along, said_in, world_behind}

-- The group
-- a group of processes, by their numbers; those in it are its members, all others are outsiders
abbrev pub Group : Type 0
Group = ℕ → Bool

-- the group of the numbers in a list
abbrev pub members : List ℕ → Group
members pids = λ pid. list_any (λ p. p == pid) pids

-- Whose it is
-- the process of the thread that has, or had, a number; none where the number was never used for a thread
abbrev pub owner : World → ℕ → Option ℕ
owner w tid = option_map (λ (u : UsedThread). u.process) (first (is_used_thread tid) w.used_threads)

-- whom a line or an entry is of: a process, everyone, or nobody, where no thread has or had its number
pub data Whose : Type 0 where
  Of : ℕ → Whose
  Everyone : Whose
  Nobody : Whose

abbrev pub owned : Option ℕ → Whose
owned None = Nobody
owned (Some pid) = Of pid

abbrev pub thread_whose : World → ℕ → Whose
thread_whose w tid = owned (owner w tid)

-- A line of a thread is of its process, by the world before the line. A directive about a process is of that process, one
-- about the name space or the name of a token is everyone's.
abbrev pub line_whose : World → ScriptLine → Whose
line_whose w (boot pid tid name) = Of pid
line_whose w (thread tid pid) = Of pid
line_whose w (token name content) = Everyone
line_whose w (dir path) = Everyone
line_whose w (link path target) = Everyone
line_whose w (of_resident tid what had) = thread_whose w tid
line_whose w (run tid call) = thread_whose w tid

-- An entry is of the process of its thread, by the world behind the line. That of a directive is whose the directive is.
abbrev pub entry_whose : World → Whose → Entry → Whose
entry_whose w directive (Answer tid call status fields) = thread_whose w tid
entry_whose w directive (Waits tid call fields) = thread_whose w tid
entry_whose w directive (Wakes tid call status fields) = thread_whose w tid
entry_whose w directive (Busy tid) = thread_whose w tid
entry_whose w directive (NoThread tid) = thread_whose w tid
entry_whose w directive (Died tid status) = thread_whose w tid
entry_whose w directive (Directive word status) = directive

-- What happens
-- a line is run, an entry is told, or a thread gets the token as which it acts for its client, with the level
pub data Item : Type 0 where
  Ran : ScriptLine → Item
  Told : Entry → Item
  Gave : Impersonation → Item

-- an item, and whose it is
pub record Event : Type 0 where
  pub whose : Whose
  pub item : Item

abbrev pub told_event : World → Whose → Entry → Event
told_event w directive e = record { whose = entry_whose w directive e; item = Told e }

-- the tokens that steps give threads which act for their clients
abbrev pub gave : Basic → List Impersonation
gave (Acts who (Some own)) = own ∷ []
gave b = []

abbrev pub given_in : List Basic → List Impersonation
given_in bs = each gave bs

abbrev pub gave_event : Whose → Impersonation → Event
gave_event whose own = record { whose = whose; item = Gave own }

-- What happens at a line: it is run, and its entries are told, in their order; and then, where it lets its thread act for a
-- client, the token that it gives.
abbrev pub line_events : World → ScriptLine → List Event
line_events w line =
    record { whose = line_whose w line; item = Ran line }
    ∷ map (told_event (step w line).world (line_whose w line)) (step w line).entries
    ++ map (gave_event (line_whose w line)) (given_in (steps line w))

-- what happens in a run of lines, from a state on
abbrev pub events : World → List (Option ScriptLine) → List Event
events w [] = []
events w (None ∷ later) = events w later
events w (Some line ∷ later) = line_events w line ++ events (step w line).world later

-- Items and inputs
-- a group has to do with what is of its members, and with what is everyone's
abbrev pub is_seen : Group → Whose → Bool
is_seen group (Of pid) = group pid
is_seen group Everyone = true
is_seen group Nobody = false

-- an entry of a directive; each other is an entry of a thread, also that of a turn which is refused
abbrev pub is_turn : Word → Bool
is_turn word.Turn = true
is_turn name = false

abbrev pub is_directive : Entry → Bool
is_directive (Directive name status) = not (is_turn name)
is_directive (Answer tid call status fields) = false
is_directive (Waits tid call fields) = false
is_directive (Wakes tid call status fields) = false
is_directive (Busy tid) = false
is_directive (NoThread tid) = false
is_directive (Died tid status) = false

-- an entry of a thread of the process c, or a token that such a thread gets
abbrev pub is_told_to : ℕ → Whose → Item → Bool
is_told_to c (Of pid) (Told e) = (pid == c) && not (is_directive e)
is_told_to c (Of pid) (Gave own) = pid == c
is_told_to c (Of pid) (Ran line) = false
is_told_to c Everyone item = false
is_told_to c Nobody item = false

abbrev pub is_item : Group → Event → Bool
is_item group event = is_seen group event.whose

abbrev pub is_input : Group → ℕ → Event → Bool
is_input group c event = is_item group event && not (is_told_to c event.whose event.item)

abbrev pub item_of : Event → Item
item_of event = event.item

-- A line as an item shows it: as it is said. A turn is the call that it came to; where it came to none it shows nothing of
-- whether its thread has a resident.
abbrev pub as_said : Item → Item
as_said (Ran (of_resident tid what had)) = Ran (of_resident tid what false)
as_said item = item

-- items and inputs in which each line about a resident shows whether there was one
abbrev pub full_items : Group → List Event → List Item
full_items group happened = map item_of (which (is_item group) happened)

abbrev pub full_inputs : Group → ℕ → List Event → List Item
full_inputs group c happened = map item_of (which (is_input group c) happened)

-- The items of a group: the lines of its members' threads, what those threads are told, with the tokens that they get of
-- their clients, and each directive about a member, about the name space or about the name of a token, with its status; all
-- in order. Nothing tells at which line of the script an item stands.
abbrev pub items : Group → List Event → List Item
items group happened = map as_said (full_items group happened)

-- the inputs of a group and a process c: the items of the group without what c's threads are told, and without the
-- tokens that they get of their clients
abbrev pub inputs : Group → ℕ → List Event → List Item
inputs group c happened = map as_said (full_inputs group c happened)

-- The circle: what each world between two lines must be
-- A port is of the process of the thread that made it. Of a client port and its connection port: where the client port is
-- a member's, so is the connection port; where the connection port is c's, the client port is a member's. A member other
-- than c may serve outsiders.
abbrev pub is_fine_client : Group → ℕ → Birth → Birth → Bool
is_fine_client group c client connection =
    (not (group client.process) || group connection.process) && (not (connection.process == c) || group client.process)

abbrev pub is_fine_port : Group → ℕ → PortRow → Bool
is_fine_port group c p = elim p.kind [
  | Client ↦ passes p.connection (is_fine_client group c p.birth)
  | _ ↦ true
]

-- a process and the process that made it are both members, or both outsiders; what a directive made has no such process
abbrev pub is_fine_process : Group → ProcessRow → Bool
is_fine_process group p = passes_or_none p.maker (λ m. if group p.number then group m else not (group m))

-- a port that is told of a member's exceptions is no server port whose client port is an outsider's; one whose connection
-- is cut makes no tie
abbrev pub is_told_inside : Group → PortRow → Bool
is_told_inside group p = not (is_server_port p) || passes_or_none p.pair (λ client. group client.process)

abbrev pub is_fine_event_port : Group → World → Birth → Bool
is_fine_event_port group w b = passes_or_none (port_row w b) (is_told_inside group)

abbrev pub is_fine_raiser : Group → World → ProcessRow → Bool
is_fine_raiser group w p = not (group p.number) || every (is_fine_event_port group w) (event_ports_of p)

-- each tie between the processes of a world that c could learn by; one field for each kind of tie
pub record IsFineWorld (group : Group) (c : ℕ) (w : World) : Type 0 where
  pub processes : every (is_fine_process group) w.processes ≡ true
  pub ports : every (is_fine_port group c) w.ports ≡ true
  pub raisers : every (is_fine_raiser group w) w.processes ≡ true

-- The circle: what each call of c must be
-- a number was used by then for no process outside the group, and for no thread of one
abbrev pub is_no_outsider : Group → World → ℕ → Bool
is_no_outsider group w pid = group pid || not (was_process w pid)

abbrev pub is_no_outsiders_thread : Group → World → ℕ → Bool
is_no_outsiders_thread group w tid = is_none (owner w tid) || passes (owner w tid) group

-- the client that the bytes of a message name is no outsider, where they are at least as many as a header has
abbrev pub names_no_outsider : Group → World → List ℕ → Bool
names_no_outsider group w bytes =
    nat_lt (length bytes) HEADER_SIZE
    || (is_no_outsider group w (header_of bytes).client.process && is_no_outsiders_thread group w (header_of bytes).client.thread)

-- the port at the end of a path, behind links, is a member's, if one stands there
abbrev pub leads_inside : Group → Result (Found Birth) NameFault → Bool
leads_inside group (Ok (PortThere port)) = group port.process
leads_inside group (Ok Directory) = true
leads_inside group (Err fault) = true

abbrev pub names_inside : Group → World → List ℕ → Bool
names_inside group w text = leads_inside group (lookup w.bindings text)

-- a call names no outsider, and no port of one: not by a path, and not by the client of a message; one clause for each call
abbrev pub is_fine_call : Group → World → ScriptCall → Bool
is_fine_call group w (create_port None dacl) = true
is_fine_call group w (create_port (Some name) dacl) = names_inside group w name
is_fine_call group w (connect_port name quality view info) = names_inside group w name
is_fine_call group w (listen_port handle) = true
is_fine_call group w (accept_connect_port context message accept view) = names_no_outsider group w message
is_fine_call group w (complete_connect_port handle) = true
is_fine_call group w (request_port handle message) = names_no_outsider group w message
is_fine_call group w (request_wait_reply_port handle message) = names_no_outsider group w message
is_fine_call group w (reply_port handle message) = names_no_outsider group w message
is_fine_call group w (reply_wait_receive_port handle None) = true
is_fine_call group w (reply_wait_receive_port handle (Some message)) = names_no_outsider group w message
is_fine_call group w (register_thread_terminate_port handle) = true
is_fine_call group w (close handle) = true
is_fine_call group w (duplicate_object handle access) = true
is_fine_call group w (query_object handle) = true
is_fine_call group w (create_process pid tid) = is_no_outsider group w pid && is_no_outsiders_thread group w tid
is_fine_call group w (create_thread target tid) = is_no_outsiders_thread group w tid
is_fine_call group w (terminate_thread target code) = true
is_fine_call group w (terminate_process target code) = true
is_fine_call group w (create_section size prot) = true
is_fine_call group w (map_view_of_section handle offset size prot) = true
is_fine_call group w (unmap_view_of_section address) = true
is_fine_call group w (read_virtual_memory address n) = true
is_fine_call group w (write_virtual_memory address new) = true
is_fine_call group w (read_request_data handle message index n) = names_no_outsider group w message
is_fine_call group w (write_request_data handle message index new) = names_no_outsider group w message
is_fine_call group w (impersonate_client_of_port handle message) = names_no_outsider group w message
is_fine_call group w (set_information_thread class) = true
is_fine_call group w open_thread_token = true
is_fine_call group w open_process_token = true
is_fine_call group w (query_information_token handle class) = true
is_fine_call group w (set_information_process target class port) = true
is_fine_call group w (raise code handled) = true

-- The circle: what c may see of sections
-- the views are an outsider's, and one of them is of the section; a step writes the section
abbrev pub outsider_sees : Group → Birth → ViewTable → Bool
outsider_sees group b t = not (group t.process) && has (shows_section b) t.rows

abbrev pub is_write_of : Birth → Basic → Bool
is_write_of b (Writes section place new) = same_birth section b
is_write_of b s = false

-- A section is outer at a line where an outsider has a view of it by then, or the line is an outsider's and writes it.
abbrev pub is_outer_at : Group → World → ScriptLine → Birth → Bool
is_outer_at group w line b =
    has (outsider_sees group b) w.views
    || (not (is_seen group (line_whose w line)) && has (is_write_of b) (steps line w))

-- it is outer in a run of lines where it is at some line, or an outsider has a view of it behind the last
abbrev pub is_outer : Group → World → List (Option ScriptLine) → Birth → Bool
is_outer group w [] b = has (outsider_sees group b) w.views
is_outer group w (None ∷ later) b = is_outer group w later b
is_outer group w (Some line ∷ later) b =
    is_outer_at group w line b || is_outer group (step w line).world later b

-- c has no view of a section that is outer in the run
abbrev pub is_inner_view : (Birth → Bool) → ViewRow → Bool
is_inner_view outer v = not (outer v.section)

abbrev pub HasInnerViews : ℕ → (Birth → Bool) → World → Type 0
HasInnerViews c outer w = every (is_inner_view outer) (views_of w c) ≡ true

-- where a line is an NtReadRequestData of c that is answered with bytes, they are of a section that isn't outer
abbrev pub ReadsInner : ℕ → (Birth → Bool) → World → ScriptLine → Type 0
ReadsInner c outer w (run tid (read_request_data handle message index n)) =
    (by : ThreadRow) (d : Described) → live_thread w tid ≡ Some by → wait_of w tid ≡ None → by.process ≡ c →
    described_test w by handle message index n ≡ Ok d → outer d.view.section ≡ false
ReadsInner c outer w line = Unit {0}

-- of a line, and the world before it; and of all lines, and the world behind the last
abbrev pub IsInnerAt : ℕ → (Birth → Bool) → World → ScriptLine → Type 0
IsInnerAt c outer w line = HasInnerViews c outer w × ReadsInner c outer w line

abbrev pub SeesInner : ℕ → (Birth → Bool) → World → List (Option ScriptLine) → Type 0
SeesInner c outer w lines = Along (IsInnerAt c outer) w lines × HasInnerViews c outer (world_behind w lines)

-- where a line is a call of c, it is such a call; directives and other processes may name whom they like
abbrev pub is_fine_line : Group → ℕ → World → ScriptLine → Bool
is_fine_line group c w (run tid call) = not (passes (owner w tid) (λ p. p == c)) || is_fine_call group w call
is_fine_line group c w (boot pid tid name) = true
is_fine_line group c w (thread tid pid) = true
is_fine_line group c w (token name content) = true
is_fine_line group c w (dir path) = true
is_fine_line group c w (link path target) = true
is_fine_line group c w (of_resident tid what had) = true

-- a line, and the world before it
abbrev pub IsFineAt : Group → ℕ → World → ScriptLine → Type 0
IsFineAt group c w line = IsFineWorld group c w × (is_fine_line group c w line ≡ true)

-- The group is a circle of c in a run of lines from a state on: at each line, and behind the last; and of the sections
-- that are outer in that run, c sees none, and reads none through a range that a request describes.
abbrev pub IsCircle : Group → ℕ → World → List (Option ScriptLine) → Type 0
IsCircle group c w lines =
    Along (IsFineAt group c) w lines × IsFineWorld group c (world_behind w lines)
    × SeesInner c (is_outer group w lines) w lines

-- The law
-- what happens in the run of a script; the items and inputs of a list of processes in it
abbrev pub events_of : List ℕ → List Event
events_of script = events no_rows (said_in script)

abbrev pub items_of : List ℕ → List ℕ → List Item
items_of group script = items (members group) (events_of script)

abbrev pub inputs_of : List ℕ → ℕ → List ℕ → List Item
inputs_of group c script = inputs (members group) c (events_of script)

-- a list of processes is a circle of the process c in the run of a script: c is in it, and the run is as a circle must be
abbrev pub IsCircleIn : List ℕ → ℕ → List ℕ → Type 0
IsCircleIn group c script = (members group c ≡ true) × IsCircle (members group) c no_rows (said_in script)

-- In two scripts that agree on a process's lines and on its circle's lines and answers, that process is answered alike.
abbrev pub Isolation : Type 0
Isolation =
    (group : List ℕ) (c : ℕ) (one two : List ℕ) → IsCircleIn group c one → IsCircleIn group c two →
    inputs_of group c one ≡ inputs_of group c two → items_of (c ∷ []) one ≡ items_of (c ∷ []) two
