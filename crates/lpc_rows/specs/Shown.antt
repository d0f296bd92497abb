-- The tables' rows as the definitions' rows: births in place of keys.
use Rattle.std.specs.Prelude.{◌≡◌, ℕ, List, [], ◌∷◌, ◌++◌, Bool, true, false, Option, Some, None, length, option_map, option_to_list, map}
use Rattle.lpc_base.specs.declared.birth.Birth.{Birth}
use Rattle.lpc_base.specs.declared.port_kind.PortKind.{PortKind}
use Rattle.lpc_base.specs.Rows.{each, every, given, without}
use Rattle.lpc_handles.specs.declared.table.Row.{Row}
use Rattle.lpc_model.specs.declared.entry.CallName.{CallName}
use Rattle.lpc_model.specs.declared.entry.CallName.TheVariants.{NtConnectPort, NtListenPort, NtReplyWaitReceivePort, NtRequestWaitReplyPort, Raise}
use Rattle.lpc_model.specs.declared.entry.ObjectKind.{ObjectKind}
use Rattle.lpc_model.specs.declared.entry.ObjectKind.TheVariants as kind
use Rattle.lpc_model.specs.Message.{message_of}
use Rattle.lpc_model.specs.World as model
use Rattle.lpc_model.specs.declared.message.Message as whole
use Rattle.lpc_model.specs.World.{World, ObjectName}
use Rattle.lpc_names.specs.Binding.{NameSpace}
use Rattle.lpc_names.specs.Mapped.{binding_as, node_as}
use Rattle.lpc_names.specs.Walk.{LinkTo, Node, Path, Stands}
use Rattle.lpc_names.specs.declared.names.Found.{Found}
use Rattle.lpc_names.specs.declared.names.Found.TheVariants.{Directory, Item}
use Rattle.lpc_ports.specs.Table.{PortTable, QueuedMessage}
use Rattle.lpc_ports.specs.declared.Creator.{Creator}
use Rattle.lpc_ports.specs.declared.Port.{Port}
use Rattle.lpc_ports.specs.declared.messages.Message.{Message}
use Rattle.lpc_procs.specs.Procs as procs
use Rattle.lpc_procs.specs.declared.rows.ProcessRow.{ProcessRow}
use Rattle.lpc_procs.specs.declared.rows.Registration.{Registration}
use Rattle.lpc_procs.specs.declared.rows.ThreadRow.{ThreadRow}
use Rattle.lpc_procs.specs.declared.rows.UsedThread.{UsedThread}
use Rattle.lpc_sections.specs.Sections.{SectionRow}
use Rattle.lpc_slots.specs.Table.{Table, listed}
use Rattle.lpc_slots.specs.declared.Key.{Key}
use Rattle.lpc_tokens.specs.Names as named
use Rattle.lpc_tokens.specs.declared.security.Security.TheVariants.{Unsecured}
use Rattle.lpc_tokens.specs.declared.token_row.TokenRow.{TokenRow}
use Rattle.lpc_views.specs.declared.view.View.{View}
use Rattle.lpc_waits.specs.Table.{WaitTable, WaitingThread, is_mark}
use Rattle.lpc_waits.specs.declared.Accepted.{Accepted}
use Rattle.lpc_waits.specs.declared.Chance.{Chance}
use Rattle.lpc_waits.specs.declared.Chance.TheVariants as chance
use Rattle.lpc_waits.specs.declared.Offer.{Offer}
use Rattle.lpc_waits.specs.declared.Raised.{Raised}
use Rattle.lpc_waits.specs.declared.Wait.{Wait}
use Rattle.lpc_waits.specs.declared.WaitKind.{WaitKind}
use Rattle.lpc_waits.specs.declared.WaitKind.TheVariants as wait
use Rattle.lpc_rows.specs.Names.{Names, name_of, stands, are_apart, names_of}
use Rattle.lpc_homes.specs.declared.object.Object.{Object}
use Rattle.lpc_homes.specs.declared.object.Object.TheVariants as object
use Rattle.lpc_homes.specs.declared.parts.Part.{Part}

-- Objects
-- the births of keys, for each kind of object that keys name
pub record Births : Type 0 where
  pub ports : Names
  pub sections : Names
  pub tokens : Names

-- the birth of an object, and whether its key stands; a process and a thread are named by their births, and have none
abbrev pub birth_of : Births → Object → Birth
birth_of n (object.Port key) = name_of n.ports key
birth_of n (object.Process birth) = birth
birth_of n (object.Thread birth) = birth
birth_of n (object.Section key) = name_of n.sections key
birth_of n (object.Token key) = name_of n.tokens key

abbrev pub object_stands : Births → Object → Bool
object_stands n (object.Port key) = stands n.ports key
object_stands n (object.Process birth) = true
object_stands n (object.Thread birth) = true
object_stands n (object.Section key) = stands n.sections key
object_stands n (object.Token key) = stands n.tokens key

-- the kind of an object, and its name
abbrev pub kind_of : Object → ObjectKind
kind_of (object.Port key) = kind.Port
kind_of (object.Process birth) = kind.Process
kind_of (object.Thread birth) = kind.Thread
kind_of (object.Section key) = kind.Section
kind_of (object.Token key) = kind.Token

abbrev pub name_by : (Object → Birth) → Object → ObjectName
name_by f o = record { kind = kind_of o; birth = f o }

-- the objects that a row names by an optional key
abbrev pub ports_in : Option Key → List Object
ports_in key = map object.Port (option_to_list key)

abbrev pub birth_in : (Object → Birth) → Option Key → Option Birth
birth_in f key = option_map (λ k. f (object.Port k)) key

-- What a row names, and the row as the definitions have it
abbrev pub port_refs : Key × Port → List Object
port_refs row = ports_in row.1.pair ++ ports_in row.1.connection

-- the connect that made a port
abbrev pub shown_creator : Creator → model.Creator
shown_creator c = record { client = c.client; identifier = c.message_id }

abbrev pub shown_port : (Object → Birth) → Key × Port → model.PortRow
shown_port f row = record {
  birth = row.1.birth;
  kind = row.1.kind;
  connection = birth_in f row.1.connection;
  pair = birth_in f row.1.pair;
  context = row.1.context;
  completed = row.1.completed;
  creator = option_map shown_creator row.1.creator;
  security = row.1.security;
}

-- a port that is added, which has no other end yet, and which anyone may use
abbrev pub port_with : (Object → Birth) → PortKind → Birth → Option Key → Option Creator → model.PortRow
port_with f kind birth connection creator = record {
  birth = birth;
  kind = kind;
  connection = birth_in f connection;
  pair = None;
  context = 0;
  completed = false;
  creator = option_map shown_creator creator;
  security = Unsecured;
}

abbrev pub message_refs : Key × QueuedMessage → List Object
message_refs row = object.Port row.1.queue ∷ object.Port row.1.message.sender ∷ []

abbrev pub shown_message : (Object → Birth) → Key × QueuedMessage → model.MessageRow
shown_message f row = record {
  queue = f (object.Port row.1.queue);
  sender = f (object.Port row.1.message.sender);
  context = row.1.message.context;
  message = message_of row.1.message.bytes.items;
}

-- the call that a wait of a kind is made by, and what it waits for
abbrev pub call_of_wait : WaitKind → CallName
call_of_wait wait.Request = NtRequestWaitReplyPort
call_of_wait wait.Receive = NtReplyWaitReceivePort
call_of_wait wait.Listen = NtListenPort
call_of_wait wait.Connect = NtConnectPort
call_of_wait (wait.Event r) = Raise

-- what a connect offers, and what it is accepted with
abbrev pub shown_offer : (Object → Birth) → Offer → model.Offer
shown_offer f offer = record { section = f (object.Section offer.section); offset = offer.offset; size = offer.size }

abbrev pub shown_acceptance : Accepted → model.Acceptance
shown_acceptance a = record { reply = a.reply.items; target = a.target; vbase = a.vbase; vsize = a.vsize }

-- the chance that an exception has, and an exception that was raised
abbrev pub shown_chance : Chance → model.Chance
shown_chance chance.FirstDebug = model.FirstDebug
shown_chance chance.LastDebug = model.LastDebug
shown_chance chance.LastException = model.LastException

abbrev pub shown_raised : Raised → model.Raised
shown_raised r = record { code = r.code; handled = r.handled; chance = shown_chance r.chance }

-- an accepted connect offers nothing any longer
abbrev pub shown_connect : List ℕ → Option model.Offer → Option Accepted → model.WaitKind
shown_connect bytes offer None = model.Connect (message_of bytes) offer
shown_connect bytes offer (Some accepted) = model.Accepted (message_of bytes) (shown_acceptance accepted)

abbrev pub shown_kind : WaitKind → List ℕ → Option model.Offer → Option Accepted → model.WaitKind
shown_kind wait.Request bytes offer accepted = model.Request (message_of bytes)
shown_kind wait.Receive bytes offer accepted = model.Receive
shown_kind wait.Listen bytes offer accepted = model.Listen
shown_kind wait.Connect bytes offer accepted = shown_connect bytes offer accepted
shown_kind (wait.Event r) bytes offer accepted = model.Event (shown_raised r)

-- a wait names its ports, and the section that a connect offers which isn't accepted
abbrev pub section_in : Option Offer → List Object
section_in offer = given offer (λ o. object.Section o.section ∷ [])

abbrev pub offer_refs : WaitKind → Option Offer → Option Accepted → List Object
offer_refs wait.Connect offer None = section_in offer
offer_refs kind offer accepted = []

abbrev pub wait_refs : WaitingThread → List Object
wait_refs row = object.Port row.wait.port ∷ object.Port row.wait.queue ∷ offer_refs row.wait.kind row.offer row.accepted

abbrev pub shown_wait : (Object → Birth) → WaitingThread → model.WaitRow
shown_wait f row = record {
  call = call_of_wait row.wait.kind;
  thread = row.thread;
  process = row.wait.process;
  kind = shown_kind row.wait.kind row.message.items (option_map (shown_offer f) row.offer) row.accepted;
  port = f (object.Port row.wait.port);
  queue = f (object.Port row.wait.queue);
  identifier = row.wait.identifier;
  received = row.wait.received;
}

abbrev pub shown_handle : (Object → Birth) → ℕ × Row Object → model.HandleRow
shown_handle f row = record { value = row.0; object = name_by f row.1.object; access = row.1.access }

abbrev pub part_refs : Part → List Object
part_refs part = map (λ row. row.1.object) part.handles.rows

abbrev pub shown_part : (Object → Birth) → Part → model.HandleTable
shown_part f part = record { process = part.process; rows = map (shown_handle f) part.handles.rows }

-- a section, and its bytes
abbrev pub shown_section : Key × SectionRow → model.SectionRow
shown_section row = record { birth = row.1.birth; size = length row.1.bytes; writable = row.1.writable }

abbrev pub shown_content : Key × SectionRow → model.ContentRow
shown_content row = record { section = row.1.birth; bytes = row.1.bytes }

-- a token, and the name of one
abbrev pub shown_token : Key × TokenRow → model.TokenRow
shown_token row = record { birth = row.1.birth; token = row.1.token; level = row.1.level }

abbrev pub shown_token_name : named.TokenName → model.TokenName
shown_token_name row = record { name = row.name; token = row.token }

-- a view names its section, and the port that it goes with
abbrev pub view_refs : View Key → List Object
view_refs view = object.Section view.section ∷ ports_in view.owner

abbrev pub shown_view : (Object → Birth) → View Key → model.ViewRow
shown_view f view = record {
  base = view.base;
  size = view.size;
  section = f (object.Section view.section);
  offset = view.offset;
  writable = view.writable;
  owner = birth_in f view.owner;
}

abbrev pub space_refs : Part → List Object
space_refs part = each view_refs part.views.views

abbrev pub shown_space : (Object → Birth) → Part → model.ViewTable
shown_space f part = record { process = part.process; rows = map (shown_view f) part.views.views }

abbrev pub shown_process : ProcessRow → model.ProcessRow
shown_process p = record {
  number = p.number;
  maker = p.maker;
  birth = p.birth;
  token = p.token;
  debug_port = option_map (λ (r : Registration). r.birth) p.debug_port;
  exception_port = option_map (λ (r : Registration). r.birth) p.exception_port;
  doom = p.doom;
}

abbrev pub shown_thread : ThreadRow → model.ThreadRow
shown_thread t = record {
  number = t.number;
  process = t.process;
  birth = t.birth;
  live = t.live;
  next_identifier = t.next_identifier;
  next_ordinal = t.next_ordinal;
  registrations = map (λ (r : Registration). r.birth) t.registered.items;
  own = t.own;
}

abbrev pub shown_used : UsedThread → model.UsedThread
shown_used u = record { number = u.number; process = u.process }

-- a port under its name: by its birth
abbrev pub found_refs : Found Key → List Object
found_refs Directory = []
found_refs (Item key) = object.Port key ∷ []

-- the birth of the port at a key
abbrev pub port_birth : (Object → Birth) → Key → Birth
port_birth f key = f (object.Port key)

-- what a path is bound to
abbrev pub node_refs : Node Key → List Object
node_refs (Stands found) = found_refs found
node_refs (LinkTo target) = []

abbrev pub shown_node : (Object → Birth) → Node Key → Node Birth
shown_node f = node_as (port_birth f)

abbrev pub binding_refs : Path × Node Key → List Object
binding_refs row = node_refs row.1

abbrev pub shown_binding : (Object → Birth) → Path × Node Key → Path × Node Birth
shown_binding f = binding_as (port_birth f)

-- All rows
-- the threads whose events are marked, in order of marking, and how many marks there is memory for
pub record MarkTable : Type 0 where
  pub rows : List ℕ
  pub places : ℕ

-- marks with one more, behind the others, and without that of a thread
abbrev pub with_mark : ℕ → MarkTable → MarkTable
with_mark tid m = record m { rows = m.rows ++ tid ∷ [] }

abbrev pub without_mark : ℕ → MarkTable → MarkTable
without_mark tid m = record m { rows = without (is_mark tid) m.rows }

-- marks with room for so many
abbrev pub with_places : ℕ → MarkTable → MarkTable
with_places places m = record m { places = places }

-- the tables: processes and threads, the handles and views of each process, ports with the messages in their queues,
-- waits, the name space, sections, tokens, the names of tokens, and the marked events
pub record Tables : Type 0 where
  pub procs : procs.Table
  pub parts : List Part
  pub ports : PortTable
  pub waits : WaitTable
  pub space : NameSpace Key
  pub sections : Table SectionRow
  pub tokens : Table TokenRow
  pub token_names : named.TokenNames
  pub marks : MarkTable

abbrev pub tables_of : procs.Table → List Part → PortTable → WaitTable → NameSpace Key → Table SectionRow → Table TokenRow → named.TokenNames → MarkTable → Tables
tables_of procs parts ports waits space sections tokens names marks = record {
  procs = procs;
  parts = parts;
  ports = ports;
  waits = waits;
  space = space;
  sections = sections;
  tokens = tokens;
  token_names = names;
  marks = marks;
}

-- what the tables stand for, under the births of keys
abbrev pub shown_by : Births → Tables → World
shown_by n it = record {
  processes = map shown_process it.procs.processes;
  threads = map shown_thread it.procs.threads;
  used_processes = it.procs.used_processes;
  used_threads = map shown_used it.procs.used_threads;
  handles = map (shown_part (birth_of n)) it.parts;
  ports = map (shown_port (birth_of n)) it.ports.ports;
  messages = map (shown_message (birth_of n)) it.ports.messages;
  waits = map (shown_wait (birth_of n)) it.waits.rows;
  marks = it.marks.rows;
  bindings = map (shown_binding (birth_of n)) it.space.bindings;
  sections = map shown_section (listed it.sections);
  contents = model.Known (map shown_content (listed it.sections));
  views = map (shown_space (birth_of n)) it.parts;
  tokens = map shown_token (listed it.tokens);
  token_names = map shown_token_name it.token_names.rows;
}

-- the births that the tables give their keys
abbrev pub port_names : PortTable → Names
port_names ports = names_of (λ (p : Port). p.birth) ports.ports

abbrev pub section_names : Table SectionRow → Names
section_names sections = names_of (λ (s : SectionRow). s.birth) (listed sections)

abbrev pub token_births : Table TokenRow → Names
token_births tokens = names_of (λ (t : TokenRow). t.birth) (listed tokens)

abbrev pub births_of : Tables → Births
births_of it = record { ports = port_names it.ports; sections = section_names it.sections; tokens = token_births it.tokens }

-- each object that a row names passes
abbrev pub all_pass : {R : Type 0} → (R → List Object) → (Object → Bool) → R → Bool
all_pass refs ok row = every ok (refs row)

-- the objects that the tables' rows name all pass
pub record AllPass (ok : Object → Bool) (it : Tables) : Type 0 where
  pub in_handles : every (all_pass part_refs ok) it.parts ≡ true
  pub in_ports : every (all_pass port_refs ok) it.ports.ports ≡ true
  pub in_messages : every (all_pass message_refs ok) it.ports.messages ≡ true
  pub in_waits : every (all_pass wait_refs ok) it.waits.rows ≡ true
  pub in_names : every (all_pass binding_refs ok) it.space.bindings ≡ true
  pub in_views : every (all_pass space_refs ok) it.parts ≡ true

-- no two objects have one key or one birth, and each object that a row names stands
pub record AreNamed (n : Births) (it : Tables) : Type 0 where
  pub ports_apart : are_apart n.ports ≡ true
  pub sections_apart : are_apart n.sections ≡ true
  pub tokens_apart : are_apart n.tokens ≡ true
  pub refs : AllPass (object_stands n) it

-- a message as it enters a queue, and as it is taken from one
abbrev pub row_with : Births → Key → Key → ℕ → whole.Message → model.MessageRow
row_with n queue sender context message = record {
  queue = name_of n.ports queue;
  sender = name_of n.ports sender;
  context = context;
  message = message;
}

abbrev pub sent_row : Births → Key → Key → ℕ → List ℕ → model.MessageRow
sent_row n queue sender context bytes = row_with n queue sender context (message_of bytes)

abbrev pub pulled_row : Births → Key → Message → model.MessageRow
pulled_row n queue m = sent_row n queue m.sender m.context m.bytes.items

-- a wait that a thread begins with a message
abbrev pub waiting_row : Births → ℕ → Wait → List ℕ → model.WaitRow
waiting_row n tid wait bytes = shown_wait (birth_of n) (record { thread = tid; wait = wait; message = record { items = bytes }; offer = None; accepted = None })

-- a request's or connect's wait keeps its message; another wait has none
abbrev pub keeping : whole.Message → model.WaitKind → model.WaitKind
keeping m (model.Request old) = model.Request m
keeping m model.Receive = model.Receive
keeping m model.Listen = model.Listen
keeping m (model.Connect old offer) = model.Connect m offer
keeping m (model.Accepted old a) = model.Accepted m a
keeping m (model.Event r) = model.Event r

abbrev pub with_message : whole.Message → model.WaitRow → model.WaitRow
with_message m x = record x { kind = keeping m x.kind }

-- a connect that isn't accepted offers this, or nothing
abbrev pub offering : Option model.Offer → model.WaitKind → model.WaitKind
offering offer (model.Connect m old) = model.Connect m offer
offering offer kind = kind

abbrev pub with_offer : Option model.Offer → model.WaitRow → model.WaitRow
with_offer offer x = record x { kind = offering offer x.kind }
