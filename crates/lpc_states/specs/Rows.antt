-- The rows of the world as lines: each begins with the name of the row, in quotes, and its keys with their values stand
-- behind that. A comma ends the name, and byte 10 the row.
use Rattle.std.specs.Prelude.{ℕ, ◌==◌, List, [], ◌∷◌, ◌++◌, codes, decimal, if◌then◌else◌}
use Rattle.std.specs.List.{flat_map}
use Rattle.lpc_base.specs.declared.birth.Birth.{Birth}
use Rattle.lpc_names.specs.Walk.{LinkTo, Node, Path, Stands}
use Rattle.lpc_names.specs.declared.names.Found.TheVariants.{Directory, Item}
use Rattle.lpc_model.specs.Found.{content_of, handle_count, pointer_count, port_name, process_name, section_name, thread_name, token_name}
use Rattle.lpc_model.specs.Text.{call_text, eight_digits}
use Rattle.lpc_model.specs.World.{Accepted, Connect, Event, HandleRow, Listen, MessageRow, ObjectName, PortRow, ProcessRow, Receive, Request, SectionRow, ThreadRow, TokenName, TokenRow, ViewRow, WaitKind, WaitRow, World}
use Rattle.lpc_states.specs.Values.{acceptance_text, birth_text, bytes_text, creator_text, flag, hex, impersonation_text, joined, listed, message_fields, message_text, object_text, offer_text, or_null, path_text, port_kind_text, port_text, raised_text, security_text, spelled, token_text}

-- how many handles name an object, and how many rows count for it
unfoldable pub counts : World → ObjectName → List ℕ
counts w o = joined (
    codes ",\"handles\":" ∷ decimal (handle_count w o)
    ∷ codes ",\"pointers\":" ∷ decimal (pointer_count w o)
    ∷ []
    )

-- a process
unfoldable pub process_row : World → ProcessRow → List ℕ
process_row w p = joined (
    object_text (process_name p.birth)
    ∷ codes ",\"number\":" ∷ decimal p.number
    ∷ codes ",\"maker\":" ∷ or_null decimal p.maker
    ∷ codes ",\"token\":" ∷ token_text p.token
    ∷ codes ",\"debug_port\":" ∷ or_null port_text p.debug_port
    ∷ codes ",\"exception_port\":" ∷ or_null port_text p.exception_port
    ∷ codes ",\"doom\":" ∷ or_null hex p.doom
    ∷ counts w (process_name p.birth)
    ∷ codes "\n"
    ∷ []
    )

-- a thread
unfoldable pub thread_row : World → ThreadRow → List ℕ
thread_row w t = joined (
    object_text (thread_name t.birth)
    ∷ codes ",\"number\":" ∷ decimal t.number
    ∷ codes ",\"process\":" ∷ decimal t.process
    ∷ codes ",\"live\":" ∷ flag t.live
    ∷ codes ",\"next_identifier\":" ∷ decimal t.next_identifier
    ∷ codes ",\"next_ordinal\":" ∷ decimal t.next_ordinal
    ∷ codes ",\"registrations\":" ∷ listed port_text t.registrations
    ∷ codes ",\"acts_as\":" ∷ or_null impersonation_text t.own
    ∷ counts w (thread_name t.birth)
    ∷ codes "\n"
    ∷ []
    )

-- what a wait is for: the reply to a request, a message, a connection request, the answer to a connect and, once that was
-- accepted, its completion, or what is made of an event; with what the wait keeps
unfoldable pub awaited : WaitKind → List ℕ
awaited (Request m) = joined (codes ",\"for\":\"reply\",\"message\":" ∷ message_text m ∷ [])
awaited Receive = codes ",\"for\":\"message\""
awaited Listen = codes ",\"for\":\"connection request\""
awaited (Connect m offer) = joined (
    codes ",\"for\":\"answer\",\"message\":" ∷ message_text m
    ∷ codes ",\"offer\":" ∷ or_null offer_text offer
    ∷ []
    )
awaited (Accepted m a) = joined (
    codes ",\"for\":\"completion\",\"message\":" ∷ message_text m
    ∷ codes ",\"accepted\":" ∷ acceptance_text a
    ∷ []
    )
awaited (Event r) = joined (codes ",\"for\":\"event\",\"exception\":" ∷ raised_text r ∷ [])

-- The wait of a thread, named by the thread's number and the identifier of what it sent, 0 where it sent nothing. A thread
-- has one wait at most.
unfoldable pub wait_row : WaitRow → List ℕ
wait_row x = joined (
    codes "\"wait " ∷ decimal x.thread
    ∷ codes "." ∷ decimal x.identifier
    ∷ codes "\",\"process\":" ∷ decimal x.process
    ∷ codes ",\"thread\":" ∷ decimal x.thread
    ∷ codes ",\"call\":\"" ∷ call_text x.call
    ∷ codes "\",\"port\":" ∷ port_text x.port
    ∷ codes ",\"queue\":" ∷ port_text x.queue
    ∷ codes ",\"identifier\":" ∷ decimal x.identifier
    ∷ codes ",\"received\":" ∷ flag x.received
    ∷ awaited x.kind
    ∷ codes "\n"
    ∷ []
    )

-- the mark of a thread's event
unfoldable pub mark_row : ℕ → List ℕ
mark_row tid = joined (
    codes "\"mark " ∷ decimal tid
    ∷ codes "\",\"thread\":" ∷ decimal tid
    ∷ codes "\n"
    ∷ []
    )

-- a handle of a process
unfoldable pub handle_row : ℕ → HandleRow → List ℕ
handle_row pid h = joined (
    codes "\"handle " ∷ decimal pid
    ∷ codes "/" ∷ decimal h.value
    ∷ codes "\",\"process\":" ∷ decimal pid
    ∷ codes ",\"value\":" ∷ decimal h.value
    ∷ codes ",\"object\":" ∷ object_text h.object
    ∷ codes ",\"access\":" ∷ hex h.access
    ∷ codes "\n"
    ∷ []
    )

-- a port
unfoldable pub port_row : World → PortRow → List ℕ
port_row w p = joined (
    object_text (port_name p.birth)
    ∷ codes ",\"kind\":" ∷ port_kind_text p.kind
    ∷ codes ",\"connection\":" ∷ or_null port_text p.connection
    ∷ codes ",\"pair\":" ∷ or_null port_text p.pair
    ∷ codes ",\"context\":" ∷ hex p.context
    ∷ codes ",\"completed\":" ∷ flag p.completed
    ∷ codes ",\"creator\":" ∷ or_null creator_text p.creator
    ∷ codes ",\"security\":" ∷ security_text p.security
    ∷ counts w (port_name p.birth)
    ∷ codes "\n"
    ∷ []
    )

-- The name of a message: its queue, the port on which it was sent, the thread and the identifier that it names, and its
-- type.
unfoldable pub message_name : MessageRow → List ℕ
message_name m = joined (
    codes "\"message " ∷ birth_text m.queue
    ∷ codes " " ∷ birth_text m.sender
    ∷ codes " " ∷ decimal m.message.header.client.thread
    ∷ codes "." ∷ decimal m.message.header.message_id
    ∷ codes " " ∷ decimal m.message.header.kind
    ∷ codes "\""
    ∷ []
    )

-- a message that stands in a queue
unfoldable pub message_row : MessageRow → List ℕ
message_row m = joined (
    message_name m
    ∷ codes ",\"queue\":" ∷ port_text m.queue
    ∷ codes ",\"sender\":" ∷ port_text m.sender
    ∷ codes ",\"context\":" ∷ hex m.context
    ∷ codes ","
    ∷ message_fields m.message
    ∷ codes "\n"
    ∷ []
    )

-- what a name leads to
abbrev pub node_text : Node Birth → List ℕ
node_text (Stands Directory) = codes ",\"is\":\"directory\""
node_text (Stands (Item b)) = codes ",\"is\":\"port\",\"port\":" ++ port_text b
node_text (LinkTo path) = joined (codes ",\"is\":\"link\",\"target\":\"" ∷ path_text path ∷ codes "\"" ∷ [])

-- a name of the name space
unfoldable pub name_row : Path × Node Birth → List ℕ
name_row row = joined (
    codes "\"name " ∷ path_text row.0
    ∷ codes "\""
    ∷ node_text row.1
    ∷ codes "\n"
    ∷ []
    )

-- bytes up to the last one that isn't 0
abbrev pub unless_zero : ℕ → List ℕ → List ℕ
unless_zero b [] = if b == 0 then [] else b ∷ []
unless_zero b (next ∷ later) = b ∷ next ∷ later

unfoldable pub without_last_zeros : List ℕ → List ℕ
without_last_zeros [] = []
without_last_zeros (b ∷ later) = unless_zero b (without_last_zeros later)

-- a section, with the process that made it, and its bytes up to the last one that isn't 0
unfoldable pub section_row : World → SectionRow → List ℕ
section_row w s = joined (
    object_text (section_name s.birth)
    ∷ codes ",\"process\":" ∷ decimal s.birth.process
    ∷ codes ",\"size\":" ∷ decimal s.size
    ∷ codes ",\"writable\":" ∷ flag s.writable
    ∷ codes ",\"bytes\":" ∷ bytes_text (without_last_zeros (content_of w.contents s.birth))
    ∷ counts w (section_name s.birth)
    ∷ codes "\n"
    ∷ []
    )

-- a view of a process
unfoldable pub view_row : ℕ → ViewRow → List ℕ
view_row pid v = joined (
    codes "\"view " ∷ decimal pid
    ∷ codes "/" ∷ eight_digits v.base
    ∷ codes "\",\"process\":" ∷ decimal pid
    ∷ codes ",\"base\":" ∷ hex v.base
    ∷ codes ",\"size\":" ∷ decimal v.size
    ∷ codes ",\"section\":" ∷ object_text (section_name v.section)
    ∷ codes ",\"offset\":" ∷ decimal v.offset
    ∷ codes ",\"writable\":" ∷ flag v.writable
    ∷ codes ",\"owner\":" ∷ or_null port_text v.owner
    ∷ codes "\n"
    ∷ []
    )

-- a token that is an object
unfoldable pub token_row : World → TokenRow → List ℕ
token_row w t = joined (
    object_text (token_name t.birth)
    ∷ codes ",\"token\":" ∷ token_text t.token
    ∷ codes ",\"level\":" ∷ or_null decimal t.level
    ∷ counts w (token_name t.birth)
    ∷ codes "\n"
    ∷ []
    )

-- a token that a directive named
unfoldable pub token_name_row : TokenName → List ℕ
token_name_row t = joined (
    codes "\"token_name " ∷ spelled t.name
    ∷ codes "\",\"token\":" ∷ token_text t.token
    ∷ codes "\n"
    ∷ []
    )

-- the rows of a table, a line each
abbrev pub lines : {R : Type 0} → (R → List ℕ) → List R → List ℕ
lines row rows = flat_map row rows

-- all rows of a world, a line each: processes, threads, waits, marks, handles, ports, messages, names, sections, views,
-- tokens, and the names of tokens; of each kind in the order in which the world has them
unfoldable pub rows_text : World → List ℕ
rows_text w =
    lines (process_row w) w.processes
    ++ lines (thread_row w) w.threads
    ++ lines wait_row w.waits
    ++ lines mark_row w.marks
    ++ flat_map (λ t. lines (handle_row t.process) t.rows) w.handles
    ++ lines (port_row w) w.ports
    ++ lines message_row w.messages
    ++ lines name_row w.bindings
    ++ lines (section_row w) w.sections
    ++ flat_map (λ t. lines (view_row t.process) t.rows) w.views
    ++ lines (token_row w) w.tokens
    ++ lines token_name_row w.token_names
