-- The calls that make ports and connections: refusals in their order, else the steps.
use Rattle.std.specs.Prelude.{ℕ, Bool, true, false, not, nat_lt, length, List, [], ◌∷◌, ◌++◌, ◌+◌, ◌&&◌, Option, None, Some, Result, Ok}
use Rattle.lpc_base.specs.Rows.{first, given, has}
use Rattle.lpc_base.specs.declared.limits.TheConstants.{HEADER_SIZE, MESSAGE_LIMIT}
use Rattle.lpc_base.specs.declared.status.Status.{Status}
use Rattle.lpc_base.specs.declared.status.TheConstants.{ACCESS_DENIED, BAD_IMPERSONATION_LEVEL, INVALID_PARAMETER, INVALID_PORT_HANDLE, PORT_DISCONNECTED, PORT_MESSAGE_TOO_LONG, REPLY_MESSAGE_MISMATCH, SUCCESS}
use Rattle.lpc_base.specs.declared.port_kind.PortKind.TheVariants.{Client, Connection, Server, Unnamed}
use Rattle.lpc_message.specs.declared.kind.TheConstants.{CONNECTION_REQUEST}
use Rattle.lpc_sid.specs.Access.{grants}
use Rattle.lpc_tokens.specs.Tokens.{counts_as}
use Rattle.lpc_tokens.specs.declared.level.TheConstants.{IMPERSONATION}
use Rattle.lpc_tokens.specs.declared.security.Security.TheVariants.{Allows, Guarded, Unsecured}
use Rattle.lpc_model.specs.declared.entry.Entry.TheVariants.{Answer, Waits}
use Rattle.lpc_model.specs.declared.entry.Field.{Field}
use Rattle.lpc_model.specs.declared.entry.CallName.TheVariants.{NtAcceptConnectPort, NtCompleteConnectPort, NtConnectPort, NtCreatePort, NtListenPort}
use Rattle.lpc_model.specs.Refusal.{found_or, refuse_if}
use Rattle.lpc_model.specs.Then.{◌>>=◌}
use Rattle.lpc_model.specs.World.{World, Acceptance, Accepted, Dacl, Qos, Birth, Connect, Creator, Listen, Message, MessageRow, Offer, Path, PortKind, PortRow, ThreadRow, ViewRow, WaitRow}
use Rattle.lpc_model.specs.Message.{made, message_test, with_section}
use Rattle.lpc_model.specs.Found.{access_list, acting_token, free_handle, handles_of, is_accepted, is_connection_port, is_offered, is_queued_connect, is_server_port, names_port, names_wait, port_name, same_birth}
use Rattle.lpc_model.specs.Basics.{Accepts, AddsHandle, Awaits, Basic, Binds, Completes, DrawsIdentifier, DrawsOrdinal, DropsOwned, Joins, Makes, Secures, Steps, Tells, doing, ◌▹◌}
use Rattle.lpc_model.specs.Fields.{accept_fields, completion_fields, connect_fields, h, msg}
use Rattle.lpc_model.specs.Entering.{end_connect, enter, row_of, take_connect_steps, woken}
use Rattle.lpc_model.specs.Named.{free_name, named_port}
use Rattle.lpc_names.specs.Walk.{Stands}
use Rattle.lpc_names.specs.declared.names.Found.TheVariants.{Item}
use Rattle.lpc_model.specs.Lines.{ViewWord}
use Rattle.lpc_model.specs.Offers.{SharedViews, Wanted, acceptance, base_of, if_given, mapped, offer_test, offered_size, shared_steps, shared_test, size_of_view, view_test, wanted_test}
use Rattle.lpc_model.specs.Tests.{PORT_ACCESS, client_of, client_test, handle_row, handles_test, next_birth, own_wait, port_test}

-- a port that is joined to nothing
abbrev pub new_port : Birth → PortKind → PortRow
new_port b kind =
    record {
      birth = b;
      kind = kind;
      connection = None;
      pair = None;
      context = 0;
      completed = false;
      creator = None;
      security = Unsecured;
    }

-- a port without a name, and the connection port that a path names
abbrev pub unnamed_steps : Birth → List Basic
unnamed_steps port = Makes (new_port port Unnamed) ∷ []

abbrev pub named_steps : Birth → Path → List Basic
named_steps port path = Makes (new_port port Connection) ∷ Binds path (Stands (Item port)) ∷ []

-- a port is made, with a handle to it
abbrev pub create_steps : ThreadRow → List Basic → ℕ → List Basic
create_steps by made value =
    Tells (Answer by.number NtCreatePort SUCCESS (h value ∷ []))
    ∷ DrawsOrdinal by.number
    ∷ made ++ AddsHandle by.process (handle_row value (port_name (next_birth by)) PORT_ACCESS)
    ∷ []

-- how a port is made, with or without a name: a fault of the name
abbrev pub making : World → Birth → Option (List ℕ) → Result (List Basic) Status
making w port None = Ok (unnamed_steps port)
making w port (Some name) = do
  path ← free_name w name
  Ok (named_steps port path)

-- a connection port gets its access list, where one is given; that of a port without a name isn't kept
abbrev pub guard_steps : Birth → Option (List ℕ) → Option Dacl → List Basic
guard_steps port None dacl = []
guard_steps port (Some name) dacl = given dacl (λ d. Secures port (Guarded d) ∷ [])

-- NtCreatePort: a fault of the name, then too many handles
unfoldable pub nt_create_port : World → ThreadRow → Option (List ℕ) → Option Dacl → Result (List Basic) Status
nt_create_port w by name dacl = do
  made ← making w (next_birth by) name
  _ ← handles_test w by.process 1
  Ok (create_steps by made (free_handle w by.process) ++ guard_steps (next_birth by) name dacl)

-- NtConnectPort
-- the connect that a thread makes next, as the port that it makes keeps it
abbrev pub next_creator : ThreadRow → Creator
next_creator by = record { client = client_of by; identifier = by.next_identifier }

-- a client port, which isn't joined yet, with the connect that makes it, and a server port
abbrev pub client_port : ThreadRow → Birth → PortRow
client_port by connection =
    record (new_port (next_birth by) Client) { connection = Some connection; creator = Some (next_creator by) }

abbrev pub server_port : Birth → Birth → PortRow
server_port b connection = record (new_port b Server) { connection = Some connection }

-- the bytes that go with a connect are more than a message holds
abbrev pub info_test : List ℕ → Result Unit Status
info_test bytes = refuse_if (nat_lt MESSAGE_LIMIT (HEADER_SIZE + length bytes)) PORT_MESSAGE_TOO_LONG

-- the connection request, with the identifier that its sender draws, and the size of what is offered
abbrev pub connection_request : ThreadRow → Option Offer → List ℕ → Message
connection_request by offer bytes =
    with_section (offered_size offer) (made CONNECTION_REQUEST (client_of by) by.next_identifier bytes)

-- the wait for the end of a connect, made on the client port
abbrev pub connect_wait : ThreadRow → Birth → Option Offer → Message → WaitRow
connect_wait by connection offer m =
    own_wait by NtConnectPort (Connect m offer) (next_birth by) connection by.next_identifier

-- a connect begins: its thread draws the identifier, makes the client port, and waits; it is told where its view lies
abbrev pub connect_start : ThreadRow → Birth → Option Offer → Option ViewRow → Message → List Basic
connect_start by connection offer own m =
    Tells (Waits by.number NtConnectPort (connect_fields by.next_identifier (base_of own)))
    ∷ DrawsIdentifier by.number
    ∷ DrawsOrdinal by.number
    ∷ Makes (client_port by connection)
    ∷ Awaits (connect_wait by connection offer m)
    ∷ []

-- then the connection request enters the queue of the connection port, and what the connect offers is mapped
abbrev pub connect_steps : ThreadRow → Birth → Option Offer → Option ViewRow → Message → Steps
connect_steps by connection offer own m =
    doing (connect_start by connection offer own m)
    ▹ enter (row_of connection (client_port by connection) m)
    ▹ doing (mapped by.process own)

-- The access check: an impersonation token with which its thread may not act as the client; then an access list that doesn't
-- grant the token the right to connect.
abbrev pub CONNECT_RIGHT : ℕ
CONNECT_RIGHT = 1

abbrev pub access_test : World → ThreadRow → Birth → Result Unit Status
access_test w by connection = do
  _ ← refuse_if (nat_lt (counts_as (acting_token w by)) IMPERSONATION) BAD_IMPERSONATION_LEVEL
  refuse_if (not (grants (acting_token w by).token (access_list w connection) CONNECT_RIGHT)) ACCESS_DENIED

-- the client port keeps what the connect allows, and the token with which its thread acts
abbrev pub allow_steps : World → ThreadRow → Qos → List Basic
allow_steps w by quality = Secures (next_birth by) (Allows quality (acting_token w by)) ∷ []

-- NtConnectPort: the handle of a view; too many bytes; an offset that is no whole page, a section that may not be
-- written, a view that would pass it; a fault of the name or a directory; a token with which its thread may not act, no
-- access; too many handles; too many views, no free place
unfoldable pub nt_connect_port : World → ThreadRow → List ℕ → Qos → Option ViewWord → List ℕ → Result (List Basic) Status
nt_connect_port w by name quality view bytes = do
  wanted ← if_given (wanted_test w by) view
  _ ← info_test bytes
  offer ← if_given offer_test wanted
  connection ← named_port w name
  _ ← access_test w by connection
  _ ← handles_test w by.process 1
  own ← if_given (view_test w by.process (next_birth by)) offer
  Ok (connect_steps by connection offer own (connection_request by offer bytes) w ++ allow_steps w by quality)

-- NtListenPort
-- the wait for a connection request
abbrev pub listen_wait : ThreadRow → Birth → WaitRow
listen_wait by port = own_wait by NtListenPort Listen port port 0

-- the oldest connection request is taken, or the thread waits for one
abbrev pub listen_steps : ThreadRow → Birth → Option MessageRow → List Basic
listen_steps by port (Some m) =
    Tells (Answer by.number NtListenPort SUCCESS (msg m.message ∷ [])) ∷ take_connect_steps m
listen_steps by port None = Tells (Waits by.number NtListenPort []) ∷ Awaits (listen_wait by port) ∷ []

-- NtListenPort: the handle, no connection port
unfoldable pub nt_listen_port : World → ThreadRow → ℕ → Result (List Basic) Status
nt_listen_port w by handle = do
  port ← port_test w by handle
  _ ← refuse_if (not (is_connection_port port)) INVALID_PORT_HANDLE
  Ok (listen_steps by port.birth (first (is_queued_connect port.birth) w.messages))

-- NtAcceptConnectPort
-- a handle of the process names the port
abbrev pub reaches : World → ℕ → Birth → Bool
reaches w pid b = has (λ h. names_port b h.object) (handles_of w pid)

-- the message names a connect that was received and isn't accepted, to a connection port that the caller's process
-- reaches
abbrev pub names_connect : World → ThreadRow → Message → WaitRow → Bool
names_connect w by m x =
    names_wait x m && (is_offered x && (x.received && reaches w by.process x.queue))

-- the message that answers a connect, and that connect
pub record ConnectAnswer : Type 0 where
  pub message : Message
  pub wait : WaitRow

-- the tests of an answer: the message, no such client, no connect that it names
abbrev pub answer_test : World → ThreadRow → List ℕ → Result ConnectAnswer Status
answer_test w by bytes = do
  m ← message_test bytes
  _ ← client_test w m.header.client
  x ← found_or (first (names_connect w by m) w.waits) REPLY_MESSAGE_MISMATCH
  Ok (record { message = m; wait = x })

-- a connect is refused: it ends, with the bytes of the answer, and the views of its client port go
abbrev pub refuse_steps : ThreadRow → ConnectAnswer → List Basic
refuse_steps by a =
    Tells (Answer by.number NtAcceptConnectPort SUCCESS []) ∷ end_connect a.message.body a.wait ∷ DropsOwned a.wait.port ∷ []

-- what an accept tells: its handle, and the views of the connection
abbrev pub shared_fields : ℕ → SharedViews → List Field
shared_fields value v =
    accept_fields value (base_of v.own) (base_of v.across) (base_of v.theirs) (size_of_view v.theirs)

-- a connect is accepted: the server port is made, gets a handle, and is joined to the client port
abbrev pub accept_start : ThreadRow → ℕ → ℕ → ConnectAnswer → SharedViews → List Basic
accept_start by context value a views =
    Tells (Answer by.number NtAcceptConnectPort SUCCESS (shared_fields value views))
    ∷ DrawsOrdinal by.number
    ∷ Makes (server_port (next_birth by) a.wait.queue)
    ∷ AddsHandle by.process (handle_row value (port_name (next_birth by)) PORT_ACCESS)
    ∷ Accepts a.wait.thread (acceptance a.message.body views)
    ∷ Joins a.wait.port (next_birth by) context
    ∷ []

-- and then what both offer is mapped
abbrev pub accept_steps : ThreadRow → ℕ → ℕ → ConnectAnswer → SharedViews → List Basic
accept_steps by context value a views = accept_start by context value a views ++ shared_steps by a.wait views

-- a connect is accepted, unless what is offered is at fault, the process has too many handles, or a view has no place; or
-- it is refused
abbrev pub answered_steps : World → ThreadRow → ℕ → Bool → Option Wanted → ConnectAnswer → Result (List Basic) Status
answered_steps w by context false wanted a = Ok (refuse_steps by a)
answered_steps w by context true wanted a = do
  offer ← if_given offer_test wanted
  _ ← handles_test w by.process 1
  views ← shared_test w by a.wait offer
  Ok (accept_steps by context (free_handle w by.process) a views)

-- the view word of an accept; to refuse, it isn't looked at
abbrev pub accepted_view : Bool → Option ViewWord → Option ViewWord
accepted_view true view = view
accepted_view false view = None

-- NtAcceptConnectPort: to accept, the handle of a view; the message, no such client, no connect that it names; then, to
-- accept, an offset that is no whole page, a section that may not be written, a view that would pass it, too many handles,
-- and for each view that is to be mapped too many views of its process, or no free place
unfoldable pub nt_accept_connect_port : World → ThreadRow → ℕ → List ℕ → Bool → Option ViewWord → Result (List Basic) Status
nt_accept_connect_port w by context bytes accept view = do
  wanted ← if_given (wanted_test w by) (accepted_view accept view)
  a ← answer_test w by bytes
  answered_steps w by context accept wanted a

-- NtCompleteConnectPort
-- the accepted connect that waits on a client port, and what its completion tells
abbrev pub is_accepted_on : Birth → WaitRow → Bool
is_accepted_on client x = is_accepted x && same_birth x.port client

abbrev pub no_acceptance : Acceptance
no_acceptance = record { reply = []; target = None; vbase = None; vsize = None }

abbrev pub acceptance_of : WaitRow → Acceptance
acceptance_of x = elim x.kind [
  | Accepted m a ↦ a
  | _ ↦ no_acceptance
]

-- a server port's other end, and the connect that waits there to be completed
pub record Completable : Type 0 where
  pub server : Birth
  pub client : Birth
  pub wait : WaitRow

-- The tests of a completion behind that of the handle: no server port, completed already, the pair is cut. In each
-- world that a script leaves, the connect of a pair waits until it is completed, so it is found: PORT_DISCONNECTED
-- tells of cut pairs alone.
abbrev pub completion_test : World → PortRow → Result Completable Status
completion_test w port = do
  _ ← refuse_if (not (is_server_port port)) INVALID_PORT_HANDLE
  _ ← refuse_if port.completed INVALID_PARAMETER
  client ← found_or port.pair PORT_DISCONNECTED
  x ← found_or (first (is_accepted_on client) w.waits) PORT_DISCONNECTED
  Ok (record { server = port.birth; client = client; wait = x })

-- the tests of a completion, the handle first
abbrev pub complete_test : World → ThreadRow → ℕ → Result Completable Status
complete_test w by handle = do
  port ← port_test w by handle
  completion_test w port

-- a connection is completed: the client gets its handle, and its thread is told
abbrev pub complete_steps : ThreadRow → ℕ → Completable → List Basic
complete_steps by value c =
    Tells (Answer by.number NtCompleteConnectPort SUCCESS [])
    ∷ Completes c.server
    ∷ Completes c.client
    ∷ AddsHandle c.wait.process (handle_row value (port_name c.client) PORT_ACCESS)
    ∷ woken SUCCESS (completion_fields value (acceptance_of c.wait)) c.wait
    ∷ []

-- NtCompleteConnectPort: the handle, no server port, completed already, the pair is cut
unfoldable pub nt_complete_connect_port : World → ThreadRow → ℕ → Result (List Basic) Status
nt_complete_connect_port w by handle = do
  c ← complete_test w by handle
  Ok (complete_steps by (free_handle w c.wait.process) c)
