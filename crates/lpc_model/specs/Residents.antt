-- Residents: servers of this project's own. Each sits on a thread, serves the port of a handle, and makes a call of that thread
-- at each of its turns. What it calls follows from what came of its own calls before, from its connections, and from what it
-- keeps of its clients; other calls of the thread aren't shown to it.
use Rattle.std.specs.Prelude.{ℕ, ◌^◌, ◌==◌, ◌&&◌, Bool, true, false, not, nat_lt, is_none, is_some, List, [], ◌∷◌, ◌++◌, drop, fold, length, Option, None, Some, option_and_then, option_map, if◌then◌else◌}
use Rattle.lpc_base.specs.Rows.{change, first, has, without}
use Rattle.lpc_base.specs.declared.status.Status.{Status}
use Rattle.lpc_base.specs.declared.status.TheConstants.{SUCCESS}
use Rattle.lpc_message.specs.Layout.{header_of}
use Rattle.lpc_message.specs.declared.kind.TheConstants.{CONNECTION_REQUEST, PORT_CLOSED, REQUEST}
use Rattle.lpc_subsys.specs.Clients.{History, reply_in, with_client, with_request, without_client}
use Rattle.lpc_subsys.specs.Requests.{Request, request_of}
use Rattle.lpc_model.specs.declared.entry.Entry.{Entry}
use Rattle.lpc_model.specs.declared.entry.Entry.TheVariants.{Answer, Wakes}
use Rattle.lpc_model.specs.declared.entry.Field.{Field}
use Rattle.lpc_model.specs.declared.entry.FieldName.{FieldName}
use Rattle.lpc_model.specs.declared.entry.FieldName.TheVariants.{H, Msg, ViewBase, ViewSize}
use Rattle.lpc_model.specs.declared.entry.Value.{Value}
use Rattle.lpc_model.specs.declared.entry.Value.TheVariants.{Bytes, Hex, Number}
use Rattle.lpc_model.specs.World.{ViewRow, World}
use Rattle.lpc_model.specs.Found.{live_thread, view_holding, wait_of}
use Rattle.lpc_model.specs.Lines.{ScriptCall, ScriptLine, accept_connect_port, close, complete_connect_port, hosts, moves, of_resident, reply_wait_receive_port, run}
use Rattle.lpc_model.specs.Memory.{bytes_at}
use Rattle.lpc_model.specs.Requests.{lawful_message}
use Rattle.lpc_model.specs.declared.resident.ClientView.{ClientView}
use Rattle.lpc_model.specs.declared.resident.Connect.{Connect}
use Rattle.lpc_model.specs.declared.resident.Connection.{Connection}
use Rattle.lpc_model.specs.declared.resident.Deed.{Deed}
use Rattle.lpc_model.specs.declared.resident.Deed.TheVariants.{AnswersConnect, Closes, Completes, Receives, RepliesTo}
use Rattle.lpc_model.specs.Words.{made_message}

-- What a kind of resident keeps of its clients, and how it answers them: nothing of nobody; a process becomes a client; one is
-- none any longer; a client's request was answered; the reply to a request.
pub record Core (C : Type 0) : Type 0 where
  pub nobody : C
  pub joins : ℕ → C → C
  pub leaves : ℕ → C → C
  pub answers : ℕ → Request → C → C
  pub replies : C → ℕ → Request → List ℕ

-- The server like the one that serves the Win32 interface keeps of each client all requests of it that were answered, and
-- replies by them.
abbrev pub win32 : Core (List History)
win32 = record { nobody = []; joins = with_client; leaves = without_client; answers = with_request; replies = reply_in }

-- Connections
-- the connect that a message names, and whether a connection is of that connect; a connection of a process
abbrev pub connect_of : List ℕ → Connect
connect_of message = record { client = (header_of message).client; identifier = (header_of message).message_id }

abbrev pub is_made_by : Connect → Connection → Bool
is_made_by by k =
    (k.connect.client.process == by.client.process)
    && ((k.connect.client.thread == by.client.thread) && (k.connect.identifier == by.identifier))

abbrev pub is_with : ℕ → Connection → Bool
is_with process k = k.connect.client.process == process

-- a connection of a process that offers a view
abbrev pub offers_view : ℕ → Connection → Bool
offers_view process k = is_with process k && is_some k.view

-- so many connections may stand
abbrev pub CONNECTION_LIMIT : ℕ
CONNECTION_LIMIT = 64

-- A resident: its thread, the handle of the port that it serves, what it does at its next turn, whether a call that it made
-- has no outcome yet, its connections in order of accepting, and what it keeps of its clients.
pub record Resident (C : Type 0) : Type 0 where
  pub thread : ℕ
  pub handle : ℕ
  pub deed : Deed
  pub awaits : Bool
  pub connections : List Connection
  pub clients : C

abbrev pub is_on : {C : Type 0} → ℕ → Resident C → Bool
is_on tid r = r.thread == tid

abbrev pub new_resident : {C : Type 0} → Core C → ℕ → ℕ → Resident C
new_resident core tid handle =
    record { thread = tid; handle = handle; deed = Receives; awaits = false; connections = []; clients = core.nobody }

-- What an entry tells a resident
-- the first of some fields that tells something
abbrev pub told_first : {A : Type 0} → (Field → Option A) → List Field → Option A
told_first f fields = option_and_then f (first (λ field. is_some (f field)) fields)

-- a number of 32 bits, in decimal or in hexadecimal, and bytes
abbrev pub word_of : ℕ → Option ℕ
word_of n = if nat_lt n (2 ^ 32) then Some n else None

abbrev pub number_of : Value → Option ℕ
number_of (Number n) = word_of n
number_of value = None

abbrev pub hex_of : Value → Option ℕ
hex_of (Hex n) = Some n
hex_of value = None

abbrev pub bytes_of_value : Value → Option (List ℕ)
bytes_of_value (Bytes bytes) = Some bytes.items
bytes_of_value value = None

-- what names a handle, a message, and the base and the size of a view that was offered
abbrev pub is_handle_name : FieldName → Bool
is_handle_name H = true
is_handle_name name = false

abbrev pub is_message_name : FieldName → Bool
is_message_name Msg = true
is_message_name name = false

abbrev pub is_base_name : FieldName → Bool
is_base_name ViewBase = true
is_base_name name = false

abbrev pub is_size_name : FieldName → Bool
is_size_name ViewSize = true
is_size_name name = false

abbrev pub handle_told : Field → Option ℕ
handle_told field = if is_handle_name field.name then number_of field.value else None

abbrev pub message_told : Field → Option (List ℕ)
message_told field = if is_message_name field.name then bytes_of_value field.value else None

abbrev pub base_told : Field → Option ℕ
base_told field = if is_base_name field.name then hex_of field.value else None

abbrev pub size_told : Field → Option ℕ
size_told field = if is_size_name field.name then number_of field.value else None

-- the lawful message that a receive tells
abbrev pub received : List Field → Option (List ℕ)
received fields = option_and_then lawful_message (told_first message_told fields)

-- the view that an accept tells, if the client offered one
abbrev pub view_told : List Field → Option ClientView
view_told fields =
    option_and_then (λ base. option_map (λ size. record { base = base; size = size }) (told_first size_told fields))
    (told_first base_told fields)

-- What is done next
-- a connection that is closed by now is let go; one that isn't known is nobody's
abbrev pub closing : Option Connection → Deed
closing None = Receives
closing (Some k) = Closes k

-- behind a message: a connection request is answered, a request is replied to, the connection of a closed port is let go
unfoldable pub deed_for : List Connection → List ℕ → Deed
deed_for connections message =
    if (header_of message).kind == CONNECTION_REQUEST then AnswersConnect (connect_of message)
    else (if (header_of message).kind == REQUEST then RepliesTo message
    else (if (header_of message).kind == PORT_CLOSED then closing (first (is_made_by (connect_of message)) connections)
    else Receives))

abbrev pub deed_behind : List Connection → Option (List ℕ) → Deed
deed_behind connections None = Receives
deed_behind connections (Some message) = deed_for connections message

-- a process is a client where a connection of it stands
abbrev pub joined : {C : Type 0} → Core C → ℕ → List Connection → C → C
joined core process connections clients = if has (is_with process) connections then clients else core.joins process clients

abbrev pub left : {C : Type 0} → Core C → ℕ → List Connection → C → C
left core process connections clients = if has (is_with process) connections then clients else core.leaves process clients

-- a connect was accepted where a handle is told: then its connection stands, and is completed next
abbrev pub connected : {C : Type 0} → Core C → Connect → Option ℕ → Option ClientView → Resident C → Resident C
connected core by None view r = record r { deed = Receives; awaits = false }
connected core by (Some handle) view r =
    let k : Connection = record { connect = by; handle = handle; view = view } in
    record r {
      deed = Completes k;
      awaits = false;
      connections = r.connections ++ k ∷ [];
      clients = joined core by.client.process r.connections r.clients;
    }

-- what comes of a call: a connection whose completion is refused is closed next
abbrev pub resolved : {C : Type 0} → Core C → Deed → Status → List Field → Resident C → Resident C
resolved core Receives status fields r =
    record r { deed = deed_behind r.connections (received fields); awaits = false }
resolved core (AnswersConnect by) status fields r =
    connected core by (told_first handle_told fields) (view_told fields) r
resolved core (Completes k) status fields r =
    record r { deed = if status.0 == SUCCESS.0 then Receives else Closes k; awaits = false }
resolved core (Closes k) status fields r = record r { deed = Receives; awaits = false }
resolved core (RepliesTo message) status fields r =
    record r { deed = deed_behind r.connections (received fields); awaits = false }

-- The outcome of a resident's call is the wake of its thread, or the answer in the line of its turn: while it awaits one, its
-- thread makes no other call. So the answers of other lines aren't shown to it, nor are wakes of calls that it didn't make.
abbrev pub heard_by : {C : Type 0} → Core C → Status → List Field → Resident C → Resident C
heard_by core status fields r = if r.awaits then resolved core r.deed status fields r else r

abbrev pub heard : {C : Type 0} → Core C → List (Resident C) → Entry → List (Resident C)
heard core rs (Wakes tid call status fields) = change (is_on tid) (heard_by core status fields) rs
heard core rs entry = rs

abbrev pub heard_in_turn : {C : Type 0} → Core C → List (Resident C) → Entry → List (Resident C)
heard_in_turn core rs (Answer tid call status fields) = change (is_on tid) (heard_by core status fields) rs
heard_in_turn core rs entry = heard core rs entry

-- residents behind the entries of a line
abbrev pub heard_all : {C : Type 0} → Core C → ScriptLine → List (Resident C) → List Entry → List (Resident C)
heard_all core (of_resident tid moves had) rs entries = fold (heard_in_turn core) rs entries
heard_all core line rs entries = fold (heard core) rs entries

-- A turn
-- the bytes at a range of addresses of a thread's process: none where the thread isn't live, the size is 0, or no one view
-- holds the whole range
abbrev pub view_seen : World → ℕ → ClientView → Option ViewRow
view_seen w tid v =
    if v.size == 0 then None else option_and_then (λ t. view_holding w t.process v.base v.size) (live_thread w tid)

abbrev pub bytes_seen : World → ℕ → ClientView → Option (List ℕ)
bytes_seen w tid v = option_map (λ view. bytes_at w.contents view v.base v.size) (view_seen w tid v)

-- the bytes of a client's view: that of the oldest connection of the process that offers one, as a thread sees it
unfoldable pub bytes_of_client : World → ℕ → List Connection → ℕ → Option (List ℕ)
bytes_of_client w tid connections process =
    option_and_then (bytes_seen w tid) (option_and_then (λ k. k.view) (first (offers_view process) connections))

-- a request with the bytes that its client's view has now
abbrev pub request_seen : World → ℕ → List Connection → List ℕ → Request
request_seen w tid connections message =
    request_of (drop 24 message) (bytes_of_client w tid connections (header_of message).client.process)

abbrev pub request_now : {C : Type 0} → World → Resident C → List ℕ → Request
request_now w r message = request_seen w r.thread r.connections message

-- a reply to a message, with its data
abbrev pub reply_message_to : List ℕ → List ℕ → List ℕ
reply_message_to message bytes = made_message (header_of message).client (header_of message).message_id bytes

-- The call that a resident makes: what it does next.
abbrev pub call_for : {C : Type 0} → Core C → World → Resident C → Deed → ScriptCall
call_for core w r Receives = reply_wait_receive_port r.handle None
call_for core w r (AnswersConnect by) =
    accept_connect_port by.client.process (made_message by.client by.identifier []) (nat_lt (length r.connections) CONNECTION_LIMIT) None
call_for core w r (Completes k) = complete_connect_port k.handle
call_for core w r (Closes k) = close k.handle
call_for core w r (RepliesTo message) =
    reply_wait_receive_port r.handle
    (Some (reply_message_to message (core.replies r.clients (header_of message).client.process (request_now w r message))))

abbrev pub next_call : {C : Type 0} → Core C → World → Resident C → ScriptCall
next_call core w r = call_for core w r r.deed

-- the resident makes it: a connection that it closes stands no longer, and a request to which it replies is answered
abbrev pub begun_by : {C : Type 0} → Core C → World → Deed → Resident C → Resident C
begun_by core w (Closes k) r =
    let others = without (is_made_by k.connect) r.connections in
    record r { awaits = true; connections = others; clients = left core k.connect.client.process others r.clients }
begun_by core w (RepliesTo message) r =
    record r {
      awaits = true;
      clients = core.answers (header_of message).client.process (request_now w r message) r.clients;
    }
begun_by core w deed r = record r { awaits = true }

abbrev pub begun : {C : Type 0} → Core C → World → Resident C → Resident C
begun core w r = begun_by core w r.deed r

-- Lines
-- what a run has between two lines: the world, and the residents in order of coming
pub record State (C : Type 0) : Type 0 where
  pub world : World
  pub residents : List (Resident C)

-- a thread that lives and doesn't wait
abbrev pub can_call : World → ℕ → Bool
can_call w tid = is_some (live_thread w tid) && is_none (wait_of w tid)

-- a turn is the call that the resident makes, if there is one and its thread can call
abbrev pub turn_done : {C : Type 0} → Core C → World → ℕ → Bool → Option (Resident C) → ScriptLine
turn_done core w tid can None = of_resident tid moves false
turn_done core w tid true (Some r) = run tid (next_call core w r)
turn_done core w tid false (Some r) = of_resident tid moves true

-- What a line comes to: each but those about residents is what it says.
abbrev pub line_done : {C : Type 0} → Core C → State C → ScriptLine → ScriptLine
line_done core s (of_resident tid (hosts kind handle) had) = of_resident tid (hosts kind handle) (has (is_on tid) s.residents)
line_done core s (of_resident tid moves had) =
    turn_done core s.world tid (can_call s.world tid) (first (is_on tid) s.residents)
line_done core s line = line

-- the residents once a turn has begun
abbrev pub turning : {C : Type 0} → Core C → State C → ScriptLine → List (Resident C)
turning core s (of_resident tid moves had) =
    if can_call s.world tid then change (is_on tid) (begun core s.world) s.residents else s.residents
turning core s line = s.residents

-- a resident comes where its thread lives and has none
abbrev pub hosted : {C : Type 0} → Core C → State C → ScriptLine → List (Resident C) → List (Resident C)
hosted core s (of_resident tid (hosts kind handle) had) rs =
    if is_some (live_thread s.world tid) && not (has (is_on tid) s.residents) then rs ++ new_resident core tid handle ∷ [] else rs
hosted core s line rs = rs

-- the residents behind a line that told these entries
abbrev pub residents_behind : {C : Type 0} → Core C → State C → ScriptLine → List Entry → List (Resident C)
residents_behind core s line entries = hosted core s line (heard_all core line (turning core s line) entries)
