-- What a turn of the code needs and makes, beside the definitions.
use Rattle.std.specs.Prelude.{ℕ, ◌==◌, ◌&&◌, ◌||◌, Bool, true, false, List, [], ◌∷◌, Option, None, Some, is_some, option_and_then, option_map, if◌then◌else◌}
use Rattle.lpc_base.specs.Rows.{first, passes}
use Rattle.lpc_base.specs.declared.status.Status.{Status}
use Rattle.lpc_base.specs.declared.status.TheConstants.{SUCCESS}
use Rattle.lpc_message.specs.Layout.{header_of}
use Rattle.lpc_subsys.specs.Clients.{ClientRow}
use Rattle.lpc_model.specs.declared.entry.Entry.{Entry}
use Rattle.lpc_model.specs.declared.entry.Entry.TheVariants.{Answer, Wakes}
use Rattle.lpc_model.specs.declared.entry.Field.{Field}
use Rattle.lpc_model.specs.declared.resident.ClientView.{ClientView}
use Rattle.lpc_model.specs.declared.resident.Connection.{Connection}
use Rattle.lpc_model.specs.declared.resident.Deed.{Deed}
use Rattle.lpc_model.specs.declared.resident.Deed.TheVariants.{AnswersConnect, Closes, Receives, RepliesTo}
use Rattle.lpc_model.specs.World.{World}
use Rattle.lpc_model.specs.Lines.{ScriptCall, accept_connect_port, close, complete_connect_port, reply_wait_receive_port}
use Rattle.lpc_model.specs.Residents.{Resident, bytes_seen, handle_told, is_on, offers_view, told_first}
use Rattle.lpc_residents.specs.Kept.{heard_one, kept}
use Rattle.lpc_residents.specs.declared.resident.OwnCall.{OwnCall}
use Rattle.lpc_residents.specs.declared.resident.OwnCall.TheVariants as own

-- the view of a client, if one of its connections offers something: that of the oldest one
abbrev pub view_with : ℕ → List Connection → Option ClientView
view_with process connections = option_and_then (λ k. k.view) (first (offers_view process) connections)

-- the view whose bytes the reply of a next turn may need
abbrev pub view_for : Deed → List Connection → Option ClientView
view_for (RepliesTo message) connections = view_with (header_of message).client.process connections
view_for deed connections = None

abbrev pub view_wanted : {C : Type 0} → Resident C → Option ClientView
view_wanted r = view_for r.deed r.connections

-- the bytes that are lent to a turn are those that its thread sees there
abbrev pub bytes_wanted : {C : Type 0} → World → Resident C → Option (List ℕ)
bytes_wanted w r = option_and_then (bytes_seen w r.thread) (view_wanted r)

abbrev pub bytes_wanted_on : {C : Type 0} → World → ℕ → List (Resident C) → Option (List ℕ)
bytes_wanted_on w tid rs = option_and_then (bytes_wanted w) (first (is_on tid) rs)

-- what is done next is a reply to a request, which alone may want memory
abbrev pub is_reply : Deed → Bool
is_reply (RepliesTo message) = true
is_reply deed = false

-- the server on a thread replies to a request next
abbrev pub replies_on : {C : Type 0} → ℕ → List (Resident C) → Option Bool
replies_on tid rs = option_map (λ r. is_reply r.deed) (first (is_on tid) rs)

-- what was done is an answer to a connect, and fields that tell its outcome tell a handle: a connection came of it
abbrev pub is_answer : Deed → Bool
is_answer (AnswersConnect connect) = true
is_answer deed = false

abbrev pub makes_connection : List Field → Deed → Bool
makes_connection fields deed = is_answer deed && is_some (told_first handle_told fields)

-- a server hears of a connection that came of its own answer; the server on a thread does
abbrev pub gains : {C : Type 0} → List Field → Resident C → Bool
gains fields r = r.awaits && makes_connection fields r.deed

abbrev pub gains_on : {C : Type 0} → ℕ → List Field → List (Resident C) → Bool
gains_on tid fields rs = passes (first (is_on tid) rs) (gains fields)

-- some server does by an entry: by a wake, and in the line of a turn by an answer too
abbrev pub gains_by : {C : Type 0} → Bool → List (Resident C) → Entry → Bool
gains_by in_turn rs (Answer tid call status fields) = in_turn && gains_on tid fields rs
gains_by in_turn rs (Wakes tid call status fields) = gains_on tid fields rs
gains_by in_turn rs entry = false

-- behind some of these entries a server does by the next one; this alone may want memory
abbrev pub may_want : Bool → List (Resident (List ClientRow)) → List Entry → Bool
may_want in_turn rs [] = false
may_want in_turn rs (entry ∷ entries) =
    gains_by in_turn rs entry || may_want in_turn (heard_one kept in_turn rs entry) entries

-- a call of the code, on the port of a handle and with a message where it has one
abbrev pub own_call : OwnCall → ℕ → List ℕ → ScriptCall
own_call own.Receives handle message = reply_wait_receive_port handle None
own_call own.Replies handle message = reply_wait_receive_port handle (Some message)
own_call (own.Answers context accept) handle message = accept_connect_port context message accept None
own_call (own.Completes port) handle message = complete_connect_port port
own_call (own.Closes port) handle message = close port

-- a resident that has made a call; one whose call has its outcome, with what it does next
abbrev pub awaiting : {C : Type 0} → Resident C → Resident C
awaiting r = record r { awaits = true }

abbrev pub with_deed : {C : Type 0} → Deed → Resident C → Resident C
with_deed deed r = record r { deed = deed; awaits = false }

-- what is done behind a completion
abbrev pub behind_completion : Status → Connection → Deed
behind_completion status k = if status.0 == SUCCESS.0 then Receives else Closes k
