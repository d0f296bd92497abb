-- What the parts of the calls find and do.
use Rattle.std.specs.Prelude.{◌≡◌, ℕ, Bool, not, nat_lt, List, [], ◌∷◌, ◌++◌, Option, Some, Result, option_map}
use Rattle.lpc_base.specs.Rows.{first}
use Rattle.lpc_base.specs.declared.birth.Birth.{Birth}
use Rattle.lpc_base.specs.declared.status.Status.{Status}
use Rattle.lpc_base.specs.declared.status.TheConstants.{ACCESS_DENIED, BAD_IMPERSONATION_LEVEL}
use Rattle.lpc_connect.specs.declared.accept.ConnectAnswer.{ConnectAnswer}
use Rattle.lpc_connect.specs.declared.accept.Sharing.{Sharing}
use Rattle.lpc_connect.specs.Sharing.{shown_sharing}
use Rattle.lpc_model.specs.declared.line.ViewWord.{ViewWord}
use Rattle.lpc_connect.specs.declared.complete.Connection.{Connection}
use Rattle.lpc_connect.specs.declared.connect.Connecting.{Connecting}
use Rattle.lpc_message.specs.declared.kind.TheConstants.{CONNECTION_REQUEST}
use Rattle.lpc_model.specs.Message.{made, with_section}
use Rattle.lpc_model.specs.Tests.{client_of, next_birth}
use Rattle.lpc_steps.specs.Offers.{offer_shown, views_owned}
use Rattle.lpc_waits.specs.declared.Offer.{Offer}
use Rattle.std.specs.Option.{option_map_or}
use Rattle.lpc_model.specs.Basics.{Awaits, Basic, DrawsIdentifier, DrawsOrdinal, Makes, Secures}
use Rattle.lpc_model.specs.Connect as connect
use Rattle.lpc_model.specs.Found.{access_list, free_handle, is_queued_connect}
use Rattle.lpc_model.specs.Lines.{accept_connect_port}
use Rattle.lpc_model.specs.Refusal.{refuse_if}
use Rattle.lpc_model.specs.Then.{◌>>=◌}
use Rattle.lpc_model.specs.World.{Dacl, Effective, Security, ThreadRow, World}
use Rattle.lpc_model.specs.declared.message.Message.{Message}
use Rattle.lpc_procs.specs.declared.rows.Caller.{Caller}
use Rattle.lpc_sid.specs.Access.{grants}
use Rattle.lpc_slots.specs.declared.Key.{Key}
use Rattle.lpc_tokens.specs.Tokens.{counts_as}
use Rattle.lpc_tokens.specs.declared.level.TheConstants.{IMPERSONATION}
use Rattle.lpc_rows.specs.Called.{service}
use Rattle.lpc_rows.specs.Callers.{as_caller}
use Rattle.lpc_rows.specs.Clauses.{birth_at, port_at, thread_row}
use Rattle.lpc_rows.specs.Kept.{Kept}
use Rattle.lpc_rows.specs.Ready.{waiter}

-- Rows
-- the thread stands, and this is what a call knows of it
abbrev pub HasCaller : World → Caller → Type 0
HasCaller w c = option_map as_caller (thread_row w c.number) ≡ Some c

-- the message with which a thread waits was received
abbrev pub was_received : World → ℕ → Bool
was_received w tid = let x = waiter w tid in x.received

-- the birth that the row of the port at a key has
abbrev pub row_birth : Kept → Key → Birth
row_birth w key = let p = port_at w key in p.birth

-- Ports and connects
-- a port is made by these steps, and gets the least free handle
abbrev pub creating : World → ThreadRow → List Basic → List Basic
creating w by made = connect.create_steps by made (free_handle w by.process)

-- and then its access list, where it has a name and one is given
abbrev pub creating_guarded : World → ThreadRow → Option (List ℕ) → Option Dacl → List Basic → List Basic
creating_guarded w by name dacl made = creating w by made ++ connect.guard_steps (next_birth by) name dacl

-- a thread draws the identifier of its connection request, and the birth of its client port
abbrev pub draws : ℕ → List Basic
draws tid = DrawsIdentifier tid ∷ DrawsOrdinal tid ∷ []

-- a thread that acts with this token may connect to a port
abbrev pub token_test : World → Effective → Birth → Result Unit Status
token_test w acting connection = do
  _ ← refuse_if (nat_lt (counts_as acting) IMPERSONATION) BAD_IMPERSONATION_LEVEL
  refuse_if (not (grants acting.token (access_list w connection) connect.CONNECT_RIGHT)) ACCESS_DENIED

-- the size of what is offered
abbrev pub size_offered : Option Offer → ℕ
size_offered offer = option_map_or (λ (o : Offer). o.size) offer 0

-- a connection request, with the size of what is offered
abbrev pub requesting : ThreadRow → Option Offer → List ℕ → Message
requesting by offer info =
    with_section (size_offered offer) (made CONNECTION_REQUEST (client_of by) by.next_identifier info)

-- a connect begins, but for what it tells
abbrev pub beginning : Kept → ThreadRow → Connecting → Message → List Basic
beginning w by c m =
    let queue = birth_at w c.connection in
    DrawsIdentifier by.number
    ∷ DrawsOrdinal by.number
    ∷ Makes (connect.client_port by queue)
    ∷ Awaits (connect.connect_wait by queue (offer_shown w c.offer) m)
    ∷ []

-- a connect to the port at a key begins, offers what it offers, and its view is mapped; so with the bytes that go with its
-- request
abbrev pub connecting_with : Kept → ThreadRow → Connecting → Message → List Basic
connecting_with w by c m =
    connect.connect_steps by (birth_at w c.connection) (offer_shown w c.offer) (views_owned w (next_birth by) c.own) m w.rows

abbrev pub connecting : Kept → ThreadRow → Connecting → List ℕ → List Basic
connecting w by c info = connecting_with w by c (requesting by c.offer info)

-- and then its client port gets what the connect allows
abbrev pub allowing_with : Kept → ThreadRow → Connecting → Message → Security → List Basic
allowing_with w by c m allowed = connecting_with w by c m ++ Secures (next_birth by) allowed ∷ []

abbrev pub allowing : Kept → ThreadRow → Connecting → List ℕ → Security → List Basic
allowing w by c info allowed = allowing_with w by c (requesting by c.offer info) allowed

-- a thread takes the oldest connection request of a port, or waits for one
abbrev pub listening : World → ThreadRow → Birth → List Basic
listening w by port = connect.listen_steps by port (first (is_queued_connect port) w.messages)

-- Answers
-- the message that answers the connect of a thread, and that connect
abbrev pub answer_with : World → ℕ → Message → connect.ConnectAnswer
answer_with w tid m = record { message = m; wait = waiter w tid }

abbrev pub shown_answer : World → ConnectAnswer → connect.ConnectAnswer
shown_answer w a = answer_with w a.thread a.message

-- whatever the context, the call that answers with these bytes and this view word does this
abbrev pub Answering : World → ℕ → List ℕ → Bool → Option ViewWord → (ℕ → Result (List Basic) Status) → Type 0
Answering w by bytes accept view does =
    (context : ℕ) → service w by (accept_connect_port context bytes accept view) ≡ does context

-- a connect is accepted, with the least free handle
abbrev pub accepting : Kept → ThreadRow → connect.ConnectAnswer → ℕ → Sharing → List Basic
accepting w by a context v =
    connect.accept_steps by context (free_handle w.rows by.process) a (shown_sharing w (next_birth by) a.wait.port v)

-- Completions
-- a connection that can be completed
abbrev pub shown_connection : Kept → Connection → connect.Completable
shown_connection w c = record {
  server = birth_at w c.server;
  client = birth_at w c.client;
  wait = waiter w.rows c.thread;
}

-- it is completed, and its client gets the least free handle
abbrev pub completing : World → ThreadRow → connect.Completable → List Basic
completing w by c = connect.complete_steps by (free_handle w c.wait.process) c
