-- The world: lists of rows. In a row an object is named by its kind and its birth.
use Rattle.std.specs.Prelude.{ℕ, Bool, List, [], Option}
pub use Rattle.lpc_base.specs.declared.birth.Birth.{Birth}
use Rattle.lpc_message.specs.declared.message.ClientId.{ClientId}
pub use Rattle.lpc_sid.specs.declared.access.Dacl.{Dacl}
pub use Rattle.lpc_sid.specs.declared.token.Token.{Token}
pub use Rattle.lpc_tokens.specs.declared.effective.Effective.{Effective}
pub use Rattle.lpc_tokens.specs.declared.effective.Impersonation.{Impersonation}
pub use Rattle.lpc_tokens.specs.declared.qos.Qos.{Qos}
pub use Rattle.lpc_tokens.specs.declared.security.Security.{Security}
pub use Rattle.lpc_base.specs.declared.port_kind.PortKind.{PortKind}
pub use Rattle.lpc_names.specs.Walk.{Bindings, Node, Path}
pub use Rattle.lpc_model.specs.declared.entry.CallName.{CallName}
pub use Rattle.lpc_model.specs.declared.entry.ObjectKind.{ObjectKind}
pub use Rattle.lpc_model.specs.declared.message.Message.{Message}

-- the name of an object: its kind, and its birth within the kind
pub record ObjectName : Type 0 where
  pub kind : ObjectKind
  pub birth : Birth

-- A process, with the process that made it, none where a directive did, and with its token; it is live where it has a
-- live thread. The ports that are told of its exceptions; and the code with which it is to end, once one of its
-- exceptions wasn't handled.
pub record ProcessRow : Type 0 where
  pub number : ℕ
  pub maker : Option ℕ
  pub birth : Birth
  pub token : Token
  pub debug_port : Option Birth
  pub exception_port : Option Birth
  pub doom : Option ℕ

-- a thread of a process; whether it is live, or has ended; the message identifier that it draws next and the ordinal of
-- what it makes next, both from 1; the ports that are to be told of its end, in the order in which it registered them; the
-- token as which it acts for a client, none where it acts with that of its process
pub record ThreadRow : Type 0 where
  pub number : ℕ
  pub process : ℕ
  pub birth : Birth
  pub live : Bool
  pub next_identifier : ℕ
  pub next_ordinal : ℕ
  pub registrations : List Birth
  pub own : Option Impersonation

-- a thread number that was used, with the process of that thread
pub record UsedThread : Type 0 where
  pub number : ℕ
  pub process : ℕ

-- a handle: a multiple of 4 from 4 that names an object, with the rights that it grants
pub record HandleRow : Type 0 where
  pub value : ℕ
  pub object : ObjectName
  pub access : ℕ

-- the handles of a process, by rising value
pub record HandleTable : Type 0 where
  pub process : ℕ
  pub rows : List HandleRow

-- who made a port by a connect: the client, as a message names it, and the identifier of its connection request
pub record Creator : Type 0 where
  pub client : ClientId
  pub identifier : ℕ

-- a port; the connection port of a client or server port; the other end of a connection, none where it was never made
-- or is cut; what the server gave the connection when it accepted it; whether the connection was completed; the connect
-- that made a client port; its access list, or what it allows
pub record PortRow : Type 0 where
  pub birth : Birth
  pub kind : PortKind
  pub connection : Option Birth
  pub pair : Option Birth
  pub context : ℕ
  pub completed : Bool
  pub creator : Option Creator
  pub security : Security

-- a token as an object: its content, and the level of an impersonation token, none where it is a process's
pub record TokenRow : Type 0 where
  pub birth : Birth
  pub token : Token
  pub level : Option ℕ

-- a token that a directive named, for processes that are yet to come
pub record TokenName : Type 0 where
  pub name : List ℕ
  pub token : Token

-- a message that stands in the queue of a port, the port on which it was sent, and the context that a receive shows
pub record MessageRow : Type 0 where
  pub queue : Birth
  pub sender : Birth
  pub context : ℕ
  pub message : Message

-- what a connect or its answer offers to be seen: a section, from an offset on, and so many bytes of it
pub record Offer : Type 0 where
  pub section : Birth
  pub offset : ℕ
  pub size : ℕ

-- What the completion of an accepted connect tells: the bytes of the answer; where the client's view lies in the server,
-- if one was offered; and where the server's view lies in the client, if one was offered, and its size.
pub record Acceptance : Type 0 where
  pub reply : List ℕ
  pub target : Option ℕ
  pub vbase : Option ℕ
  pub vsize : Option ℕ

-- A chance that an exception has at a port: at the debug port before the frame handlers, and behind them; at the
-- exception port at last.
pub data Chance : Type 0 where
  FirstDebug : Chance
  LastDebug : Chance
  LastException : Chance

-- an exception that was raised: its code, whether the frame handlers handle it, and the chance that it has now
pub record Raised : Type 0 where
  pub code : ℕ
  pub handled : Bool
  pub chance : Chance

-- What a thread waits for: the reply to its request, which is kept as it was sent; a message; a connection request; the
-- answer to its connect, whose connection request is kept too, with what it offers; once that was accepted, its
-- completion, with what that tells; what is made of the event of its exception.
pub data WaitKind : Type 0 where
  Request : Message → WaitKind
  Receive : WaitKind
  Listen : WaitKind
  Connect : Message → Option Offer → WaitKind
  Accepted : Message → Acceptance → WaitKind
  Event : Raised → WaitKind

-- The wait of a thread, which has one at most: its call; the port on which the call was made, for a connect the client
-- port that it made; the queue that the request, event or connection request entered, or on which a receive or listen
-- waits; its identifier (0 for a receive or listen); and whether it was received.
pub record WaitRow : Type 0 where
  pub call : CallName
  pub thread : ℕ
  pub process : ℕ
  pub kind : WaitKind
  pub port : Birth
  pub queue : Birth
  pub identifier : ℕ
  pub received : Bool

-- A section, which the process in its birth made: how many bytes it has, a multiple of the page size, and whether they
-- may be written.
pub record SectionRow : Type 0 where
  pub birth : Birth
  pub size : ℕ
  pub writable : Bool

-- the bytes of a section
pub record ContentRow : Type 0 where
  pub section : Birth
  pub bytes : List ℕ

-- The bytes of the sections. They are unknown in no world of a run; a world with unknown bytes stands for all worlds that
-- differ from it in bytes alone.
pub data Contents : Type 0 where
  Known : List ContentRow → Contents
  Unknown : Contents

-- A view: a range of addresses that shows the bytes of a section from an offset on, whether they may be written through
-- it, and the port that owns it, none where a call mapped it by itself.
pub record ViewRow : Type 0 where
  pub base : ℕ
  pub size : ℕ
  pub section : Birth
  pub offset : ℕ
  pub writable : Bool
  pub owner : Option Birth

-- the views of a process, in order of mapping: what its addresses show
pub record ViewTable : Type 0 where
  pub process : ℕ
  pub rows : List ViewRow

-- Handles and views stand by process in order of making; in each process handles are by value, views in order of mapping.
-- Every other list is in order of making. A number that was used is never removed from the used ones, nor a process's
-- table of handles or of views. The marks are the threads whose event wasn't handled and hasn't gone on yet, in order of
-- marking. The name space binds paths to directories, to links, and to ports by their births. The bytes of sections stand
-- apart from their rows. The name of a token never goes.
pub record World : Type 0 where
  pub processes : List ProcessRow
  pub threads : List ThreadRow
  pub used_processes : List ℕ
  pub used_threads : List UsedThread
  pub handles : List HandleTable
  pub ports : List PortRow
  pub messages : List MessageRow
  pub waits : List WaitRow
  pub marks : List ℕ
  pub bindings : Bindings Birth
  pub sections : List SectionRow
  pub contents : Contents
  pub views : List ViewTable
  pub tokens : List TokenRow
  pub token_names : List TokenName

-- the world before the first line
abbrev pub no_rows : World
no_rows = record {
  processes = [];
  threads = [];
  used_processes = [];
  used_threads = [];
  handles = [];
  ports = [];
  messages = [];
  waits = [];
  marks = [];
  bindings = [];
  sections = [];
  contents = Known [];
  views = [];
  tokens = [];
  token_names = [];
}
