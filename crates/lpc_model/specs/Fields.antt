-- The fields of entries, by what they show.
use Rattle.std.specs.Prelude.{ℕ, List, [], ◌∷◌, ◌++◌, Option, None, Some}
use Rattle.lpc_base.specs.declared.limits.TheConstants.{MESSAGE_LIMIT}
use Rattle.lpc_model.specs.declared.entry.Field.{Field}
use Rattle.lpc_model.specs.declared.entry.FieldName.TheVariants as name
use Rattle.lpc_model.specs.declared.entry.Value.TheVariants.{Number, Hex, Kind, Bytes, Sids}
use Rattle.lpc_model.specs.Message.{bytes_of}
use Rattle.lpc_model.specs.World.{Acceptance, Message, MessageRow, ObjectKind, Token}

-- a new handle
abbrev pub h : ℕ → Field
h value = record { name = name.H; value = Number value }

-- a new handle to the first thread of a new process
abbrev pub first_thread : ℕ → Field
first_thread value = record { name = name.FirstThread; value = Number value }

-- the identifier of what was sent
abbrev pub id : ℕ → Field
id n = record { name = name.Id; value = Number n }

-- the context of a message
abbrev pub ctx : ℕ → Field
ctx n = record { name = name.Ctx; value = Hex n }

-- the most bytes of a message on a connection, header included
abbrev pub max : ℕ → Field
max n = record { name = name.Max; value = Number n }

-- the bytes that came with the answer to a connect
abbrev pub info : List ℕ → Field
info bytes = record { name = name.Info; value = Bytes (record { items = bytes }) }

-- bytes that a call read
abbrev pub bytes_read : List ℕ → Field
bytes_read bytes = record { name = name.Data; value = Bytes (record { items = bytes }) }

-- the base of a view, and its size
abbrev pub base : ℕ → Field
base n = record { name = name.Base; value = Hex n }

abbrev pub view_fields : ℕ → ℕ → List Field
view_fields at size = base at ∷ record { name = name.Size; value = Number size } ∷ []

-- the base that the view has, of what a thread offers, in the other process of the connection; and the base and the size
-- of the view, of what is offered there, in its own
abbrev pub target : ℕ → Field
target n = record { name = name.Target; value = Hex n }

abbrev pub vbase : ℕ → Field
vbase n = record { name = name.ViewBase; value = Hex n }

abbrev pub vsize : ℕ → Field
vsize n = record { name = name.ViewSize; value = Number n }

-- a field, where there is a value for it
abbrev pub if_any : (ℕ → Field) → Option ℕ → List Field
if_any field None = []
if_any field (Some n) = field n ∷ []

-- what a connect tells that waits: its identifier, and where its own view lies
abbrev pub connect_fields : ℕ → Option ℕ → List Field
connect_fields identifier own = id identifier ∷ if_any base own

-- What an accept tells: the handle to the server port; where the server's view lies in its own process and in the
-- client's; where the client's view lies in the server's process, and its size.
abbrev pub accept_fields : ℕ → Option ℕ → Option ℕ → Option ℕ → Option ℕ → List Field
accept_fields value own across theirs size =
    h value ∷ if_any base own ++ if_any target across ++ if_any vbase theirs ++ if_any vsize size

-- what a connect tells that is completed: the handle to the client port, and what its acceptance has
abbrev pub completion_fields : ℕ → Acceptance → List Field
completion_fields value a =
    h value ∷ max MESSAGE_LIMIT ∷ info a.reply ∷ if_any target a.target ++ if_any vbase a.vbase ++ if_any vsize a.vsize

-- a message, header and data
abbrev pub msg : Message → Field
msg m = record { name = name.Msg; value = Bytes (record { items = bytes_of m }) }

-- what a receive shows of the message that it took
abbrev pub receipt : MessageRow → List Field
receipt m = ctx m.context ∷ msg m.message ∷ []

-- the user of a token, its groups, and the level of an impersonation token
abbrev pub user : Token → Field
user token = record { name = name.User; value = Sids (record { items = token.user ∷ [] }) }

abbrev pub groups : Token → Field
groups token = record { name = name.Groups; value = Sids token.groups }

abbrev pub level : ℕ → Field
level n = record { name = name.Level; value = Number n }

-- what a query tells of an object: its kind, the rights of the handle, how many handles name it, and how many rows
-- count for it
abbrev pub object_fields : ObjectKind → ℕ → ℕ → ℕ → List Field
object_fields kind access handles pointers =
    record { name = name.ObjectType; value = Kind kind }
    ∷ record { name = name.Access; value = Hex access }
    ∷ record { name = name.Handles; value = Number handles }
    ∷ record { name = name.Pointers; value = Number pointers }
    ∷ []
