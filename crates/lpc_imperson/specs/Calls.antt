-- What the calls on tokens find and do, and the room that they need.
use Rattle.std.specs.Prelude.{◌≡◌, ◌==◌, ◌||◌, Bool, List, [], ◌∷◌, Some, nat_le, option_map}
use Rattle.lpc_base.specs.declared.status.TheConstants.{SUCCESS}
use Rattle.lpc_message.specs.declared.message.Header.{Header}
use Rattle.lpc_model.specs.declared.entry.CallName.{CallName}
use Rattle.lpc_model.specs.declared.entry.CallName.TheVariants.{NtQueryInformationToken}
use Rattle.lpc_model.specs.declared.entry.Entry.TheVariants.{Answer}
use Rattle.lpc_model.specs.declared.entry.Field.{Field}
use Rattle.lpc_model.specs.Basics.{Basic, Tells}
use Rattle.lpc_model.specs.Found.{free_handle}
use Rattle.lpc_model.specs.Impersonation.{is_served_by, token_steps}
use Rattle.lpc_model.specs.World as model
use Rattle.lpc_model.specs.World.{Effective, ThreadRow, WaitRow, World}
use Rattle.lpc_model.specs.declared.message.Message.{Message}
use Rattle.lpc_procs.specs.declared.rows.Caller.{Caller}
use Rattle.lpc_slots.specs.declared.Key.{Key}
use Rattle.lpc_tokens.specs.declared.token_row.TokenRow.{TokenRow}
use Rattle.lpc_rows.specs.Callers.{as_caller}
use Rattle.lpc_rows.specs.Clauses.{port_at, thread_row}
use Rattle.lpc_rows.specs.Kept.{Kept, handle_room, owed_handles}

-- Rows
-- the thread stands, and this is what a call knows of it
abbrev pub HasCaller : World → Caller → Type 0
HasCaller w c = option_map as_caller (thread_row w c.number) ≡ Some c

-- a token as the definitions have it
abbrev pub row_shown : TokenRow → model.TokenRow
row_shown t = record { birth = t.birth; token = t.token; level = t.level }

-- Clients
-- a message with a header and no data
abbrev pub headed : Header → Message
headed header = record { header = header; body = [] }

-- a wait is for the reply to the request that a message with this header names, whatever its data are, of the client of
-- the server port at a key
abbrev pub served_at : Kept → Key → Header → WaitRow → Bool
served_at w port header = is_served_by (port_at w port) (headed header)

-- Tokens
-- a thread makes a token of this content, and its process gets the least free handle to it
abbrev pub opening : World → ThreadRow → CallName → Effective → List Basic
opening w by call content = token_steps by call content (free_handle w by.process)

-- without memory there is no room for a further token, or for a thread's handle to it
abbrev pub lacks_token_room : Kept → ThreadRow → Bool
lacks_token_room w by =
    (w.room.tokens == 0) || nat_le (handle_room w.room by.process) (owed_handles w.rows by.process)

-- a token is told of
abbrev pub telling : ThreadRow → List Field → List Basic
telling by told = Tells (Answer by.number NtQueryInformationToken SUCCESS told) ∷ []
