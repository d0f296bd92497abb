-- What servers keep of their clients: what the requests that were answered come to.
use Rattle.std.specs.Prelude.{◌≡◌, ℕ, List, [], ◌∷◌, ◌++◌, fold, map, Bool, Option, Some, None, if◌then◌else◌}
use Rattle.lpc_model.specs.declared.entry.Entry.{Entry}
use Rattle.lpc_model.specs.declared.resident.Connection.{Connection}
use Rattle.lpc_base.specs.Rows.{change, first, has, without}
use Rattle.lpc_base.specs.declared.status.TheConstants.{ACCESS_DENIED}
use Rattle.lpc_subsys.specs.Clients.{ClientRow, History, IsServed, after_request, client_of, is_client, new_row, reply_of}
use Rattle.lpc_subsys.specs.Replies.{refused}
use Rattle.lpc_subsys.specs.Requests.{Request, asked}
use Rattle.lpc_model.specs.World.{World}
use Rattle.lpc_model.specs.Lines.{ScriptLine}
use Rattle.lpc_model.specs.Residents.{Core, Resident, State, heard, heard_in_turn, is_with, win32}
use Rattle.lpc_model.specs.Run.{done_from}

-- the reply to a request by what is kept of its client
abbrev pub reply_kept : Option ClientRow → Request → List ℕ
reply_kept None request = refused ACCESS_DENIED
reply_kept (Some row) request = reply_of row (asked request)

abbrev pub kept : Core (List ClientRow)
kept = record {
  nobody = [];
  joins = λ process rows. rows ++ new_row process ∷ [];
  leaves = λ process rows. without (is_client process) rows;
  answers = λ process request rows. change (is_client process) (λ row. after_request row (asked request)) rows;
  replies = λ rows process request. reply_kept (first (is_client process) rows) request;
}

-- the processes that have connections are the clients, and what is kept of these stands for requests
pub record AreClients (rows : List ClientRow) (connections : List Connection) : Type 0 where
  pub standing : (process : ℕ) → has (is_client process) rows ≡ has (is_with process) connections
  pub served : IsServed rows

-- a resident that keeps requests, as one that keeps what they come to
abbrev pub resident_kept : Resident (List History) → Resident (List ClientRow)
resident_kept r = record {
  thread = r.thread;
  handle = r.handle;
  deed = r.deed;
  awaits = r.awaits;
  connections = r.connections;
  clients = map client_of r.clients;
}

abbrev pub state_of : World → List (Resident (List ClientRow)) → State (List ClientRow)
state_of w rs = record { world = w; residents = rs }

abbrev pub state_kept : State (List History) → State (List ClientRow)
state_kept s = record { world = s.world; residents = map resident_kept s.residents }

-- the residents behind the entries of a line, which is a turn or isn't
abbrev pub heard_one : Core (List ClientRow) → Bool → List (Resident (List ClientRow)) → Entry → List (Resident (List ClientRow))
heard_one core in_turn rs entry = if in_turn then heard_in_turn core rs entry else heard core rs entry

abbrev pub heard_in : Core (List ClientRow) → Bool → List (Resident (List ClientRow)) → List Entry → List (Resident (List ClientRow))
heard_in core in_turn rs entries = fold (heard_one core in_turn) rs entries

-- lines come to the same, whichever is kept
abbrev pub KeptStandsForRequests : Type 0
KeptStandsForRequests = (s : State (List History)) (lines : List (Option ScriptLine)) → done_from win32 s lines ≡ done_from kept (state_kept s) lines
