-- What the server stands for: for each client process, the requests that it has answered.
use Rattle.std.specs.Prelude.{ℕ, ◌≡◌, ◌==◌, ◌||◌, Bool, List, [], ◌∷◌, ◌++◌, true, drop, length, map, Option, None, Some, if◌then◌else◌}
use Rattle.std.specs.Str.{bytes_eq}
use Rattle.lpc_base.specs.Rows.{change, differ_by, first, has, without}
use Rattle.lpc_base.specs.declared.status.TheConstants.{ACCESS_DENIED}
use Rattle.lpc_message.specs.Layout.{header_of}
use Rattle.lpc_subsys.specs.Replies.{console_after, level_after, refused, reply_by, reply_to, reply_where, texts_after, with_bytes}
use Rattle.lpc_subsys.specs.Requests.{Asked, Request, atom_of, reading, request_of, setting, telling, text_of, writing}
use Rattle.lpc_subsys.specs.declared.profile.TheConstants.{ATOM_LIMIT, FIRST_LEVEL}

-- the process whose request a message is, and the request
unfoldable pub client_in : List ℕ → ℕ
client_in message = (header_of message).client.process

abbrev pub request_in : List ℕ → Option (List ℕ) → Request
request_in message view = request_of (drop 24 message) view

-- a client process, and the requests of it that were answered since its state began, the oldest first
pub record History : Type 0 where
  pub process : ℕ
  pub requests : List Request

abbrev pub is_of : ℕ → History → Bool
is_of process history = history.process == process

-- the clients with one more, of which nothing was answered; without one; with one more request of one
abbrev pub with_client : ℕ → List History → List History
with_client process all = all ++ record { process = process; requests = [] } ∷ []

abbrev pub without_client : ℕ → List History → List History
without_client process all = without (is_of process) all

abbrev pub with_request : ℕ → Request → List History → List History
with_request process request all = change (is_of process) (λ history. record history { requests = history.requests ++ request ∷ [] }) all

-- the reply to a client's request, by its own requests before: a process that is no client is refused
abbrev pub reply_after : Option History → Request → List ℕ
reply_after None request = refused ACCESS_DENIED
reply_after (Some history) request = reply_to history.requests request

abbrev pub reply_in : List History → ℕ → Request → List ℕ
reply_in all process request = reply_after (first (is_of process) all) request

-- what the server keeps of a client: the texts that have atoms, the bytes in the console, and the level
pub record ClientRow : Type 0 where
  pub process : ℕ
  pub texts : List (List ℕ)
  pub console : List ℕ
  pub level : ℕ

abbrev pub is_client : ℕ → ClientRow → Bool
is_client process row = row.process == process

-- what is kept of a client after its requests
abbrev pub client_of : History → ClientRow
client_of history = record {
  process = history.process;
  texts = texts_after history.requests;
  console = console_after history.requests;
  level = level_after history.requests;
}

-- what the server keeps stands for these clients and their requests
abbrev pub Serves : List ClientRow → List History → Type 0
Serves rows all = rows ≡ map client_of all

-- there are clients and requests for which it stands
abbrev pub IsServed : List ClientRow → Type 0
IsServed rows = (all : List History) × Serves rows all

-- what each server keeps: no process has two rows, and the rows stand for clients and their requests
pub record IsSound (rows : List ClientRow) : Type 0 where
  pub single : differ_by (λ row. row.process) rows ≡ true
  pub served : IsServed rows

-- whatever the server stood for, it stands for what is made of that
abbrev pub Follows : (List History → List History) → List ClientRow → List ClientRow → Type 0
Follows f old new = (all : List History) → Serves old all → Serves new (f all)

-- whatever the server stood for, a reply is that of the client's own requests
abbrev pub RepliesByOwnRequests : List ClientRow → ℕ → Request → List ℕ → Type 0
RepliesByOwnRequests rows process request reply = (all : List History) → Serves rows all → reply ≡ reply_in all process request

-- One step of what is kept
-- a new client
abbrev pub new_row : ℕ → ClientRow
new_row process = record { process = process; texts = []; console = []; level = FIRST_LEVEL }

-- the texts that have atoms with another one, where there are fewer than 64
abbrev pub with_text : List (List ℕ) → List ℕ → List (List ℕ)
with_text texts text = if has (bytes_eq text) texts || (length texts == ATOM_LIMIT) then texts else texts ++ text ∷ []

-- what is kept after a request that asks for something
abbrev pub after_asked : ClientRow → Asked → ClientRow
after_asked row (atom_of text) = record row { texts = with_text row.texts text }
after_asked row (writing bytes) = record row { console = with_bytes row.console bytes }
after_asked row (setting level) = record row { level = level }
after_asked row (text_of atom) = row
after_asked row (reading from count) = row
after_asked row telling = row

abbrev pub after_request : ClientRow → Option Asked → ClientRow
after_request row None = row
after_request row (Some what) = after_asked row what

-- the reply by what is kept
abbrev pub reply_of_asked : ClientRow → Asked → List ℕ
reply_of_asked row what = reply_by ((after_asked row what).texts) row.texts row.console row.level what

abbrev pub reply_of : ClientRow → Option Asked → List ℕ
reply_of row what = reply_where what (reply_of_asked row)
