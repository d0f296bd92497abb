-- The laws of the definitions, each for all lists of requests.
use Rattle.std.specs.Prelude.{◌≡◌, ◌≤◌, ◌==◌, ◌++◌, ℕ, true, List, [], ◌∷◌, None, Some, filter, fold, length, nat_le, replicate}
use Rattle.lpc_base.specs.Rows.{every, has}
use Rattle.lpc_subsys.specs.Clients.{ClientRow, History, Serves, after_request, client_of, is_client, is_of, reply_in, reply_of, with_client, with_request, without_client}
use Rattle.lpc_subsys.specs.Replies.{IsGranted, reply_to}
use Rattle.lpc_subsys.specs.Requests.{Request, asked, request_of}
use Rattle.lpc_subsys.specs.declared.profile.TheConstants.{ATOM_LIMIT, CONSOLE_LIMIT, TEXT_LIMIT}

-- a process has a state where it is among the clients for which the server stands
abbrev pub ServesClients : Type 0
ServesClients = (rows : List ClientRow) (all : List History) (process : ℕ)
    → Serves rows all → has (is_client process) rows ≡ has (is_of process) all

-- what is kept of a client is enough: it goes on by what a request asks for, and tells the reply
abbrev pub KeptGoesOn : Type 0
KeptGoesOn = (history : History) (request : Request)
    → client_of (record history { requests = history.requests ++ request ∷ [] }) ≡ after_request (client_of history) (asked request)

abbrev pub KeptTellsReply : Type 0
KeptTellsReply = (history : History) (request : Request) → reply_of (client_of history) (asked request) ≡ reply_to history.requests request

-- a refused request counts for no later one
abbrev pub RefusedCountsForNothing : Type 0
RefusedCountsForNothing = (before after : List Request) (refused request : Request)
    → (IsGranted (reply_to before refused) → ⊥) → reply_to (before ++ refused ∷ after) request ≡ reply_to (before ++ after) request

-- what is kept of a client is bounded: 64 texts of 64 bytes, and a console of 16,384
pub record IsSmall (row : ClientRow) : Type 0 where
  pub texts : length row.texts ≤ ATOM_LIMIT
  pub each_text : every (λ text. nat_le (length text) TEXT_LIMIT) row.texts ≡ true
  pub console : length row.console ≤ CONSOLE_LIMIT

abbrev pub KeptIsSmall : Type 0
KeptIsSmall = (history : History) → IsSmall (client_of history)

-- what comes to a server, each from a process: it joins, it asks with these bytes in its view, it leaves
pub data Event : Type 0 where
  joins : ℕ → Event
  asks : ℕ → Request → Event
  leaves : ℕ → Event

abbrev pub process_of : Event → ℕ
process_of (joins process) = process
process_of (asks process request) = process
process_of (leaves process) = process

abbrev pub after_event : List History → Event → List History
after_event all (joins process) = with_client process all
after_event all (asks process request) = with_request process request all
after_event all (leaves process) = without_client process all

-- the clients and their requests after events
abbrev pub after_events : List Event → List History
after_events events = fold after_event [] events

-- the events of one process
abbrev pub events_of : ℕ → List Event → List Event
events_of process events = filter (λ event. process_of event == process) events

-- the reply to a process is the one that it would get if no other process did anything
abbrev pub OthersDontShow : Type 0
OthersDontShow = (events : List Event) (process : ℕ) (request : Request)
    → reply_in (after_events events) process request ≡ reply_in (after_events (events_of process events)) process request

-- worked replies: the first text's atom; how many bytes stand in the console once 3,000 of the view were put there
abbrev pub text_request : Request
text_request = request_of (1 ∷ 0 ∷ 0 ∷ 0 ∷ 0x4f ∷ 0x4b ∷ []) None

abbrev pub view_request : Request
view_request = request_of (4 ∷ 0 ∷ 0 ∷ 0 ∷ 0 ∷ 0 ∷ 0 ∷ 0 ∷ 0xb8 ∷ 0x0b ∷ 0 ∷ 0 ∷ []) (Some (replicate 3000 0x61))

pub record WorkedReplies : Type 0 where
  pub text : reply_to [] text_request ≡ 0 ∷ 0 ∷ 0 ∷ 0 ∷ 0 ∷ 0xc0 ∷ 0 ∷ 0 ∷ []
  pub view : reply_to [] view_request ≡ 0 ∷ 0 ∷ 0 ∷ 0 ∷ 0xb8 ∷ 0x0b ∷ 0 ∷ 0 ∷ []
