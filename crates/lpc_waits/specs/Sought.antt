-- What is looked for among the waits on a chain. No public clause cites this module.
use Rattle.std.specs.Prelude.{◌==◌, ◌&&◌, ◌||◌, ℕ, Bool, false, true, List, nat_lt, not, None, Option, Some, if◌then◌else◌, option_map}
use Rattle.lpc_base.specs.Rows.{first}
use Rattle.lpc_slots.specs.declared.Key.{Key}
use Rattle.lpc_slots.specs.Table.{is_key}
use Rattle.lpc_waits.specs.Table.{WaitingThread, is_accepted, is_connect_of, is_event, is_made_on, is_marked, is_of, is_offered, is_receive, is_request, is_wait_at, takes}
use Rattle.lpc_waits.specs.declared.sought.Sought.{Sought}
use Rattle.lpc_waits.specs.declared.sought.Sought.TheVariants.{Accepted, Event, Offered, Receive, Request, Sent, Taker, UnreceivedEvent, UnreceivedRequest}

-- the wait of a row is such a one
abbrev pub is_sought : Sought → WaitingThread → Bool
is_sought (Taker with_listens) row = takes with_listens row.wait.kind
is_sought Receive row = is_receive row.wait.kind
is_sought Sent row = not (takes true row.wait.kind)
is_sought Request row = is_request row.wait.kind
is_sought UnreceivedRequest row = is_request row.wait.kind && not row.wait.received
is_sought Accepted row = is_accepted row
is_sought Offered row = is_offered row
is_sought Event row = is_event row.wait.kind
is_sought UnreceivedEvent row = is_event row.wait.kind && not row.wait.received

-- such a wait takes what comes
abbrev pub is_taking : Sought → Bool
is_taking (Taker with_listens) = true
is_taking Receive = true
is_taking Sent = false
is_taking Request = false
is_taking UnreceivedRequest = false
is_taking Accepted = false
is_taking Offered = false
is_taking Event = false
is_taking UnreceivedEvent = false

-- such a wait isn't of a marked thread; it was made on this port, and it is on this queue
abbrev pub is_unmarked : Sought → List ℕ → WaitingThread → Bool
is_unmarked sought marks row = is_sought sought row && not (is_marked marks row)

abbrev pub is_unmarked_on : Key → Sought → List ℕ → WaitingThread → Bool
is_unmarked_on port sought marks row = is_unmarked sought marks row && is_key row.wait.port port

abbrev pub is_unmarked_in : Key → Sought → List ℕ → WaitingThread → Bool
is_unmarked_in queue sought marks row = is_unmarked sought marks row && is_key row.wait.queue queue

-- the same of a row with its key
abbrev pub is_found_on : Key → Sought → List ℕ → Key × WaitingThread → Bool
is_found_on port sought marks row = is_unmarked_on port sought marks row.1

abbrev pub is_found_in : Key → Sought → List ℕ → Key × WaitingThread → Bool
is_found_in queue sought marks row = is_unmarked_in queue sought marks row.1

-- the key and the thread of the first row that passes
abbrev pub found : (Key × WaitingThread → Bool) → List (Key × WaitingThread) → Option (Key × ℕ)
found test rows = option_map (λ row. (row.0, row.1.thread)) (first test rows)

-- a wait is of this thread, was made on this port, and is a connect of this process
abbrev pub is_by : ℕ → Key × WaitingThread → Bool
is_by thread row = is_of thread row.1

abbrev pub is_made_by : Key → Key × WaitingThread → Bool
is_made_by port row = is_made_on port row.1

abbrev pub is_connect_by : ℕ → Key × WaitingThread → Bool
is_connect_by process row = is_connect_of process row.1

-- the key of the first row that passes
abbrev pub key_of_first : (Key × WaitingThread → Bool) → List (Key × WaitingThread) → Option Key
key_of_first test rows = option_map (λ row. row.0) (first test rows)

-- a wait is such as is sought, and was made on this port or is on its queue
abbrev pub is_found_at : Key → Sought → WaitingThread → Bool
is_found_at port sought row = is_sought sought row && is_wait_at port row

-- a key was made before another
abbrev pub is_before : Key → Key → Bool
is_before one two = nat_lt one.generation two.generation || ((one.generation == two.generation) && nat_lt one.index two.index)

-- what was made before the other; where one isn't there, the other
abbrev pub earlier : Option (Key × ℕ) → Option (Key × ℕ) → Option (Key × ℕ)
earlier None second = second
earlier (Some first) None = Some first
earlier (Some first) (Some second) = Some (if is_before first.0 second.0 then first else second)
