-- The basic steps that each line's step is a list of, and what one does.
use Rattle.std.specs.Prelude.{Option, ℕ, length, take, drop, replicate, ◌+◌, ◌||◌, nat_lt, Bool, true, false, List, [], ◌∷◌, ◌++◌, map, None, Some, if◌then◌else◌}
use Rattle.lpc_base.specs.declared.status.Status.{Status}
use Rattle.lpc_model.specs.declared.entry.Entry.{Entry}
use Rattle.lpc_model.specs.declared.entry.Entry.TheVariants as entry
use Rattle.lpc_model.specs.declared.entry.Field.{Field}
use Rattle.lpc_model.specs.declared.entry.Outcome.{Outcome}
use Rattle.lpc_model.specs.declared.entry.Outcome.TheVariants as outcome
use Rattle.lpc_base.specs.Rows.{change, each, when, which, without, without_first}
use Rattle.lpc_names.specs.Binding.{is_name}
use Rattle.lpc_model.specs.declared.entry.ObjectKind.TheVariants as kind
use Rattle.lpc_model.specs.World.{World, Birth, CallName, ObjectKind, ObjectName, ProcessRow, ThreadRow, UsedThread, HandleRow, HandleTable, PortRow, MessageRow, WaitKind, WaitRow, Acceptance, Accepted, Connect, Node, Path, SectionRow, ContentRow, Contents, Known, Unknown, ViewRow, ViewTable, TokenRow, TokenName, Security, Impersonation}
use Rattle.lpc_model.specs.Found.{has_value, is_content, is_token, is_own_of, is_owned_by, is_section, is_space, lies_at, is_paired_to, is_port, is_queued, is_queued_connect, is_table, is_thread, same_birth, waits_as, waits_at, is_mark, is_process}

-- An entry, or one change of the rows that belong together: a wait that ends, with its entry; a thread that ends, with
-- its entry and its wait; the two ends of a pair; a process, with its number and its empty tables of handles and views; a
-- thread, with its number; or else one row.
pub data Basic : Type 0 where
  -- an entry of the line's own thread or directive
  Tells : Entry → Basic
  -- a thread's wait ends, and it is told so
  Wakes : ℕ → CallName → Status → List Field → Basic
  -- a thread begins to wait
  Awaits : WaitRow → Basic
  -- a thread's request, event or connect to a queue is received, and a thread's connect is accepted
  Receives : ℕ → Birth → Basic
  Accepts : ℕ → Acceptance → Basic
  -- a thread's event is marked as not handled
  Marks : ℕ → Basic
  -- a thread's wait ends untold
  Leaves : ℕ → Basic
  -- a thread ends with a status, and its wait with it, which is told
  Dies : ℕ → Status → Basic
  -- a message enters its queue; the oldest message of a queue is taken, or its oldest connection request
  Enters : MessageRow → Basic
  Takes : Birth → Basic
  TakesConnect : Birth → Basic
  -- the own message of a thread, a request, event or connection request, leaves its queue; all messages of a queue go
  Withdraws : ℕ → Basic
  Empties : Birth → Basic
  -- a thread draws its next message identifier, and its next ordinal
  DrawsIdentifier : ℕ → Basic
  DrawsOrdinal : ℕ → Basic
  -- a port is registered with a thread; the registration goes
  Registers : ℕ → Birth → Basic
  Unregisters : ℕ → Birth → Basic
  -- a row is made; the number of a process or thread is used from then on, and a process begins without handles and views
  AddsProcess : ProcessRow → Basic
  AddsThread : ThreadRow → Basic
  Makes : PortRow → Basic
  -- a client port and a server port become each other's pair, with a context
  Joins : Birth → Birth → ℕ → Basic
  -- the connection of a port is completed; a port and its other end are cut off from each other
  Completes : Birth → Basic
  Cuts : Birth → Basic
  -- the row of an object goes
  Frees : ObjectName → Basic
  -- a path is bound to a directory, to a port, or as a link to another path; the names of a port go
  Binds : Path → Node Birth → Basic
  Unbinds : Birth → Basic
  -- a process gets a handle; a handle of a process goes
  AddsHandle : ℕ → HandleRow → Basic
  -- a process gets its debug port, and its exception port; it lets both go; it is to end with a code, unless it is
  -- already
  SetsDebug : ℕ → Birth → Basic
  SetsException : ℕ → Birth → Basic
  LetsGo : ℕ → Basic
  Dooms : ℕ → ℕ → Basic
  DropsHandle : ℕ → ℕ → Basic
  -- a section is made, whose bytes are zeros; bytes of a section are written from a place on
  AddsSection : SectionRow → Basic
  Writes : Birth → ℕ → List ℕ → Basic
  -- a process gets a view; its view at a base goes; all its views go
  Maps : ℕ → ViewRow → Basic
  Unmaps : ℕ → ℕ → Basic
  DropsViewsOf : ℕ → Basic
  -- the views that a port owns go, of whatever process they are
  DropsOwned : Birth → Basic
  -- a port gets its access list, or what it allows; a thread acts as a client, or with its process's token again
  Secures : Birth → Security → Basic
  Acts : ℕ → Option Impersonation → Basic
  -- a token is made as an object; a token gets a name
  AddsToken : TokenRow → Basic
  NamesToken : TokenName → Basic

-- a connect that is accepted, which offers nothing from then on
abbrev pub accepted_as : Acceptance → WaitKind → WaitKind
accepted_as a (Connect m offer) = Accepted m a
accepted_as a kind = kind

abbrev pub accepted : Acceptance → WaitRow → WaitRow
accepted a x = record x { kind = accepted_as a x.kind }

-- a port with its other end and the context of the connection
abbrev pub paired : Birth → ℕ → PortRow → PortRow
paired other context p = record p { pair = Some other; context = context }

-- the two ports of a connection, each with the other; any other port as it is
abbrev pub joined : Birth → Birth → ℕ → PortRow → PortRow
joined client server context p =
    if is_port client p then paired server context p
    else (if is_port server p then paired client context p else p)

-- a port, or one whose other end it is; a port without its other end, which keeps what the server gave the connection
abbrev pub is_end_of : Birth → PortRow → Bool
is_end_of b p = is_port b p || is_paired_to b p

abbrev pub cut : PortRow → PortRow
cut p = record p { pair = None }

-- a port whose connection is completed
abbrev pub completed : PortRow → PortRow
completed p = record p { completed = true }

-- a wait whose request is received
abbrev pub received : WaitRow → WaitRow
received x = record x { received = true }

-- a thread that drew its identifier
abbrev pub past_identifier : ThreadRow → ThreadRow
past_identifier t = record t { next_identifier = t.next_identifier + 1 }

-- a thread that drew its ordinal
abbrev pub past_ordinal : ThreadRow → ThreadRow
past_ordinal t = record t { next_ordinal = t.next_ordinal + 1 }

-- a thread that has ended
abbrev pub ended : ThreadRow → ThreadRow
ended t = record t { live = false }

-- a thread with a port registered, behind those that it had; and without the registrations of a port
abbrev pub registering : Birth → ThreadRow → ThreadRow
registering b t = record t { registrations = t.registrations ++ b ∷ [] }

abbrev pub unregistering : Birth → ThreadRow → ThreadRow
unregistering b t = record t { registrations = without (same_birth b) t.registrations }

-- a port with an access list or what it allows; a thread that acts as a client, or as itself
abbrev pub secured : Security → PortRow → PortRow
secured s p = record p { security = s }

abbrev pub acting : Option Impersonation → ThreadRow → ThreadRow
acting own t = record t { own = own }

-- the number of a thread, with its process
abbrev pub used : ThreadRow → UsedThread
used t = record { number = t.number; process = t.process }

-- handles with one more, by rising value
abbrev pub put_handle : HandleRow → List HandleRow → List HandleRow
put_handle h rows = which (λ r. nat_lt r.value h.value) rows ++ h ∷ which (λ r. nat_lt h.value r.value) rows

abbrev pub with_handle : HandleRow → HandleTable → HandleTable
with_handle h t = record t { rows = put_handle h t.rows }

-- handles without the one of a value; a table has one at most
abbrev pub without_handle : ℕ → HandleTable → HandleTable
without_handle value t = record t { rows = without_first (has_value value) t.rows }

-- a process without handles
abbrev pub no_handles : ℕ → HandleTable
no_handles pid = record { process = pid; rows = [] }

-- views with one more, behind the others
abbrev pub with_view : ViewRow → ViewTable → ViewTable
with_view v t = record t { rows = t.rows ++ v ∷ [] }

-- views without the one at a base, a process without any, and views without those that a port owns
abbrev pub without_view : ℕ → ViewTable → ViewTable
without_view base t = record t { rows = without (lies_at base) t.rows }

abbrev pub without_views : ViewTable → ViewTable
without_views t = record t { rows = [] }

abbrev pub without_owned : Birth → ViewTable → ViewTable
without_owned b t = record t { rows = without (is_owned_by b) t.rows }

-- a new process, without views
abbrev pub no_views : ℕ → ViewTable
no_views pid = record { process = pid; rows = [] }

-- the bytes of a new section
abbrev pub zeros : SectionRow → ContentRow
zeros s = record { section = s.birth; bytes = replicate s.size 0 }

-- bytes with others in place of as many from a place on; what would pass the end is left out
abbrev pub overwritten : ℕ → List ℕ → List ℕ → List ℕ
overwritten place new old = take (length old) (take place old ++ (new ++ drop (place + length new) old))

abbrev pub written : ℕ → List ℕ → ContentRow → ContentRow
written place new c = record c { bytes = overwritten place new c.bytes }

-- the bytes of sections are changed, where they are known
abbrev pub in_known : (List ContentRow → List ContentRow) → Contents → Contents
in_known f Unknown = Unknown
in_known f (Known rows) = Known (f rows)

-- the world without the row of an object; a section's bytes go with it
abbrev pub freed : World → ObjectKind → Birth → World
freed w kind.Port b = record w { ports = without (is_port b) w.ports }
freed w kind.Section b =
    record w { sections = without (is_section b) w.sections; contents = in_known (without (is_content b)) w.contents }
freed w kind.Token b = record w { tokens = without (is_token b) w.tokens }
freed w kind.Process b = record w { processes = without (λ p. same_birth p.birth b) w.processes }
freed w kind.Thread b = record w { threads = without (λ t. same_birth t.birth b) w.threads }

-- the world without a thread's wait, and without its mark
abbrev pub left_by : ℕ → World → World
left_by who w = record w { waits = without (waits_as who) w.waits; marks = without (is_mark who) w.marks }

-- a process with its debug port, with its exception port, and without either
abbrev pub debugged : Birth → ProcessRow → ProcessRow
debugged b p = record p { debug_port = Some b }

abbrev pub excepted : Birth → ProcessRow → ProcessRow
excepted b p = record p { exception_port = Some b }

abbrev pub portless : ProcessRow → ProcessRow
portless p = record p { debug_port = None; exception_port = None }

-- a process that is to end; the first code stays
abbrev pub first_code : ℕ → Option ℕ → ℕ
first_code code None = code
first_code code (Some n) = n

abbrev pub doomed : ℕ → ProcessRow → ProcessRow
doomed code p = record p { doom = Some (first_code code p.doom) }

-- the world after a basic step
abbrev pub basic : World → Basic → World
basic w (Tells e) = w
basic w (Wakes who call status fields) = left_by who w
basic w (Awaits x) = record w { waits = w.waits ++ x ∷ [] }
basic w (Receives who queue) = record w { waits = change (waits_at who queue) received w.waits }
basic w (Accepts who a) = record w { waits = change (waits_as who) (accepted a) w.waits }
basic w (Dies who status) =
    record w {
      threads = change (is_thread who) ended w.threads;
      waits = without (waits_as who) w.waits;
      marks = without (is_mark who) w.marks;
    }
basic w (Marks who) = record w { marks = w.marks ++ who ∷ [] }
basic w (Leaves who) = left_by who w
basic w (Enters m) = record w { messages = w.messages ++ m ∷ [] }
basic w (Takes q) = record w { messages = without_first (is_queued q) w.messages }
basic w (TakesConnect q) = record w { messages = without_first (is_queued_connect q) w.messages }
basic w (Withdraws who) = record w { messages = without (is_own_of who) w.messages }
basic w (Empties q) = record w { messages = without (is_queued q) w.messages }
basic w (DrawsIdentifier who) = record w { threads = change (is_thread who) past_identifier w.threads }
basic w (DrawsOrdinal who) = record w { threads = change (is_thread who) past_ordinal w.threads }
basic w (Registers who b) = record w { threads = change (is_thread who) (registering b) w.threads }
basic w (Unregisters who b) = record w { threads = change (is_thread who) (unregistering b) w.threads }
basic w (AddsProcess p) =
    record w {
      processes = w.processes ++ p ∷ [];
      used_processes = w.used_processes ++ p.number ∷ [];
      handles = w.handles ++ no_handles p.number ∷ [];
      views = w.views ++ no_views p.number ∷ [];
    }
basic w (AddsThread t) =
    record w { threads = w.threads ++ t ∷ []; used_threads = w.used_threads ++ used t ∷ [] }
basic w (Makes p) = record w { ports = w.ports ++ p ∷ [] }
basic w (Joins client server context) = record w { ports = map (joined client server context) w.ports }
basic w (Completes b) = record w { ports = change (is_port b) completed w.ports }
basic w (Cuts b) = record w { ports = change (is_end_of b) cut w.ports }
basic w (Frees o) = freed w o.kind o.birth
basic w (Binds path node) = record w { bindings = w.bindings ++ (path, node) ∷ [] }
basic w (Unbinds b) = record w { bindings = without (is_name same_birth b) w.bindings }
basic w (AddsHandle pid h) = record w { handles = change (is_table pid) (with_handle h) w.handles }
basic w (DropsHandle pid value) = record w { handles = change (is_table pid) (without_handle value) w.handles }
basic w (AddsSection s) =
    record w { sections = w.sections ++ s ∷ []; contents = in_known (λ rows. rows ++ zeros s ∷ []) w.contents }
basic w (Writes b place new) =
    record w { contents = in_known (change (is_content b) (written place new)) w.contents }
basic w (Maps pid v) = record w { views = change (is_space pid) (with_view v) w.views }
basic w (Unmaps pid base) = record w { views = change (is_space pid) (without_view base) w.views }
basic w (DropsViewsOf pid) = record w { views = change (is_space pid) without_views w.views }
basic w (DropsOwned b) = record w { views = map (without_owned b) w.views }
basic w (Secures b s) = record w { ports = change (is_port b) (secured s) w.ports }
basic w (Acts who own) = record w { threads = change (is_thread who) (acting own) w.threads }
basic w (AddsToken t) = record w { tokens = w.tokens ++ t ∷ [] }
basic w (NamesToken n) = record w { token_names = w.token_names ++ n ∷ [] }
basic w (SetsDebug pid b) = record w { processes = change (is_process pid) (debugged b) w.processes }
basic w (SetsException pid b) = record w { processes = change (is_process pid) (excepted b) w.processes }
basic w (LetsGo pid) = record w { processes = change (is_process pid) portless w.processes }
basic w (Dooms pid code) = record w { processes = change (is_process pid) (doomed code) w.processes }

-- the entries that a basic step makes
abbrev pub told : Basic → List Entry
told (Tells e) = e ∷ []
told (Wakes who call status fields) = entry.Wakes who call status fields ∷ []
told (Dies who status) = entry.Died who status ∷ []
told b = []

-- the messages that a basic step posts: those that enter a queue
abbrev pub posted : Basic → List MessageRow
posted (Enters m) = m ∷ []
posted b = []

-- the world after a list of basic steps
abbrev pub world_after : World → List Basic → World
world_after w [] = w
world_after w (b ∷ bs) = world_after (basic w b) bs

-- the entries that a list of steps makes
abbrev pub entries_of : List Basic → List Entry
entries_of [] = []
entries_of (b ∷ bs) = told b ++ entries_of bs

-- the messages that it posts
abbrev pub posts_of : List Basic → List MessageRow
posts_of [] = []
posts_of (b ∷ bs) = posted b ++ posts_of bs

-- how a call ended for its thread, by the first entry of its own
abbrev pub outcome_of : List Basic → Outcome
outcome_of [] = outcome.Gone
outcome_of (Tells (entry.Answer who call status fields) ∷ bs) = outcome.Answered status
outcome_of (Tells (entry.Waits who call fields) ∷ bs) = outcome.Waits
outcome_of (b ∷ bs) = outcome_of bs

-- steps that depend on the world before them
abbrev pub Steps : Type 0
Steps = World → List Basic

-- a list of steps, and then what the world that they left says
abbrev pub going_on : World → List Basic → Steps → List Basic
going_on w bs g = bs ++ g (world_after w bs)

-- one after the other: the second in the world that the first left
infixr 8 ◌▹◌
abbrev pub ◌▹◌ : Steps → Steps → Steps
◌▹◌ f g = λ w. going_on w (f w) g

-- steps whatever the world
abbrev pub doing : List Basic → Steps
doing bs = λ w. bs

-- steps only where a test of the world before them holds
abbrev pub provided : (World → Bool) → Steps → Steps
provided test f = λ w. when (test w) (f w)

-- steps for each row, in order, each in the world that the ones before left
abbrev pub in_turn : {A : Type 0} → (A → Steps) → List A → Steps
in_turn f [] = doing []
in_turn f (x ∷ xs) = f x ▹ in_turn f xs

-- each wait that passes in the world before them ends, in the order of waiting
abbrev pub end_each : (World → WaitRow → Bool) → (WaitRow → List Basic) → Steps
end_each test ending = λ w. each ending (which (test w) w.waits)
