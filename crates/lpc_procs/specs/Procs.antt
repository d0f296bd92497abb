-- What contracts see of processes and threads.
use Rattle.std.specs.Prelude.{ℕ, ◌+◌, ◌-◌, ◌^◌, ◌<◌, ◌≤◌, ◌==◌, ◌&&◌, ◌++◌, ◌∷◌, Bool, false, List, [], is_some, length, max, nat_lt, not, option_and_then, option_map, option_to_list, None, Option, Some, slice_get, if◌then◌else◌}
use Rattle.lpc_base.specs.Births.{same_birth}
use Rattle.lpc_base.specs.Rows.{change, each, first, has, passes, when, which, without}
use Rattle.lpc_base.specs.declared.birth.Birth.{Birth}
use Rattle.lpc_base.specs.declared.limits.TheConstants.{REGISTRATION_LIMIT}
use Rattle.lpc_message.specs.declared.message.ClientId.{ClientId}
use Rattle.lpc_slots.specs.declared.Key.{Key}
use Rattle.lpc_tokens.specs.declared.effective.Impersonation.{Impersonation}
use Rattle.lpc_procs.specs.declared.rows.BornThread.{BornThread}
use Rattle.lpc_procs.specs.declared.rows.Doomed.{Doomed}
use Rattle.lpc_procs.specs.declared.rows.Life.{Life}
use Rattle.lpc_procs.specs.declared.rows.Number.{Number}
use Rattle.lpc_procs.specs.declared.rows.Number.TheVariants as number
use Rattle.lpc_procs.specs.declared.rows.ProcessRow.{ProcessRow}
use Rattle.lpc_procs.specs.declared.rows.Registration.{Registration}
use Rattle.lpc_procs.specs.declared.rows.ThreadRow.{ThreadRow}
use Rattle.lpc_procs.specs.declared.rows.UsedThread.{UsedThread}

-- the rows in order of making; the numbers ever used, in order of use; how many more processes and threads go in
-- without memory
pub record Table : Type 0 where
  pub processes : List ProcessRow
  pub threads : List ThreadRow
  pub used_processes : List ℕ
  pub used_threads : List UsedThread
  pub process_room : ℕ
  pub thread_room : ℕ

-- no process, no thread, no number used and no room
abbrev pub nothing : Table
nothing = record { processes = []; threads = []; used_processes = []; used_threads = []; process_room = 0; thread_room = 0 }

-- the table with this room for processes and for threads
abbrev pub with_room : Table → ℕ → ℕ → Table
with_room s processes threads = record s { process_room = processes; thread_room = threads }

-- how many rows there are, or numbers that were used, where those are more
abbrev pub most_rows : {R N : Type 0} → List R → List N → ℕ
most_rows rows used = max (length rows) (length used)

-- Rows
-- a process has the number, and a thread has it
abbrev pub is_process : ℕ → ProcessRow → Bool
is_process pid p = p.number == pid

abbrev pub is_thread : ℕ → ThreadRow → Bool
is_thread tid t = t.number == tid

-- the process that has the number, and the thread that has it
abbrev pub process_at : Table → ℕ → Option ProcessRow
process_at s pid = first (is_process pid) s.processes

abbrev pub thread_at : Table → ℕ → Option ThreadRow
thread_at s tid = first (is_thread tid) s.threads

-- a thread is live and of the process, and a thread is live and has the number
abbrev pub lives_in : ℕ → ThreadRow → Bool
lives_in pid t = (t.process == pid) && t.live

abbrev pub is_live_thread : ℕ → ThreadRow → Bool
is_live_thread tid t = (t.number == tid) && t.live

-- a thread is live and has the numbers of a client, its process's and its own
abbrev pub is_live_client : ClientId → ThreadRow → Bool
is_live_client client t = (t.number == client.thread) && ((t.process == client.process) && t.live)

-- a process was made by this one, and is live
abbrev pub is_made_by : ℕ → ProcessRow → Bool
is_made_by pid p = passes p.maker (λ maker. maker == pid)

abbrev pub is_live_child : List ThreadRow → ℕ → ProcessRow → Bool
is_live_child threads pid p = is_made_by pid p && has (lives_in p.number) threads

-- the number of the first thread that passes, and of the first process that does
abbrev pub first_thread : (ThreadRow → Bool) → Table → Option ℕ
first_thread test s = option_map (λ t. t.number) (first test s.threads)

abbrev pub first_process : (ProcessRow → Bool) → Table → Option ℕ
first_process test s = option_map (λ p. p.number) (first test s.processes)

-- Names
-- a process was made under the name, and a thread was
abbrev pub is_process_born : Birth → ProcessRow → Bool
is_process_born b p = same_birth p.birth b

abbrev pub is_thread_born : Birth → ThreadRow → Bool
is_thread_born b t = same_birth t.birth b

-- a live thread of the name; a live thread of a process of the name
abbrev pub is_life : Birth → ThreadRow → Bool
is_life b t = t.live && is_thread_born b t

abbrev pub lives_by : Table → Birth → ThreadRow → Bool
lives_by s b t = t.live && has (λ p. is_process_born b p && is_process t.process p) s.processes

-- the name of a thread and whether it is live; the same of a process, which is live where a live thread is of it
abbrev pub thread_life : ThreadRow → Life
thread_life t = record { birth = t.birth; live = t.live }

abbrev pub process_life : List ThreadRow → ProcessRow → Life
process_life threads p = record { birth = p.birth; live = has (lives_in p.number) threads }

-- the first thread of the name, as it is told
abbrev pub born_thread : ThreadRow → BornThread
born_thread t = record { number = t.number; process = t.process; live = t.live }

abbrev pub thread_born : Table → Birth → Option BornThread
thread_born s b = option_map born_thread (first (is_thread_born b) s.threads)

-- the table without the processes of the name, and without the threads of the name, with this room for more
abbrev pub without_process_born : Table → Birth → ℕ → Table
without_process_born s b room = record s { processes = without (is_process_born b) s.processes; process_room = room }

abbrev pub without_thread_born : Table → Birth → ℕ → Table
without_thread_born s b room = record s { threads = without (is_thread_born b) s.threads; thread_room = room }

-- Registrations
-- the registration of a port that was made under a name
abbrev pub registration : Key → Birth → Registration
registration port birth = record { port = port; birth = birth }

-- a registration is of the port that was made under a name
abbrev pub is_of_birth : Birth → Registration → Bool
is_of_birth b r = same_birth b r.birth

-- a thread registered the port with a birth
abbrev pub has_registered : Birth → ThreadRow → Bool
has_registered b t = has (is_of_birth b) t.registered.items

-- the registration that a thread made first, and a thread with it
abbrev pub first_registered : ThreadRow → Option Registration
first_registered t = slice_get t.registered.items 0

abbrev pub first_registration : ThreadRow → Option (ℕ × Registration)
first_registration t = option_map (λ r. (t.number, r)) (first_registered t)

-- a thread of the process has ended, and has registrations still
abbrev pub is_untold : ℕ → ThreadRow → Bool
is_untold pid t = (t.process == pid) && (not t.live && is_some (first_registered t))

-- the first such thread with the registration that it made first
abbrev pub first_untold : List ThreadRow → ℕ → Option (ℕ × Registration)
first_untold threads pid = option_and_then first_registration (first (is_untold pid) threads)

-- the registrations of a thread, and none of one that has ended
abbrev pub registered_by : ThreadRow → List Registration
registered_by t = t.registered.items

abbrev pub registered_live : ThreadRow → List Registration
registered_live t = when t.live (registered_by t)

-- the registrations of all threads, and of all live ones
abbrev pub all_registrations : List ThreadRow → List Registration
all_registrations threads = each registered_by threads

abbrev pub live_registrations : List ThreadRow → List Registration
live_registrations threads = each registered_live threads

-- a further port may be registered
abbrev pub HasRegistrationLeft : ThreadRow → Type 0
HasRegistrationLeft t = length t.registered.items < REGISTRATION_LIMIT

-- a thread with a further registration, behind those that it had; and without those of the port with a birth
abbrev pub registering : Registration → ThreadRow → ThreadRow
registering r t = record t { registered = record { items = t.registered.items ++ r ∷ [] } }

abbrev pub unregistering : Birth → ThreadRow → ThreadRow
unregistering b t = record t { registered = record { items = without (is_of_birth b) t.registered.items } }

-- Exceptions
-- a process with its debug port, with its exception port, and without either
abbrev pub debugged : Registration → ProcessRow → ProcessRow
debugged r p = record p { debug_port = Some r }

abbrev pub excepted : Registration → ProcessRow → ProcessRow
excepted r p = record p { exception_port = Some r }

abbrev pub portless : ProcessRow → ProcessRow
portless p = record p { debug_port = None; exception_port = None }

-- the ports that are told of the exceptions of a process, and of all processes
abbrev pub event_ports_of : ProcessRow → List Registration
event_ports_of p = option_to_list p.debug_port ++ option_to_list p.exception_port

abbrev pub event_ports : List ProcessRow → List Registration
event_ports processes = each event_ports_of processes

-- the port with a birth is among those of a process
abbrev pub has_event_port : Birth → ProcessRow → Bool
has_event_port b p = has (is_of_birth b) (event_ports_of p)

-- the code with which a process is to end: the first stays
abbrev pub first_code : ℕ → Option ℕ → ℕ
first_code code None = code
first_code code (Some first) = first

-- a process that is to end with a code; one that is to end, and is live
abbrev pub doomed : ℕ → ProcessRow → ProcessRow
doomed code p = record p { doom = Some (first_code code p.doom) }

abbrev pub is_doomed : List ThreadRow → ProcessRow → Bool
is_doomed threads p = is_some p.doom && has (lives_in p.number) threads

-- the process of the least number
abbrev pub lesser : ProcessRow → Option ProcessRow → ProcessRow
lesser p None = p
lesser p (Some q) = if nat_lt q.number p.number then q else p

abbrev pub least : List ProcessRow → Option ProcessRow
least [] = None
least (p ∷ ps) = Some (lesser p (least ps))

-- of those that are to end and are live it is the next to end: its number, and its code
abbrev pub doomed_as : ProcessRow → Doomed
doomed_as p = record { number = p.number; code = first_code 0 p.doom }

abbrev pub least_doomed : Table → Option Doomed
least_doomed s = option_map doomed_as (least (which (is_doomed s.threads) s.processes))

-- the table with the process of a number changed
abbrev pub with_process : Table → ℕ → (ProcessRow → ProcessRow) → Table
with_process s pid f = record s { processes = change (is_process pid) f s.processes }

-- Tokens
-- a thread with the token as which it acts for a client, none where it acts with that of its process
abbrev pub acting : Option Impersonation → ThreadRow → ThreadRow
acting own t = record t { own = own }

-- Numbers
-- a number that a process or thread can have
pub record IsNumber (n : ℕ) : Type 0 where
  pub above : 1 ≤ n
  pub below : n < 2147483648

-- a thread number that was used
abbrev pub is_used_thread : ℕ → UsedThread → Bool
is_used_thread tid u = u.number == tid

-- the process of a thread number that was used
abbrev pub used_process : List UsedThread → ℕ → Option ℕ
used_process used tid = option_map (λ u. u.process) (first (is_used_thread tid) used)

-- the number was ever used, for a process or for a thread
abbrev pub was_used : Table → Number → Bool
was_used s (number.Process pid) = has (λ n. n == pid) s.used_processes
was_used s (number.Thread tid) = has (is_used_thread tid) s.used_threads

-- the birth of the process or thread that has the number
abbrev pub birth_of : Table → Number → Option Birth
birth_of s (number.Process pid) = option_map (λ p. p.birth) (process_at s pid)
birth_of s (number.Thread tid) = option_map (λ t. t.birth) (thread_at s tid)

-- Draws
-- the name of the object that a thread makes next
abbrev pub next_birth : ThreadRow → Birth
next_birth t = record { maker = t.number; ordinal = t.next_ordinal; process = t.process }

-- the thread has drawn fewer than 2^32 - 2 identifiers, and as few births
abbrev pub HasIdentifierLeft : ThreadRow → Type 0
HasIdentifierLeft t = t.next_identifier < 2 ^ 32 - 1

abbrev pub HasOrdinalLeft : ThreadRow → Type 0
HasOrdinalLeft t = t.next_ordinal < 2 ^ 32 - 1

-- a thread behind a draw of an identifier, behind a draw of a birth, and when it has ended
abbrev pub past_identifier : ThreadRow → ThreadRow
past_identifier t = record t { next_identifier = t.next_identifier + 1 }

abbrev pub past_birth : ThreadRow → ThreadRow
past_birth t = record t { next_ordinal = t.next_ordinal + 1 }

abbrev pub ended : ThreadRow → ThreadRow
ended t = record t { live = false }

-- the table with the thread of a number changed
abbrev pub with_thread : Table → ℕ → (ThreadRow → ThreadRow) → Table
with_thread s tid f = record s { threads = change (is_thread tid) f s.threads }
