-- What the table keeps of its rows and numbers.
use Rattle.std.specs.Prelude.{ℕ, ◌≡◌, ◌≤◌, ◌+◌, ◌==◌, ◌&&◌, ◌||◌, Bool, true, false, is_some, length, map, nat_le, nat_lt, List, Option, Some, None, option_map, option_to_list, if◌then◌else◌}
use Rattle.std.specs.List.{position_or_len}
use Rattle.lpc_base.specs.declared.birth.Birth.{Birth}
use Rattle.lpc_base.specs.Rows.{change, count, differ_by, each, every, first, has, which}
use Rattle.lpc_base.specs.declared.limits.TheConstants.{REGISTRATION_LIMIT}
use Rattle.lpc_numbers.specs.Named.{AreNamed, Named}
use Rattle.lpc_numbers.specs.Numbered.{is_at, numbers, value_at}
use Rattle.lpc_numbers.specs.Tally.{Tally, count_in, one_for}
use Rattle.lpc_slots.specs.declared.Key.{Key}
use Rattle.lpc_slots.specs.Table.{Table, at, listed}
use Rattle.lpc_procs.specs.declared.rows.Counted.{Counted}
use Rattle.lpc_procs.specs.declared.rows.Doomed.{Doomed}
use Rattle.lpc_procs.specs.declared.rows.ProcessRow.{ProcessRow}
use Rattle.lpc_procs.specs.declared.rows.Registration.{Registration}
use Rattle.lpc_procs.specs.declared.rows.ThreadRow.{ThreadRow}
use Rattle.lpc_procs.specs.declared.rows.UsedThread.{UsedThread}
use Rattle.lpc_procs.specs.declared.keys.Use.{Use}
use Rattle.lpc_procs.specs.declared.members.Member.{Member}
use Rattle.lpc_procs.specs.Tags.{AreTagged}
use Rattle.lpc_procs.specs.Members.{Members, is_of_rank}
use Rattle.lpc_procs.specs.Procs.{all_registrations, doomed_as, event_ports_of, is_made_by, is_process, is_process_born, is_thread, is_used_thread, lives_in}

-- the rows of a table, in the order of making
abbrev pub rows_in : {T : Type 0} → Table T → List T
rows_in s = map (λ row. row.1) (listed s)

-- the key of a row; where there is none, the key that is never given
abbrev pub key_or : Option Key → Key
key_or None = record { index = 0; generation = 0 }
key_or (Some key) = key

-- the key that a process of a number had or has, and that a thread had or has
abbrev pub process_key : List (ℕ × Key) → ℕ → Key
process_key used pid = key_or (value_at used pid)

abbrev pub thread_key : List (ℕ × Use) → ℕ → Key
thread_key used tid = key_or (option_map (λ u. u.key) (value_at used tid))

-- the rank of a process: how many numbers were used for processes before its own; of a number that was never used, how
-- many were used at all
abbrev pub rank_of : List (ℕ × Key) → ℕ → ℕ
rank_of used pid = position_or_len (is_at pid) used

-- Each number has a key, each row stands under that of its number, and a row that stands there has the number. No key is
-- younger than the last row that was made.
pub record AreKeyed {T : Type 0} (number : T → ℕ) (s : Table T) (key : ℕ → Key) : Type 0 where
  pub own : (n : ℕ) (row : T) → at s (key n) ≡ Some row → number row ≡ n
  pub leads : (k : Key) (row : T) → at s k ≡ Some row → key (number row) ≡ k
  pub young : (n : ℕ) → (key n).generation ≤ s.made

-- a row was made for each number that was used; no two of these are one, and each is below the limit of numbers
pub record AreUsed (made : ℕ) (used : List ℕ) : Type 0 where
  pub each : made ≡ length used
  pub differ : differ_by (λ n. n) used ≡ true
  pub low : every (λ n. nat_lt n 2147483648) used ≡ true

-- a used number is of a process
abbrev pub is_of : ℕ → Option UsedThread → Bool
is_of pid None = false
is_of pid (Some u) = u.process == pid

-- a thread's number is noted as used, with its process
abbrev pub is_noted : List UsedThread → ThreadRow → Bool
is_noted used t = is_of t.process (first (is_used_thread t.number) used)

-- no two threads have one number
abbrev pub are_single : List ThreadRow → Bool
are_single threads = differ_by (λ t. t.number) threads

-- a thread's number is below a limit
abbrev pub is_below : ℕ → ThreadRow → Bool
is_below n t = nat_lt t.number n

-- the processes, and the counts that stand beside them
abbrev pub process_rows : List Counted → List ProcessRow
process_rows rows = map (λ p. p.row) rows

-- the count beside a process is that of its live threads
abbrev pub is_counted : List ThreadRow → Counted → Bool
is_counted threads p = p.live == count (lives_in p.row.number) threads

-- a process has the number; it was made under the name; it is live, as its count tells
abbrev pub has_number : ℕ → Counted → Bool
has_number pid p = is_process pid p.row

abbrev pub has_name : Birth → Counted → Bool
has_name b p = is_process_born b p.row

abbrev pub is_peopled : Counted → Bool
is_peopled p = nat_lt 0 p.live

-- a live process that this one made, as its count tells
abbrev pub is_peopled_child : ℕ → Counted → Bool
is_peopled_child pid p = is_made_by pid p.row && is_peopled p

-- under each number stands how many live processes it made, as their counts tell, where each was counted
abbrev pub AreTallied : List Counted → Tally → Type 0
AreTallied processes children = children.whole ≡ true → (pid : ℕ) → count_in children.entries pid ≡ count (is_peopled_child pid) processes

-- the count of a process that was found
abbrev pub lives_in_first : Option Counted → ℕ
lives_in_first None = 0
lives_in_first (Some p) = p.live

-- how many live threads a thread that was found is
abbrev pub life_of_first : Option ThreadRow → ℕ
life_of_first None = 0
life_of_first (Some t) = if t.live then 1 else 0

-- a process with this count beside it
abbrev pub counting : ℕ → Counted → Counted
counting live p = record p { live = live }

-- one live process that was made by this one was counted, if it was live, and is now, if it is
pub record Moves (maker : ℕ) (was is : Bool) (old new : Tally) : Type 0 where
  pub whole : old.whole ≡ true
  pub counts : (pid : ℕ) → count_in new.entries pid + (if was then one_for pid maker else 0) ≡ count_in old.entries pid + (if is then one_for pid maker else 0)

-- a process is counted for its maker as one with so many live threads
pub record Retells (p : Counted) (live : ℕ) (old new : Tally) : Type 0 where
  pub whole : old.whole ≡ true
  pub counts : (pid : ℕ) → count_in new.entries pid + (if is_peopled_child pid p then 1 else 0) ≡ count_in old.entries pid + (if is_peopled_child pid (counting live p) then 1 else 0)

-- the processes with the live threads of one counted anew
abbrev pub recounted : List ThreadRow → ℕ → List Counted → List Counted
recounted threads pid rows = change (has_number pid) (counting (count (lives_in pid) threads)) rows

-- a process is to end, and is live, as its count tells; and then its number with its code
abbrev pub is_doomed_row : Counted → Bool
is_doomed_row p = is_some p.row.doom && is_peopled p

abbrev pub doomed_in : Counted → Option Doomed
doomed_in p = if is_doomed_row p then Some (doomed_as p.row) else None

-- a port is told of the exceptions of a process
abbrev pub is_watched : Counted → Bool
is_watched p = is_some p.row.debug_port || is_some p.row.exception_port

-- the ports that are told of the exceptions of a process, and of all processes
abbrev pub told_by : Counted → List Registration
told_by p = event_ports_of p.row

abbrev pub told_in : List Counted → List Registration
told_in processes = each told_by processes

-- of two that are to end the one of the lesser number
abbrev pub lesser_doomed : Option Doomed → Option Doomed → Option Doomed
lesser_doomed None other = other
lesser_doomed (Some d) None = Some d
lesser_doomed (Some d) (Some e) = if nat_lt e.number d.number then Some e else Some d

-- each thread's number is noted and below the limit of numbers, and no two threads have one
pub record IsKept (threads : List ThreadRow) (used : List UsedThread) : Type 0 where
  pub noted : every (is_noted used) threads ≡ true
  pub single : are_single threads ≡ true
  pub low : every (is_below 2147483648) threads ≡ true

-- a row's name, under its number
abbrev pub process_name : Counted → ℕ × Birth
process_name p = (p.row.number, p.row.birth)

abbrev pub thread_name : ThreadRow → ℕ × Birth
thread_name t = (t.number, t.birth)

-- the used thread numbers, with their processes
abbrev pub used_rows : List (ℕ × Use) → List UsedThread
used_rows entries = map (λ e. record { number = e.0; process = e.1.process }) entries

-- a thread's process, and a process, has a number that was used
abbrev pub is_of_used : List ℕ → ThreadRow → Bool
is_of_used used t = has (λ n. n == t.process) used

abbrev pub is_used_row : List ℕ → Counted → Bool
is_used_row used p = has (λ n. n == p.row.number) used

-- no two processes have one number
abbrev pub are_apart : List Counted → Bool
are_apart processes = differ_by (λ p. p.row.number) processes

-- a process's number is below a limit
abbrev pub is_low : ℕ → Counted → Bool
is_low n p = nat_lt p.row.number n

-- a thread has no more registrations than it may have
abbrev pub is_limited : ThreadRow → Bool
is_limited t = nat_le (length t.registered.items) REGISTRATION_LIMIT

-- What the table keeps: that; the counts beside the processes; that no two processes have one number, that each number of
-- one is below the limit of numbers, and that it, and each thread's process, was used; how many threads are live, and
-- how many registrations there are.
pub record AreKept (processes : List Counted) (threads : List ThreadRow) (numbers : List ℕ) (used : List UsedThread) (alive registered : ℕ) : Type 0 where
  pub rows : IsKept threads used
  pub counts : every (is_counted threads) processes ≡ true
  pub apart : are_apart processes ≡ true
  pub processes_low : every (is_low 2147483648) processes ≡ true
  pub owners : every (is_of_used numbers) threads ≡ true
  pub processes_used : every (is_used_row numbers) processes ≡ true
  pub limited : every is_limited threads ≡ true
  pub living : alive ≡ count (λ t. t.live) threads
  pub told : registered ≡ length (all_registrations threads)

-- How the numbers and names lead to the rows: each process and thread stands under the key of its number, a row was made
-- for each number, and under each name its number is kept.
pub record AreFound (processes : Table Counted) (threads : Table ThreadRow) (used_processes : List (ℕ × Key)) (used_threads : List (ℕ × Use)) (process_names thread_names : Named) : Type 0 where
  pub process_keys : AreKeyed (λ (p : Counted). p.row.number) processes (process_key used_processes)
  pub thread_keys : AreKeyed (λ (t : ThreadRow). t.number) threads (thread_key used_threads)
  pub processes_made : AreUsed processes.made (numbers used_processes)
  pub threads_made : AreUsed threads.made (numbers used_threads)
  pub processes_named : AreNamed (map process_name (rows_in processes)) process_names
  pub threads_named : AreNamed (map thread_name (rows_in threads)) thread_names

-- a thread is of the process; its process has the rank, as this tells ranks; and the thread among those of its process
abbrev pub is_in : ℕ → ThreadRow → Bool
is_in pid t = t.process == pid

abbrev pub is_ranked : (ℕ → ℕ) → ℕ → ThreadRow → Bool
is_ranked rank n t = rank t.process == n

abbrev pub member_of : (ℕ → ℕ) → ThreadRow → Member
member_of rank t = record { rank = rank t.process; thread = t.number }

-- no thread of another process passes
abbrev pub PassesOnly : ℕ → (ThreadRow → Bool) → Type 0
PassesOnly pid test = (t : ThreadRow) → test t ≡ true → is_in pid t ≡ true

-- the members of each rank are the threads of its process, in the order of making, where each was put among them
abbrev pub AreGrouped : (ℕ → ℕ) → List ThreadRow → Members → Type 0
AreGrouped rank threads members = members.whole ≡ true → (n : ℕ) → which (is_of_rank n) members.rows ≡ map (member_of rank) (which (is_ranked rank n) threads)

-- the threads of the members' numbers
abbrev pub rows_of : List ThreadRow → List Member → List ThreadRow
rows_of threads members = each (λ m. option_to_list (first (is_thread m.thread) threads)) members

-- What the tables keep: all that, how many live processes are to end, of how many a port is told of exceptions,
-- how many live processes each made, which threads are of each, and how many registrations there are of each
-- tag, and how many ports that are told of exceptions.
pub record IsStored (processes : Table Counted) (threads : Table ThreadRow) (used_processes : List (ℕ × Key)) (used_threads : List (ℕ × Use)) (process_names thread_names : Named) (alive registered dooms watched : ℕ) (children : Tally) (members : Members) (tags told_tags : Tally) : Type 0 where
  pub all : AreKept (rows_in processes) (rows_in threads) (numbers used_processes) (used_rows used_threads) alive registered
  pub found : AreFound processes threads used_processes used_threads process_names thread_names
  pub doomed : dooms ≡ count is_doomed_row (rows_in processes)
  pub watchers : watched ≡ count is_watched (rows_in processes)
  pub tallied : AreTallied (rows_in processes) children
  pub grouped : AreGrouped (rank_of used_processes) (rows_in threads) members
  pub tagged : AreTagged (all_registrations (rows_in threads)) tags
  pub told_tagged : AreTagged (told_in (rows_in processes)) told_tags
