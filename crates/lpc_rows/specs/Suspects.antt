-- Which ports, threads and processes may have lost the last row that counted for them, since the last sweep.
use Rattle.std.specs.Prelude.{◌≡◌, ℕ, ◌&&◌, ◌||◌, ◌++◌, ◌∷◌, [], Bool, true, false, not, List, Option, Some, None, length, nat_lt, option_and_then, option_map, if◌then◌else◌}
use Rattle.lpc_base.specs.declared.birth.Birth.{Birth}
use Rattle.lpc_base.specs.Rows.{every, first, has, passes}
use Rattle.lpc_handles.specs.declared.table.Row.{Row}
use Rattle.lpc_homes.specs.declared.object.Object.{Object}
use Rattle.lpc_homes.specs.declared.object.Object.TheVariants as object
use Rattle.lpc_model.specs.Found.{is_port, is_process, is_thread, port_name, process_name, same_birth, same_object, thread_name}
use Rattle.lpc_model.specs.Sweep.{is_unheld}
use Rattle.lpc_model.specs.World.{HandleRow, ProcessRow, ThreadRow, World}
use Rattle.lpc_slots.specs.declared.Key.{Key}
use Rattle.lpc_rows.specs.Kept.{rows_by}
use Rattle.lpc_rows.specs.Lawful.{AreLawful}
use Rattle.lpc_rows.specs.Names.{Names, name_of, stands}
use Rattle.lpc_rows.specs.Shown.{Tables, births_of}

-- the keys of ports that are suspected, and whether any port is
pub record SuspectTable : Type 0 where
  pub keys : List Key
  pub any : Bool

-- how many are remembered by their keys
abbrev pub SUSPECT_LIMIT : ℕ
SUSPECT_LIMIT = 8

-- with a port suspected too; where there is no place for it, any port is
abbrev pub suspecting : Key → SuspectTable → SuspectTable
suspecting key s = if nat_lt (length s.keys) SUSPECT_LIMIT then record s { keys = s.keys ++ key ∷ [] } else record s { any = true }

-- with the port at an optional key suspected too, where there is one
abbrev pub suspecting_some : Option Key → SuspectTable → SuspectTable
suspecting_some None s = s
suspecting_some (Some key) s = suspecting key s

-- any port is suspected, where it is so
abbrev pub suspecting_if : Bool → SuspectTable → SuspectTable
suspecting_if so s = record s { any = s.any || so }

-- the port with the birth stands at the key
abbrev pub is_at : Names → Birth → Key → Bool
is_at names b key = stands names key && same_birth (name_of names key) b

-- a port that stands and that no row counts for is suspected
abbrev pub AreSuspected : World → Names → SuspectTable → Type 0
AreSuspected w names s =
    s.any ≡ false → (b : Birth) → has (is_port b) w.ports ≡ true → is_unheld w (port_name b) ≡ true → has (is_at names b) s.keys ≡ true

-- the births of the threads and of the processes that are suspected, and whether any thread or process is
pub record LifeTable : Type 0 where
  pub threads : List Birth
  pub processes : List Birth
  pub any : Bool

-- no thread and no process is suspected
abbrev pub no_lives : LifeTable
no_lives = record { threads = []; processes = []; any = false }

-- with a thread or a process suspected too; where there is no place for it, any is
abbrev pub suspecting_thread : Birth → LifeTable → LifeTable
suspecting_thread b s = if nat_lt (length s.threads) SUSPECT_LIMIT then record s { threads = s.threads ++ b ∷ [] } else record s { any = true }

abbrev pub suspecting_process : Birth → LifeTable → LifeTable
suspecting_process b s = if nat_lt (length s.processes) SUSPECT_LIMIT then record s { processes = s.processes ++ b ∷ [] } else record s { any = true }

-- with the thread or the process suspected too that a handle names, where it names one
abbrev pub suspecting_object : Object → LifeTable → LifeTable
suspecting_object (object.Thread b) s = suspecting_thread b s
suspecting_object (object.Process b) s = suspecting_process b s
suspecting_object o s = s

abbrev pub suspecting_named : Option (Row Object) → LifeTable → LifeTable
suspecting_named None s = s
suspecting_named (Some row) s = suspecting_object row.object s

-- the birth is one of some
abbrev pub is_among : List Birth → Birth → Bool
is_among births b = has (λ c. same_birth c b) births

-- some row counts for a thread that stands, or it is suspected; so it is with a process
abbrev pub is_watched_thread : World → LifeTable → ThreadRow → Bool
is_watched_thread w s t = not (is_unheld w (thread_name t.birth)) || is_among s.threads t.birth

abbrev pub is_watched_process : World → LifeTable → ProcessRow → Bool
is_watched_process w s p = not (is_unheld w (process_name p.birth)) || is_among s.processes p.birth

-- so it is with each of them
pub record AreLivesWatched (w : World) (s : LifeTable) : Type 0 where
  pub threads : every (is_watched_thread w s) w.threads ≡ true
  pub processes : every (is_watched_process w s) w.processes ≡ true

-- what a world keeps of its tables: they are lawful, the ports that no row counts for are suspected, and so are the threads
-- and the processes that none counts for, unless any of these is
pub record IsWatched (it : Tables) (calls made : ℕ) (s : SuspectTable) (lives : LifeTable) : Type 0 where
  pub kept : AreLawful it calls made
  pub watched : AreSuspected (rows_by it) (births_of it).ports s
  pub lived : lives.any ≡ false → AreLivesWatched (rows_by it) lives

-- what a port's handle names: of an object by a handle that was found, or of none, the port at an optional key
abbrev pub NamesPort : Names → Option HandleRow → Option Key → Type 0
NamesPort names handle port =
    (b : Birth) → passes port (λ key. same_birth (name_of names key) b) ≡ false → passes handle (λ h. same_object h.object (port_name b)) ≡ false

-- an object that is a thread, and one that is a process, has the birth
abbrev pub is_thread_of : Birth → Object → Bool
is_thread_of b (object.Thread c) = same_birth c b
is_thread_of b o = false

abbrev pub is_process_of : Birth → Object → Bool
is_process_of b (object.Process c) = same_birth c b
is_process_of b o = false

-- what was found names a thread or a process where the row of the tables does
pub record NamesLives (row : Option (Row Object)) (handle : Option HandleRow) : Type 0 where
  pub thread : (b : Birth) → passes row (λ r. is_thread_of b r.object) ≡ false → passes handle (λ h. same_object h.object (thread_name b)) ≡ false
  pub process : (b : Birth) → passes row (λ r. is_process_of b r.object) ≡ false → passes handle (λ h. same_object h.object (process_name b)) ≡ false

-- the birth of the thread of a number, and that of its process
abbrev pub thread_birth : World → ℕ → Option Birth
thread_birth w tid = option_map (λ t. t.birth) (first (is_thread tid) w.threads)

abbrev pub home_birth : World → ℕ → Option Birth
home_birth w tid = option_and_then (λ t. option_map (λ p. p.birth) (first (is_process t.process) w.processes)) (first (is_thread tid) w.threads)
