-- How much memory the world's tables have.
use Rattle.std.specs.Prelude.{◌≡◌, ℕ, ◌+◌, ◌==◌, Bool, false, List, [], length, map, max, min, Option, Some, None}
use Rattle.lpc_base.specs.Rows.{first}
use Rattle.lpc_homes.specs.declared.parts.Part.{Part}
use Rattle.lpc_rows.specs.Shown.{Tables}
use Rattle.lpc_slots.specs.Table.{listed}

-- how many handles, or views, the table of a process has memory for, be they there or not
pub record HandlePlaces : Type 0 where
  pub process : ℕ
  pub places : ℕ

-- How many rows each table has memory for, be they there or not: only a table that asks for memory has more of them. Of
-- processes and threads it is the numbers ever used, which stay used, and the room for more: a row that goes may leave
-- a place, so that there is room for one more then. Of the names of tokens it isn't told.
pub record Capacity : Type 0 where
  pub processes : ℕ
  pub threads : ℕ
  pub waits : ℕ
  pub messages : ℕ
  pub ports : ℕ
  pub names : ℕ
  pub sections : ℕ
  pub tokens : ℕ
  pub handles : List HandlePlaces
  pub views : List HandlePlaces

-- no memory
abbrev pub no_capacity : Capacity
no_capacity = record { processes = 0; threads = 0; waits = 0; messages = 0; ports = 0; names = 0; sections = 0; tokens = 0; handles = []; views = [] }

-- the places for handles of a process
abbrev pub places_of_part : Part → HandlePlaces
places_of_part part = record { process = part.process; places = part.handles.spare + length part.handles.rows }

-- the places for its views
abbrev pub view_places_of : Part → HandlePlaces
view_places_of part = record { process = part.process; places = part.views.spare + length part.views.views }

-- the memory of tables with so many places for parts left
abbrev pub capacity_by : Tables → ℕ → Capacity
capacity_by it places = record {
  processes = min it.procs.process_room places + length it.procs.used_processes;
  threads = it.procs.thread_room + length it.procs.used_threads;
  waits = it.waits.spare + length it.waits.rows;
  messages = it.ports.message_room + length it.ports.messages;
  ports = it.ports.port_room + length it.ports.ports;
  names = it.space.spare + length it.space.bindings;
  sections = it.sections.spare + length (listed it.sections);
  tokens = it.tokens.spare + length (listed it.tokens);
  handles = map places_of_part it.parts;
  views = map view_places_of it.parts;
}

-- the memory of all tables but that of names
abbrev pub but_names : Capacity → Capacity
but_names c = record c { names = 0 }

-- the memory of all tables but those of processes and threads
abbrev pub but_lives : Capacity → Capacity
but_lives c = record c { processes = 0; threads = 0 }

-- places are those of this process
abbrev pub is_of_process : ℕ → HandlePlaces → Bool
is_of_process pid p = p.process == pid

-- how many handles a process has memory for
abbrev pub places_in : Option HandlePlaces → ℕ
places_in None = 0
places_in (Some p) = p.places

abbrev pub handle_places : Capacity → ℕ → ℕ
handle_places c pid = places_in (first (is_of_process pid) c.handles)

-- and how many views
abbrev pub view_places : Capacity → ℕ → ℕ
view_places c pid = places_in (first (is_of_process pid) c.views)

-- a process whose table has no memory yet
abbrev pub no_places : ℕ → HandlePlaces
no_places pid = record { process = pid; places = 0 }

-- the tables of handles of all processes have the memory that they had, or of all but one
abbrev pub KeepsPlaces : Capacity → Capacity → Type 0
KeepsPlaces old new = (pid : ℕ) → handle_places new pid ≡ handle_places old pid

abbrev pub KeepsOtherPlaces : ℕ → Capacity → Capacity → Type 0
KeepsOtherPlaces pid old new = (other : ℕ) → (other == pid) ≡ false → handle_places new other ≡ handle_places old other

-- so the tables of views
abbrev pub KeepsViewPlaces : Capacity → Capacity → Type 0
KeepsViewPlaces old new = (pid : ℕ) → view_places new pid ≡ view_places old pid

abbrev pub KeepsOtherViewPlaces : ℕ → Capacity → Capacity → Type 0
KeepsOtherViewPlaces pid old new = (other : ℕ) → (other == pid) ≡ false → view_places new other ≡ view_places old other

-- The most memory that a table has once it was asked for so many rows more: what it had, or its rows with those, or twice
-- its rows
abbrev pub grown_capacity : ℕ → ℕ → ℕ → ℕ
grown_capacity had more rows = max had (rows + max more rows)
