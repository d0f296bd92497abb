-- How the rows stand in the table, and on which chains. No public clause cites this module.
use Rattle.std.specs.Prelude.{◌≡◌, ◌<◌, ◌++◌, ℕ, List, [], ◌∷◌, None, Some, length, option_map}
use Rattle.lpc_slots.specs.declared.Key.{Key}
use Rattle.lpc_slots.specs.declared.chain.Links.{Links}
use Rattle.lpc_base.specs.Rows.{first, without}
use Rattle.lpc_slots.specs.Chain.{IsAlone, IsAway, IsDistinct, StandsFor}
use Rattle.lpc_slots.specs.Table.{Table, at, at_key, keys_of, parts}
use Rattle.lpc_slots.specs.Buckets.{Stand as StandIn}
use Rattle.lpc_waits.specs.Table.{WaitingThread}
use Rattle.lpc_waits.specs.declared.numbers.Numbers.{Numbers}
use Rattle.lpc_waits.specs.declared.WaitRow.{WaitRow}
use Rattle.lpc_waits.specs.declared.chains.Chains.{Chains}
use Rattle.lpc_waits.specs.Lent.{keyed, order_links, waiting_of}
use Rattle.lpc_waits.specs.Numbers.{numbers_of}

-- no neighbours
abbrev pub no_links : Links
no_links = record { before = None; after = None }

-- the links of a row on each chain by numbers, and the row with other links
abbrev pub thread_links : WaitRow → Links
thread_links row = row.by_thread

abbrev pub port_links : WaitRow → Links
port_links row = row.by_port

abbrev pub queue_links : WaitRow → Links
queue_links row = row.by_queue

abbrev pub process_links : WaitRow → Links
process_links row = row.by_process

abbrev pub with_thread : WaitRow → Links → WaitRow
with_thread row links = record row { by_thread = links }

abbrev pub with_port : WaitRow → Links → WaitRow
with_port row links = record row { by_port = links }

abbrev pub with_queue : WaitRow → Links → WaitRow
with_queue row links = record row { by_queue = links }

abbrev pub with_process : WaitRow → Links → WaitRow
with_process row links = record row { by_process = links }

abbrev pub with_order : WaitRow → Links → WaitRow
with_order row links = record row { links = links }

-- the numbers of a row, and each of them
abbrev pub row_numbers : WaitingThread → Numbers
row_numbers row = numbers_of row.thread row.wait

abbrev pub by_thread : WaitingThread → ℕ
by_thread row = (row_numbers row).thread

abbrev pub by_port : WaitingThread → ℕ
by_port row = (row_numbers row).port

abbrev pub by_queue : WaitingThread → ℕ
by_queue row = (row_numbers row).queue

abbrev pub by_process : WaitingThread → ℕ
by_process row = (row_numbers row).process

-- the chains stand for these rows
pub record AreOn (rows : Table WaitRow) (chains : Chains) (all : List (Key × WaitingThread)) : Type 0 where
  pub order : StandsFor order_links rows chains.order (keys_of all)
  pub threads : StandIn thread_links rows chains.threads.chains.items (parts by_thread all)
  pub ports : StandIn port_links rows chains.ports.chains.items (parts by_port all)
  pub queues : StandIn queue_links rows chains.queues.chains.items (parts by_queue all)
  pub processes : StandIn process_links rows chains.processes.chains.items (parts by_process all)

-- there is a chain for each number
pub record AreWide (chains : Chains) : Type 0 where
  pub threads : 0 < length chains.threads.chains.items
  pub ports : 0 < length chains.ports.chains.items
  pub queues : 0 < length chains.queues.chains.items
  pub processes : 0 < length chains.processes.chains.items

-- a row names no neighbours on any chain; and so it is of the row of a key, which is there
pub record NamesNone (row : WaitRow) : Type 0 where
  pub threads : thread_links row ≡ no_links
  pub ports : port_links row ≡ no_links
  pub queues : queue_links row ≡ no_links
  pub processes : process_links row ≡ no_links
  pub order : order_links row ≡ no_links

pub record StandsAlone (rows : Table WaitRow) (key : Key) : Type 0 where
  pub threads : IsAlone thread_links rows key
  pub ports : IsAlone port_links rows key
  pub queues : IsAlone queue_links rows key
  pub processes : IsAlone process_links rows key
  pub order : IsAlone order_links rows key

-- nothing changes but links
pub record KeepsRows (old new : Table WaitRow) : Type 0 where
  pub rows : (key : Key) → option_map waiting_of (at new key) ≡ option_map waiting_of (at old key)
  pub spare : new.spare ≡ old.spare
  pub made : new.made ≡ old.made

-- the row of this key is one of the rows, which have different keys, and has these numbers
pub record IsOf (key : Key) (numbers : Numbers) (all : List (Key × WaitingThread)) : Type 0 where
  pub row : WaitingThread
  pub distinct : IsDistinct (keys_of all)
  pub stands : first (at_key key) all ≡ Some (key, row)
  pub own : row_numbers row ≡ numbers

-- the chains stand for some rows of which this is one
abbrev pub HasRow : Table WaitRow → Chains → Key → Numbers → Type 0
HasRow rows chains key numbers = (all : List (Key × WaitingThread)) × AreOn rows chains all × IsOf key numbers all

-- a row comes behind the others, and one goes
abbrev pub EntersAll : Table WaitRow → Table WaitRow → Chains → Chains → Key → Numbers → Type 0
EntersAll old new from to key numbers =
    (all : List (Key × WaitingThread)) (row : WaitingThread) → AreOn old from all → IsDistinct (keys_of all) → IsAway (Some key) (keys_of all) → row_numbers row ≡ numbers
    → AreOn new to (all ++ (key, row) ∷ [])

abbrev pub LeavesAll : Table WaitRow → Table WaitRow → Chains → Chains → Key → Numbers → Type 0
LeavesAll old new from to key numbers =
    (all : List (Key × WaitingThread)) → AreOn old from all → IsOf key numbers all → AreOn new to (without (at_key key) all)

-- the chains stand for all rows, and there are some where there are rows
pub record Stand (rows : Table WaitRow) (chains : Chains) : Type 0 where
  pub on : AreOn rows chains (keyed rows)
  pub wide : 0 < length (keyed rows) → AreWide chains
