-- The rows and the chain that the waits lend: which waits the rows hold, and for which of them the chain stands.
use Rattle.std.specs.Prelude.{List, map as map_list}
use Rattle.lpc_slots.specs.declared.Key.{Key}
use Rattle.lpc_slots.specs.declared.chain.Links.{Links}
use Rattle.lpc_slots.specs.declared.chain.Chain.{Chain}
use Rattle.lpc_slots.specs.Chain.{StandsFor}
use Rattle.lpc_slots.specs.Table.{Table, keys_of, listed, parts}
use Rattle.lpc_waits.specs.declared.WaitRow.{WaitRow}
use Rattle.lpc_waits.specs.Table.{WaitingThread}

-- what a row holds but its links, and its links among all waits
abbrev pub waiting_of : WaitRow → WaitingThread
waiting_of row = record { thread = row.tid; wait = row.wait; message = row.message; offer = row.offer; accepted = row.accepted }

abbrev pub order_links : WaitRow → Links
order_links row = row.links

-- the waits that rows hold, in the order of waiting, with their keys and without them
abbrev pub keyed : Table WaitRow → List (Key × WaitingThread)
keyed rows = parts waiting_of (listed rows)

abbrev pub shown : List (Key × WaitingThread) → List WaitingThread
shown rows = map_list (λ row. row.1) rows

abbrev pub waits_of : Table WaitRow → List WaitingThread
waits_of rows = shown (keyed rows)

-- a chain stands for all waits in the order of waiting
abbrev pub IsOrder : Table WaitRow → Chain 0 → Type 0
IsOrder rows chain = StandsFor order_links rows chain (keys_of (keyed rows))
