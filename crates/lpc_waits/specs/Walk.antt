-- How a walk along a chain goes through the rows on it. No public clause cites this module.
use Rattle.std.specs.Prelude.{◌==◌, ◌%◌, ℕ, Bool, List, [], ◌∷◌, Option, None, Some, if◌then◌else◌}
use Rattle.lpc_base.specs.Rows.{which}
use Rattle.lpc_slots.specs.declared.Key.{Key}
use Rattle.lpc_slots.specs.Table.{Table, is_key}
use Rattle.lpc_waits.specs.Table.{WaitingThread}
use Rattle.lpc_waits.specs.declared.WaitRow.{WaitRow}
use Rattle.lpc_waits.specs.Lent.{keyed}

-- a row's number leaves the same remainder as this one
abbrev pub is_beside : (WaitingThread → ℕ) → ℕ → ℕ → Key × WaitingThread → Bool
is_beside number_of many number row = (number_of row.1 % many) == (number % many)

-- the rows on the chain of a number
abbrev pub chain_rows : (WaitingThread → ℕ) → ℕ → ℕ → Table WaitRow → List (Key × WaitingThread)
chain_rows number_of many number rows = which (is_beside number_of many number) (keyed rows)

-- the rows from a key on; none where there is no key
abbrev pub rows_from : Option Key → List (Key × WaitingThread) → List (Key × WaitingThread)
rows_from None rows = []
rows_from (Some key) [] = []
rows_from (Some key) (row ∷ rows) = if is_key row.0 key then row ∷ rows else rows_from (Some key) rows
