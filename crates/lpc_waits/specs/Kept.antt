-- What the table keeps of its rows. No public clause cites this module.
use Rattle.std.specs.Prelude.{ℕ, ◌≡◌, ◌+◌, ◌<◌, Bool, true, is_some, length}
use Rattle.lpc_base.specs.Rows.{count}
use Rattle.lpc_slots.specs.Table.{Table}
use Rattle.lpc_waits.specs.Table.{WaitingThread, WaitTable, are_apart, is_event}
use Rattle.lpc_waits.specs.declared.chains.Chains.{Chains}
use Rattle.lpc_waits.specs.declared.WaitRow.{WaitRow}
use Rattle.lpc_waits.specs.Lent.{keyed, shown}
use Rattle.lpc_waits.specs.Layout.{AreOn, AreWide}

-- what contracts see of the rows
abbrev pub seen : Table WaitRow → WaitTable
seen rows = record { rows = shown (keyed rows); spare = rows.spare; made = rows.made }

-- the row is of an event, and has an offer
abbrev pub is_event_row : WaitingThread → Bool
is_event_row row = is_event row.wait.kind

abbrev pub has_offer : WaitingThread → Bool
has_offer row = is_some row.offer

-- no two rows have one thread; each stands on its chains, of which there are some where a row stands or has room; so many
-- rows are of events, and so many have an offer
pub record AreKept (rows : Table WaitRow) (chains : Chains) (events offers : ℕ) : Type 0 where
  pub apart : are_apart (shown (keyed rows)) ≡ true
  pub on : AreOn rows chains (keyed rows)
  pub wide : 0 < rows.spare + length (keyed rows) → AreWide chains
  pub events_are : events ≡ count is_event_row (shown (keyed rows))
  pub offers_are : offers ≡ count has_offer (shown (keyed rows))
