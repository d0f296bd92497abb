-- How many ports name each port, as the rows of ports store it. No public clause cites this module.
use Rattle.std.specs.Prelude.{◌≡◌, ◌+◌, ◌-◌, ℕ, Bool, true, Option, option_map}
use Rattle.lpc_base.specs.Rows.{count}
use Rattle.lpc_slots.specs.declared.Key.{Key}
use Rattle.lpc_slots.specs.Table.{Table, at}
use Rattle.lpc_ports.specs.declared.rows.PortRow.{PortRow}
use Rattle.lpc_ports.specs.Layout.{connected_at, paired_at, ports_of}
use Rattle.lpc_ports.specs.Table.{is_connected_to, is_paired_to, is_the}
use Rattle.lpc_ports.specs.Totals.{one_if}

-- what a change makes of a number of each port: it stays, or one more or one less names the port that is told
module _ (number : Table PortRow → Key → ℕ) (old new : Table PortRow) where
  abbrev pub KeepsNumber : Type 0
  KeepsNumber = (port : Key) → number new port ≡ number old port

  abbrev pub GainsOne : Option Key → Type 0
  GainsOne named = (port : Key) → number new port ≡ number old port + one_if (is_the port named)

  abbrev pub LosesOne : Option Key → Type 0
  LosesOne named = (port : Key) → number new port ≡ number old port - one_if (is_the port named)

-- a row but for how many ports name its port
abbrev pub unnamed : PortRow → PortRow
unnamed row = record row { paired = 0; connected = 0 }

-- nothing changes but how many ports name each
pub record KeepsRows (old new : Table PortRow) : Type 0 where
  pub rows : (key : Key) → option_map unnamed (at new key) ≡ option_map unnamed (at old key)
  pub spare : new.spare ≡ old.spare
  pub made : new.made ≡ old.made

-- where the numbers are whole, they are those of the ports that name each port
pub record AreNames (ports : Table PortRow) (whole : Bool) : Type 0 where
  pub paired : whole ≡ true → (port : Key) → paired_at ports port ≡ count (is_paired_to port) (ports_of ports)
  pub connected : whole ≡ true → (port : Key) → connected_at ports port ≡ count (is_connected_to port) (ports_of ports)
