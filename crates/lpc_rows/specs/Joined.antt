-- The ports of a connection.
use Rattle.std.specs.Prelude.{Bool}
use Rattle.lpc_model.specs.World.{PortRow}

-- a port whose connection is completed or not
abbrev pub with_completed : Bool → PortRow → PortRow
with_completed completed p = record p { completed = completed }
