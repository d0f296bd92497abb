-- How the ports stand where one is closed.
use Rattle.std.specs.Prelude.{◌≡◌, true}
use Rattle.lpc_base.specs.Rows.{every}
use Rattle.lpc_model.specs.World.{World}
use Rattle.lpc_model.specs.Linked.{is_mutual}

-- each port's other end stands, and has the port as its own other end
abbrev pub HasMutualPairs : World → Type 0
HasMutualPairs w = every (is_mutual w) w.ports ≡ true
