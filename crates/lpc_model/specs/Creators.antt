-- Each client port has a connection port, and keeps a connect of the thread that made it.
use Rattle.std.specs.Prelude.{◌≡◌, ℕ, ◌==◌, ◌&&◌, ◌||◌, not, is_some, true, Bool, List}
use Rattle.std.specs.List.{AllByRecursion}
use Rattle.lpc_base.specs.Rows.{every, passes}
use Rattle.lpc_model.specs.World.{Birth, Creator, PortRow, World}
use Rattle.lpc_model.specs.Found.{is_client_port}
use Rattle.lpc_model.specs.Run.{run_of}

-- a connect of the thread that made the port
abbrev pub is_by : Birth → Creator → Bool
is_by b by = by.client.thread == b.maker

-- a client port has a connection port, and such a connect
abbrev pub keeps_connect : PortRow → Bool
keeps_connect p = not (is_client_port p) || (is_some p.connection && passes p.creator (is_by p.birth))

abbrev pub KeepsConnects : World → Type 0
KeepsConnects w = every keeps_connect w.ports ≡ true

-- so behind each line of a script
abbrev pub RunKeepsConnects : List ℕ → Type 0
RunKeepsConnects bytes = AllByRecursion (λ s. KeepsConnects s.world) (run_of bytes)
