-- A process gets its debug port or its exception port.
use Rattle.std.specs.Prelude.{ℕ, List, Result}
use Rattle.lpc_base.specs.declared.status.Status.{Status}
use Rattle.lpc_model.specs.Basics.{Basic}
use Rattle.lpc_model.specs.Raise as model
use Rattle.lpc_model.specs.Raise.{class_test, set_port_steps}
use Rattle.lpc_model.specs.Tests.{live_test}
use Rattle.lpc_model.specs.Then.{◌>>=◌}
use Rattle.lpc_model.specs.World.{ThreadRow, World}
use Rattle.lpc_rows.specs.Clauses.{birth_at}
use Rattle.lpc_rows.specs.Kept.{Kept}
use Rattle.lpc_death.specs.declared.event_ports.Settable.{Settable}

-- why a process doesn't get the port of a class: it has ended, there is no such class, it has one
abbrev pub unset_test : World → ℕ → ℕ → Result Unit Status
unset_test w pid class = do
  _ ← live_test w pid
  _ ← class_test class
  model.unset_test w pid class

-- what the call does
abbrev pub setting : Kept → ThreadRow → ℕ → Settable → List Basic
setting w by class it = set_port_steps by class it.process (birth_at w it.port)
