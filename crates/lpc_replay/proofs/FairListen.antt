-- What NtListenPort tells is right.
use Rattle.std.proofs.Common.{refl, ℕ}
use Rattle.std.specs.Prelude.{None, Option, Some, not}
use Rattle.lpc_base.specs.Rows.{first}
use Rattle.lpc_base.specs.declared.birth.Birth.{Birth}
use Rattle.lpc_base.specs.declared.status.TheConstants.{INVALID_PORT_HANDLE}
use Rattle.lpc_model.specs.Connect.{listen_steps, nt_listen_port}
use Rattle.lpc_model.specs.Found.{is_connection_port, is_queued_connect}
use Rattle.lpc_model.specs.Lines.{ScriptLine}
use Rattle.lpc_model.specs.Refusal.{refuse_if}
use Rattle.lpc_model.specs.Tests.{port_test}
use Rattle.lpc_model.specs.World.{MessageRow, ThreadRow, World}
use Rattle.lpc_model.proofs.Calls.Holding.{Holds, bind_holds}
use Rattle.lpc_replay.proofs.Fair.{AreFair, take_connect_fair}

-- a listen that is made wakes none
taken_fair : (w : World) (line : ScriptLine) (by : ThreadRow) (port : Birth) (o : Option MessageRow) → AreFair w line (listen_steps by port o)
taken_fair w line by port None = ((tt, tt), (refl, tt))
taken_fair w line by port (Some m) = ((tt, tt), take_connect_fair w line m)

pub listen_fair : (w : World) (line : ScriptLine) (by : ThreadRow) (handle : ℕ) → Holds (AreFair w line) (nt_listen_port w by handle)
unfolding nt_listen_port
listen_fair w line by handle =
    let P = AreFair w line in
    bind_holds (port_test w by handle) _ P (λ port _.
    bind_holds (refuse_if (not (is_connection_port port)) INVALID_PORT_HANDLE) _ P (λ _ _.
    taken_fair w line by port.birth (first (is_queued_connect port.birth) w.messages)))
