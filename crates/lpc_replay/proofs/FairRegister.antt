-- What NtRegisterThreadTerminatePort tells is right.
use Rattle.std.proofs.Common.{[], not, ℕ, ◌∷◌}
use Rattle.lpc_model.specs.Basics.{Registers}
use Rattle.lpc_model.specs.Lines.{ScriptLine}
use Rattle.lpc_model.specs.Register.{is_registered, nt_register_thread_terminate_port, registration_test}
use Rattle.lpc_model.specs.Tests.{port_test}
use Rattle.lpc_model.specs.World.{ThreadRow, World}
use Rattle.lpc_model.proofs.Calls.Holding.{Holds, bind_holds}
use Rattle.lpc_replay.proofs.Fair.{AreFair, when_fair}

pub register_fair : (w : World) (line : ScriptLine) (by : ThreadRow) (handle : ℕ) → Holds (AreFair w line) (nt_register_thread_terminate_port w by handle)
unfolding nt_register_thread_terminate_port
register_fair w line by handle =
    bind_holds (port_test w by handle) _ (AreFair w line) (λ port _.
    bind_holds (registration_test by port.birth) _ (AreFair w line) (λ _ _. ((tt, tt), when_fair w line (not (is_registered port.birth by)) (Registers by.number port.birth ∷ []) (tt, tt))))
