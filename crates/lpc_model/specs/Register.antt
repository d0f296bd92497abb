-- NtRegisterThreadTerminatePort: a thread names a port that is to be told of its end.
use Rattle.std.specs.Prelude.{ℕ, Bool, List, [], ◌∷◌, ◌&&◌, length, nat_le, not, Result, Ok}
use Rattle.lpc_base.specs.Rows.{has, when}
use Rattle.lpc_base.specs.declared.limits.TheConstants.{REGISTRATION_LIMIT}
use Rattle.lpc_base.specs.declared.status.Status.{Status}
use Rattle.lpc_base.specs.declared.status.TheConstants.{QUOTA_EXCEEDED, SUCCESS}
use Rattle.lpc_model.specs.declared.entry.CallName.TheVariants.{NtRegisterThreadTerminatePort}
use Rattle.lpc_model.specs.declared.entry.Entry.TheVariants.{Answer}
use Rattle.lpc_model.specs.Refusal.{refuse_if}
use Rattle.lpc_model.specs.Then.{◌>>=◌}
use Rattle.lpc_model.specs.World.{Birth, ThreadRow, World}
use Rattle.lpc_model.specs.Found.{same_birth}
use Rattle.lpc_model.specs.Basics.{Basic, Registers, Tells}
use Rattle.lpc_model.specs.Tests.{port_test}

-- the port is registered with the thread
abbrev pub is_registered : Birth → ThreadRow → Bool
is_registered b t = has (same_birth b) t.registrations

-- a further port, where 16 are registered, be they open or closed
abbrev pub registration_test : ThreadRow → Birth → Result Unit Status
registration_test by b =
    refuse_if (not (is_registered b by) && nat_le REGISTRATION_LIMIT (length by.registrations)) QUOTA_EXCEEDED

-- the port is registered behind the others, where it isn't registered already
abbrev pub register_steps : ThreadRow → Birth → List Basic
register_steps by b =
    Tells (Answer by.number NtRegisterThreadTerminatePort SUCCESS [])
    ∷ when (not (is_registered b by)) (Registers by.number b ∷ [])

-- NtRegisterThreadTerminatePort: the handle, too many ports
unfoldable pub nt_register_thread_terminate_port : World → ThreadRow → ℕ → Result (List Basic) Status
nt_register_thread_terminate_port w by handle = do
  port ← port_test w by handle
  _ ← registration_test by port.birth
  Ok (register_steps by port.birth)
