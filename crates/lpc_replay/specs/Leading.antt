-- What the handles of a world lead to: where a handle passes its tests, what it names has a row.
use Rattle.std.specs.Prelude.{◌≡◌, ℕ, List, Result, Err}
use Rattle.lpc_base.specs.declared.status.Status.{Status}
use Rattle.lpc_model.specs.declared.entry.ObjectKind.TheVariants as kind
use Rattle.lpc_model.specs.declared.line.ProcArg.TheVariants.{By}
use Rattle.lpc_model.specs.Impersonation.{TOKEN_RIGHT, token_test}
use Rattle.lpc_model.specs.Memory.{section_test}
use Rattle.lpc_model.specs.Targets.{LIFE_RIGHT, process_target, thread_target}
use Rattle.lpc_model.specs.Tests.{PORT_RIGHT, object_test, port_test}
use Rattle.lpc_model.specs.World.{ThreadRow, World}

-- each refusal of a test is one of another
abbrev pub RefusesAlike : {A B : Type 0} → Result A Status → Result B Status → Type 0
RefusesAlike test other = (s : Status) → test ≡ Err s → other ≡ Err s

-- A handle that names a port, a thread, a process, a token or a section, and grants the right, leads to a row: so the answer
-- for a row that is missing never comes.
pub record LeadsToRows (w : World) : Type 0 where
  pub ports : (by : ThreadRow) (handle : ℕ) → RefusesAlike (port_test w by handle) (object_test w by kind.Port PORT_RIGHT handle)
  pub threads : (by : ThreadRow) (handle : ℕ) → RefusesAlike (thread_target w by (By handle)) (object_test w by kind.Thread LIFE_RIGHT handle)
  pub processes : (by : ThreadRow) (handle : ℕ) → RefusesAlike (process_target w by (By handle)) (object_test w by kind.Process LIFE_RIGHT handle)
  pub tokens : (by : ThreadRow) (handle : ℕ) → RefusesAlike (token_test w by handle) (object_test w by kind.Token TOKEN_RIGHT handle)
  pub sections : (by : ThreadRow) (rights handle : ℕ) → RefusesAlike (section_test w by rights handle) (object_test w by kind.Section rights handle)
