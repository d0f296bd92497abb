-- What NtCreatePort tells is right.
use Rattle.std.proofs.Common.{List, ℕ}
use Rattle.std.specs.Prelude.{None, Option, Some}
use Rattle.lpc_base.specs.declared.birth.Birth.{Birth}
use Rattle.lpc_model.specs.Connect.{create_steps, guard_steps, making, nt_create_port}
use Rattle.lpc_model.specs.Found.{free_handle}
use Rattle.lpc_model.specs.Lines.{ScriptLine}
use Rattle.lpc_model.specs.Named.{free_name}
use Rattle.lpc_model.specs.Tests.{handles_test, next_birth}
use Rattle.lpc_model.specs.World.{Dacl, ThreadRow, World}
use Rattle.lpc_model.proofs.Calls.Holding.{Holds, bind_holds, holds_ok}
use Rattle.lpc_replay.proofs.Fair.{AreFair, IsFair}
use Rattle.lpc_replay.proofs.Holding.{all_append}

making_fair : (w : World) (line : ScriptLine) (port : Birth) (name : Option (List ℕ)) → Holds (AreFair w line) (making w port name)
making_fair w line port None = (tt, tt)
making_fair w line port (Some text) = bind_holds (free_name w text) _ (AreFair w line) (λ _ _. (tt, (tt, tt)))

-- its access list tells nothing
guard_fair : (w : World) (line : ScriptLine) (port : Birth) (name : Option (List ℕ)) (dacl : Option Dacl) → AreFair w line (guard_steps port name dacl)
guard_fair w line port None dacl = tt
guard_fair w line port (Some text) None = tt
guard_fair w line port (Some text) (Some list) = (tt, tt)

pub create_fair : (w : World) (line : ScriptLine) (by : ThreadRow) (name : Option (List ℕ)) (dacl : Option Dacl) → Holds (AreFair w line) (nt_create_port w by name dacl)
unfolding nt_create_port
create_fair w line by name dacl =
    bind_holds (making w (next_birth by) name) _ (AreFair w line) (λ made at. bind_holds (handles_test w by.process 1) _ (AreFair w line) (λ _ _.
    let fair = holds_ok (AreFair w line) (making w (next_birth by) name) made (making_fair w line (next_birth by) name) at in
    let created : AreFair w line (create_steps by made (free_handle w by.process)) = ((tt, tt), (tt, all_append (IsFair w line) made _ fair (tt, tt))) in
    all_append (IsFair w line) (create_steps by made (free_handle w by.process)) (guard_steps (next_birth by) name dacl) created (guard_fair w line (next_birth by) name dacl)))
