-- Whether a thread can make a call.
use Rattle.std.specs.Prelude.{ℕ, Bool, true, false, Option, Some, None, is_some}
use Rattle.lpc_model.specs.Found.{live_thread, wait_of}
use Rattle.lpc_model.specs.World.{ThreadRow, World}
use Rattle.lpc_machine.specs.declared.reading.Condition.{Condition}
use Rattle.lpc_machine.specs.declared.reading.Condition.TheVariants.{Absent, Ready, Waits}

-- a thread that lives and doesn't wait can make a call
abbrev pub condition_by : Option ThreadRow → Bool → Condition
condition_by None waits = Absent
condition_by (Some t) false = Ready
condition_by (Some t) true = Waits

abbrev pub condition_of : World → ℕ → Condition
condition_of w tid = condition_by (live_thread w tid) (is_some (wait_of w tid))
