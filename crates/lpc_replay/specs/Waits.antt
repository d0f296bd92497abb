-- A wait ends only as its thread is told: the thread wakes, or it has ended.
use Rattle.std.specs.Prelude.{◌≡◌, ℕ, ◌==◌, Bool, true, false}
use Rattle.lpc_base.specs.Rows.{has}
use Rattle.lpc_model.specs.declared.entry.Entry.{Entry}
use Rattle.lpc_model.specs.declared.entry.Entry.TheVariants.{Died, Wakes}
use Rattle.lpc_model.specs.World.{World}
use Rattle.lpc_model.specs.Found.{waits_as}
use Rattle.lpc_model.specs.Lines.{ScriptLine}
use Rattle.lpc_model.specs.Machine.{step}

-- an entry tells that a thread waits no longer: it wakes, or it has ended
abbrev pub tells_end : ℕ → Entry → Bool
tells_end tid (Wakes who call status fields) = who == tid
tells_end tid (Died who status) = who == tid
tells_end tid entry = false

-- each thread that waits before a line and doesn't behind it is told so by that line
abbrev pub WaitsEndAsTold : World → ScriptLine → Type 0
WaitsEndAsTold w line =
    (tid : ℕ) → has (waits_as tid) w.waits ≡ true → has (waits_as tid) (step w line).world.waits ≡ false →
    has (tells_end tid) (step w line).entries ≡ true
