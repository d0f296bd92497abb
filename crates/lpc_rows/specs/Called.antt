-- What a thread's call is to do, or why it is refused; that it was served, or found no memory.
use Rattle.std.specs.Prelude.{◌≡◌, ℕ, ◌+◌, List, Result, Ok, Err, IsOk}
use Rattle.lpc_base.specs.declared.error.OutOfMemory.{OutOfMemory}
use Rattle.lpc_base.specs.declared.status.Status.{Status}
use Rattle.lpc_model.specs.declared.entry.Outcome.{Outcome}
use Rattle.lpc_model.specs.Basics.{Basic, outcome_of}
use Rattle.lpc_model.specs.Lines.{ScriptCall}
use Rattle.lpc_model.specs.Listed.{Listed}
use Rattle.lpc_model.specs.Machine.{call_steps, service_of}
use Rattle.lpc_model.specs.World.{World}
use Rattle.lpc_rows.specs.Does.{Took}
use Rattle.lpc_rows.specs.Kept.{Kept, Same}
use Rattle.lpc_rows.specs.Ready.{caller}

-- what a thread's call is to do, or why it is refused
abbrev pub service : World → ℕ → ScriptCall → Result (List Basic) Status
service w tid call = service_of w (caller w tid) call

-- the steps of a thread's call, or of its refusal
abbrev pub called : World → ℕ → ScriptCall → List Basic
called w tid call = call_steps (caller w tid) call w

-- a thread's call was served: the steps of its definition were taken, or those of its refusal; it ended as they tell; and it
-- is counted
pub record Served (by : ℕ) (call : ScriptCall) (result : Outcome) (old new : Kept) (before after : Listed) : Type 0 where
  pub takes : Took (called old.rows by call) old new before after
  pub outcome : result ≡ outcome_of (called old.rows by call)
  pub calls : new.calls ≡ old.calls + 1

-- a call that isn't refused found no memory: nothing has changed but the room, and nothing was told
pub record WantsMemory (by : ℕ) (call : ScriptCall) (old new : Kept) (before after : Listed) : Type 0 where
  pub late : IsOk (service old.rows by call)
  pub memory : Same old new
  pub silent : after ≡ before

-- a call that may take memory was served, or found none
abbrev pub MayServe : ℕ → ScriptCall → Result Outcome OutOfMemory → Kept → Kept → Listed → Listed → Type 0
MayServe by call (Ok outcome) old new before after = Served by call outcome old new before after
MayServe by call (Err e) old new before after = WantsMemory by call old new before after
