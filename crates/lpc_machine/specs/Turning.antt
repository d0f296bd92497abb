-- The world behind a line's own steps, and at each turn of its settling.
use Rattle.lpc_model.specs.Deaths.{HasLivingRegistrations, HasSingleRegistrations}
use Rattle.lpc_model.specs.Lawful.{HasThreadsOnce}
use Rattle.lpc_model.specs.Linked.{IsLinked}
use Rattle.lpc_model.specs.Settle.{HasMarkedEvents, turn}
use Rattle.lpc_model.specs.SingleClosings.{HasSingleClosings}
use Rattle.lpc_model.specs.SoundWaits.{IsSoundWorld}
use Rattle.lpc_model.specs.World.{World}
use Rattle.lpc_model.specs.Basics.{Steps}
use Rattle.lpc_model.specs.Listed.{Listed}
use Rattle.std.specs.Prelude.{◌≡◌, is_some, true}
use Rattle.lpc_rows.specs.Kept.{Kept}
use Rattle.lpc_steps.specs.Settling.{CanSettle}
use Rattle.lpc_except.specs.Turns.{marked_turn}
use Rattle.lpc_death.specs.Ends.{doomed_turn}
use Rattle.lpc_machine.specs.declared.settling.Turn.{Turn}
use Rattle.lpc_machine.specs.declared.settling.Turn.TheVariants.{Ends, Goes}

-- what a line's own steps leave, and each turn keeps, so that the next can be taken: waits are sound, ports linked, of no open
-- port a message tells that it is closed, a thread has one row, registrations are of live threads alone and each but once,
-- and each mark is of a thread that waits for what is made of an event
pub record IsTurning (w : World) : Type 0 where
  pub sound : IsSoundWorld w
  pub linked : IsLinked w
  pub single_closings : HasSingleClosings w
  pub threads : HasThreadsOnce w
  pub registrations : HasLivingRegistrations w
  pub single : HasSingleRegistrations w
  pub marked : HasMarkedEvents w

-- what a turn does
abbrev pub steps_of : Turn → Steps
steps_of Goes = marked_turn
steps_of Ends = doomed_turn

-- where something is due, there is room for it
abbrev pub MaySettle : Kept → Listed → Type 0
MaySettle w out = is_some (turn w.rows) ≡ true → CanSettle w out
