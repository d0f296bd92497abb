-- The world between two lines, and what the step of each line keeps of it.
use Rattle.lpc_model.specs.World.{World}
use Rattle.lpc_model.specs.Lawful.{HasThreadsOnce}
use Rattle.lpc_model.specs.Left.{HasLivingHandles, HasLivingPorts, HasLivingViews}
use Rattle.lpc_model.specs.Lines.{ScriptLine}
use Rattle.lpc_model.specs.Linked.{HasHeldRows, IsLinked}
use Rattle.lpc_model.specs.Machine.{step}
use Rattle.lpc_model.specs.OpenQueues.{HasOpenQueues}
use Rattle.lpc_model.specs.Settle.{IsSettled}
use Rattle.lpc_model.specs.SingleClosings.{HasSingleClosings}
use Rattle.lpc_model.specs.SoundViews.{HasSoundOffers, HasSoundViews}
use Rattle.lpc_model.specs.SoundWaits.{IsSoundWorld}
use Rattle.lpc_model.specs.Standing.{NamesWhatStands}

-- The world is at rest: waits are sound, what rows name stands, of each closed port that stays so one message at most
-- tells, and nothing is left to settle. That is what a line needs for its settling to come to its end.
pub record IsAtRest (w : World) : Type 0 where
  pub sound : IsSoundWorld w
  pub names : NamesWhatStands w
  pub single_closings : HasSingleClosings w
  pub settled : IsSettled w

-- a thread number has one row, and living processes alone have handles, views and ports that are told of exceptions
pub record IsLived (w : World) : Type 0 where
  pub threads : HasThreadsOnce w
  pub handles : HasLivingHandles w
  pub views : HasLivingViews w
  pub ports : HasLivingPorts w

-- the step of each line keeps sound what is at rest, and leaves no marked event, and no live process that is to end
abbrev pub StepsStaySound : Type 0
StepsStaySound = (w : World) (line : ScriptLine) → IsAtRest w → IsSoundWorld (step w line).world

abbrev pub StepsSettle : Type 0
StepsSettle = (w : World) (line : ScriptLine) → IsAtRest w → IsSettled (step w line).world

-- it keeps ports linked, and leaves no row of an object that no row counts for, where living processes alone have what
-- counts for others
abbrev pub StepsHoldRows : Type 0
StepsHoldRows =
    (w : World) (line : ScriptLine) → IsAtRest w → IsLinked w → IsLived w →
    IsLinked (step w line).world × HasHeldRows (step w line).world

-- what rows name stands behind it, where ports are linked, and what connects offer may be seen
abbrev pub StepsNameWhatStands : Type 0
StepsNameWhatStands =
    (w : World) (line : ScriptLine) → IsAtRest w → IsLinked w → HasSoundOffers w → NamesWhatStands (step w line).world

-- queues are open behind it, where ports are linked
abbrev pub StepsKeepQueuesOpen : Type 0
StepsKeepQueuesOpen =
    (w : World) (line : ScriptLine) → IsAtRest w → IsLinked w → HasOpenQueues w → HasOpenQueues (step w line).world

-- of each closed port one message at most tells behind it
abbrev pub StepsKeepSingleClosings : Type 0
StepsKeepSingleClosings = (w : World) (line : ScriptLine) → IsAtRest w → HasSingleClosings (step w line).world

-- views lie in their sections and apart behind it, and what connects offer may be seen
abbrev pub StepsKeepViews : Type 0
StepsKeepViews =
    (w : World) (line : ScriptLine) → IsAtRest w → HasSoundOffers w → HasSoundViews w → HasSoundViews (step w line).world

abbrev pub StepsKeepOffers : Type 0
StepsKeepOffers =
    (w : World) (line : ScriptLine) → IsAtRest w → HasSoundViews w → HasSoundOffers w → HasSoundOffers (step w line).world
