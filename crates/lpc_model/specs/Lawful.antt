-- What each line of a script keeps of the world.
use Rattle.std.specs.Prelude.{ℕ, ◌≤◌}
use Rattle.lpc_base.specs.Rows.{count}
use Rattle.lpc_model.specs.World.{World}
use Rattle.lpc_model.specs.Found.{is_thread}
use Rattle.lpc_model.specs.Clients.{HasAllowingClients, HasClientEnds}
use Rattle.lpc_model.specs.Creators.{KeepsConnects}
use Rattle.lpc_model.specs.Deaths.{HasLivingRegistrations, HasSingleRegistrations}
use Rattle.lpc_model.specs.Left.{HasKeptPairs, HasLivingHandles, HasLivingPorts, HasLivingViews}
use Rattle.lpc_model.specs.Lines.{ScriptLine}
use Rattle.lpc_model.specs.Linked.{HasHeldRows, IsLinked}
use Rattle.lpc_model.specs.Machine.{step}
use Rattle.lpc_model.specs.OpenQueues.{HasOpenQueues}
use Rattle.lpc_model.specs.Settle.{IsSettled}
use Rattle.lpc_model.specs.SoundWaits.{IsSoundWorld}
use Rattle.lpc_model.specs.SoundViews.{HasSoundOffers, HasSoundViews}
use Rattle.lpc_model.specs.Standing.{NamesWhatStands}
use Rattle.lpc_model.specs.SingleClosings.{HasSingleClosings}

-- a thread number has one row at most
abbrev pub HasThreadsOnce : World → Type 0
HasThreadsOnce w = (n : ℕ) → count (is_thread n) w.threads ≤ 1

-- Waits are sound, ports are linked, some row counts for each object, queues are open, and what rows name stands. Of a
-- closed port that stays so one message at most tells that it is closed, and of an open one none does, and each client
-- port keeps the connect in whose name that message is. A thread has one row, an ended one has no registrations, and no
-- port is registered twice. Only living processes have handles, views and ports that are told of their exceptions, and of
-- the two ports of a connection one at least is open. Views lie in their sections, and apart from each other, and what
-- connects offer may be seen. No event is marked, and no process that is to end lives. A client
-- port allows its server something, and the other end of a server port is a client port.
pub record IsLawfulWorld (w : World) : Type 0 where
  pub sound : IsSoundWorld w
  pub linked : IsLinked w
  pub held : HasHeldRows w
  pub queues : HasOpenQueues w
  pub names : NamesWhatStands w
  pub single_closings : HasSingleClosings w
  pub creators : KeepsConnects w
  pub threads : HasThreadsOnce w
  pub registrations : HasLivingRegistrations w
  pub single : HasSingleRegistrations w
  pub living : HasLivingHandles w
  pub views : HasLivingViews w
  pub sound_views : HasSoundViews w
  pub sound_offers : HasSoundOffers w
  pub pairs : HasKeptPairs w
  pub clients : HasAllowingClients w
  pub ends : HasClientEnds w
  pub ports : HasLivingPorts w
  pub settled : IsSettled w

-- the step of each line keeps that
abbrev pub StepsKeepLaws : Type 0
StepsKeepLaws = (w : World) (line : ScriptLine) → IsLawfulWorld w → IsLawfulWorld (step w line).world
