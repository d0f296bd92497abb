-- When the rows that no row counts for can go, and what goes ahead of the sweep.
use Rattle.std.specs.Prelude.{◌≡◌, ◌≤◌, not, true}
use Rattle.lpc_base.specs.Rows.{every}
use Rattle.lpc_model.specs.Basics.{world_after}
use Rattle.lpc_model.specs.Deaths.{HasLivingRegistrations}
use Rattle.lpc_model.specs.Found.{process_name, thread_name}
use Rattle.lpc_model.specs.Left.{HasLivingPorts}
use Rattle.lpc_model.specs.Linked.{HasHeldSections, HasHeldTokens, IsLinked}
use Rattle.lpc_model.specs.OpenQueues.{HasOpenQueues}
use Rattle.lpc_model.specs.SoundWaits.{IsSoundWorld}
use Rattle.lpc_model.specs.Standing.{NamesWhatStands}
use Rattle.lpc_model.specs.Sweep.{is_unheld, sweep}
use Rattle.lpc_model.specs.World.{World}
use Rattle.lpc_rows.specs.Capacity.{but_lives}
use Rattle.lpc_rows.specs.Kept.{GainsNoLives, Kept, Roomy}

-- some row counts for each thread
abbrev pub HasHeldThreads : World → Type 0
HasHeldThreads w = every (λ t. not (is_unheld w (thread_name t.birth))) w.threads ≡ true

-- some row counts for each process
abbrev pub HasHeldProcesses : World → Type 0
HasHeldProcesses w = every (λ p. not (is_unheld w (process_name p.birth))) w.processes ≡ true

-- what the lines keep, so that each object that no row counts for can go
pub record CanSweep (w : World) : Type 0 where
  pub sound : IsSoundWorld w
  pub linked : IsLinked w
  pub queues : HasOpenQueues w
  pub standing : NamesWhatStands w
  pub registrations : HasLivingRegistrations w
  pub ports : HasLivingPorts w

-- Rows went ahead that the sweep takes away: it can still be done, and leaves the same world. Where some row counted for
-- each section or each token, one still does. Their room is spare, and no memory was asked for.
pub record SweepsAhead (old new : Kept) : Type 0 where
  pub can : CanSweep new.rows
  pub leaves : world_after new.rows (sweep new.rows) ≡ world_after old.rows (sweep old.rows)
  pub sections : HasHeldSections old.rows → HasHeldSections new.rows
  pub tokens : HasHeldTokens old.rows → HasHeldTokens new.rows
  pub calls : new.calls ≡ old.calls
  pub made : new.made ≤ old.made
  pub room : Roomy old.room new.room
  pub capacity : but_lives new.capacity ≡ but_lives old.capacity
  pub lives : GainsNoLives old new
