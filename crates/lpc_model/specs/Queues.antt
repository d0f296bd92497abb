-- Queues as lists: a message enters at the end, and the first one is taken.
use Rattle.std.specs.Prelude.{◌≡◌, false, List, [], ◌∷◌, ◌++◌, Option, None, Some}
use Rattle.lpc_base.specs.Rows.{first, when}
use Rattle.lpc_model.specs.World.{Birth, MessageRow, World}
use Rattle.lpc_model.specs.Found.{is_queued, queued_on, same_birth, waiters_on}
use Rattle.lpc_model.specs.Basics.{Enters, Takes, basic}
use Rattle.lpc_model.specs.Entering.{takes}

-- the first of a list, and the others
abbrev pub head : {A : Type 0} → List A → Option A
head [] = None
head (x ∷ xs) = Some x

abbrev pub rest : {A : Type 0} → List A → List A
rest [] = []
rest (x ∷ xs) = xs

-- what a receive takes from a queue is the first of its messages, and the others stay in their order, as those of every
-- other queue do; what enters a queue is its last message from then on
pub record IsFirstInFirstOut (w : World) (queue : Birth) : Type 0 where
  pub oldest : first (is_queued queue) w.messages ≡ head (queued_on w queue)
  pub taken : queued_on (basic w (Takes queue)) queue ≡ rest (queued_on w queue)
  pub others : (other : Birth) → same_birth queue other ≡ false → queued_on (basic w (Takes queue)) other ≡ queued_on w other
  pub entered : (m : MessageRow) → queued_on (basic w (Enters m)) queue ≡ queued_on w queue ++ when (is_queued queue m) (m ∷ [])

abbrev pub QueuesAreFirstInFirstOut : Type 0
QueuesAreFirstInFirstOut = (w : World) (queue : Birth) → IsFirstInFirstOut w queue

-- a message that enters is taken by the first of its queue's waiters that takes it
abbrev pub FirstWaiterTakes : Type 0
FirstWaiterTakes = (w : World) (m : MessageRow) → first (takes m) w.waits ≡ first (takes m) (waiters_on w m.queue)
