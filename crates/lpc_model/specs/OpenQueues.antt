-- Open queues: messages stand in queues of open ports alone, and what waits to be received waits there.
use Rattle.std.specs.Prelude.{◌≡◌, ℕ, ◌||◌, true, List}
use Rattle.std.specs.List.{AllByRecursion}
use Rattle.lpc_base.specs.Rows.{every}
use Rattle.lpc_model.specs.World.{World}
use Rattle.lpc_model.specs.Found.{is_open, is_taken}
use Rattle.lpc_model.specs.Run.{run_of}

-- the queue of each message is that of an open port, and so is that of each wait that isn't received; a connect that is
-- accepted was received
pub record HasOpenQueues (w : World) : Type 0 where
  pub messages : every (λ m. is_open w m.queue) w.messages ≡ true
  pub waits : every (λ x. x.received || is_open w x.queue) w.waits ≡ true
  pub accepts : every is_taken w.waits ≡ true

-- each line of a script leaves a world whose queues are open
abbrev pub RunKeepsQueuesOpen : List ℕ → Type 0
RunKeepsQueuesOpen bytes = AllByRecursion (λ s. HasOpenQueues s.world) (run_of bytes)
