-- Connection requests have no context: where one stands in a queue, and where one is posted, its context is 0.
use Rattle.std.specs.Prelude.{◌≡◌, ℕ, ◌==◌, ◌||◌, not, Bool, true, List}
use Rattle.std.specs.List.{AllByRecursion}
use Rattle.lpc_base.specs.Rows.{every}
use Rattle.lpc_model.specs.World.{MessageRow, World}
use Rattle.lpc_model.specs.Message.{is_connection_request}
use Rattle.lpc_model.specs.Machine.{Stepped}
use Rattle.lpc_model.specs.Run.{run_of}

-- no connection request, or one with context 0
abbrev pub is_plain_connect : MessageRow → Bool
is_plain_connect m = not (is_connection_request m.message) || (m.context == 0)

-- so is each message in a queue
abbrev pub HasPlainConnects : World → Type 0
HasPlainConnects w = every is_plain_connect w.messages ≡ true

-- and so is each that a step posts
pub record IsPlainStep (s : Stepped) : Type 0 where
  pub queued : HasPlainConnects s.world
  pub posted : every is_plain_connect s.posts ≡ true

-- each line of a script takes such a step
abbrev pub RunHasPlainConnects : List ℕ → Type 0
RunHasPlainConnects bytes = AllByRecursion IsPlainStep (run_of bytes)
