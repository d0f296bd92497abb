-- What stands in queues of closings: of each closed port one message tells at most, and of an open port none does.
use Rattle.std.specs.Prelude.{◌≡◌, ℕ, ◌≤◌, ◌&&◌, ◌||◌, not, Bool, true, List}
use Rattle.std.specs.List.{AllByRecursion}
use Rattle.lpc_base.specs.Rows.{count, every, has}
use Rattle.lpc_model.specs.World.{Birth, MessageRow, World}
use Rattle.lpc_model.specs.Found.{is_open, is_sent_on}
use Rattle.lpc_model.specs.Run.{run_of}
use Rattle.lpc_model.specs.Closings.{is_closed_post}
use Rattle.lpc_model.specs.SoundWaits.{HasShutConnects, is_connect_on}

-- a message tells that this port is closed
abbrev pub is_closing_of : Birth → MessageRow → Bool
is_closing_of b m = is_sent_on b m && is_closed_post m

-- a port isn't open, and stays so: no connect waits on it whose completion would give a handle to it
abbrev pub is_shut : World → Birth → Bool
is_shut w b = not (is_open w b) && not (has (is_connect_on b) w.waits)

-- each message that tells of a closed port names one that isn't open and stays so, and no other tells of that port; a
-- connect waits on a port that isn't open yet
pub record HasSingleClosings (w : World) : Type 0 where
  pub closed : every (λ m. not (is_closed_post m) || is_shut w m.sender) w.messages ≡ true
  pub once : (b : Birth) → count (is_closing_of b) w.messages ≤ 1
  pub connects : HasShutConnects w

-- each line of a script leaves such a world
abbrev pub RunHasSingleClosings : List ℕ → Type 0
RunHasSingleClosings bytes = AllByRecursion (λ s. HasSingleClosings s.world) (run_of bytes)
