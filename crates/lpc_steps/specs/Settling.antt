-- What settling behind a call needs of the room for entries and of the counters.
use Rattle.std.specs.Prelude.{◌+◌, ◌≤◌, length}
use Rattle.lpc_base.specs.Rows.{count}
use Rattle.lpc_model.specs.Listed.{Listed}
use Rattle.lpc_rows.specs.Kept.{CanMake, Kept, is_alive}

-- there is room for an entry of each live thread and of each wait, and one more row or number may be made
pub record CanSettle (w : Kept) (out : Listed) : Type 0 where
  pub spare : count is_alive w.rows.threads + length w.rows.waits ≤ out.spare
  pub budget : CanMake w
