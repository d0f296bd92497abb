use Rattle.std.proofs.Common.{◌≡◌, ◌+◌, ◌≤◌, true, length}
use Rattle.lpc_base.specs.Rows.{has}
use Rattle.lpc_model.specs.Found.{handles_of, is_table}
use Rattle.lpc_rows.specs.Does.{left_by}
use Rattle.lpc_closing.specs.Closing.{CanCloseAll}
use Rattle.lpc_closing.specs.Process.{closing_all}
use Rattle.lpc_model.specs.Death.{end_process}
use Rattle.lpc_rows.specs.Capacity.{but_names}
use Rattle.lpc_closing.proofs.process.end_process.Given as goal

-- the handles that are left to be closed leave what all leave, and there is a wait less for each entry
abbrev pub invariant-loop-value : goal.invariant-loop-value
invariant-loop-value l = record {
  table : has (is_table l.pid) l.world.rows.handles ≡ true;
  can : CanCloseAll l.world.rows;
  leaves : left_by l.world.rows l.out.list l.world.loose (closing_all l.pid l.world.rows)
      ≡ left_by l.fn.world.rows l.fn.out.list l.fn.world.loose (end_process l.pid l.fn.world.rows);
  calls : l.world.calls ≡ l.fn.world.calls;
  capacity : but_names l.world.capacity ≡ but_names l.fn.world.capacity;
  made : l.world.made ≤ l.fn.world.made;
  spare : l.out.spare + length l.fn.world.rows.waits ≡ l.fn.out.spare + length l.world.rows.waits;
}

abbrev pub decreases-loop-value : goal.decreases-loop-value
decreases-loop-value l = length (handles_of l.world.rows l.pid)
