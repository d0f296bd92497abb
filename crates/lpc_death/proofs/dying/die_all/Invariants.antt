use Rattle.std.proofs.Common.{◌≡◌, ◌+◌, ◌≤◌, length}
use Rattle.lpc_model.specs.Found.{live_threads}
use Rattle.lpc_rows.specs.Closing.{HasMutualPairs}
use Rattle.lpc_rows.specs.Does.{left_by}
use Rattle.lpc_death.specs.Dying.{dying_all, ending_entries}
use Rattle.lpc_model.specs.Lawful.{HasThreadsOnce}
use Rattle.lpc_death.proofs.dying.die_all.Given as goal

-- the live threads that are left leave what all leave
abbrev pub invariant-loop-tid : goal.invariant-loop-tid
invariant-loop-tid l = record {
  once : HasThreadsOnce l.world.rows;
  pairs : HasMutualPairs l.world.rows;
  leaves : left_by l.world.rows l.out.list l.world.loose (dying_all l.code l.pid l.world.rows)
      ≡ left_by l.fn.world.rows l.fn.out.list l.fn.world.loose (dying_all l.code l.pid l.fn.world.rows);
  births : l.world.births ≡ l.fn.world.births;
  calls : l.world.calls ≡ l.fn.world.calls;
  capacity : l.world.capacity ≡ l.fn.world.capacity;
  made : l.world.made ≤ l.fn.world.made;
  spare : l.fn.out.spare + ending_entries l.world.rows ≤ l.out.spare + ending_entries l.fn.world.rows;
}

abbrev pub decreases-loop-tid : goal.decreases-loop-tid
decreases-loop-tid l = length (live_threads l.world.rows l.pid)
