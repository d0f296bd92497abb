use Rattle.std.proofs.Common.{◌≡◌, ◌+◌, ◌≤◌, length}
use Rattle.lpc_model.specs.Deaths.{HasSingleRegistrations}
use Rattle.lpc_rows.specs.Does.{left_by}
use Rattle.lpc_rows.specs.Registered.{untold_of}
use Rattle.lpc_death.specs.Dying.{telling_all}
use Rattle.lpc_death.proofs.tell.tell_all.Given as goal

-- the registrations that are left to be told of leave what all leave, and there is a wait less for each entry
abbrev pub invariant-loop-death : goal.invariant-loop-death
invariant-loop-death l = record {
  single : HasSingleRegistrations l.world.rows;
  leaves : left_by l.world.rows l.out.list l.world.loose (telling_all l.pid l.world.rows)
      ≡ left_by l.fn.world.rows l.fn.out.list l.fn.world.loose (telling_all l.pid l.fn.world.rows);
  births : l.world.births ≡ l.fn.world.births;
  calls : l.world.calls ≡ l.fn.world.calls;
  capacity : l.world.capacity ≡ l.fn.world.capacity;
  made : l.world.made ≤ l.fn.world.made;
  spare : l.out.spare + length l.fn.world.rows.waits ≡ l.fn.out.spare + length l.world.rows.waits;
}

abbrev pub decreases-loop-death : goal.decreases-loop-death
decreases-loop-death l = length (untold_of l.world.rows l.pid)
