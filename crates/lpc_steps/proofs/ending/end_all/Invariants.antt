use Rattle.std.proofs.Common.{◌≡◌, ◌≤◌, ◌+◌, true, length}
use Rattle.lpc_rows.specs.Closing.{HasMutualPairs}
use Rattle.lpc_steps.specs.Closing.{end_all}
use Rattle.lpc_rows.specs.Does.{left_by}
use Rattle.lpc_rows.specs.Names.{name_of, stands}
use Rattle.lpc_steps.proofs.ending.end_all.Given as goal

-- the waits that are left to end leave what all leave, and there is a wait less for each entry
abbrev pub invariant-loop-tid : goal.invariant-loop-tid
invariant-loop-tid l = record {
  port : stands l.world.births.ports l.port ≡ true;
  pairs : HasMutualPairs l.world.rows;
  leaves : left_by l.world.rows l.out.list l.world.loose (end_all l.ending (name_of l.fn.world.births.ports l.port) l.world.rows)
      ≡ left_by l.fn.world.rows l.fn.out.list l.fn.world.loose (end_all l.ending (name_of l.fn.world.births.ports l.port) l.fn.world.rows);
  ports : l.world.rows.ports ≡ l.fn.world.rows.ports;
  handles : l.world.rows.handles ≡ l.fn.world.rows.handles;
  births : l.world.births ≡ l.fn.world.births;
  calls : l.world.calls ≡ l.fn.world.calls;
  capacity : l.world.capacity ≡ l.fn.world.capacity;
  made : l.world.made ≤ l.fn.world.made;
  spare : l.out.spare + length l.fn.world.rows.waits ≡ l.fn.out.spare + length l.world.rows.waits;
}

abbrev pub decreases-loop-tid : goal.decreases-loop-tid
decreases-loop-tid l = length l.world.rows.waits
