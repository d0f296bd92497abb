use Rattle.std.proofs.Common.{◌≡◌, List, true, length}
use Rattle.lpc_model.specs.declared.entry.Entry.{Entry}
use Rattle.lpc_rows.specs.Closing.{HasMutualPairs}
use Rattle.lpc_steps.specs.Marking.{mark_all}
use Rattle.lpc_rows.specs.Does.{left_by}
use Rattle.lpc_rows.specs.Names.{name_of, stands}
use Rattle.lpc_steps.proofs.marking.mark_all.Given as goal

-- the events that are left to be marked leave what all leave
abbrev pub invariant-loop-tid : goal.invariant-loop-tid
invariant-loop-tid l = record {
  port : stands l.world.births.ports l.port ≡ true;
  pairs : HasMutualPairs l.world.rows;
  leaves : (es : List Entry) → left_by l.world.rows es l.world.loose (mark_all l.marking (name_of l.fn.world.births.ports l.port) l.world.rows)
      ≡ left_by l.fn.world.rows es l.fn.world.loose (mark_all l.marking (name_of l.fn.world.births.ports l.port) l.fn.world.rows);
  ports : l.world.rows.ports ≡ l.fn.world.rows.ports;
  handles : l.world.rows.handles ≡ l.fn.world.rows.handles;
  waits : l.world.rows.waits ≡ l.fn.world.rows.waits;
  births : l.world.births ≡ l.fn.world.births;
  calls : l.world.calls ≡ l.fn.world.calls;
  capacity : l.world.capacity ≡ l.fn.world.capacity;
  made : l.world.made ≡ l.fn.world.made;
}

abbrev pub decreases-loop-tid : goal.decreases-loop-tid
decreases-loop-tid l = length (mark_all l.marking (name_of l.fn.world.births.ports l.port) l.world.rows)
