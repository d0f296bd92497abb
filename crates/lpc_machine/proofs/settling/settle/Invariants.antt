use Rattle.std.proofs.Common.{◌≡◌}
use Rattle.lpc_model.specs.Settle.{settle}
use Rattle.lpc_model.proofs.Settling.Turns.{measure}
use Rattle.lpc_rows.specs.Capacity.{but_names}
use Rattle.lpc_rows.specs.Does.{left_by}
use Rattle.lpc_machine.specs.Turning.{IsTurning, MaySettle}
use Rattle.lpc_machine.proofs.settling.settle.Given as goal

-- what is left to be settled leaves what all of it leaves
abbrev pub invariant-loop-turn : goal.invariant-loop-turn
invariant-loop-turn l = record {
  turning : IsTurning l.world.rows;
  settles : MaySettle l.world l.out;
  leaves : left_by l.world.rows l.out.list l.world.loose (settle l.world.rows)
      ≡ left_by l.fn.world.rows l.fn.out.list l.fn.world.loose (settle l.fn.world.rows);
  calls : l.world.calls ≡ l.fn.world.calls;
  capacity : but_names l.world.capacity ≡ but_names l.fn.world.capacity;
}

abbrev pub decreases-loop-turn : goal.decreases-loop-turn
decreases-loop-turn l = measure l.world.rows
