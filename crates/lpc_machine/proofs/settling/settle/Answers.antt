use Rattle.std.proofs.Common.{subst, sym, ap, arith, ◌∙◌}
use Rattle.std.specs.Prelude.{◌<◌}
use Rattle.lpc_model.specs.World.{World}
use Rattle.lpc_model.proofs.Settling.Turns.{measure}
use Rattle.lpc_rows.specs.Does.{Left}
use Rattle.lpc_machine.specs.Turning.{IsTurning, steps_of}
use Rattle.lpc_machine.proofs.Turning.{ready-of, turn-turning}
use Rattle.lpc_machine.proofs.Turns.{budget-on, due-some, left-none, left-turn, turn-lower}
use Rattle.lpc_machine.proofs.settling.settle.Goals as goal

pub take_turn-requires-clause-spare : goal.take_turn-requires-clause-spare
take_turn-requires-clause-spare c = (c.loop-turn.invariant.settles (due-some _ _ c.in-Some.ensures.due)).spare

pub take_turn-requires-clause-budget : goal.take_turn-requires-clause-budget
take_turn-requires-clause-budget c = (c.loop-turn.invariant.settles (due-some _ _ c.in-Some.ensures.due)).budget

pub loop-turn-smaller : goal.loop-turn-smaller
loop-turn-smaller c =
    let w = c.loop-turn.world.rows in
    let left = ap (λ (l : Left). l.world) c.take_turn.ensures.took in
    let lower = turn-lower w (steps_of c.in-Some.turn w) c.in-Some.ensures.due (ready-of w c.loop-turn.invariant.turning) in
    subst (λ (v : World). measure v < measure w) (sym left) lower

pub loop-turn-preserved : goal.loop-turn-preserved
loop-turn-preserved c =
    let w = c.loop-turn.world.rows in
    let bs = steps_of c.in-Some.turn w in
    let due = c.in-Some.ensures.due in
    let left = ap (λ (l : Left). l.world) c.take_turn.ensures.took in
    let can = c.loop-turn.invariant.settles (due-some _ _ due) in
    record {
      turning = subst IsTurning (sym left) (turn-turning w bs due c.loop-turn.invariant.turning);
      settles = λ _. record {
        spare = omega (arith, c.take_turn.ensures.spare, can.spare);
        budget = budget-on c.take_turn.new.world c.loop-turn.world c.take_turn.ensures.calls c.take_turn.ensures.made can.budget;
      };
      leaves =
          left-turn w c.loop-turn.out.list c.loop-turn.world.loose bs
          (record { world = c.take_turn.new.world.rows; entries = c.take_turn.new.out.list; loose = c.take_turn.new.world.loose }) due (ready-of w c.loop-turn.invariant.turning) c.take_turn.ensures.took
          ∙ c.loop-turn.invariant.leaves;
      calls = c.take_turn.ensures.calls ∙ c.loop-turn.invariant.calls;
      capacity = c.take_turn.ensures.capacity ∙ c.loop-turn.invariant.capacity;
    }

pub returns-clause-took : goal.returns-clause-took
returns-clause-took c = left-none c.loop-turn.world.rows c.loop-turn.out.list c.loop-turn.world.loose c.in_default.ensures.none ∙ c.loop-turn.invariant.leaves
