use Rattle.std.proofs.Common.{ap, arith, length, ◌∙◌}
use Rattle.lpc_model.specs.Found.{live_threads}
use Rattle.lpc_model.specs.World.{World}
use Rattle.lpc_rows.specs.Does.{Left}
use Rattle.lpc_death.proofs.Dead.{dead-left, dead-once, dead-pairs, first-live, none-dead, one-dead}
use Rattle.lpc_death.proofs.dying.die_all.Goals as goal

pub die-requires-clause-live : goal.die-requires-clause-live
die-requires-clause-live c =
    let one = first-live c.loop-tid.world.rows c.args.pid c.in-Some.tid c.in-Some.ensures.found in one.live

pub die-requires-clause-spare : goal.die-requires-clause-spare
die-requires-clause-spare c = omega (arith, c.requires.spare, c.loop-tid.invariant.spare)

pub loop-tid-smaller : goal.loop-tid-smaller
loop-tid-smaller c =
    let w = c.loop-tid.world.rows in
    let one = first-live w c.args.pid c.in-Some.tid c.in-Some.ensures.found in
    let left = ap (λ (l : Left). l.world) c.die.ensures.took in
    let fewer = ap length (ap (λ (v : World). live_threads v c.args.pid) left ∙ dead-left c.args.code c.args.pid c.in-Some.tid w c.loop-tid.invariant.once one) in
    let all = ap length one.rows in
    omega (arith, fewer, all)

pub loop-tid-preserved : goal.loop-tid-preserved
loop-tid-preserved c =
    let w = c.loop-tid.world.rows in
    let tid = c.in-Some.tid in
    let one = first-live w c.args.pid tid c.in-Some.ensures.found in
    let left = ap (λ (l : Left). l.world) c.die.ensures.took in
    record {
      once = rw left (dead-once c.args.code tid w c.loop-tid.invariant.once);
      pairs = rw left (dead-pairs c.args.code tid w c.loop-tid.invariant.pairs);
      leaves =
          one-dead c.args.code c.args.pid tid w c.loop-tid.out.list c.loop-tid.world.loose
          (record { world = c.die.new.world.rows; entries = c.die.new.out.list; loose = c.die.new.world.loose }) c.loop-tid.invariant.once one c.die.ensures.took
          ∙ c.loop-tid.invariant.leaves;
      births = c.die.ensures.births ∙ c.loop-tid.invariant.births;
      calls = c.die.ensures.calls ∙ c.loop-tid.invariant.calls;
      capacity = c.die.ensures.capacity ∙ c.loop-tid.invariant.capacity;
      made = omega (arith, c.die.ensures.made, c.loop-tid.invariant.made);
      spare = omega (arith, c.die.ensures.spare, c.loop-tid.invariant.spare);
    }

pub returns-clause-took : goal.returns-clause-took
returns-clause-took c =
    none-dead c.args.code c.args.pid c.loop-tid.world.rows c.loop-tid.out.list c.loop-tid.world.loose c.in_default.ensures.found ∙ c.loop-tid.invariant.leaves
