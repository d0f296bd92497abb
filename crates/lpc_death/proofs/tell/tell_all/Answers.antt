use Rattle.std.proofs.Common.{ap, arith, drop, length, ◌∙◌}
use Rattle.lpc_model.specs.World.{World}
use Rattle.lpc_rows.specs.Does.{Left}
use Rattle.lpc_rows.specs.Registered.{death_shown, untold_of}
use Rattle.lpc_death.proofs.Registrations.{first-is, first-none, left-untold, next-registered, none-told, one-told, single-left}
use Rattle.lpc_death.proofs.tell.tell_all.Goals as goal

pub post_death-requires-clause-registered : goal.post_death-requires-clause-registered
post_death-requires-clause-registered c =
    let w = c.loop-death.world.rows in
    let u = death_shown c.in-Some.death in
    let us = untold_of w c.args.pid in
    next-registered w c.args.pid u (drop 1 us) c.in-Some.ensures.single (first-is us u c.in-Some.ensures.found)

pub loop-death-smaller : goal.loop-death-smaller
loop-death-smaller c =
    let w = c.loop-death.world.rows in
    let u = death_shown c.in-Some.death in
    let rest = drop 1 (untold_of w c.args.pid) in
    let same = first-is (untold_of w c.args.pid) u c.in-Some.ensures.found in
    let others = left-untold w c.args.pid u rest c.in-Some.ensures.single c.loop-death.invariant.single same in
    let left = ap (λ (l : Left). l.world) c.post_death.ensures.took in
    let fewer = ap length (ap (λ (v : World). untold_of v c.args.pid) left ∙ others) in
    let all = ap length same in
    omega (arith, fewer, all)

pub loop-death-preserved : goal.loop-death-preserved
loop-death-preserved c =
    let w = c.loop-death.world.rows in
    let u = death_shown c.in-Some.death in
    let rest = drop 1 (untold_of w c.args.pid) in
    let same = first-is (untold_of w c.args.pid) u c.in-Some.ensures.found in
    let others = left-untold w c.args.pid u rest c.in-Some.ensures.single c.loop-death.invariant.single same in
    let left = ap (λ (l : Left). l.world) c.post_death.ensures.took in
    record {
      single = rw left (single-left w u c.loop-death.invariant.single);
      leaves =
          one-told w c.args.pid u rest c.loop-death.out.list c.loop-death.world.loose
          (record { world = c.post_death.new.world.rows; entries = c.post_death.new.out.list; loose = c.post_death.new.world.loose }) same others c.post_death.ensures.took
          ∙ c.loop-death.invariant.leaves;
      births = c.post_death.ensures.births ∙ c.loop-death.invariant.births;
      calls = c.post_death.ensures.calls ∙ c.loop-death.invariant.calls;
      capacity = c.post_death.ensures.capacity ∙ c.loop-death.invariant.capacity;
      made = omega (arith, c.post_death.ensures.made, c.loop-death.invariant.made);
      spare = omega (arith, c.post_death.ensures.spare, c.loop-death.invariant.spare);
    }

pub returns-clause-took : goal.returns-clause-took
returns-clause-took c =
    let w = c.loop-death.world.rows in
    none-told w c.args.pid c.loop-death.out.list c.loop-death.world.loose (first-none (untold_of w c.args.pid) c.in_default.ensures.found) ∙ c.loop-death.invariant.leaves
