use Rattle.std.proofs.Common.{◌∙◌, ap, sym, arith}
use Rattle.lpc_base.specs.Rows.{first}
use Rattle.lpc_steps.specs.Closing.{ends}
use Rattle.lpc_rows.specs.Names.{name_of, stands}
use Rattle.lpc_rows.specs.Shown.{Births}
use Rattle.lpc_steps.proofs.Endings.{IsWalked, left-by-none, pairs-kept, walked}
use Rattle.lpc_steps.proofs.ending.end_all.Goals as goal

-- the step of one wait
one_walked : (c : goal.After-end_wait)
    → IsWalked c.args.ending (name_of c.args.world.now.births.ports c.args.port) c.loop-tid.world.rows c.loop-tid.out.list c.loop-tid.world.loose
    (record { world = c.end_wait.new.world.rows; entries = c.end_wait.new.out.list; loose = c.end_wait.new.world.loose })
one_walked c =
    let w = c.loop-tid.world.rows in
    let found = ap (λ (n : Births). first (ends c.args.ending (name_of n.ports c.args.port) w) w.waits) (sym c.loop-tid.invariant.births) ∙ c.in-Some.ensures.found in
    walked c.args.ending (name_of c.args.world.now.births.ports c.args.port) w c.in-Some.tid c.loop-tid.out.list c.loop-tid.world.loose
    (record { world = c.end_wait.new.world.rows; entries = c.end_wait.new.out.list; loose = c.end_wait.new.world.loose })
    c.end_wait.ensures.took c.in-Some.ensures.single c.in-Some.ensures.waits found

pub loop-tid-smaller : goal.loop-tid-smaller
loop-tid-smaller c = let fewer = (one_walked c).fewer in omega arith

pub loop-tid-preserved : goal.loop-tid-preserved
loop-tid-preserved c =
    let one = one_walked c in
    let fewer = one.fewer in
    record {
      port = ap (λ (n : Births). stands n.ports c.args.port) c.end_wait.ensures.births ∙ c.loop-tid.invariant.port;
      pairs = pairs-kept c.loop-tid.world.rows c.end_wait.new.world.rows one.ports c.loop-tid.invariant.pairs;
      leaves = one.leaves ∙ c.loop-tid.invariant.leaves;
      ports = one.ports ∙ c.loop-tid.invariant.ports;
      handles = one.handles ∙ c.loop-tid.invariant.handles;
      births = c.end_wait.ensures.births ∙ c.loop-tid.invariant.births;
      calls = c.end_wait.ensures.calls ∙ c.loop-tid.invariant.calls;
      capacity = c.end_wait.ensures.capacity ∙ c.loop-tid.invariant.capacity;
      made = omega (arith, c.end_wait.ensures.made, c.loop-tid.invariant.made);
      spare = omega (arith, fewer, c.end_wait.ensures.spare, c.loop-tid.invariant.spare);
    }

pub returns-clause-took : goal.returns-clause-took
returns-clause-took c =
    let w = c.loop-tid.world.rows in
    let none = ap (λ (n : Births). first (ends c.args.ending (name_of n.ports c.args.port) w) w.waits) (sym c.loop-tid.invariant.births) ∙ c.in_default.ensures.found in
    left-by-none c.args.ending (name_of c.args.world.now.births.ports c.args.port) w c.loop-tid.out.list c.loop-tid.world.loose none ∙ c.loop-tid.invariant.leaves
