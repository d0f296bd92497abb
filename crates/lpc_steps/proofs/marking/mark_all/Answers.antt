use Rattle.std.proofs.Common.{◌∙◌, [], false, ap, sym, arith}
use Rattle.lpc_base.specs.Rows.{first}
use Rattle.lpc_steps.specs.Marking.{marks}
use Rattle.lpc_rows.specs.Names.{name_of, stands}
use Rattle.lpc_rows.specs.Shown.{Births}
use Rattle.lpc_steps.proofs.Endings.{pairs-kept}
use Rattle.lpc_steps.proofs.Markings.{IsMarkedOn, marked-by-none, marked-on}
use Rattle.lpc_steps.proofs.marking.mark_all.Goals as goal

-- the mark of one event
one_marked : (c : goal.After-mark)
    → IsMarkedOn c.args.marking (name_of c.args.world.now.births.ports c.args.port) c.loop-tid.world.rows c.mark.new.world.rows c.loop-tid.world.loose c.mark.new.world.loose
one_marked c =
    let w = c.loop-tid.world.rows in
    let found = ap (λ (n : Births). first (marks c.args.marking (name_of n.ports c.args.port) w) w.waits) (sym c.loop-tid.invariant.births) ∙ c.in-Some.ensures.found in
    marked-on c.args.marking (name_of c.args.world.now.births.ports c.args.port) w c.mark.new.world.rows c.in-Some.tid c.loop-tid.world.loose c.mark.new.world.loose
    (λ es. c.mark.ensures.took (record { list = es; read = []; groups = []; reads = false; spare = 0 }))
    c.in-Some.ensures.single c.in-Some.ensures.waits found

pub loop-tid-smaller : goal.loop-tid-smaller
loop-tid-smaller c = let fewer = (one_marked c).fewer in omega arith

pub loop-tid-preserved : goal.loop-tid-preserved
loop-tid-preserved c =
    let one = one_marked c in
    record {
      port = ap (λ (n : Births). stands n.ports c.args.port) c.mark.ensures.births ∙ c.loop-tid.invariant.port;
      pairs = pairs-kept c.loop-tid.world.rows c.mark.new.world.rows one.ports c.loop-tid.invariant.pairs;
      leaves = λ es. one.leaves es ∙ c.loop-tid.invariant.leaves es;
      ports = one.ports ∙ c.loop-tid.invariant.ports;
      handles = one.handles ∙ c.loop-tid.invariant.handles;
      waits = one.waits ∙ c.loop-tid.invariant.waits;
      births = c.mark.ensures.births ∙ c.loop-tid.invariant.births;
      calls = c.mark.ensures.calls ∙ c.loop-tid.invariant.calls;
      capacity = c.mark.ensures.capacity ∙ c.loop-tid.invariant.capacity;
      made = c.mark.ensures.made ∙ c.loop-tid.invariant.made;
    }

pub returns-clause-took : goal.returns-clause-took
returns-clause-took c = λ out.
    let w = c.loop-tid.world.rows in
    let none = ap (λ (n : Births). first (marks c.args.marking (name_of n.ports c.args.port) w) w.waits) (sym c.loop-tid.invariant.births) ∙ c.in_default.ensures.found in
    marked-by-none c.args.marking (name_of c.args.world.now.births.ports c.args.port) w out.list c.loop-tid.world.loose none ∙ c.loop-tid.invariant.leaves out.list
