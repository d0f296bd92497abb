use Rattle.std.proofs.Common.{arith}
use Rattle.lpc_rows.specs.Shown.{tables_of}
use Rattle.lpc_rows.proofs.Counted as counted
use Rattle.lpc_world.proofs.world.World.holders_of_section.Goals as goal

pub overflow_add-result : goal.overflow_add-result
overflow_add-result c =
    let few = counted.homes-few (tables_of c.self.inside.procs c.self.inside.parts.items c.self.inside.ports c.self.inside.waits c.self.inside.names c.self.inside.sections c.self.inside.tokens c.self.inside.token_names c.self.inside.marks) c.self.inside.calls c.self.inside.made c.self.invariant.kept in
    let offering = counted.offering-few (tables_of c.self.inside.procs c.self.inside.parts.items c.self.inside.ports c.self.inside.waits c.self.inside.names c.self.inside.sections c.self.inside.tokens c.self.inside.token_names c.self.inside.marks) c.self.inside.calls c.self.inside.made c.self.invariant.kept c.args.section in
    let budget = c.self.invariant.kept.lawful.budget in
    let calls = c.self.invariant.kept.lawful.few in
    omega (arith, few, offering, budget, calls, c.views_to.ensures.bound, c.offers.ensures)

pub returns-clause-holders : goal.returns-clause-holders
returns-clause-holders c =
    let there = rw (← c.self.view_is) at c.requires in
    let held = counted.section_counted (tables_of c.self.inside.procs c.self.inside.parts.items c.self.inside.ports c.self.inside.waits c.self.inside.names c.self.inside.sections c.self.inside.tokens c.self.inside.token_names c.self.inside.marks) c.self.invariant.kept.named c.args.section there in
    let views = c.views_to.ensures.count in
    rw (← c.self.view_is) (omega (arith, held, views, c.offers.ensures))

pub returns-clause-few : goal.returns-clause-few
returns-clause-few c =
    let few = counted.homes-few (tables_of c.self.inside.procs c.self.inside.parts.items c.self.inside.ports c.self.inside.waits c.self.inside.names c.self.inside.sections c.self.inside.tokens c.self.inside.token_names c.self.inside.marks) c.self.inside.calls c.self.inside.made c.self.invariant.kept in
    let offering = counted.offering-few (tables_of c.self.inside.procs c.self.inside.parts.items c.self.inside.ports c.self.inside.waits c.self.inside.names c.self.inside.sections c.self.inside.tokens c.self.inside.token_names c.self.inside.marks) c.self.inside.calls c.self.inside.made c.self.invariant.kept c.args.section in
    rw (← c.self.view_is) (omega (arith, few, offering, c.views_to.ensures.bound, c.offers.ensures))
