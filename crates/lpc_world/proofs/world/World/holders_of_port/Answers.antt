use Rattle.std.proofs.Common.{arith}
use Rattle.lpc_rows.specs.Shown.{tables_of}
use Rattle.lpc_rows.proofs.Counted.{homes-few}
use Rattle.lpc_rows.proofs.ShownViews.{owned_counted}
use Rattle.lpc_world.proofs.world.World.holders_of_port.Goals as goal

pub returns-clause-holders : goal.returns-clause-holders
returns-clause-holders c =
    let there = rw (← c.self.view_is) at c.requires in
    let owned = owned_counted (tables_of c.self.inside.procs c.self.inside.parts.items c.self.inside.ports c.self.inside.waits c.self.inside.names c.self.inside.sections c.self.inside.tokens c.self.inside.token_names c.self.inside.marks) c.self.invariant.kept.named c.args.port there in
    let views = c.owned_views.ensures.count in
    let rows = rw (← c.self.view_is) at c.rows_at_port.ensures.rows in
    let hearers = rw (← c.self.view_is) at c.event_ports_to.ensures.number in
    rw (← c.self.view_is) (omega (arith, owned, views, rows, hearers))

pub returns-clause-few : goal.returns-clause-few
returns-clause-few c =
    let few = homes-few (tables_of c.self.inside.procs c.self.inside.parts.items c.self.inside.ports c.self.inside.waits c.self.inside.names c.self.inside.sections c.self.inside.tokens c.self.inside.token_names c.self.inside.marks) c.self.inside.calls c.self.inside.made c.self.invariant.kept in
    let rows = rw (← c.self.view_is) at c.rows_at_port.ensures.few in
    let hearers = rw (← c.self.view_is) at c.event_ports_to.ensures.few in
    rw (← c.self.view_is) (omega (arith, few, rows, hearers, c.owned_views.ensures.bound))
