use Rattle.std.proofs.Common.{arith}
use Rattle.lpc_rows.specs.Shown.{tables_of}
use Rattle.lpc_rows.proofs.Counted.{connected_counted, connected_few, made_counted, made_few, paired_counted, paired_few, sent_counted}
use Rattle.lpc_rows.proofs.Unheld as unheld
use Rattle.lpc_world.proofs.world.World.rows_at_port.Goals as goal

pub sent_on-requires : goal.sent_on-requires
sent_on-requires c = unheld.has_row (tables_of c.self.inside.procs c.self.inside.parts.items c.self.inside.ports c.self.inside.waits c.self.inside.names c.self.inside.sections c.self.inside.tokens c.self.inside.token_names c.self.inside.marks) c.self.invariant.kept.named c.args.port (rw (← c.self.view_is) at c.requires)

pub overflow_add-ports : goal.overflow_add-ports
overflow_add-ports c =
    let there = rw (← c.self.view_is) at c.requires in
    let paired = paired_few (tables_of c.self.inside.procs c.self.inside.parts.items c.self.inside.ports c.self.inside.waits c.self.inside.names c.self.inside.sections c.self.inside.tokens c.self.inside.token_names c.self.inside.marks) c.self.inside.calls c.self.inside.made c.self.invariant.kept c.args.port there in
    let connected = connected_few (tables_of c.self.inside.procs c.self.inside.parts.items c.self.inside.ports c.self.inside.waits c.self.inside.names c.self.inside.sections c.self.inside.tokens c.self.inside.token_names c.self.inside.marks) c.self.inside.calls c.self.inside.made c.self.invariant.kept c.args.port there in
    let budget = c.self.invariant.kept.lawful.budget in
    let few = c.self.invariant.kept.lawful.few in
    let sent = c.self.invariant.kept.counted.messages_made in
    omega (arith, paired, connected, budget, few, c.paired_to.ensures, c.connected_to.ensures)

pub overflow_add-result : goal.overflow_add-result
overflow_add-result c =
    let there = rw (← c.self.view_is) at c.requires in
    let paired = paired_few (tables_of c.self.inside.procs c.self.inside.parts.items c.self.inside.ports c.self.inside.waits c.self.inside.names c.self.inside.sections c.self.inside.tokens c.self.inside.token_names c.self.inside.marks) c.self.inside.calls c.self.inside.made c.self.invariant.kept c.args.port there in
    let connected = connected_few (tables_of c.self.inside.procs c.self.inside.parts.items c.self.inside.ports c.self.inside.waits c.self.inside.names c.self.inside.sections c.self.inside.tokens c.self.inside.token_names c.self.inside.marks) c.self.inside.calls c.self.inside.made c.self.invariant.kept c.args.port there in
    let budget = c.self.invariant.kept.lawful.budget in
    let few = c.self.invariant.kept.lawful.few in
    let sent = c.self.invariant.kept.counted.messages_made in
    omega (arith, paired, connected, sent, budget, few, c.paired_to.ensures, c.connected_to.ensures, c.sent_on.ensures.most)

pub overflow_add-result-2 : goal.overflow_add-result-2
overflow_add-result-2 c =
    let there = rw (← c.self.view_is) at c.requires in
    let paired = paired_few (tables_of c.self.inside.procs c.self.inside.parts.items c.self.inside.ports c.self.inside.waits c.self.inside.names c.self.inside.sections c.self.inside.tokens c.self.inside.token_names c.self.inside.marks) c.self.inside.calls c.self.inside.made c.self.invariant.kept c.args.port there in
    let connected = connected_few (tables_of c.self.inside.procs c.self.inside.parts.items c.self.inside.ports c.self.inside.waits c.self.inside.names c.self.inside.sections c.self.inside.tokens c.self.inside.token_names c.self.inside.marks) c.self.inside.calls c.self.inside.made c.self.invariant.kept c.args.port there in
    let budget = c.self.invariant.kept.lawful.budget in
    let few = c.self.invariant.kept.lawful.few in
    let sent = c.self.invariant.kept.counted.messages_made in
    let own = made_few (tables_of c.self.inside.procs c.self.inside.parts.items c.self.inside.ports c.self.inside.waits c.self.inside.names c.self.inside.sections c.self.inside.tokens c.self.inside.token_names c.self.inside.marks) c.self.inside.calls c.self.inside.made c.self.invariant.kept c.args.port there in
    let registered = rw (← c.self.view_is) at c.registered_to.ensures.few in
    omega (arith, registered, paired, connected, sent, own, budget, few, c.paired_to.ensures, c.connected_to.ensures, c.sent_on.ensures.most, c.made_on-waits.ensures)

pub overflow_add-result-3 : goal.overflow_add-result-3
overflow_add-result-3 c =
    let there = rw (← c.self.view_is) at c.requires in
    let paired = paired_few (tables_of c.self.inside.procs c.self.inside.parts.items c.self.inside.ports c.self.inside.waits c.self.inside.names c.self.inside.sections c.self.inside.tokens c.self.inside.token_names c.self.inside.marks) c.self.inside.calls c.self.inside.made c.self.invariant.kept c.args.port there in
    let connected = connected_few (tables_of c.self.inside.procs c.self.inside.parts.items c.self.inside.ports c.self.inside.waits c.self.inside.names c.self.inside.sections c.self.inside.tokens c.self.inside.token_names c.self.inside.marks) c.self.inside.calls c.self.inside.made c.self.invariant.kept c.args.port there in
    let budget = c.self.invariant.kept.lawful.budget in
    let few = c.self.invariant.kept.lawful.few in
    let sent = c.self.invariant.kept.counted.messages_made in
    let own = made_few (tables_of c.self.inside.procs c.self.inside.parts.items c.self.inside.ports c.self.inside.waits c.self.inside.names c.self.inside.sections c.self.inside.tokens c.self.inside.token_names c.self.inside.marks) c.self.inside.calls c.self.inside.made c.self.invariant.kept c.args.port there in
    let registered = rw (← c.self.view_is) at c.registered_to.ensures.few in
    omega (arith, registered, paired, connected, sent, own, budget, few, c.paired_to.ensures, c.connected_to.ensures, c.sent_on.ensures.most, c.made_on-waits.ensures)

pub returns-clause-rows : goal.returns-clause-rows
returns-clause-rows c =
    let there = rw (← c.self.view_is) at c.requires in
    let paired = paired_counted (tables_of c.self.inside.procs c.self.inside.parts.items c.self.inside.ports c.self.inside.waits c.self.inside.names c.self.inside.sections c.self.inside.tokens c.self.inside.token_names c.self.inside.marks) c.self.invariant.kept.named c.args.port there in
    let connected = connected_counted (tables_of c.self.inside.procs c.self.inside.parts.items c.self.inside.ports c.self.inside.waits c.self.inside.names c.self.inside.sections c.self.inside.tokens c.self.inside.token_names c.self.inside.marks) c.self.invariant.kept.named c.args.port there in
    let sent = sent_counted (tables_of c.self.inside.procs c.self.inside.parts.items c.self.inside.ports c.self.inside.waits c.self.inside.names c.self.inside.sections c.self.inside.tokens c.self.inside.token_names c.self.inside.marks) c.self.invariant.kept.named c.args.port there in
    let own = made_counted (tables_of c.self.inside.procs c.self.inside.parts.items c.self.inside.ports c.self.inside.waits c.self.inside.names c.self.inside.sections c.self.inside.tokens c.self.inside.token_names c.self.inside.marks) c.self.invariant.kept.named c.args.port there in
    let registered = rw (← c.self.view_is) at c.registered_to.ensures.number in
    rw (← c.self.view_is) (omega (arith, registered, paired, connected, sent, own, c.paired_to.ensures, c.connected_to.ensures, c.sent_on.ensures.number, c.made_on-waits.ensures))

pub returns-clause-few : goal.returns-clause-few
returns-clause-few c =
    let there = rw (← c.self.view_is) at c.requires in
    let paired = paired_few (tables_of c.self.inside.procs c.self.inside.parts.items c.self.inside.ports c.self.inside.waits c.self.inside.names c.self.inside.sections c.self.inside.tokens c.self.inside.token_names c.self.inside.marks) c.self.inside.calls c.self.inside.made c.self.invariant.kept c.args.port there in
    let connected = connected_few (tables_of c.self.inside.procs c.self.inside.parts.items c.self.inside.ports c.self.inside.waits c.self.inside.names c.self.inside.sections c.self.inside.tokens c.self.inside.token_names c.self.inside.marks) c.self.inside.calls c.self.inside.made c.self.invariant.kept c.args.port there in
    let budget = c.self.invariant.kept.lawful.budget in
    let few = c.self.invariant.kept.lawful.few in
    let sent = c.self.invariant.kept.counted.messages_made in
    let own = made_few (tables_of c.self.inside.procs c.self.inside.parts.items c.self.inside.ports c.self.inside.waits c.self.inside.names c.self.inside.sections c.self.inside.tokens c.self.inside.token_names c.self.inside.marks) c.self.inside.calls c.self.inside.made c.self.invariant.kept c.args.port there in
    let registered = rw (← c.self.view_is) at c.registered_to.ensures.few in
    rw (← c.self.view_is) (omega (arith, registered, paired, connected, sent, own, c.paired_to.ensures, c.connected_to.ensures, c.sent_on.ensures.most, c.made_on-waits.ensures))
