use Rattle.std.proofs.Common.{◌≡◌, false, ap, sym, ◌∙◌}
use Rattle.std.specs.Prelude.{is_some, option_copied}
use Rattle.lpc_model.specs.World as model
use Rattle.lpc_model.specs.World.{World}
use Rattle.lpc_ports.specs.Table.{row_at}
use Rattle.lpc_rows.specs.Shown.{tables_of}
use Rattle.lpc_rows.proofs.Readings as readings
use Rattle.lpc_world.proofs.world.World.port.Goals as goal

pub unreachable-requires : goal.unreachable-requires
unreachable-requires c =
    let there = rw (← c.self.view_is) at c.requires in
    let some = readings.there (tables_of c.self.inside.procs c.self.inside.parts.items c.self.inside.ports c.self.inside.waits c.self.inside.names c.self.inside.sections c.self.inside.tokens c.self.inside.token_names c.self.inside.marks) c.self.invariant.kept.named c.args.port there in
    let none : is_some (row_at c.self.inside.ports.ports c.args.port) ≡ false = sym (ap is_some c.get.ensures) ∙ ap (λ o. is_some (option_copied o)) c.in-None.is in
    absurd (cc)

pub returns-clause-found : goal.returns-clause-found
returns-clause-found c =
    let there = rw (← c.self.view_is) at c.requires in
    rw (← c.self.view_is) (readings.is_row (tables_of c.self.inside.procs c.self.inside.parts.items c.self.inside.ports c.self.inside.waits c.self.inside.names c.self.inside.sections c.self.inside.tokens c.self.inside.token_names c.self.inside.marks) c.self.invariant.kept.named c.args.port c.in-Some.row.now there (sym c.get.ensures ∙ ap (λ o. option_copied o) c.in-Some.is)).found

pub returns-clause-birth : goal.returns-clause-birth
returns-clause-birth c =
    let there = rw (← c.self.view_is) at c.requires in
    let is = (readings.is_row (tables_of c.self.inside.procs c.self.inside.parts.items c.self.inside.ports c.self.inside.waits c.self.inside.names c.self.inside.sections c.self.inside.tokens c.self.inside.token_names c.self.inside.marks) c.self.invariant.kept.named c.args.port c.in-Some.row.now there (sym c.get.ensures ∙ ap (λ o. option_copied o) c.in-Some.is)) in
    rw (← c.self.view_is) (ap (λ (q : model.PortRow). q.birth) is.port_is ∙ is.own)

pub returns-clause-own : goal.returns-clause-own
returns-clause-own c =
    let there = rw (← c.self.view_is) at c.requires in
    let is = (readings.is_row (tables_of c.self.inside.procs c.self.inside.parts.items c.self.inside.ports c.self.inside.waits c.self.inside.names c.self.inside.sections c.self.inside.tokens c.self.inside.token_names c.self.inside.marks) c.self.invariant.kept.named c.args.port c.in-Some.row.now there (sym c.get.ensures ∙ ap (λ o. option_copied o) c.in-Some.is)) in
    rw (← c.self.view_is) (ap (λ (q : model.PortRow). q.birth) is.port_is)

pub returns-clause-kind : goal.returns-clause-kind
returns-clause-kind c =
    let there = rw (← c.self.view_is) at c.requires in
    let is = (readings.is_row (tables_of c.self.inside.procs c.self.inside.parts.items c.self.inside.ports c.self.inside.waits c.self.inside.names c.self.inside.sections c.self.inside.tokens c.self.inside.token_names c.self.inside.marks) c.self.invariant.kept.named c.args.port c.in-Some.row.now there (sym c.get.ensures ∙ ap (λ o. option_copied o) c.in-Some.is)) in
    rw (← c.self.view_is) (ap (λ (q : model.PortRow). q.kind) is.port_is)

pub returns-clause-pair : goal.returns-clause-pair
returns-clause-pair c =
    let there = rw (← c.self.view_is) at c.requires in
    let is = (readings.is_row (tables_of c.self.inside.procs c.self.inside.parts.items c.self.inside.ports c.self.inside.waits c.self.inside.names c.self.inside.sections c.self.inside.tokens c.self.inside.token_names c.self.inside.marks) c.self.invariant.kept.named c.args.port c.in-Some.row.now there (sym c.get.ensures ∙ ap (λ o. option_copied o) c.in-Some.is)) in
    rw (← c.self.view_is) (ap (λ (q : model.PortRow). q.pair) is.port_is)

pub returns-clause-connection : goal.returns-clause-connection
returns-clause-connection c =
    let there = rw (← c.self.view_is) at c.requires in
    let is = (readings.is_row (tables_of c.self.inside.procs c.self.inside.parts.items c.self.inside.ports c.self.inside.waits c.self.inside.names c.self.inside.sections c.self.inside.tokens c.self.inside.token_names c.self.inside.marks) c.self.invariant.kept.named c.args.port c.in-Some.row.now there (sym c.get.ensures ∙ ap (λ o. option_copied o) c.in-Some.is)) in
    rw (← c.self.view_is) (ap (λ (q : model.PortRow). q.connection) is.port_is)

pub returns-clause-context : goal.returns-clause-context
returns-clause-context c =
    let there = rw (← c.self.view_is) at c.requires in
    let is = (readings.is_row (tables_of c.self.inside.procs c.self.inside.parts.items c.self.inside.ports c.self.inside.waits c.self.inside.names c.self.inside.sections c.self.inside.tokens c.self.inside.token_names c.self.inside.marks) c.self.invariant.kept.named c.args.port c.in-Some.row.now there (sym c.get.ensures ∙ ap (λ o. option_copied o) c.in-Some.is)) in
    rw (← c.self.view_is) (ap (λ (q : model.PortRow). q.context) is.port_is)

pub returns-clause-completed : goal.returns-clause-completed
returns-clause-completed c =
    let there = rw (← c.self.view_is) at c.requires in
    let is = (readings.is_row (tables_of c.self.inside.procs c.self.inside.parts.items c.self.inside.ports c.self.inside.waits c.self.inside.names c.self.inside.sections c.self.inside.tokens c.self.inside.token_names c.self.inside.marks) c.self.invariant.kept.named c.args.port c.in-Some.row.now there (sym c.get.ensures ∙ ap (λ o. option_copied o) c.in-Some.is)) in
    rw (← c.self.view_is) (ap (λ (q : model.PortRow). q.completed) is.port_is)

pub returns-clause-creator : goal.returns-clause-creator
returns-clause-creator c =
    let there = rw (← c.self.view_is) at c.requires in
    let is = (readings.is_row (tables_of c.self.inside.procs c.self.inside.parts.items c.self.inside.ports c.self.inside.waits c.self.inside.names c.self.inside.sections c.self.inside.tokens c.self.inside.token_names c.self.inside.marks) c.self.invariant.kept.named c.args.port c.in-Some.row.now there (sym c.get.ensures ∙ ap (λ o. option_copied o) c.in-Some.is)) in
    rw (← c.self.view_is) (ap (λ (q : model.PortRow). q.creator) is.port_is)

pub returns-clause-security : goal.returns-clause-security
returns-clause-security c =
    let there = rw (← c.self.view_is) at c.requires in
    let is = (readings.is_row (tables_of c.self.inside.procs c.self.inside.parts.items c.self.inside.ports c.self.inside.waits c.self.inside.names c.self.inside.sections c.self.inside.tokens c.self.inside.token_names c.self.inside.marks) c.self.invariant.kept.named c.args.port c.in-Some.row.now there (sym c.get.ensures ∙ ap (λ o. option_copied o) c.in-Some.is)) in
    rw (← c.self.view_is) (ap (λ (q : model.PortRow). q.security) is.port_is)

pub returns-clause-pair_stands : goal.returns-clause-pair_stands
returns-clause-pair_stands c =
    let there = rw (← c.self.view_is) at c.requires in
    rw (← c.self.view_is) (readings.is_row (tables_of c.self.inside.procs c.self.inside.parts.items c.self.inside.ports c.self.inside.waits c.self.inside.names c.self.inside.sections c.self.inside.tokens c.self.inside.token_names c.self.inside.marks) c.self.invariant.kept.named c.args.port c.in-Some.row.now there (sym c.get.ensures ∙ ap (λ o. option_copied o) c.in-Some.is)).pair

pub returns-clause-connection_stands : goal.returns-clause-connection_stands
returns-clause-connection_stands c =
    let there = rw (← c.self.view_is) at c.requires in
    rw (← c.self.view_is) (readings.is_row (tables_of c.self.inside.procs c.self.inside.parts.items c.self.inside.ports c.self.inside.waits c.self.inside.names c.self.inside.sections c.self.inside.tokens c.self.inside.token_names c.self.inside.marks) c.self.invariant.kept.named c.args.port c.in-Some.row.now there (sym c.get.ensures ∙ ap (λ o. option_copied o) c.in-Some.is)).connection

pub returns-clause-apart : goal.returns-clause-apart
returns-clause-apart c = rw (← c.self.view_is) c.self.invariant.kept.named.ports_apart
