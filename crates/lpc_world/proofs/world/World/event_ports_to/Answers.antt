use Rattle.std.proofs.Common.{ap, sym, ◌∙◌, arith}
use Rattle.std.proofs.lemmas.List.{length-map}
use Rattle.lpc_base.specs.Rows.{count}
use Rattle.lpc_procs.specs.Procs.{event_ports, is_of_birth}
use Rattle.lpc_rows.specs.Clauses.{birth_at}
use Rattle.lpc_rows.specs.Shown.{shown_process}
use Rattle.lpc_rows.proofs.Events.{events-counted}
use Rattle.lpc_world.proofs.world.World.event_ports_to.Goals as goal

pub returns-clause-number : goal.returns-clause-number
returns-clause-number c =
    let birth = sym c.port.ensures.own ∙ c.port.ensures.birth in
    let counted = c.event_ports_to.ensures.count ∙ ap (λ b. count (is_of_birth b) (event_ports c.self.inside.procs.processes)) birth ∙ sym (events-counted (birth_at c.args.self.now c.args.port) c.self.inside.procs.processes) in
    rw (← c.self.view_is) (rw (← c.self.view_is) at counted)

pub returns-clause-few : goal.returns-clause-few
returns-clause-few c =
    let rows = c.self.invariant.kept.lawful.rows in
    let long = length-map c.self.inside.procs.processes shown_process in
    rw (← c.self.view_is) (omega (arith, rows, long, c.event_ports_to.ensures.bound))
