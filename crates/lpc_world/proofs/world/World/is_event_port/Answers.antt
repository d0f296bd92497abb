use Rattle.std.proofs.Common.{ap, sym, ◌∙◌}
use Rattle.lpc_base.specs.Rows.{has}
use Rattle.lpc_procs.specs.Procs.{has_event_port}
use Rattle.lpc_rows.specs.Clauses.{birth_at}
use Rattle.lpc_rows.proofs.Events.{events-names}
use Rattle.lpc_world.proofs.world.World.is_event_port.Goals as goal

pub returns : goal.returns
returns c =
    let birth = sym c.port.ensures.own ∙ c.port.ensures.birth in
    let named = c.is_event_port.ensures.told ∙ ap (λ b. has (has_event_port b) c.self.inside.procs.processes) birth ∙ sym (events-names (birth_at c.args.self.now c.args.port) c.self.inside.procs.processes) in
    rw (← c.self.view_is) (rw (← c.self.view_is) at named)
