use Rattle.std.proofs.Common.{ap, sym, ◌∙◌}
use Rattle.lpc_base.specs.Rows.{has}
use Rattle.lpc_procs.specs.Procs.{has_registered}
use Rattle.lpc_rows.specs.Clauses.{birth_at}
use Rattle.lpc_rows.proofs.Registered.{registered-names}
use Rattle.lpc_world.proofs.world.World.is_registered_port.Goals as goal

pub returns : goal.returns
returns c =
    let birth = sym c.port.ensures.own ∙ c.port.ensures.birth in
    let named = c.names.ensures.named ∙ ap (λ b. has (has_registered b) c.self.inside.procs.threads) birth ∙ sym (registered-names (birth_at c.args.self.now c.args.port) c.self.inside.procs.threads) in
    rw (← c.self.view_is) (rw (← c.self.view_is) at named)
