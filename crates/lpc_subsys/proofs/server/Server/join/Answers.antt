use Rattle.std.proofs.Common.{ap, ◌∙◌, List}
use Rattle.std.specs.Prelude.{is_ok}
use Rattle.lpc_base.specs.Rows.{has}
use Rattle.lpc_subsys.specs.Clients.{ClientRow, is_client}
use Rattle.lpc_subsys.proofs.Rows.{sound-pushed}
use Rattle.lpc_subsys.proofs.server.Server.join.Goals as goal

pub invariant_of-self-2 : goal.invariant_of-self-2
invariant_of-self-2 c =
    let new = ap (λ (rows : List ClientRow). has (is_client c.args.process) rows) c.self.view_is ∙ c.requires in
    rw (c.push.ensures.items, c.new-client.ensures) (sound-pushed (is_ok c.push.result) c.self.inside.clients.items c.args.process c.self.invariant new)
