use Rattle.std.proofs.Common.{ap, ◌∙◌}
use Rattle.lpc_rows.specs.Names.{name_of}
use Rattle.lpc_rows.specs.Registered.{death_shown}
use Rattle.lpc_rows.specs.Shown.{Births}
use Rattle.lpc_death.proofs.Registrations.{post-took}
use Rattle.lpc_death.proofs.tell.post_death.Goals as goal

pub returns-in-Some-clause-took : goal.returns-in-Some-clause-took
returns-in-Some-clause-took c =
    let mid = c.procs_unregister.new.self in
    let port = c.args.death.now.port in
    let name = ap (λ (n : Births). name_of n.ports port) c.procs_unregister.ensures.births ∙ c.requires.name in
    post-took c.args.world.now mid c.deliver.new.world c.args.out.now c.deliver.new.out (death_shown c.args.death.now) c.in-Some.queue port c.context-context.result c.died_message-message.result c.procs_unregister.ensures.rows c.procs_unregister.ensures.loose name
    c.in-Some.ensures.row c.in-Some.ensures.queue c.context-context.ensures c.died_message-message.ensures c.deliver.ensures.takes
