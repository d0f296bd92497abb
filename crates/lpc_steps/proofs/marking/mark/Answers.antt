use Rattle.std.proofs.Common.{◌∙◌, ap}
use Rattle.lpc_model.specs.Basics.{Marks, basic}
use Rattle.lpc_model.specs.World.{World}
use Rattle.lpc_rows.proofs.Finished.{own-waiter}
use Rattle.lpc_rows.specs.Does.{Left}
use Rattle.lpc_steps.proofs.Markings.{marked-left}
use Rattle.lpc_steps.proofs.marking.mark.Goals as goal

pub returns-clause-took : goal.returns-clause-took
returns-clause-took c = λ out.
    let w = c.args.world.now.rows in
    let rows = c.events_mark.ensures.step.rows ∙ ap (λ (v : World). basic v (Marks c.args.tid)) c.messages_withdraw.ensures.step.rows in
    ap (λ (v : World). let l : Left = record { world = v; entries = out.list; loose = c.events_mark.new.self.loose } in l) rows
    ∙ marked-left w c.args.tid out.list c.args.world.now.loose c.events_mark.new.self.loose (own-waiter w c.args.tid c.requires.waits) (c.events_mark.ensures.loose ∙ c.messages_withdraw.ensures.loose)
