use Rattle.std.proofs.Common.{[], ◌∷◌, ap, ◌∙◌}
use Rattle.lpc_model.specs.Basics.{DropsOwned}
use Rattle.lpc_model.specs.World.{World}
use Rattle.lpc_model.specs.Entering.{end_connect}
use Rattle.lpc_model.specs.Found.{is_connect}
use Rattle.lpc_rows.specs.Does.{left_by}
use Rattle.lpc_rows.specs.Ready.{waiter}
use Rattle.lpc_steps.proofs.Endings.{same-waiter, withdrawn-connect}
use Rattle.lpc_rows.proofs.Finished.{own-waiter}
use Rattle.lpc_steps.proofs.ending.end_offered.Goals as goal

pub end_connect-requires-clause-connect : goal.end_connect-requires-clause-connect
end_connect-requires-clause-connect c =
    ap (λ (v : World). is_connect (waiter v c.args.tid)) c.messages_withdraw.ensures.step.rows ∙ ap is_connect (same-waiter c.args.world.now.rows c.args.tid) ∙ c.requires.connect

pub returns-clause-took : goal.returns-clause-took
returns-clause-took c =
    let w = c.args.world.now.rows in
    let before = c.messages_withdraw.new.self.loose in
    c.end_connect.ensures.takes
    ∙ ap (λ (u : World). left_by u c.args.out.now.list before (let x = waiter u c.args.tid in end_connect [] x ∷ DropsOwned x.port ∷ [])) c.messages_withdraw.ensures.step.rows
    ∙ withdrawn-connect w c.args.tid [] c.args.out.now.list before c.args.world.now.loose (own-waiter w c.args.tid c.requires.waits)
