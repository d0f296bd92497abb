use Rattle.std.proofs.Common.{List, [], ◌∷◌, ap, ◌∙◌}
use Rattle.lpc_model.specs.World.{World}
use Rattle.lpc_model.specs.Basics.{Withdraws}
use Rattle.lpc_model.specs.declared.entry.Field.{Field}
use Rattle.lpc_model.specs.Entering.{woken}
use Rattle.lpc_rows.specs.Does.{left_by}
use Rattle.lpc_rows.specs.Ready.{waiter}
use Rattle.lpc_steps.proofs.Endings.{withdrawn-first, woken-left}
use Rattle.lpc_rows.proofs.Finished.{own-waiter}
use Rattle.lpc_steps.proofs.ending.end_request.Goals as goal

pub returns-clause-took : goal.returns-clause-took
returns-clause-took c =
    let w = c.args.world.now.rows in
    let v = c.messages_withdraw.new.self.rows in
    let before = c.messages_withdraw.new.self.loose in
    woken-left v c.wake.new.world.rows c.args.out.now.list c.wake.new.out.list before c.wake.new.world.loose (waiter v c.args.tid) c.args.status c.none.result c.wake.ensures.step.rows c.wake.ensures.list c.wake.ensures.loose
    ∙ ap (λ (u : World). left_by u c.args.out.now.list before (woken c.args.status c.none.result (waiter u c.args.tid) ∷ [])) c.messages_withdraw.ensures.step.rows
    ∙ withdrawn-first w c.args.tid c.args.status c.none.result c.args.out.now.list before c.args.world.now.loose (own-waiter w c.args.tid c.requires.waits)
    ∙ ap (λ (fs : List Field). left_by w c.args.out.now.list c.args.world.now.loose (let x = waiter w c.args.tid in woken c.args.status fs x ∷ Withdraws x.thread ∷ [])) c.none.ensures
