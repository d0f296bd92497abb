use Rattle.std.proofs.Common.{◌≡◌, ◌+◌, ◌∙◌, ap, arith, length}
use Rattle.lpc_base.specs.Rows.{without}
use Rattle.lpc_except.proofs.Leaving.{length-one}
use Rattle.lpc_model.specs.Found.{waits_as}
use Rattle.lpc_model.specs.World.{World}
use Rattle.lpc_rows.proofs.Finished.{own-waiter}
use Rattle.lpc_except.proofs.settle.go_on.Goals as goal

pub returns-in-Handled-clause-spare : goal.returns-in-Handled-clause-spare
returns-in-Handled-clause-spare c =
    let w = c.args.world.now.rows in
    let n = c.args.by.now.number in
    let rest : length c.wake.new.world.rows.waits + 1 ≡ length w.waits =
    ap (λ (v : World). length v.waits + 1) c.wake.ensures.step.rows
    ∙ ap (λ k. length (without (waits_as k) w.waits) + 1) (own-waiter w n c.requires.waits)
    ∙ length-one (waits_as n) w.waits c.requires.waits c.requires.once in
    let spare = c.wake.ensures.spare in
    omega (arith, rest, spare)
