use Rattle.std.proofs.Common.{◌∙◌, ◌+◌, ap, length}
use Rattle.lpc_except.proofs.Leaving.{length-one}
use Rattle.lpc_model.specs.Found.{waits_as}
use Rattle.lpc_model.specs.World.{World}
use Rattle.lpc_rows.proofs.Finished.{own-waiter}
use Rattle.lpc_rows.specs.Callers.{shown_caller}
use Rattle.lpc_rows.specs.Ready.{waiter}
use Rattle.lpc_rows.specs.Shown.{shown_raised}
use Rattle.lpc_except.proofs.Going.{given-up}
use Rattle.lpc_except.proofs.settle.give_up.Goals as goal

pub returns-clause-took : goal.returns-clause-took
returns-clause-took c = λ out.
    let w = c.args.world.now.rows in
    let n = c.args.by.now.number in
    given-up (shown_caller c.args.by.now) (waiter w n) (shown_raised c.args.raised) w c.waits_end.new.self.rows c.procs_doom.new.self.rows out.list c.args.world.now.loose c.procs_doom.new.self.loose n c.args.by.now.process
    (own-waiter w n c.requires.waits) c.requires.home c.waits_end.ensures.step.rows c.procs_doom.ensures.step.rows (c.procs_doom.ensures.loose ∙ c.waits_end.ensures.loose)

pub returns-clause-fewer : goal.returns-clause-fewer
returns-clause-fewer c =
    ap (λ (v : World). length v.waits + 1) c.procs_doom.ensures.step.rows
    ∙ ap (λ (v : World). length v.waits + 1) c.waits_end.ensures.step.rows
    ∙ length-one (waits_as c.args.by.now.number) c.args.world.now.rows.waits c.requires.waits c.requires.once
