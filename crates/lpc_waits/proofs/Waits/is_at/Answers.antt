use Rattle.std.proofs.Common.{◌∙◌, is_some, ap}
use Rattle.lpc_waits.specs.Lent.{keyed}
use Rattle.lpc_waits.proofs.Found.{at_either, either_first, either_second}
use Rattle.lpc_waits.proofs.Waits.is_at.Goals as goal

pub returns-then-is_some : goal.returns-then-is_some
returns-then-is_some c =
    let on = c.is_some.ensures ∙ ap is_some c.first_on.ensures in
    rw (← c.self.view_is) (either_first _ _ _ _ on c.if-is_some.true (at_either c.args.port c.args.sought (keyed c.self.inside.rows)))

pub returns-else-is_some : goal.returns-else-is_some
returns-else-is_some c =
    let on = c.is_some.ensures ∙ ap is_some c.first_on.ensures in
    let queued = c.is_some-else-is_some.ensures ∙ ap is_some c.first_in.ensures in
    rw (← c.self.view_is) (either_second _ _ _ _ _ on c.if-is_some.false queued (at_either c.args.port c.args.sought (keyed c.self.inside.rows)))
