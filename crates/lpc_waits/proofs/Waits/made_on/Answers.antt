use Rattle.std.proofs.Common.{refl, ◌∙◌}
use Rattle.lpc_waits.specs.Lent.{keyed}
use Rattle.lpc_waits.specs.Sought.{is_made_by}
use Rattle.lpc_waits.specs.Table.{is_made_on}
use Rattle.lpc_waits.proofs.Found.{count_shown, kept_stand}
use Rattle.lpc_waits.proofs.Waits.made_on.Goals as goal

pub count_on-requires : goal.count_on-requires
count_on-requires c = kept_stand c.self.inside.rows c.self.inside.chains c.self.inside.events c.self.inside.offering c.self.invariant

pub returns : goal.returns
returns c = rw (← c.self.view_is) (c.count_on.ensures ∙ count_shown (is_made_by c.args.port) (is_made_on c.args.port) (λ row. refl) (keyed c.self.inside.rows))
