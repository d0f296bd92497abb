use Rattle.std.proofs.Common.{refl, ◌∙◌}
use Rattle.lpc_waits.specs.Lent.{keyed}
use Rattle.lpc_waits.specs.Sought.{is_connect_by}
use Rattle.lpc_waits.specs.Table.{is_connect_of}
use Rattle.lpc_waits.proofs.Found.{count_shown, kept_stand}
use Rattle.lpc_waits.proofs.Waits.connects_of.Goals as goal

pub connects_of-requires : goal.connects_of-requires
connects_of-requires c = kept_stand c.self.inside.rows c.self.inside.chains c.self.inside.events c.self.inside.offering c.self.invariant

pub returns : goal.returns
returns c = rw (← c.self.view_is) (c.connects_of.ensures ∙ count_shown (is_connect_by c.args.process) (is_connect_of c.args.process) (λ row. refl) (keyed c.self.inside.rows))
