use Rattle.std.proofs.Common.{ap, ◌∙◌}
use Rattle.lpc_base.specs.Rows.{has}
use Rattle.lpc_homes.specs.Parts.{goes_with, has_view_with}
use Rattle.lpc_homes.proofs.Viewed.{seen_counted}
use Rattle.lpc_homes.proofs.parts.Parts.is_owner.Goals as goal

pub returns-in-None : goal.returns-in-None
returns-in-None c = rw (← c.self.view_is) (c.is_owner_in.ensures ∙ ap (has (has_view_with c.args.owner)) c.deref.ensures.value)

pub returns-in-Some : goal.returns-in-Some
returns-in-Some c = rw c.in-Some.ensures.count (seen_counted (goes_with c.args.owner) c.args.self.now.items)
