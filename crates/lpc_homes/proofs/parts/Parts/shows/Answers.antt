use Rattle.std.proofs.Common.{ap, ◌∙◌}
use Rattle.lpc_base.specs.Rows.{has}
use Rattle.lpc_homes.specs.Parts.{has_view_of}
use Rattle.lpc_views.specs.Views.{shows}
use Rattle.lpc_homes.proofs.Viewed.{seen_counted}
use Rattle.lpc_homes.proofs.parts.Parts.shows.Goals as goal

pub returns-in-None : goal.returns-in-None
returns-in-None c = rw (← c.self.view_is) (c.is_shown.ensures ∙ ap (has (has_view_of c.args.section)) c.deref.ensures.value)

pub returns-in-Some : goal.returns-in-Some
returns-in-Some c = rw c.in-Some.ensures.count (seen_counted (shows c.args.section) c.args.self.now.items)
