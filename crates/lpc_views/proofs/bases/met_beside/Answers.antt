use Rattle.std.proofs.Common.{sym}
use Rattle.lpc_base.specs.Views.{meets}
use Rattle.lpc_views.specs.Views.{range_of}
use Rattle.lpc_views.proofs.Search.{back-beside, front-beside}
use Rattle.lpc_views.proofs.bases.met_beside.Goals as goal

pub returns-in-Some : goal.returns-in-Some
returns-in-Some g c = front-beside (λ v. meets c.args.base c.args.size (range_of v)) c.args.views.now c.args.others.now c.in-Some.view (sym c.in-Some.ensures)

pub returns : goal.returns
returns g c = back-beside (λ v. meets c.args.base c.args.size (range_of v)) c.args.views.now c.args.others.now c.met_view-2.result (sym c.in_default.ensures) c.met_view-2.ensures
