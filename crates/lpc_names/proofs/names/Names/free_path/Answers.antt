use Rattle.std.proofs.Common.{◌∙◌, sym, ap}
use Rattle.lpc_names.specs.Kept.{seen, shown_place}
use Rattle.lpc_names.proofs.Paths.{path-some}
use Rattle.lpc_names.proofs.Walks.{text-free}
use Rattle.lpc_names.proofs.names.Names.free_path.Goals as goal

pub returns-in-None-clause-free : goal.returns-in-None-clause-free
returns-in-None-clause-free g c =
    let walked = sym c.walk.ensures ∙ ap (seen (shown_place {T = g.row.T.Denot})) (c.in_ok-place.was) in
    (text-free c.args.self.now.bindings c.args.text.now (shown_place c.in_ok-place.place) walked c.in-None.is).0

pub returns-in-None-clause-some : goal.returns-in-None-clause-some
returns-in-None-clause-some g c =
    let walked = sym c.walk.ensures ∙ ap (seen (shown_place {T = g.row.T.Denot})) (c.in_ok-place.was) in
    path-some _ (text-free c.args.self.now.bindings c.args.text.now (shown_place c.in_ok-place.place) walked c.in-None.is).1
