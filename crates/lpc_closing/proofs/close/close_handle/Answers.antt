use Rattle.std.proofs.Common.{[], ◌∷◌, ap, arith, refl, ◌∙◌}
use Rattle.lpc_model.specs.Basics.{DropsHandle, basic, doing}
use Rattle.lpc_model.specs.World.{World}
use Rattle.lpc_rows.specs.Clauses.{name_at}
use Rattle.lpc_rows.specs.Does.{Left}
use Rattle.lpc_rows.specs.Kept.{owed_rows}
use Rattle.lpc_steps.proofs.Composed.{took-one, took-then}
use Rattle.lpc_closing.specs.Closing.{closes_last}
use Rattle.lpc_closing.proofs.Paid.{close-pays}
use Rattle.lpc_closing.proofs.close.close_handle.Goals as goal

pub returns-clause-takes : goal.returns-clause-takes
returns-clause-takes c =
    let w = c.args.world.now in
    let mid = c.close_last.new.world in
    let end = c.handles_close.new.self in
    let out = c.close_last.new.out in
    let drop = DropsHandle c.args.pid c.args.value in
    took-then (closes_last (name_at w c.args.row.object)) (doing (drop ∷ [])) w mid end c.args.out.now out out c.close_last.ensures.takes
    (took-one drop mid end out refl c.handles_close.ensures.rows c.handles_close.ensures.loose)

pub returns-clause-made : goal.returns-clause-made
returns-clause-made c =
    let w = c.args.world.now in
    let o = name_at w c.args.row.object in
    let drop = DropsHandle c.args.pid c.args.value in
    let left = ap (λ (l : Left). l.world) c.close_last.ensures.takes in
    let owed = ap owed_rows left in
    let rest = ap owed_rows (c.handles_close.ensures.rows ∙ ap (λ (v : World). basic v drop) left) in
    let pays = close-pays w.rows c.args.pid c.args.value c.args.row.access o.kind o.birth c.requires.found in
    omega (arith, owed, rest, pays, c.close_last.ensures.made, c.handles_close.ensures.made)
