use Rattle.std.proofs.Common.{◌≡◌, ap, sym, ◌∙◌, arith, length}
use Rattle.lpc_base.specs.Rows.{count}
use Rattle.lpc_homes.specs.Parts.{all_views, change_at, dropped, goes_with}
use Rattle.lpc_homes.proofs.Places.{walked-next}
use Rattle.lpc_homes.proofs.Taken.{none_counted}
use Rattle.lpc_homes.proofs.Viewed.{all_gone}
use Rattle.lpc_homes.proofs.parts.Parts.drop_owned_views.Goals as goal

pub returns-then-eq-clause-parts : goal.returns-then-eq-clause-parts
returns-then-eq-clause-parts c =
    let none = none_counted c.owned_count.result (count (goes_with c.args.owner) (all_views c.loop-place.self.items)) (sym c.eq.ensures ∙ c.if-eq.true) c.owned_count.ensures.count in
    all_gone c.args.owner c.args.self.now.items c.drop_owned_at_home.new.self.items c.loop-place.self.items c.loop-place.place c.loop-place.invariant.parts c.drop_owned_at_home.ensures.left none

pub loop-place-preserved : goal.loop-place-preserved
loop-place-preserved c =
    let long : length c.items-place-end.result.now ≡ length c.drop_owned_at_home.new.self.items = ap length c.items-place-end.ensures.items in
    record {
      parts =
          c.drop_owned_at.ensures.parts
          ∙ ap (change_at c.loop-place.place (dropped c.args.owner)) c.loop-place.invariant.parts
          ∙ walked-next (dropped c.args.owner) c.drop_owned_at_home.new.self.items c.loop-place.place (omega (arith, c.loop-place-test.true, c.loop-place.auto.place-end, long));
      kept = c.drop_owned_at.ensures.kept ∙ c.loop-place.invariant.kept;
    }
