use Rattle.std.proofs.Common.{refl, true, ◌∙◌}
use Rattle.lpc_homes.proofs.Taken.{taken-all, taken-next, which-all}
use Rattle.lpc_homes.proofs.object_counts.ObjectCounts.take_all_views.Goals as goal

pub loop-view-init : goal.loop-view-init
loop-view-init c = record { taken = λ whole. record { whole = whole; counts = λ o. refl }; handles = refl }

pub loop-view-preserved : goal.loop-view-preserved
loop-view-preserved c = record {
  taken = taken-next (λ view. true) c.args.views.now c.loop-view.view-index c.args.self.now.views c.loop-view.self.views _ c.loop-view-test.true c.take_view.new.self.views refl c.loop-view.invariant.taken c.take_view.ensures.loses;
  handles = c.take_view.ensures.handles ∙ c.loop-view.invariant.handles;
}

pub returns-clause-loses : goal.returns-clause-loses
returns-clause-loses c = rw (← which-all c.args.views.now) (taken-all (λ view. true) c.args.views.now c.loop-view.view-index c.args.self.now.views c.loop-view.self.views c.loop-view-test.false c.loop-view.invariant.taken)
