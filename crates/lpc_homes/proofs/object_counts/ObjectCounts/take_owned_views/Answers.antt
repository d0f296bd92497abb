use Rattle.std.proofs.Common.{refl, sym, ◌∙◌}
use Rattle.lpc_homes.specs.Parts.{goes_with}
use Rattle.lpc_homes.proofs.Taken.{goes_eq, passed-by, taken-all, taken-next}
use Rattle.lpc_homes.proofs.object_counts.ObjectCounts.take_owned_views.Goals.{then-eq, else-eq}
use Rattle.lpc_homes.proofs.object_counts.ObjectCounts.take_owned_views.Goals as goal

pub loop-view-init : goal.loop-view-init
loop-view-init c = record { taken = λ whole. record { whole = whole; counts = λ o. refl }; handles = refl }

pub loop-view-preserved : goal.loop-view-preserved
loop-view-preserved c = elim c.if-eq.branch [
  | then-eq w ↦ rw w.self-is (record {
    taken = taken-next (goes_with c.args.owner) c.args.views.now c.loop-view.view-index c.args.self.now.views c.loop-view.self.views _ c.loop-view-test.true w.take_view.new.self.views (sym (goes_eq c.args.owner _) ∙ sym c.eq.ensures ∙ w.if-eq.true) c.loop-view.invariant.taken w.take_view.ensures.loses;
    handles = w.take_view.ensures.handles ∙ c.loop-view.invariant.handles;
  })
  | else-eq w ↦ rw w.self-is (record {
    taken = passed-by (goes_with c.args.owner) c.args.views.now c.loop-view.view-index c.args.self.now.views c.loop-view.self.views _ c.loop-view-test.true (sym (goes_eq c.args.owner _) ∙ sym c.eq.ensures ∙ w.if-eq.false) c.loop-view.invariant.taken;
    handles = c.loop-view.invariant.handles;
  })
]

pub returns-clause-loses : goal.returns-clause-loses
returns-clause-loses c = taken-all (goes_with c.args.owner) c.args.views.now c.loop-view.view-index c.args.self.now.views c.loop-view.self.views c.loop-view-test.false c.loop-view.invariant.taken
