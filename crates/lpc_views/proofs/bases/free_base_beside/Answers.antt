use Rattle.std.proofs.Common.{◌++◌, sym, arith}
use Rattle.lpc_views.proofs.Search.{first-end, found-here, free-here, met-behind, none-left, searched-next}
use Rattle.lpc_views.proofs.bases.free_base_beside.Goals as goal

pub overflow_add-view : goal.overflow_add-view
overflow_add-view g c = record { fits = omega (arith, first-end _ (c.args.views.now ++ c.args.others.now) c.in-Some.view c.requires.placed (sym c.in-Some.ensures)) }

pub base_from-base-requires : goal.base_from-base-requires
base_from-base-requires g c = first-end _ (c.args.views.now ++ c.args.others.now) c.in-Some.view c.requires.placed (sym c.in-Some.ensures)

pub loop-base-smaller : goal.loop-base-smaller
loop-base-smaller g c =
    let behind = met-behind (c.args.views.now ++ c.args.others.now) c.loop-base.base c.args.size c.in-Some.view (sym c.in-Some.ensures) in
    omega (arith, behind, c.base_from-base.ensures.least, c.loop-base.invariant.within, first-end _ (c.args.views.now ++ c.args.others.now) c.in-Some.view c.requires.placed (sym c.in-Some.ensures), c.loop-base-test.true)

pub loop-base-preserved : goal.loop-base-preserved
loop-base-preserved g c = record {
  within = omega (arith, first-end _ (c.args.views.now ++ c.args.others.now) c.in-Some.view c.requires.placed (sym c.in-Some.ensures), c.base_from-base.ensures.multiple, c.base_from-base.ensures.near);
  searched = searched-next (c.args.views.now ++ c.args.others.now) c.loop-base.base c.args.size c.base_from-base.result c.in-Some.view c.loop-base.invariant.searched (sym c.in-Some.ensures) c.base_from-base.ensures.multiple c.base_from-base.ensures.least c.base_from-base.ensures.near;
}

pub returns-in-None-clause-base : goal.returns-in-None-clause-base
returns-in-None-clause-base g c =
    found-here (c.args.views.now ++ c.args.others.now) c.loop-base.base c.args.size c.requires.sized c.loop-base.invariant.within c.loop-base-test.true c.loop-base.invariant.searched (sym c.in-None.ensures)

pub returns-in-None-clause-free : goal.returns-in-None-clause-free
returns-in-None-clause-free g c = free-here (c.args.views.now ++ c.args.others.now) c.loop-base.base c.args.size c.loop-base.invariant.within c.loop-base-test.true (sym c.in-None.ensures)

pub returns-clause-base : goal.returns-clause-base
returns-clause-base g c = none-left (c.args.views.now ++ c.args.others.now) c.loop-base.base c.args.size c.loop-base.invariant.searched (omega (arith, c.loop-base-test.false, c.loop-base.invariant.within))
