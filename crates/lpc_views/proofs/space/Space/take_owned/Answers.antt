use Rattle.std.proofs.Common.{◌≡◌, ◌-◌, length, vec_len, vec_capacity, sym, ap, arith}
use Rattle.lpc_views.proofs.Removal.{lowest-less, space-without}
use Rattle.lpc_views.specs.Views.{is_owned_by, lies_at}
use Rattle.lpc_views.proofs.space.Space.take_owned.Goals as goal

pub invariant_of-self : goal.invariant_of-self
invariant_of-self g c = rw c.take_out.ensures.views (space-without (lies_at c.in_ok-view.view.base) c.self.inside.views.items c.self.invariant)

pub returns-clause-spare : goal.returns-clause-spare
returns-clause-spare g c =
    let found = c.in_ok-view.ensures in
    let less = lowest-less (is_owned_by g.P.PartialEq.eq c.args.owner) c.self.inside.views.items c.in_ok-view.view c.self.invariant.bases (rw (← c.deref.ensures.value) (sym found)) in
    let spare : c.args.self.now.spare ≡ vec_capacity c.self.inside.views - vec_len c.self.inside.views = ap (λ v. v.spare) (sym c.self.view_is) in
    let whole : vec_len c.self.inside.views ≡ length c.self.inside.views.items = c.self.inside.views.ok.0 in
    omega (arith, less, spare, whole, c.self.inside.views.ok.1, c.take_out.ensures.len, c.take_out.ensures.room)
