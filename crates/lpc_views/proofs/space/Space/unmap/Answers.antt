use Rattle.std.proofs.Common.{◌≡◌, ◌-◌, length, vec_len, vec_capacity, sym, ap, ◌∙◌, arith}
use Rattle.lpc_views.proofs.Removal.{first-less, one-goes, space-without}
use Rattle.lpc_base.proofs.RowWords.{without_first-none}
use Rattle.lpc_views.specs.Views.{holds, lies_at}
use Rattle.lpc_views.proofs.space.Space.unmap.Goals as goal

pub invariant_of-self : goal.invariant_of-self
invariant_of-self g c = rw c.take_out.ensures.views (space-without (lies_at c.in_ok-view.view.base) c.self.inside.views.items c.self.invariant)

pub returns-in_err-view-clause-one : goal.returns-in_err-view-clause-one
returns-in_err-view-clause-one g c = sym (without_first-none (holds c.args.address 1) c.args.self.now.views (sym c.in_err-view.ensures))

pub returns-clause-one : goal.returns-clause-one
returns-clause-one g c = rw (← c.self.view_is) (c.take_out.ensures.views ∙ one-goes (holds c.args.address 1) c.self.inside.views.items c.in_ok-view.view c.self.invariant.bases (rw (← c.self.view_is) at (sym c.in_ok-view.ensures)))

pub returns-clause-spare : goal.returns-clause-spare
returns-clause-spare g c =
    let less = first-less (holds c.args.address 1) c.self.inside.views.items c.in_ok-view.view c.self.invariant.bases (rw (← c.self.view_is) at (sym c.in_ok-view.ensures)) in
    let spare : c.args.self.now.spare ≡ vec_capacity c.self.inside.views - vec_len c.self.inside.views = ap (λ v. v.spare) (sym c.self.view_is) in
    let whole : vec_len c.self.inside.views ≡ length c.self.inside.views.items = c.self.inside.views.ok.0 in
    omega (arith, less, spare, whole, c.self.inside.views.ok.1, c.take_out.ensures.len, c.take_out.ensures.room)
