use Rattle.std.proofs.Common.{rules, ◌≡◌, ◌-◌, length, vec_capacity, vec_len, ap, sym, ◌∙◌, arith}
use Rattle.std.proofs.lemmas.Fn.{filter_same}
use Rattle.lpc_base.specs.Rows.{count, without}
use Rattle.lpc_views.specs.Views.{is_owned_by}
use Rattle.lpc_views.proofs.Removal.{gone-and-left, space-without}
use Rattle.lpc_views.proofs.space.Space.drop_owned.Goals as goal

pub invariant_of-self : goal.invariant_of-self
invariant_of-self g c =
    let left : c.retain.new.self.items ≡ without (is_owned_by g.P.PartialEq.eq c.args.owner) c.self.inside.views.items = filter_same _ _ _ (λ x b q h. search rules) _ _ c.retain.ensures.filtered in
    rw left (space-without (is_owned_by g.P.PartialEq.eq c.args.owner) c.self.inside.views.items c.self.invariant)

pub returns-clause-views : goal.returns-clause-views
returns-clause-views g c = rw (← c.self.view_is) (filter_same _ _ _ (λ x b q h. search rules) _ _ c.retain.ensures.filtered)

pub returns-clause-spare : goal.returns-clause-spare
returns-clause-spare g c =
    let test = is_owned_by g.P.PartialEq.eq c.args.owner in
    let left : c.retain.new.self.items ≡ without test c.self.inside.views.items = filter_same _ _ _ (λ x b q h. search rules) _ _ c.retain.ensures.filtered in
    let spare : c.args.self.now.spare ≡ vec_capacity c.self.inside.views - vec_len c.self.inside.views = ap (λ v. v.spare) (sym c.self.view_is) in
    let views : count test c.args.self.now.views ≡ count test c.self.inside.views.items = ap (λ v. count test v.views) (sym c.self.view_is) in
    let whole : vec_len c.self.inside.views ≡ length c.self.inside.views.items = c.self.inside.views.ok.0 in
    let fewer : vec_len c.retain.new.self ≡ length (without test c.self.inside.views.items) = c.retain.new.self.ok.0 ∙ ap length left in
    omega (arith, gone-and-left test c.self.inside.views.items, spare, views, whole, fewer, c.self.inside.views.ok.1, c.retain.ensures.capacity)
