use Rattle.std.proofs.Common.{rules, ◌∙◌, ◌≡◌}
use Rattle.std.proofs.lemmas.Fn.{filter_same}
use Rattle.lpc_base.specs.Rows.{without}
use Rattle.lpc_subsys.specs.Clients.{is_client}
use Rattle.lpc_subsys.proofs.Rows.{follows-leave, gone, sound-without}
use Rattle.lpc_subsys.proofs.server.Server.leave.Goals as goal

pub invariant_of-self : goal.invariant_of-self
invariant_of-self c =
    let is : c.retain.new.self.items ≡ without (is_client c.args.process) c.self.inside.clients.items = filter_same _ _ _ (λ x b q h. search rules) _ _ c.retain.ensures.filtered in
    rw is (sound-without c.self.inside.clients.items c.args.process c.self.invariant)

pub returns-clause-left : goal.returns-clause-left
returns-clause-left c =
    let is : c.retain.new.self.items ≡ without (is_client c.args.process) c.self.inside.clients.items = filter_same _ _ _ (λ x b q h. search rules) _ _ c.retain.ensures.filtered in
    λ all serves. is ∙ follows-leave c.self.inside.clients.items c.args.process all (c.self.view_is ∙ serves)

pub returns-clause-gone : goal.returns-clause-gone
returns-clause-gone c =
    let is : c.retain.new.self.items ≡ without (is_client c.args.process) c.self.inside.clients.items = filter_same _ _ _ (λ x b q h. search rules) _ _ c.retain.ensures.filtered in
    rw is (gone c.self.inside.clients.items c.args.process)
