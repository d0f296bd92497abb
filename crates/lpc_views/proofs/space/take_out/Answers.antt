use Rattle.std.proofs.Common.{rules, ap, ◌∙◌, length}
use Rattle.std.proofs.lemmas.Fn.{filter_same}
use Rattle.lpc_views.proofs.space.take_out.Goals as goal

pub returns-clause-views : goal.returns-clause-views
returns-clause-views g c = filter_same _ _ _ (λ x b q h. search rules) _ _ c.retain.ensures.filtered

pub returns-clause-len : goal.returns-clause-len
returns-clause-len g c = c.retain.new.self.ok.0 ∙ ap length (filter_same _ _ _ (λ x b q h. search rules) _ _ c.retain.ensures.filtered)
