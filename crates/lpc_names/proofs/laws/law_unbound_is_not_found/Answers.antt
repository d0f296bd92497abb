use Rattle.lpc_names.specs.Binding.{without_name}
use Rattle.lpc_names.proofs.Bound.{nameless-is-not-found}
use Rattle.lpc_names.proofs.laws.law_unbound_is_not_found.Goals as goal

pub returns-clause-nameless : goal.returns-clause-nameless
returns-clause-nameless g c = λ bindings item other text. nameless-is-not-found g.T.PartialEq.eq item other bindings text

pub returns-clause-unbound : goal.returns-clause-unbound
returns-clause-unbound g c = λ bindings item other text. nameless-is-not-found g.T.PartialEq.eq item other (without_name g.T.PartialEq.eq item bindings) text
