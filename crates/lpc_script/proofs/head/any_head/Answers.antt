use Rattle.std.proofs.Common.{◌∙◌, sym}
use Rattle.lpc_script.proofs.Heads.{directive_says, directive_unknown}
use Rattle.lpc_script.proofs.head.any_head.Goals as goal

pub returns-in_default-directive_name-clause-value : goal.returns-in_default-directive_name-clause-value
returns-in_default-directive_name-clause-value c = rw c.in-Some.ensures.words (directive_unknown _ _ (sym c.starts_call.ensures ∙ c.if-starts_call.false) (sym c.directive_name.ensures ∙ c.in_default-directive_name.is))

pub returns-clause-value : goal.returns-clause-value
returns-clause-value c = rw c.in-Some.ensures.words (directive_says _ _ _ (sym c.starts_call.ensures ∙ c.if-starts_call.false) (sym c.in-Some-directive_name.ensures))
