use Rattle.std.proofs.Common.{◌∙◌, sym}
use Rattle.lpc_script.proofs.Heads.{call_no_name, call_no_thread, call_says, call_unknown}
use Rattle.lpc_script.proofs.head.call_head.Goals as goal

pub returns-in-Err-clause-value : goal.returns-in-Err-clause-value
returns-in-Err-clause-value c = call_no_thread _ _ _ c.requires c.in-Err.ensures.value

pub returns-in_default-clause-value : goal.returns-in_default-clause-value
returns-in_default-clause-value c = rw c.in_default.ensures.words (call_no_name _ _ c.requires c.in-Ok.ensures.value)

pub returns-in_default-call_name-clause-value : goal.returns-in_default-call_name-clause-value
returns-in_default-call_name-clause-value c = rw c.in-Some.ensures.words (call_unknown _ _ _ _ c.requires c.in-Ok.ensures.value (sym c.call_name.ensures ∙ c.in_default-call_name.is))

pub returns-clause-value : goal.returns-clause-value
returns-clause-value c = rw c.in-Some.ensures.words (call_says _ _ _ _ _ c.requires c.in-Ok.ensures.value (sym c.in-Some-call_name.ensures))
