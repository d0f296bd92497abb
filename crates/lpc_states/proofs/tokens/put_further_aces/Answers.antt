use Rattle.lpc_states.specs.Values.{ace_text, behind_comma}
use Rattle.lpc_states.proofs.Puts.{lacks_one}
use Rattle.lpc_states.proofs.tokens.put_further_aces.Goals as goal

pub returns-in_err-put_further_ace-clause-wanting : goal.returns-in_err-put_further_ace-clause-wanting
returns-in_err-put_further_ace-clause-wanting c =
    lacks_one (behind_comma ace_text) c.args.aces.now c.loop-ace.ace-index _ _ _ _ _ _ _ c.loop-ace-test.true c.ace-item.is c.loop-ace.invariant.text c.loop-ace.invariant.room c.in_err-put_further_ace.ensures.wanting
