use Rattle.lpc_states.specs.Values.{behind_comma, sid_text}
use Rattle.lpc_states.proofs.Puts.{lacks_one}
use Rattle.lpc_states.proofs.tokens.put_further_sids.Goals as goal

pub returns-in_err-put_further_sid-clause-wanting : goal.returns-in_err-put_further_sid-clause-wanting
returns-in_err-put_further_sid-clause-wanting c =
    lacks_one (behind_comma sid_text) c.args.sids.now c.loop-sid.sid-index _ _ _ _ _ _ _ c.loop-sid-test.true c.sid-item.is c.loop-sid.invariant.text c.loop-sid.invariant.room c.in_err-put_further_sid.ensures.wanting
