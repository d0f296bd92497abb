use Rattle.lpc_transcript.proofs.Listed.{lacks_both, puts_both, sids_split}
use Rattle.lpc_transcript.proofs.sids.put_sids.Goals as goal

pub returns-in_ok-put_sid-in-len1-up-clause-ok : goal.returns-in_ok-put_sid-in-len1-up-clause-ok
returns-in_ok-put_sid-in-len1-up-clause-ok c =
    puts_both c.args.into.now.items c.put_sid.new.into.items c.put_further_sids.new.into.items _ _ _ c.put_further_sids.result
    c.in_ok-put_sid-in-len1-up.ensures.ok
    (sids_split c.args.sids.now c.first-item.result c.in-len1-up.len_at_least c.first-item.is)
    c.put_further_sids.ensures.ok

pub returns-in_ok-put_sid-in-len1-up-clause-wanting :
    goal.returns-in_ok-put_sid-in-len1-up-clause-wanting
returns-in_ok-put_sid-in-len1-up-clause-wanting c =
    lacks_both c.args.into.now c.put_sid.new.into _ _ _ c.put_further_sids.result
    c.in_ok-put_sid-in-len1-up.ensures.ok
    (sids_split c.args.sids.now c.first-item.result c.in-len1-up.len_at_least c.first-item.is)
    c.in_ok-put_sid-in-len1-up.ensures.capacity
    c.put_further_sids.ensures.wanting
