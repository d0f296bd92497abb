use Rattle.std.proofs.Common.{rules, arith, ◌≡◌, sym, ap, ℕ, ◌+◌, ◌<◌, ◌≤◌, List, get_or, length, take, length-append}
use Rattle.std.specs.List.{flat_map}
use Rattle.std.proofs.lemmas.List.Folds.{length-flat_map-take}
use Rattle.lpc_sid.specs.declared.sid.Sid.{Sid}
use Rattle.lpc_transcript.specs.Printing.{LacksRoom, further_text}
use Rattle.lpc_transcript.proofs.sids.put_further_sids.Goals as goal

-- the text of the SIDs before one, and its own, are no longer than that of all
no_longer : (sids : List Sid) (at : ℕ) (sid : Sid) → at < length sids → sid ≡ get_or sids at sid → length (flat_map further_text (take at sids)) + length (further_text sid) ≤ length (flat_map further_text sids)
no_longer sids at sid below is = rw (sym is) at (length-flat_map-take further_text sids at sid below)

pub returns-in_err-put_further_sid-clause-wanting : goal.returns-in_err-put_further_sid-clause-wanting
returns-in_err-put_further_sid-clause-wanting c =
    let more = no_longer c.args.sids.now c.loop-sid.sid-index c.sid-item.result c.loop-sid-test.true c.sid-item.is in
    let text = simp length-append at (ap length c.loop-sid.invariant.text) in
    let lacks : LacksRoom c.args.into.now (flat_map further_text c.args.sids.now) = omega (arith, more, text, c.in_err-put_further_sid.ensures.wanting) in
    search (rules, lacks)
