use Rattle.std.proofs.Common.{◌+◌, ◌<◌, ◌∙◌, sym, ap, drop, length, arith}
use Rattle.lpc_sid.specs.Access.{grants_left}
use Rattle.lpc_sid.proofs.Rights.{read_over, read_allow, read_deny, all_granted}
use Rattle.lpc_sid.proofs.access.are_granted.Goals as goal
use Rattle.lpc_sid.proofs.access.are_granted.Goals.{then-has_sid+then-ace+else-left-eq0, then-has_sid+else-ace+else-named-ne0, else-has_sid}

pub returns-then-left-eq0 : goal.returns-then-left-eq0
returns-then-left-eq0 c =
    let on = sym c.has_sid.ensures ∙ c.if-has_sid.true in
    let next = read_allow c.args.token.now c.loop-ace.left c.args.entries.now c.loop-ace.ace-index c.ace-item.result (omega arith) c.ace-item.is c.loop-ace.invariant.wanting on c.if-ace.true (omega arith) (omega arith) in
    let rest = drop (c.loop-ace.ace-index + 1) c.args.entries.now in
    sym (c.loop-ace.invariant.cases ∙ next ∙ ap (λ left. grants_left c.args.token.now left rest) c.if-left-eq0.true ∙ all_granted c.args.token.now rest)

pub loop-ace-preserved : goal.loop-ace-preserved
loop-ace-preserved c =
    let below : c.loop-ace.ace-index < length c.args.entries.now = omega arith in
    elim c.if-has_sid.branch [
      | then-has_sid+then-ace+else-left-eq0 w ↦ record {
        cases = rw w.left-is (c.loop-ace.invariant.cases ∙ read_allow c.args.token.now c.loop-ace.left c.args.entries.now c.loop-ace.ace-index c.ace-item.result below c.ace-item.is c.loop-ace.invariant.wanting (sym c.has_sid.ensures ∙ w.if-has_sid.true) w.if-ace.true (omega arith) (omega arith));
        wanting = rw w.left-is w.if-left-eq0.false;
      }
      | then-has_sid+else-ace+else-named-ne0 w ↦ record {
        cases = rw w.left-is (c.loop-ace.invariant.cases ∙ read_deny c.args.token.now c.loop-ace.left c.args.entries.now c.loop-ace.ace-index c.ace-item.result below c.ace-item.is c.loop-ace.invariant.wanting (sym c.has_sid.ensures ∙ w.if-has_sid.true) w.if-ace.false w.if-named-ne0.false);
        wanting = rw w.left-is c.loop-ace.invariant.wanting;
      }
      | else-has_sid w ↦ record {
        cases = rw w.left-is (c.loop-ace.invariant.cases ∙ read_over c.args.token.now c.loop-ace.left c.args.entries.now c.loop-ace.ace-index c.ace-item.result below c.ace-item.is c.loop-ace.invariant.wanting (sym c.has_sid.ensures ∙ w.if-has_sid.false));
        wanting = rw w.left-is c.loop-ace.invariant.wanting;
      }
    ]
