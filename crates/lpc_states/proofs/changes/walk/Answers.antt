use Rattle.std.proofs.Common.{rules, sym, ◌∙◌, ap}
use Rattle.lpc_base.specs.Rows.{has}
use Rattle.lpc_model.specs.Script.{script_lines}
use Rattle.lpc_states.specs.Searching.{is_sought}
use Rattle.lpc_states.proofs.Searching.{behind_one_more, has_later, none_ahead}
use Rattle.lpc_states.proofs.changes.walk.Goals as goal

pub returns-then-is_sought-clause-behind : goal.returns-then-is_sought-clause-behind
returns-then-is_sought-clause-behind c = behind_one_more _ _ _ _ c.loop-ahead.invariant.behind c.next_line.ensures.lines

pub loop-ahead-preserved : goal.loop-ahead-preserved
loop-ahead-preserved c = record {
  same =
      let here = has_later (is_sought c.args.by c.args.wanted.now) c.next_line.result.0.now (script_lines c.next_line.result.1.now) (sym c.is_sought.ensures ∙ c.if-is_sought.false) in
      sym here ∙ (ap (has (is_sought c.args.by c.args.wanted.now)) (sym c.next_line.ensures.lines) ∙ c.loop-ahead.invariant.same);
  behind = behind_one_more _ _ _ _ c.loop-ahead.invariant.behind c.next_line.ensures.lines;
}

pub returns-clause-found : goal.returns-clause-found
returns-clause-found c = none_ahead (is_sought c.args.by c.args.wanted.now) c.loop-ahead.ahead.now c.args.rows.now (search rules) c.loop-ahead.invariant.same
