use Rattle.std.proofs.Common.{sym, ◌∙◌, ap, ◌++◌}
use Rattle.lpc_base.specs.Rows.{has}
use Rattle.lpc_model.specs.Script.{script_lines}
use Rattle.lpc_states.specs.Searching.{is_sought}
use Rattle.lpc_states.proofs.Searching.{behind_one_more, has_behind}
use Rattle.lpc_states.proofs.changes.find.Goals as goal

pub returns-then-is_sought-clause-found : goal.returns-then-is_sought-clause-found
returns-then-is_sought-clause-found c =
    let front = c.requires.place.front in
    let here = has_behind (is_sought c.args.by c.args.wanted.now) front c.next_line.result.0.now (script_lines c.next_line.result.1.now) (sym c.is_sought.ensures ∙ c.if-is_sought.true) in
    sym (ap (has (is_sought c.args.by c.args.wanted.now)) (c.requires.place.parts ∙ ap (λ rest. front ++ rest) c.next_line.ensures.lines) ∙ here)

pub returns-then-is_sought-clause-behind : goal.returns-then-is_sought-clause-behind
returns-then-is_sought-clause-behind c = behind_one_more _ _ _ _ c.requires.place c.next_line.ensures.lines
